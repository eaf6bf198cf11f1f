use Rattle.std.proofs.Common.{length, suc, arith}
use Rattle.std.specs.Option.{option_map}
use Rattle.tableau_elim.specs.inside.Held.{tableau_of}
use Rattle.tableau_elim.specs.inside.Lines.{line_at}
use Rattle.tableau_elim.proofs.Lines.{length-lines}
use Rattle.tableau_elim.proofs.Firsts.{first_begins, first_goes_on, first_ends}
use Rattle.tableau_elim.proofs.looking.first_out.Goals as goal

pub lines-init : goal.lines-init
lines-init c = record { found = first_begins (tableau_of c.args.tableau.now); within = tt }

pub lines-preserved : goal.lines-preserved
lines-preserved c =
    let tableau = tableau_of c.args.tableau.now in
    let many = length-lines (suc (length c.args.tableau.now.places.items)) c.args.tableau.now.basics.items c.args.tableau.now.numbers.items in
    record {
      found = first_goes_on tableau.places (option_map (λ k. line_at k tableau) c.lines.best) _ tableau.lines c.lines.line _ (omega (arith, c.lines-test.true, c.args.tableau.now.basics.ok.0)) c.earlier-best.ensures.line c.lines.invariant.found;
      within = c.earlier-best.ensures.within;
    }

pub returns-clause-line : goal.returns-clause-line
returns-clause-line c =
    let tableau = tableau_of c.args.tableau.now in
    let many = length-lines (suc (length c.args.tableau.now.places.items)) c.args.tableau.now.basics.items c.args.tableau.now.numbers.items in
    first_ends tableau.places (option_map (λ k. line_at k tableau) c.lines.best) tableau.lines c.lines.line _ (omega (arith, c.lines-test.false, c.args.tableau.now.basics.ok.0)) c.lines.invariant.found
