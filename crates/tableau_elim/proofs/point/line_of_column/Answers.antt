use Rattle.std.proofs.Common.{◌∙◌, refl, sym, ap, suc, length, arith}
use Rattle.tableau_elim.specs.Tableau.{are_same}
use Rattle.tableau_elim.specs.declared.variable.Variable.TheVariants.{Column}
use Rattle.tableau_elim.specs.inside.Held.{tableau_of}
use Rattle.tableau_elim.proofs.Lines.{length-lines}
use Rattle.tableau_elim.proofs.Firsts.{find_goes_on, find_stops, find_ends}
use Rattle.tableau_elim.proofs.point.line_of_column.Goals as goal

pub lines-init : goal.lines-init
lines-init c = refl

pub lines-preserved : goal.lines-preserved
lines-preserved c =
    let held = c.args.tableau.now in
    let many = length-lines (suc (length held.places.items)) held.basics.items held.numbers.items in
    let test = ap (λ x. are_same x (Column c.args.column)) (sym c.basic_of.ensures) ∙ sym c.is_same.ensures ∙ c.if-is_same.false in
    find_goes_on (λ line. are_same line.basic (Column c.args.column)) (tableau_of held).lines c.lines.line _ (omega (arith, c.lines-test.true, held.basics.ok.0)) test c.lines.invariant

pub returns-then-is_same-clause-line : goal.returns-then-is_same-clause-line
returns-then-is_same-clause-line c =
    let held = c.args.tableau.now in
    let many = length-lines (suc (length held.places.items)) held.basics.items held.numbers.items in
    let test = ap (λ x. are_same x (Column c.args.column)) (sym c.basic_of.ensures) ∙ sym c.is_same.ensures ∙ c.if-is_same.true in
    find_stops (λ line. are_same line.basic (Column c.args.column)) (tableau_of held).lines c.lines.line _ (omega (arith, c.lines-test.true, held.basics.ok.0)) test c.lines.invariant

pub returns-clause-line : goal.returns-clause-line
returns-clause-line c =
    let held = c.args.tableau.now in
    let many = length-lines (suc (length held.places.items)) held.basics.items held.numbers.items in
    find_ends (λ line. are_same line.basic (Column c.args.column)) (tableau_of held).lines c.lines.line _ (omega (arith, c.lines-test.false, held.basics.ok.0)) c.lines.invariant
