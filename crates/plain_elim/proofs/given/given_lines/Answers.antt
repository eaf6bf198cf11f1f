use Rattle.std.proofs.Common.{◌∙◌, ap, sym, subst, List, length, ◌<◌, arith}
use Rattle.std.specs.List.{AllByRecursion}
use Rattle.lin_rows.proofs.Lists.{slice_get-there}
use Rattle.farkas_cert.proofs.NamedRowsLemmas.{HasWidths-named}
use Rattle.plain_elim.specs.inside.Stages.{IsWide}
use Rattle.plain_elim.proofs.Ready.{all_given_wide}
use Rattle.farkas_cert.specs.Line.{Line, given_line, given_lines}
use Rattle.plain_elim.proofs.GivenLines.{given_more, given_ends}
use Rattle.plain_elim.proofs.given.given_lines.Goals as goal

pub rows-preserved : goal.rows-preserved
rows-preserved c =
    let rows = c.args.rows.now.rows in
    let within : c.rows.place < length rows = omega (arith, c.count-total.ensures.count) in
    let there = slice_get-there rows c.rows.place within in
    let line = c.in_ok-line.ensures there.0 there.1 ∙ ap (λ n. given_line n c.rows.place there.0) (sym c.count-total.ensures.count) in
    given_more c.count-total.result c.rows.place rows there.0 c.rows.lines.items c.push.new.self.items _ c.in_ok-line.line there.1 line c.in_ok-push.ensures.items c.rows.invariant

-- the lines are the given ones
pub returns-clause-lines : goal.returns-clause-lines
returns-clause-lines c =
    let whole = given_ends c.count-total.result c.rows.place c.args.rows.now.rows c.rows.lines.items _ (omega (arith, c.count-total.ensures.count)) c.rows.invariant in
    whole ∙ ap (λ n. given_lines n 0 c.args.rows.now.rows) c.count-total.ensures.count

pub returns-clause-wide : goal.returns-clause-wide
returns-clause-wide c =
    let system = c.args.rows.now in
    let whole = given_ends c.count-total.result c.rows.place system.rows c.rows.lines.items _ (omega (arith, c.count-total.ensures.count)) c.rows.invariant in
    let lines = whole ∙ ap (λ n. given_lines n 0 system.rows) c.count-total.ensures.count in
    let widths = HasWidths-named system c.count-total.ensures.named in
    subst (λ (ls : List Line). AllByRecursion (IsWide system) ls) (sym lines) (all_given_wide system 0 system.rows widths)
