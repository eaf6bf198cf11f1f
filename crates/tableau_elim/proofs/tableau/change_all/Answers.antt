use Rattle.std.proofs.Common.{◌≡◌, ◌<◌, ◌+◌, ◌*◌, sym, ◌∙◌, ap, subst, arith, length, List, None, Some}
use Rattle.tableau_elim.specs.Tableau.{Line, line_after_pivot}
use Rattle.tableau_elim.specs.declared.variable.Variable.TheVariants.{Column}
use Rattle.tableau_elim.specs.inside.Lines.{pivot_of, lines_of, IsSound}
use Rattle.tableau_elim.proofs.Lines.{no_line, length-lines, line_here, line_set, part_long}
use Rattle.tableau_elim.proofs.Changes.{IsChanging, changing_begins, changing_goes_on, changing_stops, changing_ends, sound_now}
use Rattle.tableau_elim.proofs.tableau.change_all.Goals as goal

pub change-requires-clause-fits : goal.change-requires-clause-fits
change-requires-clause-fits c =
    let w = c.args.width in
    let k = c.lines.line in
    let given = lines_of w c.args.basics.now c.args.numbers.now in
    let now = lines_of w c.lines.basics c.lines.numbers in
    let many = length-lines w c.args.basics.now c.args.numbers.now in
    let sound = sound_now given now k (omega (arith, c.lines-test.true)) c.lines.invariant.left c.requires.sound in
    (subst IsSound (line_here w c.lines.basics c.lines.numbers k (Column 0) no_line (omega (arith, c.lines-test.true, c.lines.auto.basics))) sound).0

pub lines-init : goal.lines-init
lines-init c = changing_begins _ _

pub returns-then-not-change : goal.returns-then-not-change
returns-then-not-change c =
    let w = c.args.width in
    let k = c.lines.line in
    let given = lines_of w c.args.basics.now c.args.numbers.now in
    let now = lines_of w c.lines.basics c.lines.numbers in
    let many = length-lines w c.args.basics.now c.args.numbers.now in
    let none : line_after_pivot (pivot_of c.args.pivot.now) _ ≡ None = c.if-not-change.ensures in
    changing_stops (pivot_of c.args.pivot.now) given now k _ (omega (arith, c.lines-test.true))
    (line_here w c.lines.basics c.lines.numbers k _ no_line (omega (arith, c.lines-test.true, c.lines.auto.basics))) none c.lines.invariant

pub lines-preserved : goal.lines-preserved
lines-preserved c =
    let w = c.args.width in
    let k = c.lines.line in
    let given = lines_of w c.args.basics.now c.args.numbers.now in
    let now = lines_of w c.lines.basics c.lines.numbers in
    let many = length-lines w c.args.basics.now c.args.numbers.now in
    let many_now = length-lines w c.lines.basics c.lines.numbers in
    let made : line_after_pivot (pivot_of c.args.pivot.now) _ ≡ Some (record { basic = c.change.new.basic; numbers = c.change.new.numbers }) = c.if-not-change.ensures in
    let size = c.lines.auto.numbers ∙ c.requires.size ∙ ap (λ n. n * w) (sym c.lines.auto.basics) in
    let within : k < length c.lines.basics = omega (arith, c.lines-test.true, c.lines.auto.basics) in
    let wide : length c.change.new.numbers ≡ w = c.change.auto.numbers ∙ part_long w (length c.lines.basics) k c.lines.numbers within size in
    subst (λ (ls : List Line). IsChanging (pivot_of c.args.pivot.now) given ls (k + 1))
    (sym (line_set w c.lines.basics c.lines.numbers c.change.new.numbers k c.change.new.basic within size wide))
    (changing_goes_on (pivot_of c.args.pivot.now) given now k _ (record { basic = c.change.new.basic; numbers = c.change.new.numbers }) (omega (arith, c.lines-test.true)) (omega (arith, c.lines.auto.basics))
    (line_here w c.lines.basics c.lines.numbers k _ no_line (omega (arith, c.lines-test.true, c.lines.auto.basics))) made c.lines.invariant)

pub returns : goal.returns
returns c =
    let w = c.args.width in
    let given = lines_of w c.args.basics.now c.args.numbers.now in
    let now = lines_of w c.lines.basics c.lines.numbers in
    let many = length-lines w c.args.basics.now c.args.numbers.now in
    let many_now = length-lines w c.lines.basics c.lines.numbers in
    changing_ends (pivot_of c.args.pivot.now) given now c.lines.line (omega (arith, c.lines-test.false)) (omega (arith, c.lines.auto.basics)) c.lines.invariant
