use Rattle.std.proofs.Common.{◌≡◌, ◌∙◌, refl, ◌<◌, ◌++◌, ◌∷◌, [], ap, suc, length, map, to_z, of_z, rules, arith}
use Rattle.std.specs.Int.{w128}
use Rattle.std.specs.List.{range_with_len}
use Rattle.lin_rows.specs.System.{IsRowOver}
use Rattle.lin_rows.proofs.Lists.{AllByRecursion-slice_get, slice_get-there}
use Rattle.tableau_elim.specs.declared.variable.Variable.TheVariants.{Column}
use Rattle.tableau_elim.proofs.GivenLines.{giving_begins, giving_goes_on, giving_ends, given_is, given_held, slack_is}
use Rattle.tableau_elim.proofs.given.given_tableau.Goals as goal

pub rows-init : goal.rows-init
rows-init c = giving_begins c.args.rows.now.rows (suc c.args.rows.now.columns) c.in_ok-basics.basics.items c.new-numbers.result.items c.in_ok-basics.ensures.items c.new-numbers.ensures.items

pub rows-preserved : goal.rows-preserved
rows-preserved c =
    let system = c.args.rows.now in
    let place = c.rows.place in
    let within : place < length system.rows = omega (arith, c.count-count.ensures.count, c.rows-test.true) in
    let there = slice_get-there system.rows place within in
    let row = there.0 in
    let over = AllByRecursion-slice_get (IsRowOver system.columns) system.rows place row c.count-count.ensures.named.rows there.1 in
    let bound : to_z w128 (of_z w128 c.in_ok-bound.bound) ≡ c.in_ok-bound.bound = search rules in
    let slack = c.slack_of.ensures row there.1 ∙ slack_is place row.equal row.equal _ row.bound refl (bound ∙ c.in_ok-bound.ensures.bound row there.1) in
    giving_goes_on system.rows (suc system.columns) c.rows.basics.items c.push.new.self.items c.rows.numbers.items c.push_line.new.numbers.items place row there.1
    (ap suc over.width) (c.in_ok-push.ensures.items ∙ ap (λ x. c.rows.basics.items ++ x ∷ []) slack) (c.in_ok-bound.ensures.numbers row there.1) c.rows.invariant

pub returns : goal.returns
returns c =
    let system = c.args.rows.now in
    let places = c.in_ok-places.ensures ∙ ap (λ n. map Column (range_with_len 0 n)) c.columns.ensures.columns in
    let lines = giving_ends system.rows (suc system.columns) c.rows.basics.items c.rows.numbers.items c.rows.place (omega (arith, c.count-count.ensures.count, c.rows-test.false)) c.rows.invariant in
    given_is system c.rows.basics.items c.rows.numbers.items c.in_ok-places.places.items (suc system.columns) places refl lines

pub invariant_of-result : goal.invariant_of-result
invariant_of-result c =
    let system = c.args.rows.now in
    let places = c.in_ok-places.ensures ∙ ap (λ n. map Column (range_with_len 0 n)) c.columns.ensures.columns in
    let lines = giving_ends system.rows (suc system.columns) c.rows.basics.items c.rows.numbers.items c.rows.place (omega (arith, c.count-count.ensures.count, c.rows-test.false)) c.rows.invariant in
    let held = given_held system c.rows.basics.items c.rows.numbers.items c.in_ok-places.places.items (suc system.columns) places refl c.count-count.ensures.named.columns c.count-count.ensures.named.rows lines c.rows.invariant.size in
    record { size = held.size; sound = held.sound; few = held.few }
