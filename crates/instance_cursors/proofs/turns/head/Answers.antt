use Rattle.std.proofs.Common.{ℕ, get_or, subst, arith}
use Rattle.fact_table.specs.declared.live_fact.LiveFact.{LiveFact}
use Rattle.instance_cursors.specs.Turns.{HoldsNoneAfter, IsNextAfter, has_turn}
use Rattle.instance_cursors.proofs.HeadSearch.{PassedBelow-more, head_is}
use Rattle.instance_cursors.proofs.turns.head.Goals as goal

pub returns-in-Some : goal.returns-in-Some
returns-in-Some c =
    let d : LiveFact = _ in
    let Next : ℕ → Type 0 = λ after. IsNextAfter (has_turn c.args.layout.now c.args.early.now c.args.cursor.series (get_or c.args.facts.now c.loop-place.place d)) after c.in-Some.step in
    head_is c.args.layout.now c.args.early.now c.args.cursor c.args.facts.now c.first_from-first.result c.loop-place.place c.in-Some.step d c.requires c.first_from-first.ensures.first
    (omega arith) c.loop-place.invariant c.loop-place-test.true (subst Next c.step_after-after.ensures c.in-Some.ensures)

pub loop-place-preserved : goal.loop-place-preserved
loop-place-preserved c =
    let d : LiveFact = _ in
    let None_of : ℕ → Type 0 = λ after. HoldsNoneAfter (has_turn c.args.layout.now c.args.early.now c.args.cursor.series (get_or c.args.facts.now c.loop-place.place d)) after in
    PassedBelow-more c.args.layout.now c.args.early.now c.args.cursor c.args.facts.now c.loop-place.place d c.loop-place.invariant c.loop-place-test.true
    (subst None_of c.step_after-after.ensures c.in_default.ensures)
