use Rattle.std.proofs.Common.{ℕ, ◌≡◌, ◌∙◌, ◌+◌, suc, List, length, get_or, ap, sym, refl, subst, arith}
use Rattle.fact_table.specs.declared.live_fact.LiveFact.{LiveFact}
use Rattle.fact_table.specs.Table.{FactTable}
use Rattle.withdraw.specs.Withdrawal.{IsWithdrawn, IsWithout}
use Rattle.withdraw.specs.inside.Stage.{IsStage}
use Rattle.withdraw.proofs.Stages.{IsStage-start, IsWithout-stage, length-stage}
use Rattle.withdraw.proofs.Going.{RestOnEarlier-left, Stepped, is_live-at, step}
use Rattle.withdraw.proofs.withdrawal.withdraw.Goals as goal

pub loop-place-init : goal.loop-place-init
loop-place-init c = record { stage = IsStage-start (IsWithdrawn c.args.homes.now c.args.table.now.live) c.args.table.now.live; same = refl }

pub bounds-facts-place : goal.bounds-facts-place
bounds-facts-place c =
    let same = length-stage (IsWithdrawn c.args.homes.now c.args.table.now.live) c.loop-place.place c.args.table.now.live c.loop-place.table.live c.loop-place.invariant.stage in
    omega (arith, same, c.loop-place-test.true, ap length c.facts.ensures.facts, ap length c.facts-place-end.ensures.facts)

pub mark_if_it_goes-requires : goal.mark_if_it_goes-requires
mark_if_it_goes-requires c =
    let same = length-stage (IsWithdrawn c.args.homes.now c.args.table.now.live) c.loop-place.place c.args.table.now.live c.loop-place.table.live c.loop-place.invariant.stage in
    is_live-at c.loop-place.table.live c.facts.result.now c.loop-place.place _ c.facts.ensures.facts
    (omega (arith, same, c.loop-place-test.true, ap length c.facts-place-end.ensures.facts))

pub loop-place-preserved : goal.loop-place-preserved
loop-place-preserved c =
    let d : LiveFact = _ in
    let place : ℕ = c.loop-place.place in
    let stepped : Stepped c.args.homes.now place c.args.table.now.live c.loop-place.table c.mark_if_it_goes.new.table =
    step c.args.homes.now place c.args.table.now.live c.loop-place.table c.mark_if_it_goes.new.table d (get_or c.facts.result.now place d) c.loop-place.invariant.stage
    c.requires.unmarked c.requires.rest c.facts-place-end.ensures.table.ids_rise c.facts.ensures.table.ids_rise
    (omega (arith, c.loop-place-test.true, ap length c.facts-place-end.ensures.facts))
    (ap (λ (xs : List LiveFact). get_or xs place d) c.facts.ensures.facts)
    c.mark_if_it_goes.ensures in
    let Stage : ℕ → Type 0 = λ n. IsStage (IsWithdrawn c.args.homes.now c.args.table.now.live) n c.args.table.now.live c.mark_if_it_goes.new.table.live in
    let next : suc place ≡ place + 1 = omega arith in
    let with_live : FactTable → FactTable = λ t. record t { live = c.mark_if_it_goes.new.table.live } in
    record { stage = subst Stage next stepped.stage; same = stepped.same ∙ ap with_live c.loop-place.invariant.same }

pub returns-clause-exactly : goal.returns-clause-exactly
returns-clause-exactly c =
    let P : LiveFact → Type 0 = IsWithdrawn c.args.homes.now c.args.table.now.live in
    let Left : FactTable → Type 0 = λ t. IsWithout P c.args.table.now.live t.live in
    subst Left (sym c.sweep.ensures.live)
    (IsWithout-stage P c.loop-place.place c.args.table.now.live c.loop-place.table.live c.loop-place.invariant.stage
    (omega (arith, c.loop-place-test.false, ap length c.facts-place-end.ensures.facts)) c.requires.unmarked)

pub returns-clause-count : goal.returns-clause-count
returns-clause-count c =
    let same = length-stage (IsWithdrawn c.args.homes.now c.args.table.now.live) c.loop-place.place c.args.table.now.live c.loop-place.table.live c.loop-place.invariant.stage in
    c.sweep.ensures.count ∙ same

pub returns-clause-rest : goal.returns-clause-rest
returns-clause-rest c =
    let P : LiveFact → Type 0 = IsWithdrawn c.args.homes.now c.args.table.now.live in
    let Left : FactTable → Type 0 = λ t. IsWithout P c.args.table.now.live t.live in
    let exactly = subst Left (sym c.sweep.ensures.live)
    (IsWithout-stage P c.loop-place.place c.args.table.now.live c.loop-place.table.live c.loop-place.invariant.stage
    (omega (arith, c.loop-place-test.false, ap length c.facts-place-end.ensures.facts)) c.requires.unmarked) in
    RestOnEarlier-left c.args.homes.now c.args.table.now.live c.sweep.new.self.live exactly c.requires.rest
