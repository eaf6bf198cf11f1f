use Rattle.std.proofs.Common.{◌≡◌, ◌≤◌, ◌+◌, ◌-◌, ◌++◌, length, take}
use Rattle.std.specs.Vec.{vec_capacity}
use Rattle.core_steps.specs.inside.Changing.{lost_homes}
use Rattle.core_steps.proofs.changing.add_lost.Given as goal

abbrev pub invariant-loop-fact : goal.invariant-loop-fact
invariant-loop-fact l =
    (l.renewed.items ≡ l.initial.renewed.items ++ lost_homes l.table.live (take l.fact-index l.before))
    × (length l.renewed.items + (length l.before - l.fact-index) ≤ vec_capacity l.renewed)
