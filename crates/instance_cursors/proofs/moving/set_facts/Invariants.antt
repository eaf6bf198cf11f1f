use Rattle.std.proofs.Common.{◌≡◌, ◌≤◌, take}
use Rattle.std.specs.Vec.{vec_capacity}
use Rattle.instance_cursors.proofs.moving.set_facts.Given as goal

abbrev pub invariant-loop-place : goal.invariant-loop-place
invariant-loop-place l = (l.facts.items ≡ take l.place l.left) × (vec_capacity l.fn.facts ≤ vec_capacity l.facts)
