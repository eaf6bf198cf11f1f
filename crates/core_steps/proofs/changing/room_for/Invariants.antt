use Rattle.std.proofs.Common.{◌≡◌, take}
use Rattle.core_steps.proofs.changing.room_for.Given as goal

abbrev pub invariant-loop-home : goal.invariant-loop-home
invariant-loop-home l = l.renewed.items ≡ take l.home-index l.homes
