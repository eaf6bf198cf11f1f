use Rattle.std.proofs.Common.{◌≡◌, take}
use Rattle.core_steps.specs.inside.Changing.{homes_of}
use Rattle.core_steps.proofs.changing.homes_of.Given as goal

abbrev pub invariant-loop-pair : goal.invariant-loop-pair
invariant-loop-pair l = l.homes.items ≡ homes_of (take l.pair-index l.new)
