use Rattle.std.proofs.Common.{take}
use Rattle.core_steps.specs.Course.{state_of}
use Rattle.core_steps.specs.inside.Claiming.{IsOneToClaim}
use Rattle.core_steps.proofs.stored_core.Core.one_to_claim.Given as goal

abbrev pub invariant-loop-f : goal.invariant-loop-f
invariant-loop-f l = IsOneToClaim l.self.program (state_of l.self) (take l.f-index l.facts) l.one
