use Rattle.std.proofs.Common.{take}
use Rattle.core_steps.specs.inside.Quiet.{NoneIn}
use Rattle.core_steps.proofs.failing.none_in.Given as goal

abbrev pub invariant-loop-f : goal.invariant-loop-f
invariant-loop-f l = NoneIn l.program (take l.f-index l.facts)
