use Rattle.std.proofs.Common.{◌≡◌, map, drop}
use Rattle.c_check.specs.First.{earlier, first_of}
use Rattle.c_check.specs.inside.Main.{too_many_of}
use Rattle.c_check.proofs.main_form.first_too_many.Given as goal

abbrev pub invariant-loop-creation : goal.invariant-loop-creation
invariant-loop-creation l = earlier l.refusal (first_of (map too_many_of (drop l.creation-index l.more))) ≡ first_of (map too_many_of l.more)
