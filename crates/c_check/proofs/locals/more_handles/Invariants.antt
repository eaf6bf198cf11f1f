use Rattle.std.proofs.Common.{◌≡◌, map, drop}
use Rattle.c_check.specs.Broken.{handles_broken}
use Rattle.c_check.specs.Resolve.{with_handles}
use Rattle.c_check.specs.First.{earlier, first_of}
use Rattle.c_check.proofs.locals.more_handles.Given as goal

abbrev pub invariant-loop-m : goal.invariant-loop-m
invariant-loop-m l =
    let left = map (λ m. m.1) (drop l.m-index l.more) in
    let all = map (λ m. m.1) l.more in
    (with_handles l.scopes left ≡ with_handles l.fn.scopes all) × (earlier l.refusal (first_of (handles_broken l.scopes left)) ≡ first_of (handles_broken l.fn.scopes all))
