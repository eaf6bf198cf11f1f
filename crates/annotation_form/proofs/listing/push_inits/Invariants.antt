use Rattle.std.proofs.Common.{◌∷◌, [], map}
use Rattle.horn_rules.specs.Instance.{Init}
use Rattle.horn_rules.specs.Stored.{instance_of}
use Rattle.annotation_form.proofs.Listed.{IsSoFar}
use Rattle.annotation_form.proofs.listing.push_inits.Given as goal

abbrev pub invariant-loop-i : goal.invariant-loop-i
invariant-loop-i l = IsSoFar (λ i thread. Init i ∷ []) l.program.threads (map instance_of l.initial.out.items) l.i (map instance_of l.out.items)
