use Rattle.std.proofs.Common.{map}
use Rattle.horn_rules.specs.Stored.{home_of, instance_of}
use Rattle.annotation_form.specs.inside.Listing.{env_at}
use Rattle.annotation_form.proofs.Listed.{IsSoFar}
use Rattle.annotation_form.proofs.listing.push_env.Given as goal

abbrev pub invariant-loop-place : goal.invariant-loop-place
invariant-loop-place l = IsSoFar (env_at l.n.0 (home_of l.home)) (map home_of l.homes) (map instance_of l.initial.out.items) l.place (map instance_of l.out.items)
