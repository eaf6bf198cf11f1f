use Rattle.std.proofs.Common.{map}
use Rattle.horn_rules.specs.Home.{by_number}
use Rattle.horn_rules.specs.Stored.{home_of, instance_of}
use Rattle.annotation_form.specs.inside.Listing.{env_at}
use Rattle.annotation_form.proofs.Listed.{IsSoFar}
use Rattle.annotation_form.proofs.listing.push_envs.Given as goal

abbrev pub invariant-loop-place : goal.invariant-loop-place
invariant-loop-place l = IsSoFar (λ n home. by_number (env_at n home) 1 (map home_of l.homes)) (map home_of l.homes) (map instance_of l.initial.out.items) l.place (map instance_of l.out.items)
