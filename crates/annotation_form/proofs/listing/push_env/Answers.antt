use Rattle.std.proofs.Common.{rules, map}
use Rattle.horn_rules.specs.Stored.{home_of, instance_of}
use Rattle.annotation_form.specs.inside.Listing.{env_at}
use Rattle.thr_base.specs.declared.names.Home.TheVariants.{State}
use Rattle.annotation_form.proofs.Listed.{step-mapped}
use Rattle.annotation_form.proofs.listing.push_env.Goals as goal

pub loop-place-preserved : goal.loop-place-preserved
loop-place-preserved c = step-mapped home_of (env_at c.args.n.0 (home_of c.args.home)) c.args.homes.now (State (record { 0 = 0 }) (record { 0 = 0 })) _ (map instance_of c.loop-place.out.items) (map instance_of c.push_if_told.new.out.items) c.loop-place.place (search rules) (search rules) c.loop-place.invariant
