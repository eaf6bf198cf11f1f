use Rattle.std.proofs.Common.{rules, map}
use Rattle.lin_rows.proofs.Lists.{AllByRecursion-at}
use Rattle.horn_rules.specs.Home.{IsHomeOf}
use Rattle.horn_rules.specs.Stored.{home_of, instance_of}
use Rattle.annotation_form.specs.inside.Listing.{own_at}
use Rattle.thr_base.specs.declared.names.Home.TheVariants.{State}
use Rattle.annotation_form.proofs.Listed.{step-mapped}
use Rattle.annotation_form.proofs.listing.push_owns.Goals as goal

pub edges_from-requires : goal.edges_from-requires
edges_from-requires c = AllByRecursion-at (λ home. IsHomeOf c.args.program.now (home_of home)) c.args.homes.now c.loop-place.place _ c.requires.homes (search rules)

pub loop-place-preserved : goal.loop-place-preserved
loop-place-preserved c = step-mapped home_of (own_at c.args.program.now) c.args.homes.now (State (record { 0 = 0 }) (record { 0 = 0 })) _ (map instance_of c.loop-place.out.items) (map instance_of c.push_own.new.out.items) c.loop-place.place (search rules) (search rules) c.loop-place.invariant
