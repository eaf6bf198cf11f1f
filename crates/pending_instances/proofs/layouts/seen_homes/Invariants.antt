use Rattle.std.proofs.Common.{◌≡◌, map, take}
use Rattle.horn_rules.specs.Home.{homes}
use Rattle.pending_instances.specs.Layout.{seen_home}
use Rattle.pending_instances.proofs.layouts.seen_homes.Given as goal

abbrev pub invariant-loop-place : goal.invariant-loop-place
invariant-loop-place l = l.made.items ≡ map seen_home (take l.place (homes l.program))
