use Rattle.std.proofs.Common.{◌≡◌, ◌++◌, map, take}
use Rattle.horn_rules.specs.Instance.{Inter}
use Rattle.horn_rules.specs.Stored.{instance_of}
use Rattle.annotation_form.proofs.listing.push_inter.Given as goal

abbrev pub invariant-loop-e : goal.invariant-loop-e
invariant-loop-e l = map instance_of l.out.items ≡ map instance_of l.initial.out.items ++ map (Inter l.n.0 l.m.0) (map (λ e. e.0) (take l.e-index l.edges))
