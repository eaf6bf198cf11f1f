use Rattle.std.proofs.Common.{[], map}
use Rattle.horn_rules.specs.Instances.{number_from}
use Rattle.transition_formula.specs.Stored.{edge_of}
use Rattle.annotation_form.proofs.Listed.{IsSoFar}
use Rattle.annotation_form.proofs.listing.edges_on.Given as goal

abbrev pub invariant-loop-place : goal.invariant-loop-place
invariant-loop-place l = IsSoFar (number_from l.l.0) (map edge_of l.edges) [] l.place (map (λ e. e.0) l.found.items)
