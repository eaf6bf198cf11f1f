use Rattle.std.proofs.Common.{◌≡◌, drop}
use Rattle.tableau_elim.specs.Rounds.{with_places}
use Rattle.tableau_elim.proofs.refuting.set_for_places.Given as goal

abbrev pub invariant-places : goal.invariant-places
invariant-places l = with_places (drop l.place l.places) (drop l.place l.numbers) l.multipliers ≡ with_places l.places l.numbers l.initial.multipliers
