use Rattle.std.proofs.Common.{◌≡◌, drop, None}
use Rattle.tableau_elim.proofs.Firsts.{lowest_from}
use Rattle.tableau_elim.proofs.place.chosen_place.Given as goal

abbrev pub invariant-places : goal.invariant-places
invariant-places l = lowest_from l.side l.best l.place (drop l.place l.places) (drop l.place l.numbers) ≡ lowest_from l.side None 0 l.places l.numbers
