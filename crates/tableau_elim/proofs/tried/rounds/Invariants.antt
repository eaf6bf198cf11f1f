use Rattle.std.proofs.Common.{◌≡◌, ◌-◌}
use Rattle.tableau_elim.specs.Rounds.{outcome_of, outcome_after}
use Rattle.tableau_elim.specs.inside.Held.{tableau_of}
use Rattle.tableau_elim.proofs.tried.rounds.Given as goal

abbrev pub invariant-pivots : goal.invariant-pivots
invariant-pivots l = outcome_of l.rows ≡ outcome_after (l.limit - l.made) l.rows (tableau_of l.tableau)
