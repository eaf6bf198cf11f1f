-- How the rounds of the program lead to the outcome.
use Rattle.std.proofs.Common.{◌≡◌, ℕ, zero, suc, ◌+◌, ◌-◌, ◌<◌, drop, refl, sym, ◌∙◌, ap, arith, Some, None}
use Rattle.std.specs.Prelude.{unwrap_or, IfOk, Result, Ok, Err}
use Rattle.lin_rows.specs.System.{System, HasWidths}
use Rattle.tableau_elim.specs.Tableau.{Line, Tableau, given_tableau, pivot_at, pivoted_tableau}
use Rattle.tableau_elim.specs.Rounds.{Outcome, GaveUp, Ends, Pivots, first_out, standing_of, chosen_place, refuted_outcome, point_of, most_pivots, round_of, found_by_line, found_by_standing, found_by_place, after_pivot, goes_on, at_end, ended_within, outcome_after, outcome_of}
use Rattle.tableau_elim.specs.Decision.{outcome_in, IsEvidence}
use Rattle.tableau_elim.specs.declared.tried.Tried.{Tried}
use Rattle.tableau_elim.specs.declared.tried.Tried.TheVariants as tried
use Rattle.tableau_elim.specs.declared.standing.Side.{Side}
use Rattle.tableau_elim.specs.declared.standing.Standing.{Standing}
use Rattle.tableau_elim.specs.declared.standing.Standing.TheVariants.{Out}
use Rattle.std.specs.declared.alloc.AllocError.{AllocError}
use Rattle.tableau_elim.proofs.Certificates.{certificate_is_sound}
use Rattle.tableau_elim.proofs.PointLaw.{point_is_sound}

-- ---- a round, and what is left

pub ended_at : (pivots : ℕ) (system : System) (tableau : Tableau) (outcome : Outcome) → round_of system tableau ≡ Ends outcome → outcome_after pivots system tableau ≡ outcome
unfolding ended_within
ended_at zero system tableau outcome e = ap (λ f. unwrap_or (at_end f) GaveUp) e
ended_at (suc pivots) system tableau outcome e = ap (λ f. unwrap_or (goes_on (ended_within pivots system) tableau f) GaveUp) e

pub gives_up_at_end : (system : System) (tableau : Tableau) (j : ℕ) (line : Line) → round_of system tableau ≡ Pivots j line → outcome_after 0 system tableau ≡ GaveUp
unfolding ended_within
gives_up_at_end system tableau j line e = ap (λ f. unwrap_or (at_end f) GaveUp) e

pub gives_up_at_pivot : (pivots : ℕ) (system : System) (tableau : Tableau) (j : ℕ) (line : Line) → round_of system tableau ≡ Pivots j line
    → pivoted_tableau (pivot_at j line tableau) tableau ≡ None → outcome_after (suc pivots) system tableau ≡ GaveUp
unfolding ended_within
gives_up_at_pivot pivots system tableau j line e p =
    ap (λ f. unwrap_or (goes_on (ended_within pivots system) tableau f) GaveUp) e ∙ ap (λ o. unwrap_or (after_pivot (ended_within pivots system) o) GaveUp) p

pub goes_on_after : (pivots : ℕ) (system : System) (tableau next : Tableau) (j : ℕ) (line : Line) → round_of system tableau ≡ Pivots j line
    → pivoted_tableau (pivot_at j line tableau) tableau ≡ Some next → outcome_after (suc pivots) system tableau ≡ outcome_after pivots system next
unfolding ended_within
goes_on_after pivots system tableau next j line e p =
    ap (λ f. unwrap_or (goes_on (ended_within pivots system) tableau f) GaveUp) e ∙ ap (λ o. unwrap_or (after_pivot (ended_within pivots system) o) GaveUp) p

-- ---- what a round finds

pub found_refutes : (system : System) (tableau : Tableau) (line : Line) (side : Side) → first_out tableau ≡ Some line → standing_of tableau.places line ≡ Out side
    → chosen_place side tableau.places (drop 1 line.numbers) ≡ None → round_of system tableau ≡ Ends (refuted_outcome system side tableau.places line)
unfolding round_of
found_refutes system tableau line side e s c =
    ap (found_by_line system tableau) e ∙ ap (found_by_standing system tableau.places line) s ∙ ap (found_by_place system side tableau.places line) c

pub found_line : (system : System) (tableau : Tableau) (line : Line) (standing : Standing) → first_out tableau ≡ Some line → standing ≡ standing_of tableau.places line
    → found_by_standing system tableau.places line standing ≡ round_of system tableau
unfolding round_of
found_line system tableau line standing e s = ap (found_by_standing system tableau.places line) s ∙ ap (found_by_line system tableau) (sym e)

pub found_point : (system : System) (tableau : Tableau) → first_out tableau ≡ None → round_of system tableau ≡ Ends (point_of system.columns tableau)
unfolding round_of
found_point system tableau e = ap (found_by_line system tableau) e

-- ---- the beginning

pub outcome_begins : (system : System) (limit : ℕ) (tableau : Tableau) → limit ≡ most_pivots system → tableau ≡ given_tableau system → outcome_of system ≡ outcome_after limit system tableau
unfolding outcome_of
outcome_begins system limit tableau e f = rw (e, f) refl

-- one pivot more was made
pub one_less : (limit made : ℕ) → made < limit → limit - made ≡ suc (limit - (made + 1))
one_less limit made h = omega arith

-- ---- what stands behind the answer

pub evidence : (system : System) (answer : Tried) → HasWidths system → outcome_in answer ≡ outcome_of system → IsEvidence system answer
evidence system (tried.Refuted cert) w e = let sound = certificate_is_sound system cert w (sym e) in record { proves = sound.0; reduced = sound.1 }
evidence system (tried.Point x d) w e = point_is_sound system x d w (sym e)
evidence system tried.GaveUp w e = tt

pub evidence_of : (system : System) (answer : Result Tried AllocError) → HasWidths system → IfOk answer (λ tried. outcome_in tried ≡ outcome_of system) → IfOk answer (IsEvidence system)
evidence_of system (Ok answer) w h = evidence system answer w h
evidence_of system (Err e) w h = tt
