-- What the program holds of a tableau.
use Rattle.std.specs.Prelude.{◌≢◌, ◌<◌, pos, ◌<ℤ◌, length}
use Rattle.thr_base.specs.Number.{Fits}
use Rattle.tableau_elim.specs.Tableau.{Tableau, number_at}
use Rattle.farkas_cert.specs.BackSubstitution.{Fraction}
use Rattle.tableau_elim.specs.inside.Lines.{line_at, tableau_by}
use Rattle.tableau_elim.specs.Rounds.{Found, Ends, Pivots}
use Rattle.tableau_elim.specs.Decision.{outcome_in}
use Rattle.tableau_elim.specs.declared.point.Value.{Value as HeldValue}
use Rattle.tableau_elim.specs.declared.round.Found.{Found as HeldFound}
use Rattle.tableau_elim.specs.declared.round.Found.TheVariants as round
use Rattle.tableau_elim.specs.declared.tableau.Tableau.{Tableau as HeldTableau}

-- the tableau that the program holds
abbrev pub tableau_of : HeldTableau → Tableau
tableau_of held = tableau_by held.basics.items held.numbers.items held.places.items

-- the fraction that the program holds
abbrev pub fraction_in : HeldValue → Fraction
fraction_in value = record { numerator = value.numerator; denominator = value.denominator }

-- Both numbers fit, and the denominator is positive.
pub record IsValue (value : HeldValue) : Type 0 where
  pub positive : pos 0 <ℤ value.denominator
  pub numerator_fits : Fits value.numerator
  pub denominator_fits : Fits value.denominator

-- what a round comes to, as the definition has it
abbrev pub found_of : Tableau → HeldFound → Found
found_of tableau (round.Ends tried) = Ends (outcome_in tried)
found_of tableau (round.Pivots line place) = Pivots place (line_at line tableau)

-- A line and a place for a pivot are there, with a number at the place.
abbrev pub IsForPivot : HeldTableau → HeldFound → Type 0
IsForPivot held (round.Ends tried) = Unit {0}
IsForPivot held (round.Pivots line place) =
    (line < length held.basics.items) × (place < length held.places.items) × (number_at place (line_at line (tableau_of held)) ≢ pos 0)
