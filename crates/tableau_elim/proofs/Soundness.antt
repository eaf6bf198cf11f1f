-- The lines that a pivot makes have numbers that fit and a positive divisor.
use Rattle.std.proofs.Common.{◌≡◌, ℕ, suc, ◌*◌, ◌<◌, refl, subst, arith, List, [], ◌∷◌, map, length, drop, Some}
use Rattle.std.specs.Prelude.{ℤ, pos, neg_ℤ, ◌*ℤ◌, slice_set, unsigned_abs}
use Rattle.std.specs.Int.{int_signum}
use Rattle.std.specs.List.{AllByRecursion}
use Rattle.std.proofs.Math.Nat.{suc-mul}
use Rattle.std.proofs.lemmas.List.{length-take-le, length-drop}
use Rattle.thr_base.specs.Number.{Fits}
use Rattle.lin_rows.specs.Row.{multiple_of}
use Rattle.farkas_cert.specs.Elimination.{every}
use Rattle.farkas_cert.specs.Line.{combination}
use Rattle.farkas_cert.proofs.Lists.{all_every, all_map, all_both}
use Rattle.tableau_elim.specs.Tableau.{Line, Pivot, number_at, solved_line, line_after_pivot}
use Rattle.tableau_elim.specs.declared.variable.Variable.{Variable}
use Rattle.tableau_elim.specs.inside.Lines.{lines_of, IsSound, IsPivot}
use Rattle.tableau_elim.proofs.Changed.{substituted_is, by_change, changed_front}
use Rattle.farkas_cert.proofs.Combinations.{divided_fit}
use Rattle.tableau_elim.proofs.Combinations.{combination_all_fit}
use Rattle.tableau_elim.proofs.Pivots.{solved_fit}

-- ---- with numbers that fit

abbrev a_of : Pivot → ℤ
a_of pivot = pos (unsigned_abs pivot.number)

abbrev b_of : Pivot → Line → ℤ
b_of pivot line = neg_ℤ (int_signum pivot.number) *ℤ number_at pivot.place line

abbrev rest_of : Pivot → Line → List ℤ
rest_of pivot line = slice_set line.numbers (suc pivot.place) (pos 0)

solved_fits : (w : ℕ) (pivot : Pivot) → IsPivot w pivot → AllByRecursion Fits (solved_line pivot).numbers
unfolding solved_line
solved_fits w pivot k =
    divided_fit (slice_set (multiple_of (neg_ℤ (int_signum pivot.number)) pivot.moved) 0 (pos (unsigned_abs pivot.number)))
    (solved_fit pivot.moved (multiple_of (neg_ℤ (int_signum pivot.number)) pivot.moved) pivot.number (pos (unsigned_abs pivot.number)) k.fits k.number_fits refl refl)

-- a line that a pivot changes stays sound
changed_sound : (w : ℕ) (pivot : Pivot) (line new : Line) → IsPivot w pivot → IsSound line → 0 < length line.numbers → line_after_pivot pivot line ≡ Some new → IsSound new
changed_sound w pivot line new k s l e = (
  by_change (λ made. AllByRecursion Fits made.numbers) pivot line new e
      (λ t. solved_fits w pivot k)
      (λ t u m. let is = substituted_is pivot line new m in subst (λ (made : Line). AllByRecursion Fits made.numbers) is.1 (divided_fit (combination (a_of pivot) (rest_of pivot line) (b_of pivot line) pivot.moved) (combination_all_fit (a_of pivot) (rest_of pivot line) (b_of pivot line) pivot.moved is.0)))
      (λ t u. s.0),
  changed_front pivot line new k.some k.front l s.1 e,
)

-- lines that a pivot changes stay sound
pub all_changed_sound : (w : ℕ) (pivot : Pivot) (lines made : List Line) → IsPivot w pivot → AllByRecursion IsSound lines
    → AllByRecursion (λ line. 0 < length line.numbers) lines → every (map (line_after_pivot pivot) lines) ≡ Some made → AllByRecursion IsSound made
all_changed_sound w pivot lines made k s l e =
    all_every IsSound (map (line_after_pivot pivot) lines) made
    (all_map (λ line. IsSound line × (0 < length line.numbers)) (λ o. (new : Line) → o ≡ Some new → IsSound new) (line_after_pivot pivot) lines
    (λ line both new m. changed_sound w pivot line new k both.0 both.1 m)
    (all_both IsSound (λ line. 0 < length line.numbers) lines s l)) e

-- each line of a list is as wide as it is to be
pub all_wide : (w : ℕ) (basics : List Variable) (numbers : List ℤ) → length numbers ≡ length basics * w → AllByRecursion (λ line. length line.numbers ≡ w) (lines_of w basics numbers)
all_wide w [] numbers e = tt
all_wide w (x ∷ basics) numbers e =
    let more = suc-mul (length basics) w in
    (length-take-le w numbers (omega arith), all_wide w basics (drop w numbers) (omega (arith, length-drop w numbers)))
