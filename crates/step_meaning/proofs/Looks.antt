-- What each thing that is looked at says of a step.
use Rattle.std.proofs.Common.{◌≡◌, ◌≢◌, ℕ, ℤ, pos, int_le, Bool, true, false, cond, List, [], ◌∷◌, map, Option, Some, None, option_map, slice_get, MatchBool, ◌≤ℤ◌, T, refl, sym, ap, subst, ◌∙◌}
use lib.Signed.{le_z_yes}
use Rattle.std.specs.List.{AllByRecursion}
use Rattle.std.specs.Option.{option_map_or, is_none, IsSome}
use Rattle.std.specs.Ordering.{int_eq}
use Rattle.std.proofs.lemmas.Bool.Decides.{Decides-int_eq}
use Rattle.lin_rows.specs.Row.{Row, Meets, product_of}
use Rattle.lin_rows.specs.Sum.{sum_overflow}
use Rattle.transition_formula.specs.Program.{Form, Thread, Edge}
use Rattle.transition_formula.specs.Forms.{value_if_fits}
use Rattle.step_meaning.specs.Outcome.{source_holds, row_holds, test_holds, set_holds}
use Rattle.step_meaning.specs.Laws.{TestFits, SetFits, TestPasses, IsAtSource}
use Rattle.step_meaning.proofs.Stops.{AllGo}

-- ---- the counter
source-value : (o : Option ℤ) (k : ℤ) → option_map_or (λ v. int_eq v k) o false ≡ true → o ≡ Some k
source-value None k e = absurd cc
source-value (Some v) k e = ap (λ z. Some z) ((Decides-int_eq v k).0 e)

pub source-at : (thread : Thread) (edge : Edge) (before : List ℤ) → source_holds thread.counter edge before ≡ Some true → IsAtSource thread edge before
source-at thread edge before e = source-value (slice_get before thread.counter) (pos edge.from) cc

pub source-holds : (thread : Thread) (edge : Edge) (before : List ℤ) → IsAtSource thread edge before → source_holds thread.counter edge before ≡ Some true
source-holds thread edge before at =
    ap (λ o. Some (option_map_or (λ v. int_eq v (pos edge.from)) o false)) at ∙ ap (λ b. Some b) ((Decides-int_eq (pos edge.from) (pos edge.from)).1 refl)

-- a test that is not true is false
not_true : (b : Bool) → b ≢ true → b ≡ false
not_true true h = absurd (h refl)
not_true false h = refl

pub source-elsewhere : (thread : Thread) (edge : Edge) (before : List ℤ) → ¬ IsAtSource thread edge before → source_holds thread.counter edge before ≡ Some false
source-elsewhere thread edge before h =
    ap (λ b. Some b) (not_true _ (λ e. h (source-value (slice_get before thread.counter) (pos edge.from) e)))

-- ---- a row
row-meets : (row : Row) (z : List ℤ) → row_holds row (product_of row.coefficients z) ≡ true → Meets row z
row-meets row z e = by row.equal (product_of row.coefficients z) row.bound e
  where
    by : (equal : Bool) (sum bound : ℤ) → cond equal (int_eq sum bound) (int_le sum bound) ≡ true → MatchBool equal (sum ≡ bound) (sum ≤ℤ bound)
    by true sum bound e = (Decides-int_eq sum bound).0 e
    by false sum bound e = le_z_yes (subst T (sym e) tt)

meets-row : (row : Row) (z : List ℤ) → Meets row z → row_holds row (product_of row.coefficients z) ≡ true
meets-row row z meets = by row.equal (product_of row.coefficients z) row.bound meets
  where
    holds : (b : Bool) → T b → b ≡ true
    holds true t = refl
    holds false t = absurd t

    by : (equal : Bool) (sum bound : ℤ) → MatchBool equal (sum ≡ bound) (sum ≤ℤ bound) → cond equal (int_eq sum bound) (int_le sum bound) ≡ true
    by true sum bound h = (Decides-int_eq sum bound).1 h
    by false sum bound h = holds (int_le sum bound) h.le

-- ---- a test

-- a test whose numbers fit is told by its sum
pub test-fits : (z : List ℤ) (row : Row) → TestFits z row → test_holds z row ≡ Some (row_holds row (product_of row.coefficients z))
test-fits z row fits = rw fits refl

pub test-overflows : (z : List ℤ) (row : Row) → ¬ TestFits z row → test_holds z row ≡ None
test-overflows z row h = by (sum_overflow row.coefficients z) h
  where
    by : (o : Option ℕ) → ¬ (o ≡ None) → option_map (row_holds row) (cond (is_none o) (Some (product_of row.coefficients z)) None) ≡ None
    by None h = absurd (h refl)
    by (Some n) h = refl

pub test-holds : (z : List ℤ) (row : Row) → TestPasses z row → test_holds z row ≡ Some true
test-holds z row passes = test-fits z row passes.fits ∙ ap (λ b. Some b) (meets-row row z passes.meets)

pub test-false : (z : List ℤ) (row : Row) → TestFits z row → ¬ Meets row z → test_holds z row ≡ Some false
test-false z row fits h = test-fits z row fits ∙ ap (λ b. Some b) (not_true _ (λ e. h (row-meets row z e)))

pub test-passes : (z : List ℤ) (row : Row) → test_holds z row ≡ Some true → TestPasses z row
test-passes z row e =
    let told = by (sum_overflow row.coefficients z) (product_of row.coefficients z) e in
    record { fits = told.0; meets = row-meets row z told.1 }
  where
    by : (o : Option ℕ) (p : ℤ) → option_map (row_holds row) (cond (is_none o) (Some p) None) ≡ Some true → (o ≡ None) × (row_holds row p ≡ true)
    by None p e = (refl, cc)
    by (Some n) p e = absurd cc

-- a test that its point meets is never found false
pub test-not_false : (z : List ℤ) (row : Row) → Meets row z → test_holds z row ≢ Some false
test-not_false z row meets = by (sum_overflow row.coefficients z) (row_holds row (product_of row.coefficients z)) refl (meets-row row z meets)
  where
    by : (o : Option ℕ) (b : Bool) → row_holds row (product_of row.coefficients z) ≡ b → b ≡ true
        → option_map (row_holds row) (cond (is_none o) (Some (product_of row.coefficients z)) None) ≢ Some false
    by None true is e = λ f. absurd cc
    by None false is e = absurd cc
    by (Some n) b is e = λ f. absurd cc

-- ---- a set
pub set-holds : (z : List ℤ) (set : ℕ × Form) → SetFits z set → set_holds z set ≡ Some true
set-holds z set fits = by (value_if_fits set.1 z) fits
  where
    by : (o : Option ℤ) → IsSome o → option_map (λ v. true) o ≡ Some true
    by None h = absurd cc
    by (Some v) h = refl

pub set-fits : (z : List ℤ) (set : ℕ × Form) → set_holds z set ≡ Some true → SetFits z set
set-fits z set e = by (value_if_fits set.1 z) e
  where
    by : (o : Option ℤ) → option_map (λ v. true) o ≡ Some true → IsSome o
    by None e = absurd cc
    by (Some v) e = refl

-- a set has nothing that can be false
pub set-not_false : (z : List ℤ) (set : ℕ × Form) → set_holds z set ≢ Some false
set-not_false z set = by (value_if_fits set.1 z)
  where
    by : (o : Option ℤ) → option_map (λ v. true) o ≢ Some false
    by None = λ e. absurd cc
    by (Some v) = λ e. absurd cc

-- ---- lists of them
pub tests-pass : (z : List ℤ) (tests : List Row) → AllGo (map (test_holds z) tests) → AllByRecursion (TestPasses z) tests
tests-pass z [] all = tt
tests-pass z (row ∷ tests) all = (test-passes z row all.0, tests-pass z tests all.1)

pub tests-go : (z : List ℤ) (tests : List Row) → AllByRecursion (TestPasses z) tests → AllGo (map (test_holds z) tests)
tests-go z [] all = tt
tests-go z (row ∷ tests) all = (test-holds z row all.0, tests-go z tests all.1)

pub sets-fit : (z : List ℤ) (sets : List (ℕ × Form)) → AllGo (map (set_holds z) sets) → AllByRecursion (SetFits z) sets
sets-fit z [] all = tt
sets-fit z (set ∷ sets) all = (set-fits z set all.0, sets-fit z sets all.1)

pub sets-go : (z : List ℤ) (sets : List (ℕ × Form)) → AllByRecursion (SetFits z) sets → AllGo (map (set_holds z) sets)
sets-go z [] all = tt
sets-go z (set ∷ sets) all = (set-holds z set all.0, sets-go z sets all.1)
