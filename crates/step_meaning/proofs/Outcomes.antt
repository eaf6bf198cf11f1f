-- What outcomes say of steps.
use Rattle.std.proofs.Common.{◌≡◌, ◌≢◌, ℕ, zero, suc, ℤ, pos, Bool, true, false, List, [], ◌∷◌, ◌++◌, map, Option, Some, None, IsSome, slice_set, refl, sym, ap, subst, ◌∙◌}
use Rattle.std.specs.List.{AllByRecursion}
use Rattle.lin_rows.proofs.Lists.{AllByRecursion-append, AllByRecursion-front, AllByRecursion-rest, AllByRecursion-weaken}
use Rattle.thr_base.specs.Number.{Fits}
use Rattle.lin_rows.specs.Row.{Row, Meets}
use Rattle.transition_formula.specs.Program.{Form, Thread, Edge}
use Rattle.transition_formula.specs.Step.{value_of, after_sets, after_step}
use Rattle.transition_formula.specs.Forms.{value_if_fits}
use Rattle.transition_formula.proofs.FormValues.{values-exact}
use Rattle.step_meaning.specs.Outcome.{Goes, outcome_of, outcome_by, looked_at, first_stop, source_holds, test_holds, set_holds}
use Rattle.step_meaning.specs.Laws.{TestFits, SetFits, TestPasses, WhatGoesIsAStep, WhatBlocksIsNoStep, StepsThatFitAreGiven, WhatFitsDoesNotOverflow, WhatIsGivenFits, FirstStopsAreTold}
use Rattle.step_meaning.proofs.Stops.{AllGo, first_stop-all, first_stop-none_stops, first_stop-never, is_first, first_is, outcome-goes, outcome-blocks, outcome-overflows}
use Rattle.step_meaning.proofs.Looks.{source-at, source-holds, test-fits, test-not_false, set-holds, set-not_false, tests-pass, tests-go, sets-fit, sets-go}

-- what has been looked at where each goes through
pub record AllLooked (edge : Edge) (z : List ℤ) : Type 0 where
  pub tests_pass : AllByRecursion (TestPasses z) edge.tests
  pub sets_fit : AllByRecursion (SetFits z) edge.sets

pub looked-all : (counter : ℕ) (edge : Edge) (before inputs : List ℤ) → AllGo (looked_at counter edge before inputs) → AllLooked edge (before ++ inputs)
looked-all counter edge before inputs all =
    let z = before ++ inputs in
    record {
      tests_pass = tests-pass z edge.tests (AllByRecursion-front (λ look. look ≡ Some true) (map (test_holds z) edge.tests) (map (set_holds z) edge.sets) all.1);
      sets_fit = sets-fit z edge.sets (AllByRecursion-rest (λ look. look ≡ Some true) (map (test_holds z) edge.tests) (map (set_holds z) edge.sets) all.1);
    }

-- what goes has looked at all
gone : (thread : Thread) (edge : Edge) (before inputs after : List ℤ) → outcome_of thread edge before inputs ≡ Goes after
    → AllGo (looked_at thread.counter edge before inputs) × (after_step thread edge before inputs ≡ after)
gone thread edge before inputs after e =
    let parts = outcome-goes (first_stop (looked_at thread.counter edge before inputs)) (after_step thread edge before inputs) after e in
    (first_stop-none_stops (looked_at thread.counter edge before inputs) parts.0, parts.1)

pub goes-steps : WhatGoesIsAStep
goes-steps thread edge before inputs after one_each e =
    let parts = gone thread edge before inputs after e in
    let looked = looked-all thread.counter edge before inputs parts.0 in
    record {
      at_source = source-at thread edge before parts.0.0;
      one_each = one_each;
      tests_hold = AllByRecursion-weaken (TestPasses (before ++ inputs)) (λ row. Meets row (before ++ inputs)) (λ row passes. passes.meets) edge.tests looked.tests_pass;
      leads = sym parts.1;
    }

-- tests that are met are not false
tests-not_false : (z : List ℤ) (tests : List Row) → AllByRecursion (λ row. Meets row z) tests → AllByRecursion (λ look. look ≢ Some false) (map (test_holds z) tests)
tests-not_false z [] all = tt
tests-not_false z (row ∷ tests) all = (test-not_false z row all.0, tests-not_false z tests all.1)

sets-not_false : (z : List ℤ) (sets : List (ℕ × Form)) → AllByRecursion (λ look. look ≢ Some false) (map (set_holds z) sets)
sets-not_false z [] = tt
sets-not_false z (set ∷ sets) = (set-not_false z set, sets-not_false z sets)

pub blocks-no_step : WhatBlocksIsNoStep
blocks-no_step thread edge before inputs after e = λ steps.
    let z = before ++ inputs in
    let looks = map (test_holds z) edge.tests ++ map (set_holds z) edge.sets in
    let never = first_stop-never (Some false) looks (λ f. absurd cc)
    (AllByRecursion-append (λ look. look ≢ Some false) (map (test_holds z) edge.tests) (map (set_holds z) edge.sets) (tests-not_false z edge.tests steps.tests_hold) (sets-not_false z edge.sets)) in
    let stop = outcome-blocks (first_stop (looked_at thread.counter edge before inputs)) (after_step thread edge before inputs) e in
    never (sym (ap (λ look. first_stop (look ∷ looks)) (source-holds thread edge before steps.at_source)) ∙ stop)

-- tests that fit and are met pass
both-pass : (z : List ℤ) (tests : List Row) → AllByRecursion (TestFits z) tests → AllByRecursion (λ row. Meets row z) tests → AllByRecursion (TestPasses z) tests
both-pass z [] fit all = tt
both-pass z (row ∷ tests) fit all = (record { fits = fit.0; meets = all.0 }, both-pass z tests fit.1 all.1)

pub steps-given : StepsThatFitAreGiven
steps-given thread edge before inputs after fits steps =
    let z = before ++ inputs in
    let all : AllGo (looked_at thread.counter edge before inputs) = (
      source-holds thread edge before steps.at_source,
      AllByRecursion-append (λ look. look ≡ Some true) (map (test_holds z) edge.tests) (map (set_holds z) edge.sets)
          (tests-go z edge.tests (both-pass z edge.tests fits.tests steps.tests_hold)) (sets-go z edge.sets fits.sets),
    ) in
    ap (λ stop. outcome_by stop (after_step thread edge before inputs)) (first_stop-all (looked_at thread.counter edge before inputs) all)
    ∙ ap (λ given. Goes given) (sym steps.leads)

-- what is some is not none
some-not_none : (b : Bool) (o : Option Bool) → o ≡ Some b → o ≢ None
some-not_none b o e = λ f. absurd cc

tests-not_none : (z : List ℤ) (tests : List Row) → AllByRecursion (TestFits z) tests → AllByRecursion (λ look. look ≢ None) (map (test_holds z) tests)
tests-not_none z [] all = tt
tests-not_none z (row ∷ tests) all = (some-not_none _ (test_holds z row) (test-fits z row all.0), tests-not_none z tests all.1)

sets-not_none : (z : List ℤ) (sets : List (ℕ × Form)) → AllByRecursion (SetFits z) sets → AllByRecursion (λ look. look ≢ None) (map (set_holds z) sets)
sets-not_none z [] all = tt
sets-not_none z (set ∷ sets) all = (some-not_none true (set_holds z set) (set-holds z set all.0), sets-not_none z sets all.1)

pub fits-no_overflow : WhatFitsDoesNotOverflow
fits-no_overflow thread edge before inputs fits = λ e.
    let z = before ++ inputs in
    let stop = outcome-overflows (first_stop (looked_at thread.counter edge before inputs)) (after_step thread edge before inputs) e in
    first_stop-never None (looked_at thread.counter edge before inputs) (λ f. absurd cc) (
      some-not_none _ (source_holds thread.counter edge before) refl,
      AllByRecursion-append (λ look. look ≢ None) (map (test_holds z) edge.tests) (map (set_holds z) edge.sets) (tests-not_none z edge.tests fits.tests) (sets-not_none z edge.sets fits.sets),
    )
    stop

-- ---- what is given fits
slice_set-all : (P : ℤ → Type 0) (xs : List ℤ) (n : ℕ) (x : ℤ) → AllByRecursion P xs → P x → AllByRecursion P (slice_set xs n x)
slice_set-all P [] n x all h = tt
slice_set-all P (y ∷ ys) zero x all h = (h, all.1)
slice_set-all P (y ∷ ys) (suc n) x all h = (all.0, slice_set-all P ys n x all.1 h)

pub set-value : (z : List ℤ) (set : ℕ × Form) → SetFits z set → Fits (value_of set.1 z)
set-value z set fits = by (value_if_fits set.1 z) refl fits
  where
    by : (o : Option ℤ) → value_if_fits set.1 z ≡ o → IsSome o → Fits (value_of set.1 z)
    by None is h = absurd cc
    by (Some v) is h = subst Fits (values-exact.values set.1 z v is) (values-exact.fit set.1 z v is)

assigned-fits : (sets : List (ℕ × Form)) (z state : List ℤ) → AllByRecursion (SetFits z) sets → AllByRecursion Fits state → AllByRecursion Fits (after_sets sets z state)
assigned-fits [] z state all fit = fit
assigned-fits ((c, form) ∷ sets) z state all fit =
    slice_set-all Fits (after_sets sets z state) c (value_of form z) (assigned-fits sets z state all.1 fit) (set-value z (c, form) all.0)

pub given-fits : WhatIsGivenFits
given-fits thread edge before inputs after fit target e =
    let parts = gone thread edge before inputs after e in
    let looked = looked-all thread.counter edge before inputs parts.0 in
    subst (AllByRecursion Fits) parts.1
    (slice_set-all Fits (after_sets edge.sets (before ++ inputs) before) thread.counter (pos edge.to)
    (assigned-fits edge.sets (before ++ inputs) before looked.sets_fit fit) target)

-- ---- first stops
pub first_stops-told : FirstStopsAreTold
first_stops-told = record {
  blocks = λ thread edge before inputs.
      let looks = looked_at thread.counter edge before inputs in
      let after = after_step thread edge before inputs in (
        λ e. is_first (Some false) looks (λ f. absurd cc) (outcome-blocks (first_stop looks) after e),
        λ first. ap (λ stop. outcome_by stop after) (first_is (Some false) looks first),
      );
  overflows = λ thread edge before inputs.
      let looks = looked_at thread.counter edge before inputs in
      let after = after_step thread edge before inputs in (
        λ e. is_first None looks (λ f. absurd cc) (outcome-overflows (first_stop looks) after e),
        λ first. ap (λ stop. outcome_by stop after) (first_is None looks first),
      );
  goes = λ thread edge before inputs.
      let looks = looked_at thread.counter edge before inputs in
      let after = after_step thread edge before inputs in (
        λ e. first_stop-none_stops looks (outcome-goes (first_stop looks) after after e).0,
        λ all. ap (λ stop. outcome_by stop after) (first_stop-all looks all),
      );
}
