-- Which of two stops is told, in the words of the program.
use Rattle.std.proofs.Common.{◌≡◌, ◌≢◌, ℕ, ℤ, Bool, true, false, List, [], ◌∷◌, ◌++◌, map, Option, Some, None, refl, ap, ◌∙◌}
use Rattle.std.specs.List.{AllByRecursion}
use Rattle.lin_rows.specs.Row.{Row}
use Rattle.transition_formula.specs.Program.{Form, Thread, Edge}
use Rattle.transition_formula.specs.Step.{after_step}
use Rattle.step_meaning.specs.Outcome.{outcome_of, outcome_by, looked_at, first_stop, test_holds, set_holds}
use Rattle.step_meaning.specs.Laws.{SetFits, TestPasses, IsAtSource, OrderIsKept}
use Rattle.step_meaning.proofs.Stops.{first_stop-all, first_stop-none_stops, first_stop-behind, first_stop-never}
use Rattle.step_meaning.proofs.Loops.{past_source}
use Rattle.step_meaning.proofs.Looks.{source-holds, source-elsewhere, test-holds, test-overflows, test-false, set-not_false, tests-go, sets-fit}

-- a stop that is known tells the outcome
by_stop : (thread : Thread) (edge : Edge) (before inputs : List ℤ) (stop : Option Bool) → first_stop (looked_at thread.counter edge before inputs) ≡ stop
    → outcome_of thread edge before inputs ≡ outcome_by stop (after_step thread edge before inputs)
by_stop thread edge before inputs stop e = ap (λ s. outcome_by s (after_step thread edge before inputs)) e

-- behind tests that pass, the next one is looked at
past_tests : (z : List ℤ) (front behind : List Row) (row : Row) (rest : List (Option Bool)) → AllByRecursion (TestPasses z) front
    → first_stop (map (test_holds z) (front ++ (row ∷ behind)) ++ rest) ≡ first_stop (test_holds z row ∷ (map (test_holds z) behind ++ rest))
past_tests z [] behind row rest all = refl
past_tests z (test ∷ front) behind row rest all =
    ap (λ look. first_stop (look ∷ (map (test_holds z) (front ++ (row ∷ behind)) ++ rest))) (test-holds z test all.0) ∙ past_tests z front behind row rest all.1

-- so with the counter at the source, and tests that pass in front, a test is looked at next
at_test : (thread : Thread) (edge : Edge) (before inputs : List ℤ) (front behind : List Row) (row : Row) (stop : Option Bool) → IsAtSource thread edge before
    → edge.tests ≡ front ++ (row ∷ behind) → AllByRecursion (TestPasses (before ++ inputs)) front → test_holds (before ++ inputs) row ≡ stop
    → first_stop (looked_at thread.counter edge before inputs) ≡ first_stop (stop ∷ (map (test_holds (before ++ inputs)) behind ++ map (set_holds (before ++ inputs)) edge.sets))
at_test thread edge before inputs front behind row stop at tests all told =
    let z = before ++ inputs in
    let rest = map (set_holds z) edge.sets in
    past_source thread.counter edge before inputs (source-holds thread edge before at)
    ∙ ap (λ l. first_stop (map (test_holds z) l ++ rest)) tests
    ∙ past_tests z front behind row rest all
    ∙ ap (λ look. first_stop (look ∷ (map (test_holds z) behind ++ rest))) told

-- sets either all go through, or one overflows
sets-stop : (z : List ℤ) (sets : List (ℕ × Form)) → ¬ AllByRecursion (SetFits z) sets → first_stop (map (set_holds z) sets) ≡ None
sets-stop z sets h = by (first_stop (map (set_holds z) sets)) refl
  where
    none_false : (sets : List (ℕ × Form)) → AllByRecursion (λ look. look ≢ Some false) (map (set_holds z) sets)
    none_false [] = tt
    none_false (set ∷ sets) = (set-not_false z set, none_false sets)

    by : (stop : Option Bool) → first_stop (map (set_holds z) sets) ≡ stop → stop ≡ None
    by None e = refl
    by (Some false) e = absurd (first_stop-never (Some false) (map (set_holds z) sets) (λ f. absurd cc) (none_false sets) e)
    by (Some true) e = absurd (h (sets-fit z sets (first_stop-none_stops (map (set_holds z) sets) e)))

pub order-kept : OrderIsKept
order-kept = record {
  elsewhere = λ thread edge before inputs h.
      let rest = map (test_holds (before ++ inputs)) edge.tests ++ map (set_holds (before ++ inputs)) edge.sets in
      by_stop thread edge before inputs (Some false) (ap (λ look. first_stop (look ∷ rest)) (source-elsewhere thread edge before h));
  test_overflows = λ thread edge before inputs front behind row at tests all h.
      by_stop thread edge before inputs None (at_test thread edge before inputs front behind row None at tests all (test-overflows (before ++ inputs) row h));
  test_blocks = λ thread edge before inputs front behind row at tests all fits h.
      by_stop thread edge before inputs (Some false) (at_test thread edge before inputs front behind row (Some false) at tests all (test-false (before ++ inputs) row fits h));
  set_overflows = λ thread edge before inputs at all h.
      let z = before ++ inputs in
      by_stop thread edge before inputs None
      (past_source thread.counter edge before inputs (source-holds thread edge before at)
      ∙ first_stop-behind (map (test_holds z) edge.tests) (map (set_holds z) edge.sets) (first_stop-all (map (test_holds z) edge.tests) (tests-go z edge.tests all))
      ∙ sets-stop z edge.sets h);
}
