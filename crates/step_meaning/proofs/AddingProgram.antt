-- The program of the test is one.
use Rattle.std.proofs.Common.{◌≡◌, ℕ, ℤ, zero, suc, ◌<◌, [], ◌∷◌, pos, Some, refl, subst, arith}
use Rattle.std.specs.List.{IsDistinct}
use Rattle.std.specs.Str.{bytes_eq}
use Rattle.std.proofs.lemmas.Slice.Eq.{bytes_eq-Decides}
use Rattle.std.proofs.lemmas.Map.Made.{AllPairs-from_IsDistinct}
use Rattle.thr_base.specs.Number.{Fits}
use Rattle.thr_base.specs.ColumnText.{variable, counter}
use Rattle.transition_formula.specs.Program.{Column, Thread, IsThreadOf, IsCounter, IsThread, IsEdge, IsProgram}
use Rattle.transition_formula.proofs.OwnTexts.{first-own, first-counter}
use Rattle.step_meaning.specs.inside.Adding.{adding_edge, adding_program, adding_thread}

small : (n : ℕ) → n < 10 → Fits (pos n)
small n h = omega arith

counts : (column : Column) → Some (record { text = 116 ∷ 49 ∷ 46 ∷ 36 ∷ 112 ∷ 99 ∷ []; owner = Some 1; start = Some (pos 1) }) ≡ Some column → IsCounter 1 column
counts column at =
    let made : Column = record { text = 116 ∷ 49 ∷ 46 ∷ 36 ∷ 112 ∷ 99 ∷ []; owner = Some 1; start = Some (pos 1) } in
    let same : made ≡ column = cc in
    subst (λ found. IsCounter 1 found) same (record { owned = refl; named = first-counter; starts = refl })

edge-is : (bound : ℤ) → Fits bound → IsEdge (adding_program bound) (adding_thread bound) (adding_edge bound)
unfolding IsDistinct
edge-is bound fits = record {
  leaves_no_failure = omega arith;
  from_location = omega arith;
  to_location = omega arith;
  few_inputs = omega arith;
  few_tests = omega arith;
  tests_over = (record { width = refl; fits = record { coefficients = (small 1 (omega arith), (small 0 (omega arith), tt)); bound = fits } }, tt);
  forms_over = (record { one_each = refl; coefficients_fit = (small 1 (omega arith), (small 0 (omega arith), tt)); constant_fits = small 1 (omega arith) }, tt);
  sets_no_counter = (omega arith, tt);
  sets_none_twice = (tt, tt);
}

thread-is : (bound : ℤ) → Fits bound → IsThread (adding_program bound) 1 (adding_thread bound)
thread-is bound fits = record {
  in_order = refl;
  counts = counts;
  has_start = omega arith;
  few_locations = omega arith;
  few_edges = omega arith;
  edges_are = (edge-is bound fits, tt);
}

threads-are : (bound : ℤ) → Fits bound → (i : ℕ) (thread : Thread) → IsThreadOf (adding_program bound) i thread → IsThread (adding_program bound) i thread
threads-are bound fits zero thread at = cc
threads-are bound fits (suc zero) thread at =
    let same : adding_thread bound ≡ thread = cc in subst (λ found. IsThread (adding_program bound) 1 found) same (thread-is bound fits)
threads-are bound fits (suc (suc k)) thread at = cc

texts-differ : IsDistinct bytes_eq ((120 ∷ []) ∷ (116 ∷ 49 ∷ 46 ∷ 36 ∷ 112 ∷ 99 ∷ []) ∷ [])
unfolding IsDistinct
texts-differ = ((refl, tt), (tt, tt))

pub adding-is : (bound : ℤ) → Fits bound → IsProgram (adding_program bound)
adding-is bound fits = record {
  few_columns = omega arith;
  few_threads = omega arith;
  has_counters = omega arith;
  columns_are = (
    record { text_is = variable (120 ∷ []) refl; start_fits = small 0 (omega arith) },
    (record { text_is = first-own 1 (36 ∷ 112 ∷ 99 ∷ []) (omega arith) counter; start_fits = small 1 (omega arith) }, tt),
  );
  texts_differ = AllPairs-from_IsDistinct bytes_eq-Decides _ texts-differ;
  others_start = ((λ e. refl, λ e. refl), tt);
  threads_are = threads-are bound fits;
}
