-- The program of the tests is one.
use Rattle.std.proofs.Common.{◌≡◌, ℕ, zero, suc, ◌<◌, [], ◌∷◌, pos, negsuc, Some, refl, subst, arith}
use Rattle.std.specs.List.{IsDistinct}
use Rattle.std.specs.Str.{bytes_eq}
use Rattle.std.proofs.lemmas.Slice.Eq.{bytes_eq-Decides}
use Rattle.std.proofs.lemmas.Map.Made.{AllPairs-from_IsDistinct}
use Rattle.thr_base.specs.Number.{Fits}
use Rattle.thr_base.specs.ColumnText.{variable, local, counter}
use Rattle.transition_formula.specs.Program.{Column, Thread, IsThreadOf, IsCounter, IsThread, IsEdge, IsProgram}
use Rattle.transition_formula.specs.inside.Worked.{first_counter_column, second_counter_column, first_edge, second_edge, worked_thread, worked_program}
use Rattle.transition_formula.proofs.OwnTexts.{first-own, second-own, first-counter, second-counter}
use Rattle.lin_rows.proofs.Numbers.{minus_one_fits}

-- The first thread's counter is one.
first_counts : (column : Column) → Some first_counter_column ≡ Some column → IsCounter 1 column
first_counts column at = let same : first_counter_column ≡ column = cc in subst (λ found. IsCounter 1 found) same (record { owned = refl; named = first-counter; starts = refl })

-- The second thread's counter is one.
second_counts : (column : Column) → Some second_counter_column ≡ Some column → IsCounter 2 column
second_counts column at = let same : second_counter_column ≡ column = cc in subst (λ found. IsCounter 2 found) same (record { owned = refl; named = second-counter; starts = refl })

-- A number below 10 fits.
small : (n : ℕ) → n < 10 → Fits (pos n)
small n h = omega arith

-- The first thread's edge meets what is asked of edges.
first_edge-is : IsEdge worked_program (worked_thread 2 first_edge) first_edge
unfolding IsDistinct
first_edge-is = record {
  leaves_no_failure = omega arith;
  from_location = omega arith;
  to_location = omega arith;
  few_inputs = omega arith;
  few_tests = omega arith;
  tests_over = (
    record {
      width = refl;
      fits = record { coefficients = (small 2 (omega arith), (small 0 (omega arith), (small 0 (omega arith), (small 0 (omega arith), (small 5 (omega arith), tt))))); bound = small 7 (omega arith) };
    },
    tt,
  );
  forms_over = (
    record {
      one_each = refl;
      coefficients_fit = (small 1 (omega arith), (small 0 (omega arith), (small 0 (omega arith), (small 0 (omega arith), (minus_one_fits, tt)))));
      constant_fits = small 3 (omega arith);
    },
    tt,
  );
  sets_no_counter = (omega arith, tt);
  sets_none_twice = (tt, tt);
}

-- The second thread's edge meets what is asked of edges.
second_edge-is : IsEdge worked_program (worked_thread 3 second_edge) second_edge
unfolding IsDistinct
second_edge-is = record {
  leaves_no_failure = omega arith;
  from_location = omega arith;
  to_location = omega arith;
  few_inputs = omega arith;
  few_tests = omega arith;
  tests_over = tt;
  forms_over = (
    record {
      one_each = refl;
      coefficients_fit = (small 1 (omega arith), (small 0 (omega arith), (small 0 (omega arith), (small 0 (omega arith), tt))));
      constant_fits = small 1 (omega arith);
    },
    tt,
  );
  sets_no_counter = (omega arith, tt);
  sets_none_twice = (tt, tt);
}

-- The first thread meets what is asked of threads.
first_thread-is : IsThread worked_program 1 (worked_thread 2 first_edge)
first_thread-is = record {
  in_order = refl;
  counts = first_counts;
  has_start = omega arith;
  few_locations = omega arith;
  few_edges = omega arith;
  edges_are = (first_edge-is, tt);
}

-- The second thread meets what is asked of threads.
second_thread-is : IsThread worked_program 2 (worked_thread 3 second_edge)
second_thread-is = record {
  in_order = refl;
  counts = second_counts;
  has_start = omega arith;
  few_locations = omega arith;
  few_edges = omega arith;
  edges_are = (second_edge-is, tt);
}

-- Each thread meets what is asked of threads.
threads-are : (i : ℕ) (thread : Thread) → IsThreadOf worked_program i thread → IsThread worked_program i thread
threads-are zero thread at = cc
threads-are (suc zero) thread at = let same : worked_thread 2 first_edge ≡ thread = cc in subst (λ found. IsThread worked_program 1 found) same first_thread-is
threads-are (suc (suc zero)) thread at = let same : worked_thread 3 second_edge ≡ thread = cc in subst (λ found. IsThread worked_program 2 found) same second_thread-is
threads-are (suc (suc (suc zero))) thread at = cc
threads-are (suc (suc (suc (suc k)))) thread at = cc

-- The texts of the columns differ.
texts-differ : IsDistinct bytes_eq ((120 ∷ []) ∷ (116 ∷ 49 ∷ 46 ∷ 108 ∷ []) ∷ (116 ∷ 49 ∷ 46 ∷ 36 ∷ 112 ∷ 99 ∷ []) ∷ (116 ∷ 50 ∷ 46 ∷ 36 ∷ 112 ∷ 99 ∷ []) ∷ [])
unfolding IsDistinct
texts-differ = ((refl, (refl, (refl, tt))), ((refl, (refl, tt)), ((refl, tt), (tt, tt))))

-- The program of the tests meets what is asked of programs.
pub worked-is : IsProgram worked_program
worked-is = record {
  few_columns = omega arith;
  few_threads = omega arith;
  has_counters = omega arith;
  columns_are = (
    record { text_is = variable (120 ∷ []) refl; start_fits = small 0 (omega arith) },
    (
      record { text_is = first-own 2 (108 ∷ []) (omega arith) (local (108 ∷ []) refl); start_fits = tt },
      (
        record { text_is = first-own 2 (36 ∷ 112 ∷ 99 ∷ []) (omega arith) counter; start_fits = small 1 (omega arith) },
        (record { text_is = second-own 2 (36 ∷ 112 ∷ 99 ∷ []) (omega arith) counter; start_fits = small 1 (omega arith) }, tt),
      ),
    ),
  );
  texts_differ = AllPairs-from_IsDistinct bytes_eq-Decides _ texts-differ;
  others_start = ((λ e. refl, λ e. refl), ((λ e. cc, λ e. cc), tt));
  threads_are = threads-are;
}
