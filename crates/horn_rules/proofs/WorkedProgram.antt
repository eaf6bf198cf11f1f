-- The program of the tests is one, and what its tests ask of numbers.
use Rattle.std.proofs.Common.{◌≡◌, ℕ, zero, suc, ◌<◌, ◌≤◌, [], ◌∷◌, length, Some, None, refl, sym, ap, ◌∙◌, subst, arith}
use Rattle.thr_base.specs.declared.names.ThreadNo.{ThreadNo}
use Rattle.thr_base.specs.declared.names.Instance.TheVariants as stored
use Rattle.thr_base.specs.declared.names.Fact.{Fact as StoredFact}
use Rattle.std.specs.List.{IsDistinct}
use Rattle.std.specs.Str.{bytes_eq}
use Rattle.std.proofs.lemmas.Slice.Eq.{bytes_eq-Decides}
use Rattle.std.proofs.lemmas.Map.Made.{AllPairs-from_IsDistinct}
use Rattle.transition_formula.specs.Program.{Column, Thread, Program, IsThreadOf, IsCounter, IsThread, IsEdge, IsProgram, at_number}
use Rattle.transition_formula.specs.ColumnText.{counter}
use Rattle.transition_formula.proofs.OwnTexts.{first-own, second-own, first-counter, second-counter}
use Rattle.horn_rules.specs.Home.{Home, State, Env, homes}
use Rattle.horn_rules.proofs.Numbers.{numbered-there}
use Rattle.horn_rules.specs.inside.Worked.{counter_column, bare_edge, first_thread, second_thread, worked_program}
use Rattle.horn_rules.specs.declared.job.Premise.{Premise}
use Rattle.horn_rules.specs.declared.job.Job.{Job}
use Rattle.horn_rules.specs.Instance.{Init}
use Rattle.horn_rules.specs.Case.{init_case, init}
use Rattle.horn_rules.specs.Stored.{HasItsHome, instance_of}
use Rattle.horn_rules.specs.Job.{IsJob}
use Rattle.horn_rules.specs.inside.JobRows.{IsPremiseAt, IsAtSource, IsAtLocation, IsAtEdge}
use Rattle.lin_rows.proofs.Numbers.{one_fits}

first-counts : (column : Column) → Some (counter_column 1 (116 ∷ 49 ∷ 46 ∷ 36 ∷ 112 ∷ 99 ∷ [])) ≡ Some column → IsCounter 1 column
first-counts column at = let same : counter_column 1 (116 ∷ 49 ∷ 46 ∷ 36 ∷ 112 ∷ 99 ∷ []) ≡ column = cc in subst (λ found. IsCounter 1 found) same (record { owned = refl; named = first-counter; starts = refl })

second-counts : (column : Column) → Some (counter_column 2 (116 ∷ 50 ∷ 46 ∷ 36 ∷ 112 ∷ 99 ∷ [])) ≡ Some column → IsCounter 2 column
second-counts column at = let same : counter_column 2 (116 ∷ 50 ∷ 46 ∷ 36 ∷ 112 ∷ 99 ∷ []) ≡ column = cc in subst (λ found. IsCounter 2 found) same (record { owned = refl; named = second-counter; starts = refl })

edge-is : (thread : Thread) (from to : ℕ) → 0 < from → from < thread.locations → to < thread.locations → IsEdge worked_program thread (bare_edge from to)
unfolding IsDistinct
edge-is thread from to starts h k = record {
  leaves_no_failure = starts;
  from_location = h;
  to_location = k;
  few_inputs = omega arith;
  few_tests = omega arith;
  tests_over = tt;
  forms_over = tt;
  sets_no_counter = tt;
  sets_none_twice = tt;
}

first-is : IsThread worked_program 1 first_thread
first-is = record {
  in_order = refl;
  counts = first-counts;
  has_start = omega arith;
  few_locations = omega arith;
  few_edges = omega arith;
  edges_are = (edge-is first_thread 1 2 (omega arith) (omega arith) (omega arith), (edge-is first_thread 2 0 (omega arith) (omega arith) (omega arith), tt));
}

second-is : IsThread worked_program 2 second_thread
second-is = record {
  in_order = refl;
  counts = second-counts;
  has_start = omega arith;
  few_locations = omega arith;
  few_edges = omega arith;
  edges_are = (edge-is second_thread 1 3 (omega arith) (omega arith) (omega arith), tt);
}

threads-are : (i : ℕ) (thread : Thread) → IsThreadOf worked_program i thread → IsThread worked_program i thread
threads-are zero thread at = cc
threads-are (suc zero) thread at = let same : first_thread ≡ thread = cc in subst (λ found. IsThread worked_program 1 found) same first-is
threads-are (suc (suc zero)) thread at = let same : second_thread ≡ thread = cc in subst (λ found. IsThread worked_program 2 found) same second-is
threads-are (suc (suc (suc zero))) thread at = cc
threads-are (suc (suc (suc (suc k)))) thread at = cc

texts-differ : IsDistinct bytes_eq ((116 ∷ 49 ∷ 46 ∷ 36 ∷ 112 ∷ 99 ∷ []) ∷ (116 ∷ 50 ∷ 46 ∷ 36 ∷ 112 ∷ 99 ∷ []) ∷ [])
unfolding IsDistinct
texts-differ = ((refl, tt), (tt, tt))

pub worked-is : IsProgram worked_program
worked-is = record {
  few_columns = omega arith;
  few_threads = omega arith;
  has_counters = omega arith;
  columns_are = (
    record { text_is = first-own 2 (36 ∷ 112 ∷ 99 ∷ []) (omega arith) counter; start_fits = one_fits },
    (record { text_is = second-own 2 (36 ∷ 112 ∷ 99 ∷ []) (omega arith) counter; start_fits = one_fits }, tt),
  );
  texts_differ = AllPairs-from_IsDistinct bytes_eq-Decides _ texts-differ;
  others_start = tt;
  threads_are = threads-are;
}

-- a premise without predicates, at a home
at-home : (program : Program) (premise : Premise) (home : Home) (n : ℕ) → program ≡ worked_program → premise.fact.home.0 ≡ n → at_number (homes worked_program) n ≡ Some home
    → premise.set.value ≡ [] → IsPremiseAt program premise home
at-home program premise home n worked at there empty =
    record { home_is = rw (worked, at) there; set_is = rw empty (record { are_atoms = tt; none_twice = tt }) }

-- at the start of the first thread, the source of its first edge
pub first-source : (program : Program) (premise : Premise) → program ≡ worked_program → premise.fact.home.0 ≡ 2 → premise.set.value ≡ [] → IsAtSource program premise 1
first-source program premise worked home empty = record {
  i = 1;
  thread = first_thread;
  edge = bare_edge 1 2;
  edge_is = rw worked (record { thread_is = refl; edge_is = refl });
  premise_is = at-home program premise (State 1 1) 2 worked home refl empty;
}

pub first-location : (program : Program) (premise : Premise) → program ≡ worked_program → premise.fact.home.0 ≡ 2 → premise.set.value ≡ [] → IsAtLocation program premise
first-location program premise worked home empty = record {
  i = 1;
  l = 1;
  thread = first_thread;
  thread_is = rw worked refl;
  premise_is = at-home program premise (State 1 1) 2 worked home refl empty;
}

-- at the start of the second thread, the source of its edge
pub second-source : (program : Program) (premise : Premise) → program ≡ worked_program → premise.fact.home.0 ≡ 5 → premise.set.value ≡ [] → IsAtSource program premise 1
second-source program premise worked home empty = record {
  i = 2;
  thread = second_thread;
  edge = bare_edge 1 3;
  edge_is = rw worked (record { thread_is = refl; edge_is = refl });
  premise_is = at-home program premise (State 2 1) 5 worked home refl empty;
}

-- at that edge
pub second-edge : (program : Program) (premise : Premise) → program ≡ worked_program → premise.fact.home.0 ≡ 10 → premise.set.value ≡ [] → IsAtEdge program premise
second-edge program premise worked home empty = record {
  i = 2;
  e = 1;
  thread = second_thread;
  edge = bare_edge 1 3;
  edge_is = rw worked (record { thread_is = refl; edge_is = refl });
  premise_is = at-home program premise (Env 2 1) 10 worked home refl empty;
}

-- the first thread's start, with no predicates at its home
pub start-job : (program : Program) (job : Job) (i : ThreadNo) → program ≡ worked_program → i.0 ≡ 1 → job.instance ≡ stored.Init i → job.first ≡ None → job.second ≡ None → job.home.0 ≡ 2
    → job.target.value ≡ [] → IsJob program job
start-job program job i worked one instance_is first_is second_is home_is empty =
    let there : IsThreadOf program 1 first_thread = rw worked refl in (
      init_case program 1,
      record {
        instance = Init 1;
        instance_is = record { ids_are = sym (ap instance_of instance_is ∙ ap Init one); first_is = first_is; second_is = second_is };
        is_case = init 1 first_thread there;
        premises_are = tt;
        home_is = rw (worked, home_is) refl;
        target_is = rw empty (record { are_atoms = tt; none_twice = tt });
      },
    )

-- facts at homes that the program has
pub has-home : (program : Program) (fact : StoredFact) (n : ℕ) → program ≡ worked_program → fact.home.0 ≡ n → 0 < n → n ≤ length (homes worked_program) → HasItsHome program fact
has-home program fact n worked at from to = rw (worked, at) (numbered-there (homes worked_program) n from to)
