-- The program of a text is a program.
use Rattle.std.proofs.Common.{◌≡◌, ◌≢◌, ℕ, zero, suc, ◌+◌, ◌-◌, ◌≤◌, List, [], ◌∷◌, ◌++◌, map, flat_map, take, length, slice_get, length-append, append_assoc, Some, refl, sym, subst, ap, ap₂, ◌∙◌, arith}
use Rattle.std.specs.List.{AllByRecursion, AllPairs}
use Rattle.std.proofs.lemmas.List.{length-map, map-append}
use Rattle.std.proofs.lemmas.Option.{slice_get-map}
use Rattle.std.proofs.lemmas.Simd.{map-map}
use Rattle.std.proofs.Math.Seq.{take-append_seam}
use Rattle.thr_base.specs.ColumnText.{IsColumnText}
use Rattle.thr_base.specs.Limits.{most_threads}
use Rattle.c_tree.specs.Plain as plain
use Rattle.c_check.specs.declared.columns.OwnVariables.{OwnVariables}
use Rattle.c_check.specs.declared.plan.Column as stored
use Rattle.c_check.specs.declared.plan.Plan.{Plan}
use Rattle.c_check.specs.Program.{created_of}
use Rattle.c_check.specs.Check.{IsAccepted, IsPlanOf}
use Rattle.c_check.specs.Columns.{columns_of, counter_column, counters_from, own_columns_from, own_count, owns_of, shared_columns, threads_from}
use Rattle.c_check.specs.WellFormed.{IsWellFormedPlan}
use Rattle.c_check.specs.WellFormed as well_formed
use Rattle.transition_formula.specs.Program.{Column, IsColumn, IsCounter, IsProgram, IsThread, StartsWhereShared, Thread, first_counter, at_number}
use Rattle.transition_formula.proofs.Lookups.{numbered-within}
use Rattle.thread_cfg.specs.Threads.{Running, threads_running}
use Rattle.thread_cfg.specs.Graph.{program_column, program_of, refusals_of, thread_graph, thread_refusals}
use Rattle.thread_cfg.proofs.Lists.{nil-front, nil-rest}
use Rattle.thread_cfg.proofs.ProgramEdges.{thread-edges}
use Rattle.thread_cfg.proofs.ProgramColumns.{columns-are, front-start, front_of, length-counters}
use Rattle.thread_cfg.proofs.RunningThreads.{actions-within, mapped-some, running-is, threads-running}

-- ---- elements by their numbers
-- an element of a list that is mapped is what one is mapped to
numbered-map : {A B : Type 0} (f : A → B) (xs : List A) (i : ℕ) (y : B) → at_number (map f xs) i ≡ Some y → (x : A) × (at_number xs i ≡ Some x) × (f x ≡ y)
numbered-map f xs zero y e = absurd cc
numbered-map f xs (suc k) y e = mapped-some f (slice_get xs k) y (sym (slice_get-map f xs k) ∙ e)

-- an element behind the front
behind-front : {A : Type 0} (xs ys : List A) (c j : ℕ) → c ≡ length xs + j → slice_get (xs ++ ys) c ≡ slice_get ys j
behind-front [] ys c j e = ap (slice_get ys) (omega (arith, e))
behind-front (x ∷ xs) ys zero j e = absurd (omega (arith, e))
behind-front (x ∷ xs) ys (suc c) j e = behind-front xs ys c j (omega (arith, e))

-- where nothing is made of a list, nothing is made of an element
nothing-made : {A B : Type 0} (f : A → List B) (xs : List A) (k : ℕ) (x : A) → flat_map f xs ≡ [] → slice_get xs k ≡ Some x → f x ≡ []
nothing-made f [] zero x e at = absurd cc
nothing-made f [] (suc k) x e at = absurd cc
nothing-made f (y ∷ xs) zero x e at = let same : y ≡ x = cc in ap f (sym same) ∙ nil-front (f y) (flat_map f xs) e
nothing-made f (y ∷ xs) (suc k) x e at = nothing-made f xs k x (nil-rest (f y) (flat_map f xs) e) at

-- and so for its number
nothing-numbered : {A B : Type 0} (f : A → List B) (xs : List A) (i : ℕ) (x : A) → flat_map f xs ≡ [] → at_number xs i ≡ Some x → f x ≡ []
nothing-numbered f xs zero x e at = absurd cc
nothing-numbered f xs (suc k) x e at = nothing-made f xs k x e at

-- ---- columns
-- as many threads as are created
threads_from-length : (owns : List OwnVariables) (first : ℕ) (ns : List ℕ) → length (threads_from owns first ns) ≡ length ns
threads_from-length owns first [] = refl
threads_from-length owns first (n ∷ ns) = ap suc (threads_from-length owns (first + own_count owns n) ns)

-- the counters are counters
counters-are : (i : ℕ) (ns : List ℕ) (j : ℕ) (column : Column) → slice_get (map program_column (counters_from i ns)) j ≡ Some column → IsCounter (i + j) column
counters-are i [] zero column e = absurd cc
counters-are i [] (suc j) column e = absurd cc
counters-are i (n ∷ ns) zero column e =
    let made : IsCounter i (program_column (counter_column (record { 0 = i }))) = record { owned = refl; named = refl; starts = refl } in
    let same : program_column (counter_column (record { 0 = i })) ≡ column = cc in
    let place : i ≡ i + 0 = omega arith in
    subst (λ (k : ℕ). IsCounter k column) place (subst (IsCounter i) same made)
counters-are i (n ∷ ns) (suc j) column e = subst (λ (k : ℕ). IsCounter k column) (omega arith) (counters-are (i + 1) ns j column e)

-- ---- the program
module _ (tree : plain.Tree) (plan : Plan) (accepted : IsAccepted tree) (is : IsPlanOf tree plan) (well : IsWellFormedPlan plan) (fits : refusals_of tree ≡ []) where
  -- as many columns as the text has
  all_columns : length (program_of tree).columns ≡ length (columns_of tree)
  all_columns = length-map (columns_of tree) program_column

  -- as many threads as run
  all_threads : length (program_of tree).threads ≡ length (threads_running tree)
  all_threads = length-map (threads_running tree) (thread_graph (length (columns_of tree)) (length (threads_running tree)))

  -- as many threads run as are created
  created-run : length (threads_running tree) ≡ length (created_of tree)
  created-run = threads-running tree plan is well ∙ ap length is.threads_are ∙ threads_from-length (owns_of tree) (length (shared_columns tree)) (created_of tree)

  -- few threads run
  few-threads : length (threads_running tree) ≤ most_threads
  few-threads = omega (arith, threads-running tree plan is well, well.few_threads)

  -- the columns in front of the counters, and the counters
  columns-split : columns_of tree ≡ front_of tree ++ counters_from 1 (created_of tree)
  columns-split = sym (append_assoc (shared_columns tree) (own_columns_from (owns_of tree) 1 (created_of tree)) (counters_from 1 (created_of tree)))

  -- and so in the program
  split : (program_of tree).columns ≡ map program_column (front_of tree) ++ map program_column (counters_from 1 (created_of tree))
  split = ap (map program_column) columns-split ∙ map-append program_column (front_of tree) (counters_from 1 (created_of tree))

  -- as many columns stand in front of the counters as there are more columns than threads
  front-long : length (map program_column (front_of tree)) ≡ length (columns_of tree) - length (threads_running tree)
  front-long =
      let front = front_of tree in
      let counters = counters_from 1 (created_of tree) in
      omega (arith, length-map front program_column, ap length columns-split, length-append front counters, length-counters 1 (created_of tree), created-run)

  -- no more threads than columns
  threads-fit : length (threads_running tree) ≤ length (columns_of tree)
  threads-fit =
      let front = front_of tree in
      let counters = counters_from 1 (created_of tree) in
      omega (arith, ap length columns-split, length-append front counters, length-counters 1 (created_of tree), created-run)

  -- the first counter stands behind the front
  first-is : first_counter (program_of tree) ≡ length (columns_of tree) - length (threads_running tree)
  first-is = omega (arith, all_columns, all_threads)

  -- the columns in front of the counters start where they are shared
  others-start : AllByRecursion StartsWhereShared (take (first_counter (program_of tree)) (program_of tree).columns)
  others-start =
      let front = map program_column (front_of tree) in
      let counters = map program_column (counters_from 1 (created_of tree)) in
      let place : first_counter (program_of tree) ≡ length front = first-is ∙ sym front-long in
      let same : take (first_counter (program_of tree)) (program_of tree).columns ≡ front = ap₂ (λ n l. take n l) place split ∙ take-append_seam front counters in
      subst (AllByRecursion StartsWhereShared) (sym same) (front-start tree)

  -- the columns are those of a program
  all-are : AllByRecursion (IsColumn (length (program_of tree).threads)) (program_of tree).columns
  all-are =
      let same : length plan.threads ≡ length (program_of tree).threads = omega (arith, all_threads, threads-running tree plan is well) in
      subst (λ (n : ℕ). AllByRecursion (IsColumn n) (program_of tree).columns) same
      (columns-are (length plan.threads) (columns_of tree)
      (subst (AllByRecursion (λ c. IsColumnText (length plan.threads) (well_formed.owner_number c) c.text)) is.columns_are well.texts_are)
      (subst (AllByRecursion (λ c. well_formed.StartFits c.start)) is.columns_are well.starts_fit))

  -- their texts differ
  all-differ : AllPairs (λ a b. a ≢ b) (map (λ (c : Column). c.text) (program_of tree).columns)
  all-differ =
      subst (AllPairs (λ (a b : List ℕ). a ≢ b)) (sym (map-map (λ (c : Column). c.text) program_column (columns_of tree)))
      (subst (λ (cs : List stored.Column). AllPairs (λ a b. a ≢ b) (map (λ (c : stored.Column). c.text) cs)) is.columns_are well.texts_differ)

  -- the counter's column
  counter-is : (i c : ℕ) (column : Column) → 1 ≤ i → suc c ≡ (length (columns_of tree) - length (threads_running tree)) + i
      → slice_get (program_of tree).columns c ≡ Some column → IsCounter i column
  counter-is i c column some at e =
      let front = map program_column (front_of tree) in
      let counters = map program_column (counters_from 1 (created_of tree)) in
      let place : c ≡ length front + (i - 1) = omega (arith, at, front-long, some) in
      let there : slice_get counters (i - 1) ≡ Some column = sym (behind-front front counters c (i - 1) place) ∙ ap (λ l. slice_get l c) (sym split) ∙ e in
      let number : 1 + (i - 1) ≡ i = omega (arith, some) in
      subst (λ (k : ℕ). IsCounter k column) number (counters-are 1 (created_of tree) (i - 1) column there)

  -- a thread is one of the program
  thread-is : (i : ℕ) (t : Running) → at_number (threads_running tree) i ≡ Some t
      → IsThread (program_of tree) i (thread_graph (length (columns_of tree)) (length (threads_running tree)) t)
  thread-is i t e =
      let thread : Thread = thread_graph (length (columns_of tree)) (length (threads_running tree)) t in
      let n : ℕ = length (columns_of tree) - length (threads_running tree) in
      let within = numbered-within (threads_running tree) i t e in
      let running = running-is tree plan is well i t e in
      let has = thread-edges (program_of tree) thread n (length (columns_of tree)) t (sym all_columns) (sym first-is) refl (actions-within tree plan is well i t e)
      (nothing-numbered (thread_refusals (length (columns_of tree))) (threads_running tree) i t fits e) in
      let order : suc thread.counter ≡ n + i = omega (arith, running.number, within.0) in
      record {
        in_order = omega (arith, order, first-is);
        counts = λ column there. counter-is i thread.counter column within.0 order there;
        has_start = omega arith;
        few_locations = has.few_locations;
        few_edges = has.few_edges;
        edges_are = has.edges_are;
      }

  -- The program of a text is a program, where the text is accepted, its plan is well formed, and nothing of it is refused.
  pub program-is : IsProgram (program_of tree)
  program-is = record {
    few_columns = omega (arith, all_columns, accepted.few_columns);
    few_threads = omega (arith, all_threads, few-threads);
    has_counters = omega (arith, all_columns, all_threads, threads-fit);
    columns_are = all-are;
    texts_differ = all-differ;
    others_start = others-start;
    threads_are = λ i thread at.
        let found = numbered-map (thread_graph (length (columns_of tree)) (length (threads_running tree))) (threads_running tree) i thread at in
        subst (λ (x : Thread). IsThread (program_of tree) i x) found.2 (thread-is i found.0 found.1);
  }
