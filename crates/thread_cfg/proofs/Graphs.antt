-- The program of a text has the same steps as the text, and fails where it fails.
use Rattle.std.proofs.Common.{◌≡◌, ◌↔◌, ℕ, zero, suc, ◌+◌, ◌-◌, ◌≤◌, nat_lt, ℤ, Bool, true, false, List, [], ◌∷◌, ◌++◌, length, map, take, flat_map, Some, Ok, inl, inr, refl, sym, ap, subst, arith, length-append, append_assoc, ltb-false, ◌∙◌}
use Rattle.std.specs.Prelude.{Contains}
use Rattle.std.specs.List.{AllByRecursion}
use Rattle.std.proofs.lemmas.List.{length-map}
use Rattle.thr_base.specs.Limits.{most_locations}
use Rattle.c_tree.specs.Plain as plain
use Rattle.c_check.specs.declared.columns.OwnVariables.{OwnVariables}
use Rattle.c_check.specs.declared.plan.Column.{Column}
use Rattle.c_check.specs.declared.plan.Plan.{Plan}
use Rattle.c_check.specs.Program.{created_of}
use Rattle.c_check.specs.Check.{IsPlanOf}
use Rattle.c_check.specs.Columns.{columns_of, counters_from, own_columns_from, own_count, owns_of, shared_columns, threads_from}
use Rattle.c_check.specs.WellFormed.{IsWellFormedPlan}
use Rattle.transition_formula.specs.Program.{Edge, IsEdgeOf, IsProgram, Thread, at_number}
use Rattle.transition_formula.specs.Run.{Fails, IsRun, Run}
use Rattle.thread_cfg.specs.Threads.{Running, threads_running}
use Rattle.thread_cfg.specs.Graph.{actions_of, edges_from, locations_of, program_of, refusals_from, refusals_of, thread_graph, thread_refusals}
use Rattle.thread_cfg.specs.SameSteps.{SameSteps}
use Rattle.thread_cfg.specs.Action.{Action, Alternative}
use Rattle.thread_cfg.specs.Edge.{alternative_edge}
use Rattle.thread_cfg.specs.EdgeLaws.{IsEdgeOfAction}
use Rattle.thread_cfg.specs.Columns.{program_column, value_columns}
use Rattle.thread_cfg.specs.Interleaving.{TextFails, ThreadFails, ThreadReachesFailure}
use Rattle.thread_cfg.specs.Telling.{RunsTellInterleavings}
use Rattle.thread_cfg.specs.Within.{EventsWithin}
use Rattle.thread_cfg.proofs.Edges.{edge-from}
use Rattle.thread_cfg.proofs.Numbered.{Has, cons-empty, edge-at, empty-behind, empty-front, none-some, number-has, some-same}
use Rattle.thread_cfg.proofs.RunningThreads.{actions-within, running-is, threads-running}
use Rattle.thread_cfg.proofs.Sameness.{IsGraphOf, same-steps}
use Rattle.thread_cfg.proofs.Interleavings.{IsKnown, all-has}
use Rattle.thread_cfg.proofs.Alike.{fails-alike, runs-tell, threads-fail-alike}

-- ---- lists

-- the function of the element by a number has this number among the functions of all
numbered-map : {X Y : Type 0} → (f : X → Y) (xs : List X) (i : ℕ) (x : X) → at_number xs i ≡ Some x → at_number (map f xs) i ≡ Some (f x)
numbered-map f xs zero x e = absurd (none-some x e)
numbered-map f [] (suc i) x e = absurd (none-some x e)
numbered-map f (y ∷ xs) (suc zero) x e = ap (λ z. Some (f z)) (some-same y x e)
numbered-map f (y ∷ xs) (suc (suc i)) x e = numbered-map f xs (suc i) x e

-- a number with an element is from 1 to the length
numbered-below : {X : Type 0} → (xs : List X) (i : ℕ) (x : X) → at_number xs i ≡ Some x → (1 ≤ i) × (i ≤ length xs)
numbered-below xs zero x e = absurd (none-some x e)
numbered-below [] (suc i) x e = absurd (none-some x e)
numbered-below (y ∷ xs) (suc zero) x e = (omega arith, omega arith)
numbered-below (y ∷ xs) (suc (suc i)) x e = let m = numbered-below xs (suc i) x e in (omega arith, omega (arith, m.1))

-- where nothing is given of all elements, nothing is of the one by a number
flat-none : {X Y : Type 0} → (f : X → List Y) (xs : List X) (i : ℕ) (x : X) → flat_map f xs ≡ [] → at_number xs i ≡ Some x → f x ≡ []
flat-none f xs zero x e at = absurd (none-some x at)
flat-none f [] (suc i) x e at = absurd (none-some x at)
flat-none f (y ∷ xs) (suc zero) x e at = subst (λ z. f z ≡ []) (some-same y x at) (empty-front (f y) (flat_map f xs) e)
flat-none f (y ∷ xs) (suc (suc i)) x e at = flat-none f xs (suc i) x (empty-behind (f y) (flat_map f xs) e) at

-- the front of a joined list, as long as the first, is the first
take-front : {X : Type 0} → (xs ys : List X) → take (length xs) (xs ++ ys) ≡ xs
take-front [] ys = refl
take-front (x ∷ xs) ys = ap (λ l. x ∷ l) (take-front xs ys)

-- an element of a list that is mapped is what one is mapped to
mapped-numbered : {X Y : Type 0} → (f : X → Y) (xs : List X) (i : ℕ) (y : Y) → at_number (map f xs) i ≡ Some y → (x : X) × (at_number xs i ≡ Some x) × (f x ≡ y)
mapped-numbered f xs zero y e = absurd (none-some y e)
mapped-numbered f [] (suc i) y e = absurd (none-some y e)
mapped-numbered f (x ∷ xs) (suc zero) y e = (x, refl, some-same (f x) y e)
mapped-numbered f (x ∷ xs) (suc (suc i)) y e = mapped-numbered f xs (suc i) y e

-- an element by a number is in the list
numbered-has : {X : Type 0} → (xs : List X) (x : X) (e : ℕ) → at_number xs e ≡ Some x → Has xs x
numbered-has xs x zero h = absurd (none-some x h)
numbered-has xs x (suc e) h = number-has xs x e h

-- what is in a list is contained in it
has-contains : {X : Type 0} → (xs : List X) (x : X) → Has xs x → Contains xs x
has-contains [] x h = absurd h
has-contains (y ∷ xs) x h =
    elim h [
      | inl e ↦ (0, omega arith, sym e)
      | inr g ↦ let more = has-contains xs x g in (suc more.0, omega (arith, more.1), more.2)
    ]

-- ---- columns and threads

-- there is a thread for each creation
length-threads : (owns : List OwnVariables) (first : ℕ) (created : List ℕ) → length (threads_from owns first created) ≡ length created
length-threads owns first [] = refl
length-threads owns first (n ∷ ns) = ap suc (length-threads owns (first + own_count owns n) ns)

-- there is a counter for each creation
length-counters : (i : ℕ) (created : List ℕ) → length (counters_from i created) ≡ length created
length-counters i [] = refl
length-counters i (n ∷ ns) = ap suc (length-counters (i + 1) ns)

-- the actions of a thread that is not refused are not
thread-fits : (columns : ℕ) (t : Running) → thread_refusals columns t ≡ [] → (locations_of t ≤ most_locations) × (refusals_from columns t.frame 1 (actions_of t) ≡ [])
thread-fits columns t e = by (nat_lt most_locations (locations_of t)) refl
  where
    by : (b : Bool) → nat_lt most_locations (locations_of t) ≡ b → (locations_of t ≤ most_locations) × (refusals_from columns t.frame 1 (actions_of t) ≡ [])
    by true is = absurd (cons-empty _ _ (rw is at e))
    by false is = (ltb-false most_locations (locations_of t) is, rw is at e)

module _ (tree : plain.Tree) (plan : Plan) (is : IsPlanOf tree plan) (well : IsWellFormedPlan plan) where
  abbrev k : ℕ
  k = length (threads_running tree)

  abbrev n : ℕ
  n = length (columns_of tree) - length (threads_running tree)

  pub created-are : length (created_of tree) ≡ length (threads_running tree)
  created-are =
      sym (threads-running tree plan is well ∙ ap length is.threads_are ∙ length-threads (owns_of tree) (length (shared_columns tree)) (created_of tree))

  abbrev pub fronts : List Column
  fronts = shared_columns tree ++ own_columns_from (owns_of tree) 1 (created_of tree)

  -- the counters are the last columns
  columns-split : columns_of tree ≡ fronts ++ counters_from 1 (created_of tree)
  columns-split = sym (append_assoc (shared_columns tree) (own_columns_from (owns_of tree) 1 (created_of tree)) (counters_from 1 (created_of tree)))

  -- n columns are in front of the k counters
  pub fronts-length : (length fronts ≡ n) × (n + k ≡ length (columns_of tree))
  fronts-length =
      let a = ap length columns-split in
      let b = length-append fronts (counters_from 1 (created_of tree)) in
      let c = length-counters 1 (created_of tree) in
      (omega (arith, a, b, c, created-are), omega (arith, a, b, c, created-are))

  pub counters-are : columns_of tree ≡ value_columns tree ++ counters_from 1 (created_of tree)
  counters-are =
      columns-split ∙ ap (λ l. l ++ counters_from 1 (created_of tree)) (sym (ap (λ m. take m (columns_of tree)) (sym (fronts-length.0)) ∙ ap (take (length fronts)) columns-split ∙ take-front fronts (counters_from 1 (created_of tree))))

  -- there is a counter for each thread
  pub counters-within : length (threads_running tree) ≤ length (columns_of tree)
  counters-within = omega (arith, fronts-length.1)

module _ (tree : plain.Tree) (plan : Plan) (is : IsPlanOf tree plan) (well : IsWellFormedPlan plan) (fits : refusals_of tree ≡ []) where
  -- the graph of a thread that runs is one of its actions
  graph-is : (i : ℕ) (t : Running) → at_number (threads_running tree) i ≡ Some t
      → IsGraphOf (program_of tree) (n tree plan is well) (k tree plan is well) t.frame (length t.function.locals) t.function.body (thread_graph (length (columns_of tree)) (k tree plan is well) t)
  graph-is i t at =
      let r = running-is tree plan is well i t at in
      let among = numbered-below (threads_running tree) i t at in
      let fit = thread-fits (length (columns_of tree)) t (flat-none (thread_refusals (length (columns_of tree))) (threads_running tree) i t fits at) in
      record {
        thread_is = subst (λ m. at_number (program_of tree).threads m ≡ Some (thread_graph (length (columns_of tree)) (k tree plan is well) t)) (sym r.number)
            (numbered-map (thread_graph (length (columns_of tree)) (k tree plan is well)) (threads_running tree) i t at);
        some = omega (arith, r.number, among.0);
        among = omega (arith, r.number, among.1);
        counter_is = omega (arith, r.number, among.0);
        locations_are = refl;
        edges_are = subst (λ c. (thread_graph (length (columns_of tree)) (k tree plan is well) t).edges ≡ edges_from c t.frame 1 (actions_of t)) (sym (fronts-length tree plan is well).1) refl;
        within = actions-within tree plan is well i t at;
        fits = subst (λ c. refusals_from c t.frame 1 (actions_of t) ≡ []) (sym (fronts-length tree plan is well).1) fit.1;
      }

  -- the program has the same steps as the text
  pub programs-step-alike : SameSteps tree (program_of tree)
  programs-step-alike = record {
    columns_are = length-map (columns_of tree) program_column;
    threads_are = length-map (threads_running tree) (thread_graph (length (columns_of tree)) (k tree plan is well));
    created = length-map (threads_running tree) (thread_graph (length (columns_of tree)) (k tree plan is well)) ∙ sym (created-are tree plan is well);
    numbered_so = λ i t at. (running-is tree plan is well i t at).number;
    steps_are = λ i t at. same-steps (program_of tree) (n tree plan is well) (k tree plan is well) t.frame (length t.function.locals) t.function.body (thread_graph (length (columns_of tree)) (k tree plan is well) t) (graph-is i t at);
  }

  -- what is known of the text and its program
  known : IsProgram (program_of tree) → IsKnown tree (program_of tree)
  known program = record {
    same = programs-step-alike;
    is_program = program;
    columns_are = refl;
    counters_are = counters-are tree plan is well;
    created_are = created-are tree plan is well;
  }

  -- and it fails where the text does
  pub programs-fail-alike : IsProgram (program_of tree) → ((run : Run) × (last : List ℤ) × IsRun (program_of tree) run last × Fails (program_of tree) run) ↔ TextFails tree
  programs-fail-alike program = fails-alike tree (program_of tree) (known program)

  -- thread by thread
  pub programs-threads-fail-alike : IsProgram (program_of tree) → (i : ℕ) → ThreadReachesFailure (program_of tree) i ↔ ThreadFails tree i
  programs-threads-fail-alike program i = threads-fail-alike tree (program_of tree) (known program) i

  -- its runs go step by step as interleavings do
  pub programs-runs-tell : IsProgram (program_of tree) → RunsTellInterleavings tree (program_of tree)
  programs-runs-tell program = runs-tell tree (program_of tree) (known program)

  -- each of its edges is that of a way on
  pub edge-of-action : (i e : ℕ) (thread : Thread) (edge : Edge) → IsEdgeOf (program_of tree) i e thread edge → IsEdgeOfAction tree i thread edge
  edge-of-action i e thread edge at =
      let found = mapped-numbered (thread_graph (length (columns_of tree)) (k tree plan is well)) (threads_running tree) i thread at.thread_is in
      let t : Running = found.0 in
      let c : ℕ = n tree plan is well + k tree plan is well in
      let r = running-is tree plan is well i t found.1 in
      let g = graph-is i t found.1 in
      let has : Has (edges_from c t.frame 1 (actions_of t)) edge =
      subst (λ es. Has es edge) g.edges_are (subst (λ (x : Thread). Has x.edges edge) (sym found.2) (numbered-has thread.edges edge e at.edge_is)) in
      let is_at = edge-at c t.frame 1 (actions_of t) edge has in
      let a : Alternative = is_at.is_of.alternative in
      let from_to = edge-from c t.frame (1 + is_at.l) a edge is_at.is_of.made in
      let back : suc is_at.l ≡ edge.from = omega (arith, from_to.0) in
      record {
        running = t;
        action = is_at.action;
        alternative = a;
        n = n tree plan is well;
        running_is = found.1;
        action_is = subst (λ m. at_number (actions_of t) m ≡ Some is_at.action) back is_at.action_is;
        alternative_is = has-contains is_at.action.alternatives a is_at.is_of.is_there;
        leads = from_to.1;
        columns_are = (fronts-length tree plan is well).1;
        edge_is = subst (λ m. alternative_edge c t.frame m a ≡ Ok (Some edge)) (sym from_to.0) is_at.is_of.made;
        within = all-has (λ x. EventsWithin (n tree plan is well) t.frame x.events) is_at.action.alternatives a
            (all-has (λ (x : Action). AllByRecursion (λ y. EventsWithin (n tree plan is well) t.frame y.events) x.alternatives) (actions_of t) is_at.action
            (actions-within tree plan is well i t found.1) (number-has (actions_of t) is_at.action is_at.l is_at.action_is))
            is_at.is_of.is_there;
        counter_is = sym (ap (λ (x : Thread). x.counter) found.2) ∙ g.counter_is ∙ ap (λ m. n tree plan is well + (m - 1)) r.number;
        some = (numbered-below (threads_running tree) i t found.1).0;
        among = (numbered-below (threads_running tree) i t found.1).1;
      }
