-- The edges of a thread are what a program asks for: they lead from its locations to its locations, and there are not too many.
use Rattle.std.proofs.Common.{◌≡◌, ℕ, suc, ◌+◌, ◌*◌, ◌<◌, ◌≤◌, Bool, true, false, cond, List, [], ◌∷◌, ◌++◌, map, flat_map, length, length-append, Option, Some, None, Result, Ok, Err, refl, subst, ap, ◌∙◌, arith}
use Rattle.std.specs.Prelude.{nat_lt}
use Rattle.std.specs.List.{AllByRecursion, list_any}
use Rattle.std.proofs.lemmas.Bool.{or_parts}
use Rattle.std.proofs.lemmas.Bool.Decides.{nat_tests}
use Rattle.lin_rows.proofs.Lists.{AllByRecursion-append}
use Rattle.lin_rows.specs.System.{IsRowOver}
use Rattle.thr_base.specs.Limits.{most_edges, most_locations, most_paths, most_tests}
use Rattle.c_check.specs.declared.meaning.Variable.{Variable}
use Rattle.c_check.specs.Plan.{Arithmetic, Test, Condition, Stmt, Stmts}
use Rattle.c_check.specs.Items.{shared_in}
use Rattle.transition_formula.specs.Program.{Edge, IsEdge, IsFormOver, Program, Thread, first_counter}
use Rattle.thread_cfg.specs.declared.relation.Relation.{Relation}
use Rattle.thread_cfg.specs.Source.{Frame}
use Rattle.thread_cfg.specs.Path.{Path, block_paths, when_false, when_true}
use Rattle.thread_cfg.specs.Action.{Action, Alternative, Around, actions, assign_accesses, assign_reads, compare_accesses, compare_reads, condition_actions, condition_size, entry, exit_of, path_alternative, path_target, read_actions, requiring, size, stmt_actions, stmt_size, test_actions, test_size, thread_actions}
use Rattle.thread_cfg.specs.Edge.{alternative_edge}
use Rattle.thread_cfg.specs.Threads.{Running}
use Rattle.thread_cfg.specs.Graph.{action_edges, action_refusals, actions_of, edge_made, edges_from, is_long, is_too_large, locations_of, refusals_from, thread_refusals, unfit}
use Rattle.thread_cfg.specs.inside.Within.{ActionsWithin}
use Rattle.thread_cfg.specs.Within.{EventsWithin}
use Rattle.thread_cfg.proofs.Edges.{edge-from, edge-is}
use Rattle.thread_cfg.proofs.Entries.{reads-before-length}
use Rattle.thread_cfg.proofs.Lists.{nil-front, nil-rest}

-- ---- how many actions there are, and where they lead
-- The ways on lead no further than to this location.
abbrev AlternativesTo : ℕ → List Alternative → Type 0
AlternativesTo exit alternatives = AllByRecursion (λ a. a.to ≤ exit) alternatives

-- The actions lead no further than to this location.
abbrev pub ActionsTo : ℕ → List Action → Type 0
ActionsTo exit steps = AllByRecursion (λ action. AlternativesTo exit action.alternatives) steps

-- The target, if there is one, is no further than this location.
abbrev TargetTo : ℕ → Option ℕ → Type 0
TargetTo exit None = Unit {0}
TargetTo exit (Some to) = to ≤ exit

-- There are so many actions, and none leads beyond the exit.
pub record AreLaid (exit count : ℕ) (steps : List Action) : Type 0 where
  pub leads : ActionsTo exit steps
  pub long : length steps ≡ count

-- actions behind others are as many as both, and lead no further
laid-both : (exit m k : ℕ) (xs ys : List Action) → AreLaid exit m xs → AreLaid exit k ys → AreLaid exit (m + k) (xs ++ ys)
laid-both exit m k xs ys p q = record {
  leads = AllByRecursion-append (λ action. AlternativesTo exit action.alternatives) xs ys p.leads q.leads;
  long = omega (arith, length-append xs ys, p.long, q.long);
}

-- one action is one
laid-one : (exit : ℕ) (action : Action) → AlternativesTo exit action.alternatives → AreLaid exit 1 (action ∷ [])
laid-one exit action h = record { leads = (h, tt); long = refl }

-- what leads to a side leads to its location
requiring-to : (exit from : ℕ) (rs : List Relation) (a b : Arithmetic) (to : Option ℕ) → TargetTo exit to → AlternativesTo exit (requiring from rs a b to)
requiring-to exit from rs a b None h = tt
requiring-to exit from [] a b (Some to) h = tt
requiring-to exit from (r ∷ rs) a b (Some to) h = (h, requiring-to exit from rs a b (Some to) h)

-- each read leads to the next location
reads-laid : (exit from : ℕ) (rs : List (Variable × Variable)) (at : ℕ) → at + length rs ≤ exit → AreLaid exit (length rs) (read_actions from rs at)
reads-laid exit from [] at h = record { leads = tt; long = refl }
reads-laid exit from (r ∷ rs) at h =
    let more = reads-laid exit from rs (at + 1) (omega (arith, h)) in
    let here : at + 1 ≤ exit = omega (arith, h) in
    record { leads = ((here, tt), more.leads); long = ap suc more.long }

-- reads in front of one more action
reads-then : (exit from : ℕ) (rs : List (Variable × Variable)) (at count : ℕ) (action : Action) → length rs ≡ count → at + (count + 1) ≤ exit
    → AlternativesTo exit action.alternatives → AreLaid exit (count + 1) (read_actions from rs at ++ action ∷ [])
reads-then exit from rs at count action e h leads =
    let front = reads-laid exit from rs at (omega (arith, h)) in
    laid-both exit count 1 (read_actions from rs at) (action ∷ []) (record { leads = front.leads; long = front.long ∙ e }) (laid-one exit action leads)

-- the actions of a test are as many as its size says, and lead no further
test-laid : (exit temporary at : ℕ) (t f : Option ℕ) (u : Test) → TargetTo exit t → TargetTo exit f → at + test_size u ≤ exit
    → AreLaid exit (test_size u) (test_actions temporary at t f u)
test-laid exit temporary at t f (Test.Compare from m a b) ts fs h =
    reads-then exit from (compare_reads temporary a b) at (length (compare_reads 0 a b)) _ (reads-before-length temporary (compare_accesses a b) (shared_in a ++ shared_in b)) h
    (AllByRecursion-append (λ a. a.to ≤ exit) (requiring from (when_true m) _ _ t) (requiring from (when_false m) _ _ f)
    (requiring-to exit from (when_true m) _ _ t ts) (requiring-to exit from (when_false m) _ _ f fs))
test-laid exit temporary at t f (Test.Not u) ts fs h = test-laid exit temporary at f t u fs ts h
test-laid exit temporary at t f (Test.And u v) ts fs h =
    let middle : at + test_size u ≤ exit = omega (arith, h) in
    laid-both exit (test_size u) (test_size v) (test_actions temporary at (Some (at + test_size u)) f u) (test_actions temporary (at + test_size u) t f v)
    (test-laid exit temporary at (Some (at + test_size u)) f u middle fs middle) (test-laid exit temporary (at + test_size u) t f v ts fs (omega (arith, h)))
test-laid exit temporary at t f (Test.Or u v) ts fs h =
    let middle : at + test_size u ≤ exit = omega (arith, h) in
    laid-both exit (test_size u) (test_size v) (test_actions temporary at t (Some (at + test_size u)) u) (test_actions temporary (at + test_size u) t f v)
    (test-laid exit temporary at t (Some (at + test_size u)) u ts middle middle) (test-laid exit temporary (at + test_size u) t f v ts fs (omega (arith, h)))

-- and those of a condition
condition-laid : (exit temporary at t f : ℕ) (c : Condition) → t ≤ exit → f ≤ exit → at + condition_size c ≤ exit
    → AreLaid exit (condition_size c) (condition_actions temporary at t f c)
condition-laid exit temporary at t f (Condition.Choice from) ts fs h = record { leads = ((ts, (fs, tt)), tt); long = refl }
condition-laid exit temporary at t f (Condition.Tested from u) ts fs h = test-laid exit temporary at (Some t) (Some f) u ts fs h

-- statements begin no further than the exit
entry-to : (exit : ℕ) (ss : Stmts) (at next : ℕ) → at ≤ exit → next ≤ exit → entry ss at next ≤ exit
entry-to exit Stmts.End at next h k = k
entry-to exit (Stmts.Then s rest) at next h k = h

-- the paths of a block lead to the next location or to that of failing
path-to : (exit next : ℕ) (ps : List Path) → next ≤ exit → AlternativesTo exit (map (path_alternative next) ps)
path-to exit next [] h = tt
path-to exit next (p ∷ ps) h = (by p.fails, path-to exit next ps h)
  where
    by : (fails : Bool) → path_target next fails ≤ exit
    by true = omega arith
    by false = h

-- The exit of what stands around, and the location behind the innermost loop, are no further.
record IsAround (exit : ℕ) (around : Around) : Type 0 where
  ends : around.exit ≤ exit
  leaves : around.out ≤ exit

mutual
  -- the actions of a statement are as many as its size says, and lead no further
  stmt-laid : (exit : ℕ) (around : Around) (at next : ℕ) (s : Stmt) → IsAround exit around → next ≤ exit → at + stmt_size s ≤ exit
      → AreLaid exit (stmt_size s) (stmt_actions around at next s)
  stmt-laid exit around at next (Stmt.Assign from place v e) is n h =
      reads-then exit from (assign_reads around.temporary v e) at (length (assign_reads 0 v e)) _ (reads-before-length around.temporary (assign_accesses v e) (shared_in e)) h (n, tt)
  stmt-laid exit around at next (Stmt.AssignAny from v) is n h = record { leads = ((n, tt), tt); long = refl }
  stmt-laid exit around at next (Stmt.If from c ts es) is n h =
      let front : ℕ = at + condition_size c in
      let behind : ℕ = front + size ts in
      let fits : behind + size es ≤ exit = omega (arith, h) in
      laid-both exit (condition_size c) (size ts + size es) (condition_actions around.temporary at (entry ts front next) (entry es behind next) c) _
      (condition-laid exit around.temporary at (entry ts front next) (entry es behind next) c (entry-to exit ts front next (omega (arith, fits)) n) (entry-to exit es behind next (omega (arith, fits)) n) (omega (arith, h)))
      (laid-both exit (size ts) (size es) (actions around front next ts) (actions around behind next es)
      (stmts-laid exit around front next ts is n (omega (arith, fits))) (stmts-laid exit around behind next es is n fits))
  stmt-laid exit around at next (Stmt.Loop from c body last) is n h =
      let front : ℕ = at + condition_size c in
      let behind : ℕ = front + size body in
      let fits : behind + size last ≤ exit = omega (arith, h) in
      let here : at ≤ exit = omega (arith, h) in
      let inner : Around = record around { out = next } in
      let within : IsAround exit inner = record { ends = is.ends; leaves = n } in
      let then = entry-to exit last behind at (omega (arith, fits)) here in
      laid-both exit (condition_size c) (size body + size last) (condition_actions around.temporary at (entry body front (entry last behind at)) next c) _
      (condition-laid exit around.temporary at (entry body front (entry last behind at)) next c (entry-to exit body front (entry last behind at) (omega (arith, fits)) then) n (omega (arith, h)))
      (laid-both exit (size body) (size last) (actions inner front (entry last behind at) body) (actions inner behind at last)
      (stmts-laid exit inner front (entry last behind at) body within then (omega (arith, fits))) (stmts-laid exit inner behind at last within here fits))
  stmt-laid exit around at next (Stmt.Break from) is n h = record { leads = ((is.leaves, tt), tt); long = refl }
  stmt-laid exit around at next (Stmt.Exit from) is n h = record { leads = ((is.ends, tt), tt); long = refl }
  stmt-laid exit around at next (Stmt.Lock from lock) is n h = record { leads = ((n, tt), tt); long = refl }
  stmt-laid exit around at next (Stmt.Unlock from lock) is n h = let none : 0 ≤ exit = omega arith in record { leads = ((n, (none, (none, tt))), tt); long = refl }
  stmt-laid exit around at next (Stmt.Assert from t) is n h = let none : 0 ≤ exit = omega arith in test-laid exit around.temporary at (Some next) (Some 0) t n none h
  stmt-laid exit around at next (Stmt.Assume from t) is n h = test-laid exit around.temporary at (Some next) None t n tt h
  stmt-laid exit around at next (Stmt.Atomic from inner) is n h = record { leads = (path-to exit next (block_paths inner) n, tt); long = refl }

  -- and those of statements
  stmts-laid : (exit : ℕ) (around : Around) (at next : ℕ) (ss : Stmts) → IsAround exit around → next ≤ exit → at + size ss ≤ exit
      → AreLaid exit (size ss) (actions around at next ss)
  stmts-laid exit around at next Stmts.End is n h = record { leads = tt; long = refl }
  stmts-laid exit around at next (Stmts.Then s rest) is n h =
      let then = entry-to exit rest (at + stmt_size s) next (omega (arith, h)) n in
      laid-both exit (stmt_size s) (size rest) (stmt_actions around at (entry rest (at + stmt_size s) next) s) (actions around (at + stmt_size s) next rest)
      (stmt-laid exit around at (entry rest (at + stmt_size s) next) s is then (omega (arith, h))) (stmts-laid exit around (at + stmt_size s) next rest is n (omega (arith, h)))

-- A thread has one action for each location but that of failing and the last, and none leads beyond the last.
pub thread_actions-laid : (frame : Frame) (temporary : ℕ) (body : Stmts) → AreLaid (exit_of body) (size body) (thread_actions frame temporary body)
thread_actions-laid frame temporary body =
    let around : Around = record { frame = frame; temporary = temporary; exit = exit_of body; out = exit_of body } in
    stmts-laid (exit_of body) around 1 (exit_of body) body (record { ends = omega arith; leaves = omega arith }) (omega arith) (omega arith)

-- ---- what is not refused
-- a number that is not above another is at most that
not_above : (a b : ℕ) → nat_lt a b ≡ false → b ≤ a
not_above a b e = grind (arith, nat_tests)

-- where nothing is refused, it is not for this
unless-refused : {A : Type 0} (b : Bool) (x : A) (ys : List A) → cond b (x ∷ []) ys ≡ [] → (b ≡ false) × (ys ≡ [])
unless-refused true x ys e = absurd cc
unless-refused false x ys e = (refl, e)

-- where no way on is long, each is short
not_long : (xs : List Alternative) → list_any is_long xs ≡ false → AllByRecursion (λ a. length a.events ≤ most_tests) xs
not_long [] e = tt
not_long (a ∷ xs) e = let parts = or_parts (is_long a) (list_any is_long xs) e in (not_above most_tests (length a.events) parts.0, not_long xs parts.1)

-- The action has few ways on, and on none of them too much happens.
pub record IsSmall (action : Action) : Type 0 where
  pub few : length action.alternatives ≤ most_paths
  pub short : AllByRecursion (λ a. length a.events ≤ most_tests) action.alternatives

-- an action that is not refused is small
action-small : (columns : ℕ) (frame : Frame) (at : ℕ) (action : Action) → action_refusals columns frame at action ≡ [] → IsSmall action
action-small columns frame at action e =
    let fits = unless-refused (is_too_large action) _ (flat_map (λ a. unfit (alternative_edge columns frame at a)) action.alternatives) e in
    let parts = or_parts (nat_lt most_paths (length action.alternatives)) (list_any is_long action.alternatives) fits.0 in
    record { few = not_above most_paths (length action.alternatives) parts.0; short = not_long action.alternatives parts.1 }

-- so is each of actions that are not refused
actions-small : (columns : ℕ) (frame : Frame) (at : ℕ) (steps : List Action) → refusals_from columns frame at steps ≡ [] → AllByRecursion IsSmall steps
actions-small columns frame at [] e = tt
actions-small columns frame at (action ∷ steps) e =
    let rest = refusals_from columns frame (at + 1) steps in (
      action-small columns frame at action (nil-front (action_refusals columns frame at action) rest e),
      actions-small columns frame (at + 1) steps (nil-rest (action_refusals columns frame at action) rest e),
    )

-- ---- edges
-- What is asked of each edge that is made of a way on.
edges-all : (P : Edge → Type 0) (columns : ℕ) (frame : Frame) (at : ℕ) (xs : List Alternative)
    → AllByRecursion (λ a. (edge : Edge) → alternative_edge columns frame at a ≡ Ok (Some edge) → P edge) xs
    → AllByRecursion P (flat_map (λ a. edge_made (alternative_edge columns frame at a)) xs)
edges-all P columns frame at [] all = tt
edges-all P columns frame at (a ∷ xs) all =
    AllByRecursion-append P (edge_made (alternative_edge columns frame at a)) _ (by (alternative_edge columns frame at a) refl) (edges-all P columns frame at xs all.1)
  where
    by : (made : Result (Option Edge) ℕ) → alternative_edge columns frame at a ≡ made → AllByRecursion P (edge_made made)
    by (Ok (Some edge)) e = (all.0 edge e, tt)
    by (Ok None) e = tt
    by (Err from) e = tt

-- one edge is made at most
made-few : (made : Result (Option Edge) ℕ) → length (edge_made made) ≤ 1
made-few (Ok (Some edge)) = omega arith
made-few (Ok None) = omega arith
made-few (Err from) = omega arith

-- at most one edge is made of each way on
edges-few : (columns : ℕ) (frame : Frame) (at : ℕ) (xs : List Alternative) → length (flat_map (λ a. edge_made (alternative_edge columns frame at a)) xs) ≤ length xs
edges-few columns frame at [] = omega arith
edges-few columns frame at (a ∷ xs) =
    let more = edges-few columns frame at xs in
    let rest = flat_map (λ x. edge_made (alternative_edge columns frame at x)) xs in
    omega (arith, length-append (edge_made (alternative_edge columns frame at a)) rest, made-few (alternative_edge columns frame at a), more)

-- there are at most so many edges for each action
edges_from-few : (columns : ℕ) (frame : Frame) (at : ℕ) (steps : List Action) → AllByRecursion IsSmall steps → length (edges_from columns frame at steps) ≤ length steps * most_paths
edges_from-few columns frame at [] all = omega arith
edges_from-few columns frame at (action ∷ steps) all =
    let here = edges-few columns frame at action.alternatives in
    let more = edges_from-few columns frame (at + 1) steps all.1 in
    omega (arith, length-append (action_edges columns frame at action) (edges_from columns frame (at + 1) steps), all.0.few, here, more)

module _ (program : Program) (thread : Thread) (n columns : ℕ) (frame : Frame) (columns_are : columns ≡ length program.columns) (counters_are : n ≡ first_counter program) where
  -- the edge of an alternative within the limits is one that a program may have
  made-edge : (at : ℕ) (a : Alternative) (edge : Edge) → 0 < at → at < thread.locations → a.to < thread.locations → length a.events ≤ most_tests
      → EventsWithin n frame a.events → alternative_edge columns frame at a ≡ Ok (Some edge) → IsEdge program thread edge
  made-edge at a edge some here there short within e =
      let from = edge-from columns frame at a edge e in
      let is = edge-is n columns frame at a edge within e in
      record {
        leaves_no_failure = omega (arith, from.0, some);
        from_location = omega (arith, from.0, here);
        to_location = omega (arith, from.1, there);
        few_inputs = omega (arith, is.few_inputs, short);
        few_tests = omega (arith, is.few_tests, short);
        tests_over = subst (λ (w : ℕ). AllByRecursion (IsRowOver (w + edge.inputs)) edge.tests) columns_are is.tests_over;
        forms_over = subst (λ (w : ℕ). AllByRecursion (λ set. IsFormOver (w + edge.inputs) set.1) edge.sets) columns_are is.forms_over;
        sets_no_counter = subst (λ (m : ℕ). AllByRecursion (λ set. set.0 < m) edge.sets) counters_are is.sets_no_counter;
        sets_none_twice = is.sets_none_twice;
      }

  -- each edge that is made of a way on is what a program asks for
  made-each : (at : ℕ) (xs : List Alternative) → 0 < at → at < thread.locations → AllByRecursion (λ a. a.to < thread.locations) xs
      → AllByRecursion (λ a. length a.events ≤ most_tests) xs → AllByRecursion (λ a. EventsWithin n frame a.events) xs
      → AllByRecursion (λ a. (edge : Edge) → alternative_edge columns frame at a ≡ Ok (Some edge) → IsEdge program thread edge) xs
  made-each at [] some here there short within = tt
  made-each at (a ∷ xs) some here there short within =
      ((λ edge e. made-edge at a edge some here there.0 short.0 within.0 e), made-each at xs some here there.1 short.1 within.1)

  -- The edges of actions are those of a program, where the actions are within it.
  pub edges_from-are : (exit at : ℕ) (steps : List Action) → 0 < at → thread.locations ≡ exit + 1 → at + length steps ≤ exit → ActionsTo exit steps
      → AllByRecursion IsSmall steps → ActionsWithin n frame steps → AllByRecursion (IsEdge program thread) (edges_from columns frame at steps)
  edges_from-are exit at [] some locations h leads small within = tt
  edges_from-are exit at (action ∷ steps) some locations h leads small within =
      AllByRecursion-append (IsEdge program thread) (action_edges columns frame at action) (edges_from columns frame (at + 1) steps)
      (edges-all (IsEdge program thread) columns frame at action.alternatives
      (made-each at action.alternatives some (omega (arith, locations, h)) (before-exit action.alternatives leads.0) small.0.short within.0))
      (edges_from-are exit (at + 1) steps (omega arith) locations (omega (arith, h)) leads.1 small.1 within.1)
    where
      before-exit : (xs : List Alternative) → AlternativesTo exit xs → AllByRecursion (λ a. a.to < thread.locations) xs
      before-exit [] all = tt
      before-exit (a ∷ xs) all = (omega (arith, all.0, locations), before-exit xs all.1)

-- ---- threads
-- What is known of the edges of a thread that is not refused, as one of the program.
pub record HasEdges (program : Program) (columns : ℕ) (t : Running) (thread : Thread) : Type 0 where
  pub few_locations : locations_of t ≤ most_locations
  pub few_edges : length (edges_from columns t.frame 1 (actions_of t)) ≤ most_edges
  pub edges_are : AllByRecursion (IsEdge program thread) (edges_from columns t.frame 1 (actions_of t))

-- The edges of a thread that is not refused are what a program asks for.
pub thread-edges : (program : Program) (thread : Thread) (n columns : ℕ) (t : Running) → columns ≡ length program.columns → n ≡ first_counter program
    → thread.locations ≡ locations_of t → ActionsWithin n t.frame (actions_of t) → thread_refusals columns t ≡ [] → HasEdges program columns t thread
thread-edges program thread n columns t columns_are counters_are locations within e =
    let fits = unless-refused (nat_lt most_locations (locations_of t)) _ (refusals_from columns t.frame 1 (actions_of t)) e in
    let few = not_above most_locations (locations_of t) fits.0 in
    let small = actions-small columns t.frame 1 (actions_of t) fits.1 in
    let laid = thread_actions-laid t.frame (length t.function.locals) t.function.body in
    record {
      few_locations = few;
      few_edges = omega (arith, edges_from-few columns t.frame 1 (actions_of t) small, laid.long, few);
      edges_are = edges_from-are program thread n columns t.frame columns_are counters_are (exit_of t.function.body) 1 (actions_of t) (omega arith) locations (omega (arith, laid.long)) laid.leads small within;
    }
