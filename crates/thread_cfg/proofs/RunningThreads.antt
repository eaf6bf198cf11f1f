-- The threads that run are those of the plan, and there is room for what each of them does.
use Rattle.std.proofs.Common.{◌≡◌, ℕ, zero, suc, ◌+◌, ◌-◌, Bool, List, [], ◌∷◌, ◌++◌, map, length, filter, slice_get, length-append, Option, Some, None, refl, sym, subst, ap, ◌∙◌, arith}
use Rattle.std.specs.List.{AllByRecursion}
use Rattle.std.specs.Option.{option_map}
use Rattle.std.proofs.lemmas.List.Elements.{filter-append}
use Rattle.std.proofs.lemmas.Option.{slice_get-map}
use Rattle.lin_rows.proofs.Lists.{AllByRecursion-slice_get, AllByRecursion-weaken}
use Rattle.thr_base.specs.declared.names.ThreadNo.{ThreadNo}
use Rattle.c_tree.specs.declared.expr.Name.{Name}
use Rattle.c_tree.specs.Plain as plain
use Rattle.c_check.specs.declared.columns.OwnVariables.{OwnVariables}
use Rattle.c_check.specs.declared.plan.Column.{Column}
use Rattle.c_check.specs.declared.plan.Function as stored
use Rattle.c_check.specs.declared.plan.Plan.{Plan}
use Rattle.c_check.specs.declared.plan.Thread.{Thread}
use Rattle.c_check.specs.Plan.{code}
use Rattle.c_check.specs.Temporaries.{need}
use Rattle.c_check.specs.Program.{Function, created_of, functions_of, globals_in, locks_in}
use Rattle.c_check.specs.Check.{IsPlanOf, stored_function}
use Rattle.c_check.specs.Columns.{columns_if, columns_of, counters_from, local_columns, lock_column, own_columns_from, owns_of, shared_columns, temporary_columns, threads_of, variable_column}
use Rattle.c_check.specs.WellFormed.{HasCode, HasThread, IsWellFormedPlan, counts_in, is_variable}
use Rattle.transition_formula.specs.Program.{at_number}
use Rattle.thread_cfg.specs.Source.{Frame}
use Rattle.thread_cfg.specs.Threads.{Running, running_from, threads_running, variables_of}
use Rattle.thread_cfg.specs.Graph.{actions_of}
use Rattle.thread_cfg.specs.inside.Within.{ActionsWithin}
use Rattle.thread_cfg.proofs.Withins.{HasRoom, thread_actions-within}

-- ---- each thread has its function
-- The thread runs one of the functions.
abbrev pub HasFunction : List Function → Thread → Type 0
HasFunction functions thread = (f : Function) × (slice_get functions thread.function ≡ Some f)

-- what is there of what is mapped
pub mapped-some : {A B : Type 0} (f : A → B) (o : Option A) (y : B) → option_map f o ≡ Some y → (x : A) × (o ≡ Some x) × (f x ≡ y)
mapped-some f None y e = absurd cc
mapped-some f (Some x) y e = (x, refl, cc)

-- as many threads run as there are
running_from-length : (variables : ℕ) (functions : List Function) (i : ℕ) (ts : List Thread) → AllByRecursion (HasFunction functions) ts
    → length (running_from variables functions i ts) ≡ length ts
running_from-length variables functions i [] all = refl
running_from-length variables functions i (t ∷ ts) all = rw all.0.1 (ap suc (running_from-length variables functions (i + 1) ts all.1))

-- What is known of the running thread at place j, where the first has number i.
record RunsAt (variables : ℕ) (functions : List Function) (ts : List Thread) (i j : ℕ) (t : Running) : Type 0 where
  thread : Thread
  thread_is : slice_get ts j ≡ Some thread
  function_is : slice_get functions thread.function ≡ Some t.function
  number : t.frame.thread ≡ i + j
  first : t.frame.first ≡ thread.first
  variables_are : t.frame.variables ≡ variables

-- a running thread runs at its place
running_from-at : (variables : ℕ) (functions : List Function) (i : ℕ) (ts : List Thread) (j : ℕ) (t : Running) → AllByRecursion (HasFunction functions) ts
    → slice_get (running_from variables functions i ts) j ≡ Some t → RunsAt variables functions ts i j t
running_from-at variables functions i [] zero t all e = absurd cc
running_from-at variables functions i [] (suc j) t all e = absurd cc
running_from-at variables functions i (thread ∷ ts) zero t all e =
    let frame : Frame = record { thread = i; first = thread.first; variables = variables } in
    let here : Running = record { frame = frame; function = all.0.0 } in
    let found : Some here ≡ Some t = rw all.0.1 at e in
    let same : here ≡ t = cc in
    subst (λ (r : Running). RunsAt variables functions (thread ∷ ts) i zero r) same
    (record { thread = thread; thread_is = refl; function_is = all.0.1; number = omega arith; first = refl; variables_are = refl })
running_from-at variables functions i (thread ∷ ts) (suc j) t all e =
    let more : slice_get (running_from variables functions (i + 1) ts) j ≡ Some t = rw all.0.1 at e in
    let at = running_from-at variables functions (i + 1) ts j t all.1 more in
    record { thread = at.thread; thread_is = at.thread_is; function_is = at.function_is; number = omega (arith, at.number); first = at.first; variables_are = at.variables_are }

-- ---- how many variables there are
-- so many of joined columns pass a test as of both
count-append : (p : Column → Bool) (xs ys : List Column) → length (filter p (xs ++ ys)) ≡ length (filter p xs) + length (filter p ys)
count-append p xs ys = ap length (filter-append p xs ys) ∙ length-append (filter p xs) (filter p ys)

-- whether a column is one of a variable that all threads share
abbrev pub tells_variable : Column → Bool
tells_variable c = is_variable c.kind

-- each variable is one
count-variables : (gs : List plain.Global) → length (filter tells_variable (map variable_column gs)) ≡ length gs
count-variables [] = refl
count-variables (g ∷ gs) = ap suc (count-variables gs)

-- no lock is a variable
count-locks : (names : List Name) → length (filter tells_variable (map lock_column names)) ≡ 0
count-locks [] = refl
count-locks (x ∷ names) = count-locks names

-- no local is one that all threads share
count-locals : (i : ThreadNo) (earlier names : List (List ℕ)) → length (filter tells_variable (local_columns i earlier names)) ≡ 0
count-locals i earlier [] = refl
count-locals i earlier (name ∷ names) = count-locals i (earlier ++ name ∷ []) names

-- no temporary is one
count-temporaries : (i : ThreadNo) (earlier n : ℕ) → length (filter tells_variable (temporary_columns i earlier n)) ≡ 0
count-temporaries i earlier zero = refl
count-temporaries i earlier (suc n) = count-temporaries i (earlier + 1) n

-- nothing of one thread's own is one
count-own : (i : ThreadNo) (own : Option OwnVariables) → length (filter tells_variable (columns_if i own)) ≡ 0
count-own i None = refl
count-own i (Some own) =
    omega (arith, count-append tells_variable (local_columns i [] own.locals) (temporary_columns i 0 own.temporaries), count-locals i [] own.locals, count-temporaries i 0 own.temporaries)

-- nothing of the threads' own is one
count-owns : (owns : List OwnVariables) (i : ℕ) (ns : List ℕ) → length (filter tells_variable (own_columns_from owns i ns)) ≡ 0
count-owns owns i [] = refl
count-owns owns i (n ∷ ns) =
    let number : ThreadNo = record { 0 = i } in
    omega (arith, count-append tells_variable (columns_if number (slice_get owns n)) (own_columns_from owns (i + 1) ns), count-own number (slice_get owns n), count-owns owns (i + 1) ns)

-- no counter is one
count-counters : (i : ℕ) (ns : List ℕ) → length (filter tells_variable (counters_from i ns)) ≡ 0
count-counters i [] = refl
count-counters i (n ∷ ns) = count-counters (i + 1) ns

-- a text has as many columns of variables as it declares
pub variables-counted : (tree : plain.Tree) → length (filter tells_variable (columns_of tree)) ≡ variables_of tree
variables-counted tree =
    let variables = map variable_column (globals_in tree.items) in
    let locks = map lock_column (locks_in tree.items) in
    let owns = own_columns_from (owns_of tree) 1 (created_of tree) in
    let counters = counters_from 1 (created_of tree) in
    omega (
      arith,
      count-append tells_variable (shared_columns tree) (owns ++ counters),
      count-append tells_variable variables locks,
      count-append tells_variable owns counters,
      count-variables (globals_in tree.items),
      count-locks (locks_in tree.items),
      count-owns (owns_of tree) 1 (created_of tree),
      count-counters 1 (created_of tree),
    )

-- ---- the threads of a plan
module _ (tree : plain.Tree) (plan : Plan) (is : IsPlanOf tree plan) (well : IsWellFormedPlan plan) where
  -- a function of the plan is one of the text
  function-of : (k : ℕ) (g : stored.Function) → slice_get plan.functions k ≡ Some g → (f : Function) × (slice_get (functions_of tree) k ≡ Some f) × (stored_function f ≡ g)
  function-of k g e =
      mapped-some stored_function (slice_get (functions_of tree) k) g
      (sym (slice_get-map stored_function (functions_of tree) k) ∙ ap (λ fs. slice_get fs k) (sym is.functions_are) ∙ e)

  -- each thread of the text runs one of its functions
  pub functions-there : AllByRecursion (HasFunction (functions_of tree)) (threads_of tree)
  functions-there =
      subst (AllByRecursion (HasFunction (functions_of tree))) is.threads_are
      (AllByRecursion-weaken (HasThread plan) (HasFunction (functions_of tree)) (λ thread h. let f = function-of thread.function h.function h.function_is in (f.0, f.1)) plan.threads well.threads_are)

  -- As many threads run as the plan has.
  pub threads-running : length (threads_running tree) ≡ length plan.threads
  threads-running = running_from-length (variables_of tree) (functions_of tree) 1 (threads_of tree) functions-there ∙ ap length (sym is.threads_are)

-- What is known of the i-th thread that runs: its number, that its function names only what there is, and that there is room for it.
pub record IsRunning (tree : plain.Tree) (plan : Plan) (i : ℕ) (t : Running) : Type 0 where
  pub number : t.frame.thread ≡ i
  pub has_code : HasCode (counts_in plan (stored_function t.function)) (code t.function.body)
  pub room : HasRoom (counts_in plan (stored_function t.function)) (need t.function.body) (length (columns_of tree) - length (threads_running tree)) t.frame

module _ (tree : plain.Tree) (plan : Plan) (is : IsPlanOf tree plan) (well : IsWellFormedPlan plan) where
  -- a thread at a place of the list runs
  running-at : (j : ℕ) (t : Running) → RunsAt (variables_of tree) (functions_of tree) (threads_of tree) 1 j t → IsRunning tree plan (suc j) t
  running-at j t at =
      let given : slice_get plan.threads j ≡ Some at.thread = ap (λ ts. slice_get ts j) is.threads_are ∙ at.thread_is in
      let has = AllByRecursion-slice_get (HasThread plan) plan.threads j at.thread well.threads_are given in
      let stored_is : slice_get plan.functions at.thread.function ≡ Some (stored_function t.function) =
      ap (λ fs. slice_get fs at.thread.function) is.functions_are ∙ slice_get-map stored_function (functions_of tree) at.thread.function ∙ ap (option_map stored_function) at.function_is in
      let both : Some has.function ≡ Some (stored_function t.function) = sym has.function_is ∙ stored_is in
      let same : has.function ≡ stored_function t.function = cc in
      let locals : has.function.locals ≡ length t.function.locals = ap (λ f. f.locals) same in
      let temporaries : has.function.temporaries ≡ need t.function.body = ap (λ f. f.temporaries) same in
      let shared : length (filter tells_variable plan.columns) ≡ variables_of tree = ap (λ cs. length (filter tells_variable cs)) is.columns_are ∙ variables-counted tree in
      let columns : length plan.columns ≡ length (columns_of tree) = ap length is.columns_are in
      let running = threads-running tree plan is well in
      record {
        number = omega (arith, at.number);
        has_code = AllByRecursion-slice_get (λ f. HasCode (counts_in plan f) f.body) plan.functions at.thread.function (stored_function t.function) well.functions_are stored_is;
        room = record {
          variables_are = at.variables_are ∙ sym shared;
          shared = omega (arith, has.behind_shared, has.before_counters, running, columns);
          own = omega (arith, has.before_counters, running, columns, at.first, locals, temporaries);
        };
      }

  -- The i-th thread that runs has number i, its function names only what there is, and there is room for it.
  pub running-is : (i : ℕ) (t : Running) → at_number (threads_running tree) i ≡ Some t → IsRunning tree plan i t
  running-is zero t e = absurd cc
  running-is (suc j) t e = running-at j t (running_from-at (variables_of tree) (functions_of tree) 1 (threads_of tree) j t (functions-there tree plan is well) e)

  -- All that it does is within the columns of variables and locks.
  pub actions-within : (i : ℕ) (t : Running) → at_number (threads_running tree) i ≡ Some t
      → ActionsWithin (length (columns_of tree) - length (threads_running tree)) t.frame (actions_of t)
  actions-within i t e =
      let r = running-is i t e in
      thread_actions-within (counts_in plan (stored_function t.function)) (need t.function.body) (length (columns_of tree) - length (threads_running tree)) t.frame r.room
      t.function.body r.has_code (omega arith)
