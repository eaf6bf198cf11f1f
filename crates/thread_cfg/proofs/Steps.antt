-- What is known where a thread of a plan is looked at.
use Rattle.std.proofs.Common.{◌≡◌, ℕ, zero, suc, ◌+◌, ◌<◌, ◌≤◌, List, [], ◌∷◌, length, filter, Some, refl, sym, ap, arith, slice_get, slice_index_or, ◌∙◌}
use Rattle.std.proofs.lemmas.Option.{slice_get-map}
use Rattle.std.specs.Option.{option_map}
use Rattle.thr_base.specs.Limits.{most_columns, most_threads}
use Rattle.c_tree.specs.Plain as plain
use Rattle.c_check.specs.declared.plan.Plan.{Plan}
use Rattle.c_check.specs.declared.plan.Thread.{Thread}
use Rattle.c_check.specs.Temporaries.{need}
use Rattle.c_check.specs.Program.{functions_of}
use Rattle.c_check.specs.Check.{stored_function}
use Rattle.c_check.specs.Columns.{columns_of, threads_of}
use Rattle.c_check.specs.WellFormed.{counts_in, is_variable}
use Rattle.thread_cfg.specs.Threads.{Running, threads_running, variables_of}
use Rattle.thread_cfg.specs.Graph.{actions_of}
use Rattle.thread_cfg.specs.inside.Known.{IsKnownPlan}
use Rattle.thread_cfg.specs.inside.Within.{ActionsWithin}
use Rattle.thread_cfg.proofs.Found.{runs-there}
use Rattle.thread_cfg.proofs.Fronts.{get-below}
use Rattle.thread_cfg.proofs.Graphs.{counters-within}
use Rattle.thread_cfg.proofs.Numbered.{none-some, some-same}
use Rattle.thread_cfg.proofs.RunningThreads.{functions-there, running-is, threads-running, variables-counted}
use Rattle.thread_cfg.proofs.Withins.{thread_actions-within}

-- What is known of a thread of a plan: which one of the text runs so, with its function, and that all its actions are within the columns.
pub record IsStep (tree : plain.Tree) (plan : Plan) (i : ℕ) (thread : Thread) : Type 0 where
  pub running : Running
  pub running_is : slice_get (threads_running tree) i ≡ Some running
  pub frame_is : running.frame ≡ record { thread = i + 1; first = thread.first; variables = length (filter (λ c. is_variable c.kind) plan.columns) }
  pub function_is : slice_get plan.functions thread.function ≡ Some (stored_function running.function)
  pub function_in : thread.function < length plan.functions
  pub few_threads : i < most_threads
  pub few_columns : length plan.columns ≤ most_columns
  pub columns_are : length plan.columns ≡ length (columns_of tree)
  pub threads_are : length plan.threads ≡ length (threads_running tree)
  pub has_counters : length plan.threads ≤ length plan.columns
  pub within : ActionsWithin (length plan.columns) running.frame (actions_of running)

-- of a thread of a known plan all this is known
pub step-is : (tree : plain.Tree) (plan : Plan) (known : IsKnownPlan tree plan) (i : ℕ) (thread : Thread) → slice_get plan.threads i ≡ Some thread → IsStep tree plan i thread
step-is tree plan known i thread at =
    let there : slice_get (threads_of tree) i ≡ Some thread = ap (λ ts. slice_get ts i) (sym known.plan_is.threads_are) ∙ at in
    let r = runs-there (variables_of tree) (functions_of tree) 1 (threads_of tree) i thread (functions-there tree plan known.plan_is known.well_formed) there in
    let variables : variables_of tree ≡ length (filter (λ c. is_variable c.kind) plan.columns) =
    sym (ap (λ cs. length (filter (λ c. is_variable c.kind) cs)) known.plan_is.columns_are ∙ variables-counted tree) in
    let running : Running = record { frame = record { thread = i + 1; first = thread.first; variables = length (filter (λ c. is_variable c.kind) plan.columns) }; function = r.function } in
    let running_is : slice_get (threads_running tree) i ≡ Some running =
    r.running_is ∙ (λ d. Some (record { frame = record { thread = number i d; first = thread.first; variables = variables d }; function = r.function })) in
    let function_is : slice_get plan.functions thread.function ≡ Some (stored_function r.function) =
    ap (λ fs. slice_get fs thread.function) known.plan_is.functions_are ∙ slice_get-map stored_function (functions_of tree) thread.function ∙ ap (option_map stored_function) r.function_is in
    let is = running-is tree plan known.plan_is known.well_formed (suc i) running running_is in
    let columns : length plan.columns ≡ length (columns_of tree) = ap length known.plan_is.columns_are in
    let threads : length plan.threads ≡ length (threads_running tree) = sym (threads-running tree plan known.plan_is known.well_formed) in
    let few : length plan.columns ≤ most_columns = known.well_formed.few_columns in
    let some : length plan.threads ≤ most_threads = known.well_formed.few_threads in
    let below = get-below plan.threads i thread at in
    let counters = counters-within tree plan known.plan_is known.well_formed in
    record {
      running = running;
      running_is = running_is;
      frame_is = refl;
      function_is = function_is;
      function_in = get-below plan.functions thread.function (stored_function r.function) function_is;
      few_threads = omega (arith, below, some);
      few_columns = few;
      columns_are = columns;
      threads_are = threads;
      has_counters = omega (arith, columns, threads, counters);
      within = thread_actions-within (counts_in plan (stored_function r.function)) (need r.function.body) (length plan.columns) running.frame
          (record { variables_are = is.room.variables_are; shared = omega (arith, is.room.shared, columns); own = omega (arith, is.room.own, columns) })
          r.function.body is.has_code (omega arith);
    }
  where
    number : (i : ℕ) → 1 + i ≡ i + 1
    number i = omega arith

-- what has a number is the element there
pub index-get : {X : Type 0} → (xs : List X) (k : ℕ) (x d : X) → slice_get xs k ≡ Some x → slice_index_or xs k d ≡ x
index-get [] k x d e = absurd (none-some x e)
index-get (y ∷ xs) zero x d e = some-same y x e
index-get (y ∷ xs) (suc k) x d e = index-get xs k x d e
