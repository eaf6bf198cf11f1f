-- What is found of the threads of a plan, one after another, is what there is of those that run.
use Rattle.std.proofs.Common.{◌≡◌, ℕ, zero, suc, ◌+◌, List, [], ◌∷◌, Some, ap, subst, arith, slice_get, ◌∙◌}
use Rattle.std.specs.List.{AllByRecursion}
use Rattle.c_check.specs.declared.plan.Thread.{Thread}
use Rattle.c_check.specs.Program.{Function}
use Rattle.thread_cfg.specs.Threads.{running_from}
use Rattle.thread_cfg.proofs.Numbered.{none-some, some-same}
use Rattle.thread_cfg.proofs.RunningThreads.{HasFunction}

-- The j-th thread runs, with its function.
pub record RunsThere (variables : ℕ) (functions : List Function) (ts : List Thread) (i j : ℕ) (thread : Thread) : Type 0 where
  pub function : Function
  pub function_is : slice_get functions thread.function ≡ Some function
  pub running_is : slice_get (running_from variables functions i ts) j
      ≡ Some (record { frame = record { thread = i + j; first = thread.first; variables = variables }; function = function })

-- the j-th of threads that have functions runs, with its function
pub runs-there : (variables : ℕ) (functions : List Function) (i : ℕ) (ts : List Thread) (j : ℕ) (thread : Thread) → AllByRecursion (HasFunction functions) ts
    → slice_get ts j ≡ Some thread → RunsThere variables functions ts i j thread
runs-there variables functions i [] j thread all e = absurd (none-some thread e)
runs-there variables functions i (t ∷ ts) zero thread all e =
    let same : t ≡ thread = some-same t thread e in
    subst (λ (x : Thread). RunsThere variables functions (t ∷ ts) i zero x) same (record {
      function = all.0.0;
      function_is = all.0.1;
      running_is = rw all.0.1 (ap (λ n. Some (record { frame = record { thread = n; first = t.first; variables = variables }; function = all.0.0 })) (plus-zero i));
    })
  where
    plus-zero : (i : ℕ) → i ≡ i + 0
    plus-zero i = omega arith
runs-there variables functions i (t ∷ ts) (suc j) thread all e =
    let more = runs-there variables functions (i + 1) ts j thread all.1 e in
    record {
      function = more.function;
      function_is = more.function_is;
      running_is = rw all.0.1 (more.running_is ∙ ap (λ n. Some (record { frame = record { thread = n; first = thread.first; variables = variables }; function = more.function })) (plus-suc i j));
    }
  where
    plus-suc : (i j : ℕ) → i + 1 + j ≡ i + suc j
    plus-suc i j = omega arith
