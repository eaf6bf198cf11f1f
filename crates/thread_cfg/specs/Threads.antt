-- The threads of a text that run.
use Rattle.std.specs.Prelude.{ℕ, ◌+◌, List, [], ◌∷◌, ◌++◌, length, slice_get, Option, Some, None}
use Rattle.c_tree.specs.Plain as plain
use Rattle.c_check.specs.declared.plan.Thread as stored_thread
use Rattle.c_check.specs.Program.{Function, functions_of, globals_in}
use Rattle.c_check.specs.Columns.{threads_of}
use Rattle.thread_cfg.specs.Source.{Frame}

-- a thread, and the function that it runs
pub record Running : Type 0 where
  pub frame : Frame
  pub function : Function

-- the thread with its function, where there is such a function
abbrev pub running_if : Frame → Option Function → List Running
running_if frame None = []
running_if frame (Some f) = record { frame = frame; function = f } ∷ []

-- threads, the first of which has this number
abbrev pub running_from : ℕ → List Function → ℕ → List stored_thread.Thread → List Running
running_from variables functions i [] = []
running_from variables functions i (t ∷ ts) =
    running_if (record { thread = i; first = t.first; variables = variables }) (slice_get functions t.function)
    ++ running_from variables functions (i + 1) ts

-- how many variables all threads share
abbrev pub variables_of : plain.Tree → ℕ
variables_of tree = length (globals_in tree.items)

-- in the order of their creation
abbrev pub threads_running : plain.Tree → List Running
threads_running tree = running_from (variables_of tree) (functions_of tree) 1 (threads_of tree)
