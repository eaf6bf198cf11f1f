-- The interleavings of a text's threads, and when they fail: in the words of the source alone; and what the program says of them.
use Rattle.std.specs.Prelude.{◌≡◌, ℕ, ◌-◌, ℤ, pos, List, [], ◌∷◌, map, slice_get, slice_set, Some}
use Rattle.c_tree.specs.Plain as plain
use Rattle.c_check.specs.Check.{function_items}
use Rattle.transition_formula.specs.Program.{IsThreadOf, Program, Thread, at_number}
use Rattle.transition_formula.specs.Step.{IsInitial}
use Rattle.transition_formula.specs.Run.{IsRun, Run}
use Rattle.thread_cfg.specs.Source.{SourceSteps, Standing}
use Rattle.thread_cfg.specs.Threads.{Running, threads_running}
use Rattle.thread_cfg.specs.Columns.{program_column, value_columns}

-- the values of all variables and locks, and how each thread stands
pub record Configuration : Type 0 where
  pub values : List ℤ
  pub standings : List Standing

-- A step of an interleaving: the number of the thread that steps, from 1, and what it does: the values that it leaves, and how it
-- then stands.
pub record SourceStep : Type 0 where
  pub thread : ℕ
  pub values : List ℤ
  pub standing : Standing

-- A start, and the steps from there.
pub record Interleaving : Type 0 where
  pub start : Configuration
  pub steps : List SourceStep

-- At the start each variable has a value that it may start with, and each thread has all of its function to do.
pub record IsStart (tree : plain.Tree) (configuration : Configuration) : Type 0 where
  pub values_start : IsInitial (map program_column (value_columns tree)) configuration.values
  pub standings_are : configuration.standings ≡ map (λ t. Standing.Doing (function_items t.function)) (threads_running tree)

-- The step leads from the configuration before to the one after: its thread may step so, and the others stay as they are.
pub record Interleaves (tree : plain.Tree) (taken : SourceStep) (before after : Configuration) : Type 0 where
  pub running : Running
  pub standing : Standing
  pub thread_is : at_number (threads_running tree) taken.thread ≡ Some running
  pub stands : at_number before.standings taken.thread ≡ Some standing
  pub steps : SourceSteps running.frame before.values standing taken.values taken.standing
  pub leads : after ≡ record { values = taken.values; standings = slice_set before.standings (taken.thread - 1) taken.standing }

-- The steps lead, one after another, from a configuration to the last one.
abbrev pub InterleaveTo : plain.Tree → Configuration → List SourceStep → Configuration → Type 0
InterleaveTo tree configuration [] last = configuration ≡ last
InterleaveTo tree configuration (taken ∷ steps) last =
    (next : Configuration) × Interleaves tree taken configuration next × InterleaveTo tree next steps last

-- The interleaving begins at a start, and its steps lead to its last configuration.
pub record IsInterleaving (tree : plain.Tree) (interleaving : Interleaving) (last : Configuration) : Type 0 where
  pub starts : IsStart tree interleaving.start
  pub lead : InterleaveTo tree interleaving.start interleaving.steps last

-- The i-th thread has failed.
pub record HasFailed (configuration : Configuration) : Type 0 where
  pub i : ℕ
  pub failed : at_number configuration.standings i ≡ Some Standing.Failed

-- Some interleaving of the text's threads makes one of them fail.
pub record TextFails (tree : plain.Tree) : Type 0 where
  pub interleaving : Interleaving
  pub last : Configuration
  pub is_interleaving : IsInterleaving tree interleaving last
  pub fails : HasFailed last

-- Some interleaving of the text's threads makes the i-th one fail.
pub record ThreadFails (tree : plain.Tree) (i : ℕ) : Type 0 where
  pub interleaving : Interleaving
  pub last : Configuration
  pub is_interleaving : IsInterleaving tree interleaving last
  pub failed : at_number last.standings i ≡ Some Standing.Failed

-- Some run of the program ends where its i-th thread is at location 0.
pub record ThreadReachesFailure (program : Program) (i : ℕ) : Type 0 where
  pub run : Run
  pub last : List ℤ
  pub is_run : IsRun program run last
  pub thread : Thread
  pub thread_is : IsThreadOf program i thread
  pub fails : slice_get last thread.counter ≡ Some (pos 0)
