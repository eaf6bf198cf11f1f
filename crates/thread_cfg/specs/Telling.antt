-- What the runs of a program tell of the interleavings of its text.
use Rattle.std.specs.Prelude.{◌≡◌, ◌↔◌, ◌≤◌, ℕ, ◌-◌, ℤ, List, length, map, take, Some}
use Rattle.c_tree.specs.Plain as plain
use Rattle.c_check.specs.Check.{function_items}
use Rattle.c_check.specs.Columns.{columns_of}
use Rattle.transition_formula.specs.Program.{Program, at_number}
use Rattle.transition_formula.specs.Run.{IsRun, LeadTo, Run}
use Rattle.thread_cfg.specs.Source.{Standing}
use Rattle.thread_cfg.specs.Threads.{Running, threads_running}
use Rattle.thread_cfg.specs.SameSteps.{HasSameSteps, Lefts, standing_as, state_of}
use Rattle.thread_cfg.specs.Interleaving.{Configuration, InterleaveTo, Interleaving, IsInterleaving}

-- The state tells the configuration: it has the same values in front of the counters, and each thread is at a location at which that is
-- left which the configuration has of it.
pub record Tells (tree : plain.Tree) (left : ℕ → Lefts) (configuration : Configuration) (state : List ℤ) : Type 0 where
  pub locations : List ℕ
  pub values_length : length configuration.values ≡ length (columns_of tree) - length (threads_running tree)
  pub locations_length : length locations ≡ length (threads_running tree)
  pub standings_length : length configuration.standings ≡ length (threads_running tree)
  pub state_is : state ≡ state_of configuration.values locations
  pub stand : (i l : ℕ) (standing : Standing) → at_number locations i ≡ Some l → at_number configuration.standings i ≡ Some standing
      → left i l ≡ Some (standing_as standing)

-- What is left at each location of the thread is what makes it step as its source does.
pub record StepsBy (tree : plain.Tree) (program : Program) (left : Lefts) (t : Running) : Type 0 where
  pub steps : HasSameSteps program (length (columns_of tree) - length (threads_running tree)) (length (threads_running tree)) t.frame (function_items t.function)
  pub left_is : steps.left ≡ left

-- Behind k steps of each, the state in which the run is tells the configuration in which the interleaving is.
pub record TellsBehind (tree : plain.Tree) (program : Program) (left : ℕ → Lefts) (run : Run) (interleaving : Interleaving) (k : ℕ) : Type 0 where
  pub state : List ℤ
  pub configuration : Configuration
  pub run_leads : LeadTo program run.start (take k run.steps) state
  pub interleaving_leads : InterleaveTo tree interleaving.start (take k interleaving.steps) configuration
  pub tells : Tells tree left configuration state

-- The run and the interleaving go step by step: the same threads step, one after another, so they have as many steps; and behind each
-- number of steps the state of the run tells the configuration of the interleaving.
pub record GoAlike (tree : plain.Tree) (program : Program) (left : ℕ → Lefts) (run : Run) (interleaving : Interleaving) : Type 0 where
  pub threads_are : map (λ s. s.thread) run.steps ≡ map (λ s. s.thread) interleaving.steps
  pub at_each : (k : ℕ) → k ≤ length run.steps → TellsBehind tree program left run interleaving k

-- Some interleaving goes as the run does.
pub record HasInterleaving (tree : plain.Tree) (program : Program) (left : ℕ → Lefts) (run : Run) : Type 0 where
  pub interleaving : Interleaving
  pub last : Configuration
  pub is_interleaving : IsInterleaving tree interleaving last
  pub alike : GoAlike tree program left run interleaving

-- Some run goes as the interleaving does.
pub record HasRun (tree : plain.Tree) (program : Program) (left : ℕ → Lefts) (interleaving : Interleaving) : Type 0 where
  pub run : Run
  pub last : List ℤ
  pub is_run : IsRun program run last
  pub alike : GoAlike tree program left run interleaving

-- There is one thing left at each location of each thread, such that the thread steps by it as its source does, that each run of the
-- program goes step by step as an interleaving does, and that each interleaving goes as a run does. In what they come to, a thread has
-- failed exactly where it is at location 0.
pub record RunsTellInterleavings (tree : plain.Tree) (program : Program) : Type 0 where
  pub left : ℕ → Lefts
  pub steps : (i : ℕ) (t : Running) → at_number (threads_running tree) i ≡ Some t → StepsBy tree program (left i) t
  pub of_run : (run : Run) (last : List ℤ) → IsRun program run last → HasInterleaving tree program left run
  pub of_interleaving : (interleaving : Interleaving) (last : Configuration) → IsInterleaving tree interleaving last → HasRun tree program left interleaving
  pub failed : (configuration : Configuration) (state : List ℤ) (tells : Tells tree left configuration state) (i l : ℕ) → at_number tells.locations i ≡ Some l
      → (l ≡ 0) ↔ (at_number configuration.standings i ≡ Some Standing.Failed)
