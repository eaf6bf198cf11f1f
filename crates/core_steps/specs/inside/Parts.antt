-- How the parts of a core hold the state that its history leaves.
use Rattle.std.specs.Prelude.{◌≡◌, ◌↔◌, ◌+◌, ◌-◌, ℕ, List, length, slice_get, slice_index_or, Option, Some, None, option_map, IsSome}
use Rattle.thr_base.specs.declared.names.FactId.{FactId}
use Rattle.thr_base.specs.declared.names.Instance.{Instance as StoredInstance}
use Rattle.transition_formula.specs.Program.{Program, at_number}
use Rattle.fact_table.specs.Live.{NoneIsMarked}
use Rattle.fact_table.specs.Table.{FactTable}
use Rattle.withdraw.specs.Withdrawal.{RestOnEarlier}
use Rattle.horn_rules.specs.Home.{Home, homes}
use Rattle.horn_rules.specs.Instance.{Instance}
use Rattle.horn_rules.specs.Stored.{home_numbered, instance_of}
use Rattle.horn_rules.specs.Laws.{IsWord}
use Rattle.std.specs.List.{AllByRecursion}
use Rattle.pending_instances.specs.Calls.{Waiting, IsFor, IsOpen}
use Rattle.core_steps.specs.declared.held.Held.{Held}
use Rattle.core_steps.specs.declared.event.Event.{Event as StoredEvent}
use Rattle.core_steps.specs.declared.event.Event.TheVariants.{Stop}
use Rattle.core_steps.specs.declared.event.Reason.{Reason as StoredReason}
use Rattle.core_steps.specs.State.{Opening, State, Task, held_by, claimed_by}
use Rattle.core_steps.specs.Pending.{IsPending}
use Rattle.core_steps.specs.Stored.{reason_of}
use Rattle.core_steps.specs.Readers.{IsTableOf}

-- ---- predicates and epochs

pub record AreEpochs (program : Program) (state : State) (epochs : List ℕ) : Type 0 where
  pub one_each : length epochs ≡ length (homes program)
  pub each : (n : ℕ) (home : Home) → at_number (homes program) n ≡ Some home → state.epochs home ≡ slice_index_or epochs (n - 1) 0

-- ---- live facts

pub record IsFullTable (program : Program) (limit : ℕ) (state : State) (table : FactTable) : Type 0 where
  pub limit_is : table.limit ≡ limit
  pub table_is : IsTableOf program state table
  pub unmarked : NoneIsMarked table.live
  pub rest : RestOnEarlier table.live
  pub words : AllByRecursion (λ f. IsWord f.fact) table.live

-- ---- what is pending

-- Some task of this instance is pending.
abbrev pub IsPendingOf : Opening → State → Instance ℕ → Type 0
IsPendingOf opening state instance = (task : Task) × (task.instance ≡ instance) × IsPending opening state task

pub record IsWaiting (opening : Opening) (state : State) (table : FactTable) (waiting : Waiting) : Type 0 where
  pub is_for : IsFor opening.program waiting
  pub rule_is : waiting.layout.rule ≡ opening.rule
  pub room_is : waiting.room ≡ opening.limits.facts
  pub given_is : waiting.given ≡ table.given
  pub live_is : waiting.live ≡ table.live
  pub opens : state.stop ≡ None → (instance : StoredInstance) → IsOpen waiting instance ↔ IsPendingOf opening state (instance_of instance)

-- ---- workers

abbrev pub task_of : Program → Held → Task
task_of program held = record { instance = instance_of held.instance; home = home_numbered program held.home.0; epoch = held.epoch.0 }

-- The job that each worker holds, by the number of the worker.
pub record AreHolds (program : Program) (workers : ℕ) (state : State) (holds : List (Option Held)) : Type 0 where
  pub one_each : length holds ≡ workers
  pub each : (place : ℕ) (held : Option Held) → slice_get holds place ≡ Some held → held_by state.holds (place + 1) ≡ option_map (task_of program) held
  pub homes_are : (place : ℕ) (held : Held) → slice_get holds place ≡ Some (Some held) → IsSome (at_number (homes program) held.home.0)

pub record AreClaims (workers : ℕ) (state : State) (claims : List (Option FactId)) : Type 0 where
  pub one_each : length claims ≡ workers
  pub each : (place : ℕ) (root : Option FactId) → slice_get claims place ≡ Some root → claimed_by state.claims (place + 1) ≡ option_map (λ id. id.0) root

-- ---- the stop

-- the place of the stop in the journal
abbrev pub IsStopAt : State → List StoredEvent → Option ℕ → Type 0
IsStopAt state journal None = state.stop ≡ None
IsStopAt state journal (Some place) =
    (w : ℕ) × (reason : StoredReason) × (slice_get journal place ≡ Some (Stop w reason)) × (state.stop ≡ Some (reason_of reason))
