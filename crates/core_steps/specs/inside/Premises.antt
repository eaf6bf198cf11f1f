-- The premises of a job.
use Rattle.std.specs.Prelude.{◌≡◌, ℕ, true, Option, Some}
use Rattle.std.specs.List.{AllByRecursion}
use Rattle.thr_base.specs.declared.names.FactId.{FactId}
use Rattle.thr_base.specs.declared.names.Instance.{Instance as StoredInstance}
use Rattle.horn_rules.specs.declared.job.Premise.{Premise}
use Rattle.horn_rules.specs.declared.job.Job.{Job}
use Rattle.horn_rules.specs.Instance.{Instance, first_of, second_of, premises_of, map_instance}
use Rattle.horn_rules.specs.Job.{IsPremise}
use Rattle.horn_rules.specs.Stored.{instance_of}
use Rattle.instance_cursors.specs.declared.choosing.Next.{Next}
use Rattle.core_steps.specs.State.{Opening, State, Task}
use Rattle.core_steps.specs.Withdrawn.{has_id}
use Rattle.core_steps.specs.Jobs.{PremiseAgrees, IsHandedOut}
use Rattle.core_steps.specs.inside.Taking.{IsNextOf}

-- Each id that the instance names is that of a live fact.
abbrev pub ArePremisesLive : State → StoredInstance → Type 0
ArePremisesLive state instance = AllByRecursion (λ id. has_id state.live id ≡ true) (premises_of (instance_of instance))

-- The premise has this id, is live, and fits the program.
pub record IsPremiseOf (opening : Opening) (state : State) (id : FactId) (premise : Premise) : Type 0 where
  pub id_is : premise.id ≡ id
  pub agrees : PremiseAgrees opening state (Some premise)
  pub fits : IsPremise opening.program premise

-- These are the premises that the instance names.
pub record ArePremisesOf (opening : Opening) (state : State) (stored : StoredInstance) (first second : Option Premise) : Type 0 where
  pub instance : Instance Premise
  pub ids_are : map_instance (λ premise. premise.id.0) instance ≡ instance_of stored
  pub first_is : first ≡ first_of instance
  pub second_is : second ≡ second_of instance
  pub fit : AllByRecursion (λ premise. IsPremiseOf opening state premise.id premise) (premises_of instance)

-- The job is that of what is next.
abbrev pub IsTaskJob : Opening → State → ℕ → Next → Job → Type 0
IsTaskJob opening state w next job = (task : Task) × IsNextOf opening state next task × IsHandedOut opening state w task job
