-- What happens in a run.
use Rattle.std.specs.Prelude.{ℕ, List}
use Rattle.horn_rules.specs.Fact.{Fact}
use Rattle.horn_rules.specs.Instance.{Instance}
use Rattle.horn_rules.specs.Predicate.{Predicate}
use Rattle.derivation_tree.specs.declared.scope.Scope.{Scope}
use Rattle.core_steps.specs.State.{Reason}

-- An event, the worker first.
pub data Event : Type 0 where
  -- it takes a job of this instance
  Take : ℕ → Instance ℕ → Event
  -- it publishes its job: with this id a new fact, a fact that is live, nothing, or the job is stale
  New : ℕ → ℕ → Fact → Event
  Same : ℕ → ℕ → Event
  Nothing : ℕ → Event
  StalePublish : ℕ → Event
  -- it claims the fact of this id
  Claim : ℕ → ℕ → Event
  -- it refines by its claim: these predicates are new, or the claim is stale
  Refine : ℕ → Scope → List Predicate → Event
  StaleRefine : ℕ → Event
  -- the run stops, or what the worker holds is stale
  Stop : ℕ → Reason → Event
  StaleStop : ℕ → Event

-- A history is the list of the events so far, the newest first.
abbrev pub History : Type 0
History = List Event
