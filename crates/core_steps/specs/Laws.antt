-- What holds after every legal history.
use Rattle.std.specs.Prelude.{◌≡◌, ◌≢◌, ◌↔◌, ◌⊎◌, ◌<◌, ◌≤◌, ◌+◌, ◌*◌, ℕ, Bool, true, ◌++◌, length, AllPairs, Some, None}
use Rattle.std.specs.List.{AllByRecursion, Contains}
use Rattle.thr_base.specs.declared.limits.Limits.{Limits}
use Rattle.farkas_cert.specs.Cert.{IsRefuted}
use Rattle.horn_rules.specs.Home.{Home}
use Rattle.horn_rules.specs.Fact.{Fact}
use Rattle.horn_rules.specs.Instance.{HasKind, premises_of}
use Rattle.horn_rules.specs.Case.{Case}
use Rattle.horn_rules.specs.Post.{IsFactOf}
use Rattle.horn_rules.specs.Least.{Least, LeastSays}
use Rattle.horn_rules.specs.Cover.{Covers, NoRunFails}
use Rattle.derivation_tree.specs.Facts.{KeptFact, target_among}
use Rattle.core_steps.specs.State.{Opening, State, Task, IsOpening}
use Rattle.core_steps.specs.Event.{History}
use Rattle.core_steps.specs.Pending.{is_done, is_held, IsPending, IsQuiet, IsClear}
use Rattle.core_steps.specs.Withdrawn.{IsWithdrawn, remaining}
use Rattle.core_steps.specs.After.{after}
use Rattle.core_steps.specs.Allowed.{IsOver, IsLiveFact}
use Rattle.core_steps.specs.Legal.{IsLegal}

-- ---- live facts

-- The fact is the post of its kept instance, whose premises are live and have lower ids.
pub record IsPostOfKept (opening : Opening) (state : State) (f : KeptFact) : Type 0 where
  pub has_kind : HasKind opening.rule f.kept
  pub given : Case
  pub is_over : IsOver opening.program state.sets state.live f.kept given
  pub lower : AllByRecursion (λ id. id < f.id) (premises_of f.kept)
  pub is_fact : IsFactOf state.sets given f.fact

-- Each live fact is so, and no other has its id.
abbrev pub LiveFactsArePosts : Type 0
LiveFactsArePosts = (opening : Opening) (history : History) (f : KeptFact) → IsLegal opening history
    → Contains (after opening history).live f → IsPostOfKept opening (after opening history) f

-- So each live fact is in the least set.
abbrev pub LiveFactsAreLeast : Type 0
LiveFactsAreLeast = (opening : Opening) (history : History) (fact : Fact) → IsLegal opening history
    → IsLiveFact (after opening history) fact → Least opening.program opening.rule (after opening history).sets fact

-- ---- instances

-- The case gives nothing, or its fact is live.
abbrev pub IsPosted : State → Case → Type 0
IsPosted state given = IsRefuted given.system ⊎ ((fact : Fact) × IsFactOf state.sets given fact × IsLiveFact state fact)

-- What is done and has live premises has been posted, under the predicates that homes have now.
abbrev pub DoneInstancesArePosted : Type 0
DoneInstancesArePosted = (opening : Opening) (history : History) (task : Task) (given : Case) → IsLegal opening history
    → let state = after opening history in
    task.epoch ≡ state.epochs task.home → is_done state task ≡ true → IsOver opening.program state.sets state.live task.instance given
    → IsPosted state given

-- An instance with live premises is done, or held in its home's epoch, or pending.
abbrev pub InstancesAreDoneHeldOrPending : Type 0
InstancesAreDoneHeldOrPending = (opening : Opening) (state : State) (task : Task) → HasKind opening.rule task.instance
    → target_among opening.program state.live task.instance ≡ Some task.home → task.epoch ≡ state.epochs task.home
    → (is_done state task ≡ true) ⊎ ((is_held state task ≡ true) ⊎ IsPending opening state task)

-- ---- quiet and clear states

-- In a quiet state the live facts are exactly the least set.
abbrev pub QuietStatesHaveTheLeastSet : Type 0
QuietStatesHaveTheLeastSet = (opening : Opening) (history : History) (fact : Fact) → IsLegal opening history
    → IsQuiet opening (after opening history)
    → IsLiveFact (after opening history) fact ↔ Least opening.program opening.rule (after opening history).sets fact

-- What it says covers all runs.
abbrev pub QuietStatesCover : Type 0
QuietStatesCover = (opening : Opening) (history : History) → IsOpening opening → IsLegal opening history → IsQuiet opening (after opening history)
    → Covers opening.program (LeastSays opening.program opening.rule (after opening history).sets)

-- In a clear one no run fails.
abbrev pub ClearStatesAreSafe : Type 0
ClearStatesAreSafe = (opening : Opening) (history : History) → IsOpening opening → IsLegal opening history
    → IsClear opening (after opening history) → NoRunFails opening.program

-- ---- counts

-- No two publishes that were not stale are of one instance in one epoch of its home.
abbrev pub NoJobIsPublishedTwice : Type 0
NoJobIsPublishedTwice = (opening : Opening) (history : History) → IsLegal opening history
    → AllPairs (λ one other. one ≢ other) (after opening history).published

-- There are as many publishes that were not stale as may be, and one more for each worker, at most.
abbrev pub PublishesAreFew : Type 0
PublishesAreFew = (opening : Opening) (history : History) → IsLegal opening history
    → length (after opening history).published ≤ opening.limits.jobs + opening.workers

-- how many events a history has at most: a take and a publish for each job, a claim and a refine for each refinement, what is dropped by each
-- worker after a refinement or a stop, with the take or claim of it, and the stop
abbrev pub most_events : Limits → ℕ → ℕ
most_events limits workers = 2 * (limits.jobs + workers) + workers + 2 * limits.refinements + 6 * (workers * (limits.refinements + 1)) + 3

abbrev pub HistoriesAreShort : Type 0
HistoriesAreShort = (opening : Opening) (history : History) → IsLegal opening history → length history ≤ most_events opening.limits opening.workers

-- ---- what a refine withdraws

-- Where homes change, the facts that remain are exactly those that are not withdrawn.
abbrev pub WhatRemainsIsNotWithdrawn : Type 0
WhatRemainsIsNotWithdrawn = (opening : Opening) (history : History) (changed : Home → Bool) (f : KeptFact) → IsLegal opening history
    → let live = (after opening history).live in
    Contains live f → Contains (remaining changed live) f ↔ ¬ IsWithdrawn live changed f.id

-- ---- what has ended

-- The run is clear, or a stop stands.
abbrev pub HasEnded : Opening → State → Type 0
HasEnded opening state = IsClear opening state ⊎ (state.stop ≢ None)

-- So it stays, whatever legal events follow.
abbrev pub EndsStay : Type 0
EndsStay = (opening : Opening) (later earlier : History) → IsLegal opening (later ++ earlier)
    → HasEnded opening (after opening earlier) → HasEnded opening (after opening (later ++ earlier))
