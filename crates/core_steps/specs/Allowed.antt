-- Which events are allowed in a state.
use Rattle.std.specs.Prelude.{◌≡◌, ◌≢◌, ◌⊎◌, ◌<◌, ◌≤◌, ◌+◌, ℕ, true, false, List, length, map, Some, None}
use Rattle.std.specs.List.{AllByRecursion, Contains}
use Rattle.farkas_cert.specs.Cert.{IsRefuted}
use Rattle.farkas_cert.specs.declared.answers.LeaveKind.{LeaveKind}
use Rattle.transition_formula.specs.Program.{Program}
use Rattle.horn_rules.specs.Home.{Home, State as AtLocation}
use Rattle.horn_rules.specs.Fact.{Sets, Fact, statement_of}
use Rattle.horn_rules.specs.Instance.{Instance, premises_of, map_instance}
use Rattle.horn_rules.specs.Case.{Case, IsCaseOf}
use Rattle.horn_rules.specs.Post.{IsFactOf}
use Rattle.horn_rules.specs.Predicate.{Predicate}
use Rattle.abstract_post.specs.Left.{IsLeft}
use Rattle.derivation_tree.specs.declared.scope.Scope.{Scope}
use Rattle.derivation_tree.specs.declared.scope.TreeLeft.{TreeLeft}
use Rattle.derivation_tree.specs.declared.scope.TreeLeft.TheVariants as left
use Rattle.derivation_tree.specs.Facts.{KeptFact, fact_at}
use Rattle.derivation_tree.specs.Tree.{Tree, size_of, tree_of}
use Rattle.derivation_tree.specs.Sums.{IsTaught}
use Rattle.derivation_tree.specs.Left.{IsTreeLeft}
use Rattle.derivation_tree.specs.Replay.{FailsAtReplay}
use Rattle.core_steps.specs.State.{Opening, State, Reason, Facts, Jobs, Refinements, Predicates, JobLeft, RootLeft, Unsafe, Memory, Task, Claimed, held_by, claimed_by, IsWorker, IsFree}
use Rattle.core_steps.specs.Event.{Event, Take, New, Same, Nothing, StalePublish, Claim, Refine, StaleRefine, Stop, StaleStop}
use Rattle.core_steps.specs.Withdrawn.{has_id}
use Rattle.core_steps.specs.Pending.{IsPending, is_present}
use Rattle.core_steps.specs.Predicates.{AreNew, Overfills}

-- ---- jobs

-- The instance, over live facts that its ids name, comes to this case, where homes have these predicates.
pub record IsOver (program : Program) (sets : Sets) (live : List KeptFact) (instance : Instance ℕ) (given : Case) : Type 0 where
  pub premises : Instance KeptFact
  pub ids_are : map_instance (λ f. f.id) premises ≡ instance
  pub are_live : AllByRecursion (Contains live) (premises_of premises)
  pub is_case : IsCaseOf program (map_instance (λ f. statement_of sets f.fact) premises) given

-- The worker holds this job, which is not stale, and this is its case.
pub record Posts (opening : Opening) (state : State) (w : ℕ) (task : Task) (given : Case) : Type 0 where
  pub held : held_by state.holds w ≡ Some task
  pub present : is_present state task ≡ true
  pub is_over : IsOver opening.program state.sets state.live task.instance given

-- The fact is live.
abbrev pub IsLiveFact : State → Fact → Type 0
IsLiveFact state fact = Contains (map (λ f. f.fact) state.live) fact

-- a take of a pending instance, by a worker that is free, where publishes are left
pub record IsTake (opening : Opening) (state : State) (w : ℕ) (instance : Instance ℕ) : Type 0 where
  pub free : IsFree state w
  pub left_over : length state.published < opening.limits.jobs
  pub task : Task
  pub instance_is : task.instance ≡ instance
  pub pending : IsPending opening state task

-- a publish of a fact that was not live, for which there is room
pub record IsNewPublish (opening : Opening) (state : State) (w id : ℕ) (fact : Fact) : Type 0 where
  pub task : Task
  pub given : Case
  pub posts : Posts opening state w task given
  pub is_fact : IsFactOf state.sets given fact
  pub not_live : ¬ IsLiveFact state fact
  pub id_is : id ≡ state.given + 1
  pub room : length state.live < opening.limits.facts

-- a publish of a fact that is live
pub record IsSamePublish (opening : Opening) (state : State) (w id : ℕ) : Type 0 where
  pub task : Task
  pub given : Case
  pub fact : Fact
  pub posts : Posts opening state w task given
  pub is_fact : IsFactOf state.sets given fact
  pub is_live : fact_at state.live id ≡ Some fact

-- a publish of nothing
pub record IsNothingPublish (opening : Opening) (state : State) (w : ℕ) : Type 0 where
  pub task : Task
  pub given : Case
  pub posts : Posts opening state w task given
  pub refuted : IsRefuted given.system

-- ---- claims

-- a claim of a live fact at location 0 that nobody has claimed, by a worker that is free
pub record IsClaim (state : State) (w id : ℕ) : Type 0 where
  pub free : IsFree state w
  pub fact : Fact
  pub i : ℕ
  pub is_live : fact_at state.live id ≡ Some fact
  pub fails : fact.home ≡ AtLocation i 0
  pub unclaimed : (claim : Claimed) → Contains state.claims claim → claim.root ≢ id

-- The worker has claimed this fact, which is live, and this is its tree.
pub record Claims (state : State) (w id : ℕ) (tree : Tree) : Type 0 where
  pub claimed : claimed_by state.claims w ≡ Some id
  pub is_live : has_id state.live id ≡ true
  pub tree_is : tree_of state.live id ≡ Some tree

-- The worker's tree teaches these predicates.
pub record Refutes (opening : Opening) (state : State) (w : ℕ) (scope : Scope) (predicates : List Predicate) : Type 0 where
  pub id : ℕ
  pub tree : Tree
  pub claims : Claims state w id tree
  pub small : size_of tree ≤ opening.limits.tree
  pub taught : IsTaught opening.program tree scope predicates

-- a refine that is neither stale nor one too many
pub record IsRefine (opening : Opening) (state : State) (w : ℕ) (scope : Scope) (new : List Predicate) : Type 0 where
  pub predicates : List Predicate
  pub refutes : Refutes opening state w scope predicates
  pub left_over : state.refined < opening.limits.refinements
  pub are_new : AreNew state.sets predicates new

-- ---- stops

-- the job is not stale, and gives a fact that is not live, where so many are live
pub record IsFull (opening : Opening) (state : State) (w : ℕ) : Type 0 where
  pub task : Task
  pub given : Case
  pub fact : Fact
  pub posts : Posts opening state w task given
  pub is_fact : IsFactOf state.sets given fact
  pub not_live : ¬ IsLiveFact state fact
  pub full : opening.limits.facts ≤ length state.live

-- the worker is free, and could take a job, where no publishes are left
pub record IsSpent (opening : Opening) (state : State) (w : ℕ) : Type 0 where
  pub free : IsFree state w
  pub spent : opening.limits.jobs ≤ length state.published
  pub task : Task
  pub pending : IsPending opening state task

-- its tree teaches predicates, where no refinements are left
pub record IsRefined (opening : Opening) (state : State) (w : ℕ) : Type 0 where
  pub scope : Scope
  pub predicates : List Predicate
  pub refutes : Refutes opening state w scope predicates
  pub spent : opening.limits.refinements ≤ state.refined

-- its tree teaches predicates, by which this home would be the first to have too many
pub record IsOverfilled (opening : Opening) (state : State) (w : ℕ) (home : Home) : Type 0 where
  pub scope : Scope
  pub predicates : List Predicate
  pub refutes : Refutes opening state w scope predicates
  pub left_over : state.refined < opening.limits.refinements
  pub overfills : Overfills state.sets predicates home

-- its job of this instance is left undecided
pub record IsJobLeft (opening : Opening) (state : State) (w : ℕ) (instance : Instance ℕ) (kind : LeaveKind) : Type 0 where
  pub task : Task
  pub instance_is : task.instance ≡ instance
  pub given : Case
  pub posts : Posts opening state w task given
  pub is_left : IsLeft given (state.sets given.target) kind

-- How large the tree is: a tree is left for its size by the limit alone, and for all else where it is not too large.
abbrev pub IsOfSize : ℕ → Tree → TreeLeft → Type 0
IsOfSize limit tree (left.Tree n) = n ≡ limit
IsOfSize limit tree left = size_of tree ≤ limit

-- its claimed tree is left
pub record IsRootLeft (opening : Opening) (state : State) (w id : ℕ) (left : TreeLeft) : Type 0 where
  pub tree : Tree
  pub claims : Claims state w id tree
  pub is_left : IsTreeLeft opening.program tree left
  pub of_size : IsOfSize opening.limits.tree tree left

-- What a reason says is so.
abbrev pub IsReason : Opening → State → ℕ → Reason → Type 0
IsReason opening state w (Facts n) = (n ≡ opening.limits.facts) × IsFull opening state w
IsReason opening state w (Jobs n) = (n ≡ opening.limits.jobs) × IsSpent opening state w
IsReason opening state w (Refinements n) = (n ≡ opening.limits.refinements) × IsRefined opening state w
IsReason opening state w (Predicates home) = IsOverfilled opening state w home
IsReason opening state w (JobLeft instance kind) = IsJobLeft opening state w instance kind
IsReason opening state w (RootLeft id left) = IsRootLeft opening state w id left
IsReason opening state w (Unsafe run) = FailsAtReplay opening.program run
IsReason opening state w Memory = Unit {0}

-- ---- what is stale

-- The worker holds a job, which is stale unless a stop stands.
pub record DropsJob (state : State) (w : ℕ) : Type 0 where
  pub task : Task
  pub held : held_by state.holds w ≡ Some task
  pub stale : state.stop ≡ None → is_present state task ≡ false

-- The worker has claimed a fact, which is no longer live unless a stop stands.
pub record DropsClaim (state : State) (w : ℕ) : Type 0 where
  pub id : ℕ
  pub claimed : claimed_by state.claims w ≡ Some id
  pub stale : state.stop ≡ None → has_id state.live id ≡ false

-- ---- events

-- what is asked of the event beside its worker; but for drops, no stop stands
abbrev pub Suits : Opening → State → Event → Type 0
Suits opening state (Take w instance) = (state.stop ≡ None) × IsTake opening state w instance
Suits opening state (New w id fact) = (state.stop ≡ None) × IsNewPublish opening state w id fact
Suits opening state (Same w id) = (state.stop ≡ None) × IsSamePublish opening state w id
Suits opening state (Nothing w) = (state.stop ≡ None) × IsNothingPublish opening state w
Suits opening state (StalePublish w) = DropsJob state w
Suits opening state (Claim w id) = (state.stop ≡ None) × IsClaim state w id
Suits opening state (Refine w scope predicates) = (state.stop ≡ None) × IsRefine opening state w scope predicates
Suits opening state (StaleRefine w) = DropsClaim state w
Suits opening state (Stop w reason) = (state.stop ≡ None) × IsReason opening state w reason
Suits opening state (StaleStop w) = DropsJob state w ⊎ DropsClaim state w

abbrev pub worker_of : Event → ℕ
worker_of (Take w instance) = w
worker_of (New w id fact) = w
worker_of (Same w id) = w
worker_of (Nothing w) = w
worker_of (StalePublish w) = w
worker_of (Claim w id) = w
worker_of (Refine w scope predicates) = w
worker_of (StaleRefine w) = w
worker_of (Stop w reason) = w
worker_of (StaleStop w) = w

-- The event is allowed in the state.
pub record Allows (opening : Opening) (state : State) (event : Event) : Type 0 where
  pub worker : IsWorker opening (worker_of event)
  pub suits : Suits opening state event
