-- The state of a run: what it opens with, and what has become of it.
use Rattle.std.specs.Prelude.{◌≡◌, ◌≤◌, ℕ, ◌==◌, not, if◌then◌else◌, List, [], ◌∷◌, filter, Option, Some, None}
use Rattle.thr_base.specs.declared.names.RuleName.{RuleName}
use Rattle.thr_base.specs.declared.limits.Limits.{Limits}
use Rattle.thr_base.specs.Limits.{AreAllowed, most_workers}
use Rattle.farkas_cert.specs.declared.answers.LeaveKind.{LeaveKind}
use Rattle.transition_formula.specs.Program.{Program, IsProgram}
use Rattle.transition_formula.specs.Run.{Run}
use Rattle.horn_rules.specs.Home.{Home}
use Rattle.horn_rules.specs.Fact.{Sets, AreSetsOf}
use Rattle.horn_rules.specs.Instance.{Instance}
use Rattle.derivation_tree.specs.declared.scope.TreeLeft.{TreeLeft}
use Rattle.derivation_tree.specs.Facts.{KeptFact}

-- what a run opens with
pub record Opening : Type 0 where
  pub program : Program
  pub sets : Sets
  pub rule : RuleName
  pub limits : Limits
  pub workers : ℕ

-- The program is one, the predicates are of its homes, and the numbers are within bounds.
pub record IsOpening (opening : Opening) : Type 0 where
  pub is_program : IsProgram opening.program
  pub are_sets : AreSetsOf opening.program opening.sets
  pub are_allowed : AreAllowed opening.limits
  pub some_workers : 1 ≤ opening.workers
  pub few_workers : opening.workers ≤ most_workers

-- Why a run stops.
pub data Reason : Type 0 where
  -- so many facts are live, and a further one was posted
  Facts : ℕ → Reason
  -- so many publishes were not stale
  Jobs : ℕ → Reason
  -- there were so many refinements
  Refinements : ℕ → Reason
  -- the home would get too many predicates
  Predicates : Home → Reason
  -- the solver left this instance undecided
  JobLeft : Instance ℕ → LeaveKind → Reason
  -- the tree of this fact is left
  RootLeft : ℕ → TreeLeft → Reason
  -- this run fails
  Unsafe : Run → Reason
  -- there was no memory
  Memory : Reason

-- A job: an instance over the ids of facts, the home of which it gives one, and that home's epoch.
pub record Task : Type 0 where
  pub instance : Instance ℕ
  pub home : Home
  pub epoch : ℕ

-- a worker holds a job
pub record Hold : Type 0 where
  pub worker : ℕ
  pub task : Task

-- a worker has claimed a fact
pub record Claimed : Type 0 where
  pub worker : ℕ
  pub root : ℕ

-- The predicates and the epoch of each home; the live facts with their ids and kept instances, the newest first; the jobs whose publishes
-- were not stale, the newest first; what workers hold; how many ids were given, and how many refines were not stale; and perhaps a stop.
pub record State : Type 0 where
  pub sets : Sets
  pub epochs : Home → ℕ
  pub live : List KeptFact
  pub published : List Task
  pub holds : List Hold
  pub claims : List Claimed
  pub given : ℕ
  pub refined : ℕ
  pub stop : Option Reason

-- how it begins
abbrev pub start_of : Opening → State
start_of opening = record {
  sets = opening.sets;
  epochs = λ home. 0;
  live = [];
  published = [];
  holds = [];
  claims = [];
  given = 0;
  refined = 0;
  stop = None;
}

-- ---- workers

-- the job that a worker holds, and the fact that it has claimed
abbrev pub held_by : List Hold → ℕ → Option Task
held_by [] w = None
held_by (hold ∷ holds) w = if hold.worker == w then Some hold.task else held_by holds w

abbrev pub claimed_by : List Claimed → ℕ → Option ℕ
claimed_by [] w = None
claimed_by (claim ∷ claims) w = if claim.worker == w then Some claim.root else claimed_by claims w

abbrev pub holds_without : ℕ → List Hold → List Hold
holds_without w holds = filter (λ hold. not (hold.worker == w)) holds

abbrev pub claims_without : ℕ → List Claimed → List Claimed
claims_without w claims = filter (λ claim. not (claim.worker == w)) claims

-- The opening has worker w.
pub record IsWorker (opening : Opening) (w : ℕ) : Type 0 where
  pub from_1 : 1 ≤ w
  pub within : w ≤ opening.workers

-- The worker holds no job, and has claimed no fact.
pub record IsFree (state : State) (w : ℕ) : Type 0 where
  pub no_job : held_by state.holds w ≡ None
  pub no_claim : claimed_by state.claims w ≡ None
