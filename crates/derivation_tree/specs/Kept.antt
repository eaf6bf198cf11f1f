-- What is handed from layer to layer of a failing fact: its derivation, what it teaches, or why it is left.
use Rattle.std.specs.Prelude.{◌≡◌, ℕ, List, map, reverse, Some}
use Rattle.thr_base.specs.declared.names.FactId.{FactId}
use Rattle.thr_base.specs.declared.names.HomeNo.{HomeNo}
use Rattle.thr_base.specs.declared.names.Fact.{Fact as StoredFact}
use Rattle.thr_base.specs.declared.names.Instance.{Instance as StoredInstance}
use Rattle.lin_rows.specs.Row.{Row}
use Rattle.farkas_cert.specs.declared.answers.LeaveKind.{LeaveKind}
use Rattle.transition_formula.specs.Program.{Program}
use Rattle.horn_rules.specs.declared.job.Job.{Job}
use Rattle.horn_rules.specs.Home.{State}
use Rattle.horn_rules.specs.Predicate.{Predicate}
use Rattle.horn_rules.specs.Stored.{fact_of, instance_of, home_numbered}
use Rattle.abstract_post.specs.Left.{IsJobLeft}
use Rattle.derivation_tree.specs.declared.scope.Scope.{Scope}
use Rattle.derivation_tree.specs.declared.scope.TreeLeft.{TreeLeft}
use Rattle.derivation_tree.specs.Facts.{KeptFact, home_at, AreKept}
use Rattle.derivation_tree.specs.Tree.{Tree, tree_of}
use Rattle.derivation_tree.specs.Sums.{IsTaught}
use Rattle.derivation_tree.specs.Left.{IsTreeLeft}

-- ---- a claim

-- A fact that a worker has claimed, and the facts below it with their kept instances, the newest first.
pub record KeptTree : Type 0 where
  pub program : Program
  pub worker : ℕ
  pub root : ℕ
  pub facts : List KeptFact

-- what stands for a fact with its id and its instance
abbrev pub kept_fact_of : Program → FactId × StoredFact × StoredInstance → KeptFact
kept_fact_of program (id, fact, instance) = record { id = id.0; fact = fact_of program fact; kept = instance_of instance }

-- The stored facts stand by rising id.
abbrev pub kept_facts_of : Program → List (FactId × StoredFact × StoredInstance) → List KeptFact
kept_facts_of program stored = reverse (map (kept_fact_of program) stored)

-- The root is among them, at location 0 of a thread; each fact stands where its instance leads from facts with lower ids among them.
pub record IsKept (kept : KeptTree) : Type 0 where
  pub are_kept : AreKept kept.program kept.facts
  pub i : ℕ
  pub root_fails : home_at kept.facts kept.root ≡ Some (State i 0)

-- This is its tree.
abbrev pub HasTree : KeptTree → Tree → Type 0
HasTree kept tree = tree_of kept.facts kept.root ≡ Some tree

-- ---- what a tree teaches

pub record Lesson : Type 0 where
  pub kept : KeptTree
  pub scope : Scope
  pub predicates : List Predicate

abbrev pub predicates_of_stored : Program → List (HomeNo × Row) → List Predicate
predicates_of_stored program stored = map (λ pair. record { home = home_numbered program pair.0.0; atom = pair.1 }) stored

-- Its tree teaches these predicates.
abbrev pub IsLesson : Lesson → Type 0
IsLesson lesson = (tree : Tree) × HasTree lesson.kept tree × IsTaught lesson.kept.program tree lesson.scope lesson.predicates

-- ---- what is left

-- a job that the solver leaves undecided, or a tree that is left
pub data Leaving : Type 0 where
  OfJob : Job → LeaveKind → Leaving
  OfTree : KeptTree → TreeLeft → Leaving

-- It is left so.
abbrev pub IsLeaving : Leaving → Type 0
IsLeaving (OfJob job kind) = IsJobLeft job.program.now job kind
IsLeaving (OfTree kept left) = (tree : Tree) × HasTree kept tree × IsTreeLeft kept.program tree left

-- A job is left, or a tree.
abbrev pub IsOfJob : Leaving → Type 0
IsOfJob (OfJob job kind) = Unit {0}
IsOfJob (OfTree kept left) = ⊥

abbrev pub IsOfTree : Leaving → Type 0
IsOfTree (OfJob job kind) = ⊥
IsOfTree (OfTree kept left) = Unit {0}
