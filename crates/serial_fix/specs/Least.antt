-- What a run answers.
use Rattle.std.specs.Prelude.{◌≢◌, ◌↔◌, ◌<◌, ℕ, List, length, AllPairs}
use Rattle.std.specs.List.{AllByRecursion, Contains}
use Rattle.thr_base.specs.declared.names.RuleName.TheVariants.{Rg}
use Rattle.thr_base.specs.declared.names.Fact.{Fact as StoredFact}
use Rattle.thr_base.specs.declared.limits.Limits.{Limits}
use Rattle.lin_rows.specs.Row.{Row}
use Rattle.transition_formula.specs.Program.{Program}
use Rattle.horn_rules.specs.Fact.{Fact, statement_of}
use Rattle.horn_rules.specs.Instance.{Instance, HasKind, premises_of, map_instance}
use Rattle.horn_rules.specs.Case.{Case, IsCaseOf}
use Rattle.horn_rules.specs.Least.{Least, LeastSays}
use Rattle.horn_rules.specs.Cover.{Covers}
use Rattle.horn_rules.specs.Stored.{facts_of, sets_of, HasItsHome}
use Rattle.abstract_post.specs.Left.{Leaves}
use Rattle.serial_fix.specs.declared.fixpoint.LeastAnswer.{LeastAnswer}
use Rattle.serial_fix.specs.declared.fixpoint.LeastAnswer.TheVariants.{Facts, Leaves as LeavesAnswer, TooManyFacts, TooManyJobs}

-- These are the facts of the least set, each once; and that covers all runs.
pub record AreLeast (program : Program) (lists : List (List Row)) (stored : List StoredFact) : Type 0 where
  pub have_homes : AllByRecursion (HasItsHome program) stored
  pub none_twice : AllPairs (λ a b. a ≢ b) stored
  pub exact : (fact : Fact) → Contains (facts_of program stored) fact ↔ Least program Rg (sets_of program lists) fact
  pub covers : Covers program (LeastSays program Rg (sets_of program lists))

-- An instance of rely-guarantee over the least set leaves.
abbrev pub LeastLeaves : Program → List (List Row) → Type 0
LeastLeaves program lists = Leaves program Rg (sets_of program lists) (Least program Rg (sets_of program lists))

-- More than so many different elements are of this kind.
pub record AreMoreThan {A : Type 0} (most : ℕ) (IsOne : A → Type 0) : Type 0 where
  pub elements : List A
  pub none_twice : AllPairs (λ a b. a ≢ b) elements
  pub are : AllByRecursion IsOne elements
  pub more : most < length elements

-- The least set has more than so many facts.
abbrev pub HasMoreFacts : Program → List (List Row) → ℕ → Type 0
HasMoreFacts program lists most = AreMoreThan most (Least program Rg (sets_of program lists))

-- An instance of rely-guarantee over the least set, which comes to a case of the program.
pub record IsLeastInstance (program : Program) (lists : List (List Row)) (instance : Instance Fact) : Type 0 where
  pub given : Case
  pub has_kind : HasKind Rg instance
  pub is_case : IsCaseOf program (map_instance (statement_of (sets_of program lists)) instance) given
  pub stand : AllByRecursion (Least program Rg (sets_of program lists)) (premises_of instance)

-- There are more than so many of these. Two edges with the same content make two instances.
abbrev pub HasMoreInstances : Program → List (List Row) → ℕ → Type 0
HasMoreInstances program lists most = AreMoreThan most (IsLeastInstance program lists)

-- What an answer says: within these limits a run ends, and the two last answers come only where they are too low.
abbrev pub IsLeastAnswer : Program → List (List Row) → Limits → LeastAnswer → Type 0
IsLeastAnswer program lists limits (Facts facts) = AreLeast program lists facts.items
IsLeastAnswer program lists limits LeavesAnswer = LeastLeaves program lists
IsLeastAnswer program lists limits TooManyFacts = HasMoreFacts program lists limits.facts
IsLeastAnswer program lists limits TooManyJobs = HasMoreInstances program lists limits.jobs
