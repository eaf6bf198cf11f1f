-- A run of the rules on one thread, as far as it has come. No public clause cites this file.
use Rattle.std.specs.Prelude.{◌≡◌, ◌≢◌, ℕ, ℤ, ◌^◌, ◌<◌, List, ◌++◌, length, reverse, take, slice_get, AllPairs, Option, Some}
use Rattle.std.specs.List.{AllByRecursion, Contains}
use Rattle.thr_base.specs.declared.names.RuleName.TheVariants.{Rg}
use Rattle.thr_base.specs.declared.names.Instance.{Instance}
use Rattle.thr_base.specs.declared.names.Fact.{Fact as StoredFact}
use Rattle.thr_base.specs.declared.limits.Limits.{Limits}
use Rattle.lin_rows.specs.Row.{Row}
use Rattle.lin_rows.specs.System.{IsPoint}
use Rattle.predicate_sets.specs.Sets.{set_at}
use Rattle.transition_formula.specs.Program.{Program, Thread, Edge, at_number, IsProgram, IsThreadOf, IsEdgeOf}
use Rattle.horn_rules.specs.declared.job.Premise.{Premise}
use Rattle.horn_rules.specs.Home.{State, Env, IsLocationOf, homes}
use Rattle.horn_rules.specs.Fact.{Fact}
use Rattle.horn_rules.specs.Case.{Case, init_case}
use Rattle.horn_rules.specs.Post.{IsFactOf}
use Rattle.horn_rules.specs.Least.{IsDerivation}
use Rattle.horn_rules.specs.Laws.{IsWord}
use Rattle.horn_rules.specs.Stored.{fact_of, facts_of, sets_of, HasItsHome, AreStoredSetsOf}
use Rattle.serial_fix.specs.Least.{LeastLeaves, HasMoreFacts, HasMoreInstances, IsLeastAnswer}
use Rattle.serial_fix.specs.inside.Cases.{IsCase, own_case, guar_case, env_case}
use Rattle.serial_fix.specs.inside.Jobs.{IsJobCase, ArePremises}
use Rattle.serial_fix.specs.inside.Found.{FoundFacts}
use Rattle.serial_fix.specs.inside.Looked.{IsNumbered, AreLookedAt}
use Rattle.serial_fix.specs.declared.fixpoint.LeastAnswer.{LeastAnswer}
use Rattle.serial_fix.specs.declared.step.Step.{Step}
use Rattle.serial_fix.specs.declared.step.Step.TheVariants.{Done, Stopped}
use Rattle.serial_fix.specs.declared.step.Ending.{Ending}
use Rattle.serial_fix.specs.declared.step.Ending.TheVariants.{Leaves as LeavesEnd, TooManyFacts as FactsEnd, TooManyJobs as JobsEnd}

-- The home of the stored fact exists, and it holds only positions that are there.
pub record IsStored (program : Program) (lists : List (List Row)) (stored : StoredFact) : Type 0 where
  pub has_home : HasItsHome program stored
  pub within : stored.held < 2 ^ length (set_at lists stored.home.0)
  pub is_word : IsWord stored

-- What is known of the facts that a run has found: each comes from those before it, and none stands there twice.
pub record IsRun (program : Program) (lists : List (List Row)) (found : FoundFacts) : Type 0 where
  pub program_is : IsProgram program
  pub lists_are : AreStoredSetsOf program lists
  pub homes_are : found.homes ≡ length (homes program)
  pub facts_are : AllByRecursion (IsStored program lists) found.facts
  pub none_twice : AllPairs (λ a b. a ≢ b) found.facts
  pub derived : IsDerivation program Rg (sets_of program lists) (reverse (facts_of program found.facts))

-- The later list has the earlier one in front.
pub record Extends (earlier later : List StoredFact) : Type 0 where
  pub more : List StoredFact
  pub is : later ≡ earlier ++ more

-- What the instance gives is there, and where some whole point allows it, it gives a fact.
pub record IsSettled (program : Program) (lists : List (List Row)) (found : List StoredFact) (given : Case) : Type 0 where
  pub there : (fact : Fact) → IsFactOf (sets_of program lists) given fact → Contains (facts_of program found) fact
  pub gives : (z : List ℤ) → IsPoint given.system z → (fact : Fact) × IsFactOf (sets_of program lists) given fact

-- The instance is one over facts that are there, and gives facts at the home of this number.
pub record IsInstance (program : Program) (lists : List (List Row)) (found : List StoredFact) (instance : Instance) (first second : Option Premise) (home : ℕ) : Type 0 where
  pub premises : List Fact
  pub given : Case
  pub is_case : IsJobCase program (sets_of program lists) instance first second premises given
  pub home_is : at_number (homes program) home ≡ Some given.target
  pub stand : AllByRecursion (Contains (facts_of program found)) premises
  pub first_is : ArePremises program first
  pub second_is : ArePremises program second
  pub first_at : IsNumbered found first
  pub second_at : IsNumbered found second

-- Why a run ends early: the solver leaves a system, or a limit is too low.
abbrev pub IsEnding : Program → List (List Row) → Limits → Ending → Type 0
IsEnding program lists limits LeavesEnd = LeastLeaves program lists
IsEnding program lists limits FactsEnd = HasMoreFacts program lists limits.facts
IsEnding program lists limits JobsEnd = HasMoreInstances program lists limits.jobs

-- The answer says why a run ends early.
abbrev pub AnswersEarly : Ending → LeastAnswer → Type 0
AnswersEarly ending answer = (program : Program) (lists : List (List Row)) (limits : Limits) → IsEnding program lists limits ending → IsLeastAnswer program lists limits answer

-- What the post of an instance leaves: a run that has gone on with as many jobs, and whatever else it says of the facts; or the run ends.
abbrev pub IsPosted : Program → List (List Row) → Limits → FoundFacts → FoundFacts → (List StoredFact → Type 0) → Step → Type 0
IsPosted program lists limits old new Says Done = IsRun program lists new × Extends old.facts new.facts × Says new.facts × (new.jobs ≡ old.jobs)
IsPosted program lists limits old new Says (Stopped ending) = IsEnding program lists limits ending

-- What a step leaves: a run that has gone on up to this place, and whatever else it says of the facts; or the run ends.
abbrev pub IsStep : Program → List (List Row) → Limits → FoundFacts → FoundFacts → ℕ → (List StoredFact → Type 0) → Step → Type 0
IsStep program lists limits old new upto Says Done = IsRun program lists new × Extends old.facts new.facts × Says new.facts × AreLookedAt program lists new upto
IsStep program lists limits old new upto Says (Stopped ending) = IsEnding program lists limits ending

-- ---- what is settled, kind by kind

-- whatever the job's instance comes to
abbrev pub InstanceIsSettled : Program → List (List Row) → Instance → Option Premise → Option Premise → ℕ → List StoredFact → Type 0
InstanceIsSettled program lists instance first second home found =
    (premises : List Fact) (given : Case) → IsJobCase program (sets_of program lists) instance first second premises given
    → at_number (homes program) home ≡ Some given.target → IsSettled program lists found given

-- the start of thread i
abbrev pub StartIsSettled : Program → List (List Row) → ℕ → List StoredFact → Type 0
StartIsSettled program lists i found = IsSettled program lists found (init_case program i)

-- Thread i has edge e.
abbrev pub HasEdge : Program → ℕ → ℕ → Type 0
HasEdge program i e = (thread : Thread) × (edge : Edge) × IsEdgeOf program i e thread edge

-- The fact stands at the source of edge e of thread i.
pub record IsFrom (program : Program) (i e : ℕ) (f : Fact) : Type 0 where
  pub thread : Thread
  pub edge : Edge
  pub edge_is : IsEdgeOf program i e thread edge
  pub at : f.home ≡ State i edge.from

-- the step of a fact's thread by its edge e, where the fact stands at the edge's source
abbrev pub OwnIsSettled : Program → List (List Row) → ℕ → ℕ → Fact → List StoredFact → Type 0
OwnIsSettled program lists i e f found =
    (thread : Thread) (edge : Edge) → IsEdgeOf program i e thread edge → f.home ≡ State i edge.from
    → IsSettled program lists found (own_case program (sets_of program lists) i thread edge f)

-- that step as the other threads see it
abbrev pub GuarIsSettled : Program → List (List Row) → ℕ → ℕ → Fact → List StoredFact → Type 0
GuarIsSettled program lists i e f found =
    (thread : Thread) (edge : Edge) → IsEdgeOf program i e thread edge → f.home ≡ State i edge.from
    → IsSettled program lists found (guar_case program (sets_of program lists) i e thread edge f)

-- both
abbrev pub EdgeIsSettled : Program → List (List Row) → ℕ → ℕ → Fact → List StoredFact → Type 0
EdgeIsSettled program lists i e f found = OwnIsSettled program lists i e f found × GuarIsSettled program lists i e f found

-- all steps of a fact's thread from it
abbrev pub OwnAreSettled : Program → List (List Row) → Fact → List StoredFact → Type 0
OwnAreSettled program lists f found = (i e : ℕ) → EdgeIsSettled program lists i e f found

-- the step of another thread of which t tells, at fact f
abbrev pub PairIsSettled : Program → List (List Row) → Fact → Fact → List StoredFact → Type 0
PairIsSettled program lists f t found =
    (k l i e : ℕ) (other thread : Thread) (edge : Edge) → k ≢ i → IsLocationOf program k l other → IsEdgeOf program i e thread edge
    → f.home ≡ State k l → t.home ≡ Env i e → IsSettled program lists found (env_case program (sets_of program lists) k l other thread edge f t)

-- the step of which each of two facts tells, at the other
abbrev pub BothAreSettled : Program → List (List Row) → Fact → Fact → List StoredFact → Type 0
BothAreSettled program lists f g found = PairIsSettled program lists f g found × PairIsSettled program lists g f found

-- the steps of other threads at fact f, and those of which f tells, with each of the first n facts
abbrev pub PairsAreSettled : Program → List (List Row) → Fact → ℕ → List StoredFact → List StoredFact → Type 0
PairsAreSettled program lists f n facts found =
    (place : ℕ) (other : StoredFact) → place < n → slice_get facts place ≡ Some other
    → PairIsSettled program lists f (fact_of program other) found × PairIsSettled program lists (fact_of program other) f found

-- all instances of the n-th fact with those before it
abbrev pub IsLookedAt : Program → List (List Row) → ℕ → List StoredFact → List StoredFact → Type 0
IsLookedAt program lists n facts found =
    (stored : StoredFact) → slice_get facts n ≡ Some stored
    → OwnAreSettled program lists (fact_of program stored) found × PairsAreSettled program lists (fact_of program stored) n facts found

-- the starts of all threads
abbrev pub StartsAreSettled : Program → List (List Row) → List StoredFact → Type 0
StartsAreSettled program lists found = (i : ℕ) (thread : Thread) → IsThreadOf program i thread → StartIsSettled program lists i found

-- all instances over the first n facts
abbrev pub AllAreSettled : Program → List (List Row) → ℕ → List StoredFact → Type 0
AllAreSettled program lists n found =
    (premises : List Fact) (given : Case) → IsCase program (sets_of program lists) premises given
    → AllByRecursion (Contains (take n (facts_of program found))) premises → IsSettled program lists found given

-- all instances over the facts
abbrev pub AreAllSettled : Program → List (List Row) → List StoredFact → Type 0
AreAllSettled program lists found = AllAreSettled program lists (length found) found
