-- What cases, posts, instances and tables are, said further.
use Rattle.std.specs.Prelude.{◌≡◌, ◌≢◌, ◌↔◌, ℕ, ℤ, ◌+◌, ◌^◌, ◌<◌, ◌≤◌, List, [], length, AllPairs, Option, Some}
use Rattle.std.specs.List.{AllByRecursion, Contains}
use Rattle.thr_base.specs.declared.names.RuleName.{RuleName}
use Rattle.thr_base.specs.declared.names.Fact.{Fact as StoredFact}
use Rattle.lin_rows.specs.Row.{Row, Meets}
use Rattle.lin_rows.specs.System.{IsPoint}
use Rattle.farkas_cert.specs.Cert.{IsRefuted}
use Rattle.predicate_sets.specs.Sets.{set_at}
use Rattle.transition_formula.specs.Program.{Program, Thread, Edge, IsProgram, IsEdgeOf, at_number}
use Rattle.horn_rules.specs.declared.job.Job.{Job}
use Rattle.horn_rules.specs.Home.{Home, State, Env, homes, IsHomeOf, IsLocationOf, home_width}
use Rattle.horn_rules.specs.Fact.{Sets, Fact, Statement, AreSetsOf, IsStatementOf, statement_of}
use Rattle.horn_rules.specs.Instance.{Instance, HasKind, premises_of, map_instance}
use Rattle.horn_rules.specs.Case.{Case, IsCaseOf, placed_at, in_front}
use Rattle.horn_rules.specs.Post.{IsPost, IsFactOf, IsGiven}
use Rattle.horn_rules.specs.Least.{Least}
use Rattle.horn_rules.specs.Instances.{instances_over, IsResolved}
use Rattle.horn_rules.specs.Stored.{fact_of, HasItsHome, sets_of, AreStoredSetsOf}
use Rattle.horn_rules.specs.Target.{target_of}
use Rattle.horn_rules.specs.Job.{ComesTo}
use Rattle.horn_rules.specs.Table.{IsTableOf}

-- ---- cases

-- An instance comes to one case at most.
abbrev pub CasesAreUnique : Type 0
CasesAreUnique = (program : Program) (instance : Instance Statement) (one other : Case) → IsCaseOf program instance one → IsCaseOf program instance other → one ≡ other

-- So does a job.
abbrev pub JobsHaveOneCase : Type 0
JobsHaveOneCase = (program : Program) (job : Job) (one other : Case) → ComesTo program job one → ComesTo program job other → one ≡ other

-- The premises of an instance that comes to a case stand at homes of the program.
abbrev pub PremisesHaveHomes : Type 0
PremisesHaveHomes = (program : Program) (instance : Instance Statement) (given : Case) → IsProgram program → IsCaseOf program instance given
    → AllByRecursion (λ statement. IsHomeOf program statement.home) (premises_of instance)

-- An atom of the case's home is placed by numbers, and stands within its system.
pub record IsPlacedBy (program : Program) (instance : Instance Statement) (given : Case) (atom : Row) : Type 0 where
  pub within : in_front (length program.columns) instance + length atom.coefficients ≤ given.system.columns
  pub placed : given.place atom ≡ placed_at (in_front (length program.columns) instance) given.system.columns atom

abbrev pub AtomsArePlaced : Type 0
AtomsArePlaced = (program : Program) (instance : Instance Statement) (given : Case) (atom : Row)
    → IsCaseOf program instance given → length atom.coefficients ≡ home_width (length program.columns) given.target → IsPlacedBy program instance given atom

-- An instance that comes to a case has its target by the homes of its premises.
abbrev pub CasesHaveTheirTarget : Type 0
CasesHaveTheirTarget = (program : Program) (instance : Instance Statement) (given : Case)
    → IsCaseOf program instance given → target_of program (map_instance (λ statement. statement.home) instance) ≡ Some given.target

-- An instance with a target, whose premises stand at homes of the program, comes to a case.
abbrev pub TargetsHaveCases : Type 0
TargetsHaveCases = (program : Program) (instance : Instance Statement) (target : Home)
    → AllByRecursion (λ statement. IsHomeOf program statement.home) (premises_of instance)
    → target_of program (map_instance (λ statement. statement.home) instance) ≡ Some target
    → (given : Case) × IsCaseOf program instance given × (given.target ≡ target)

-- ---- posts

-- A case has one post at most.
abbrev pub PostsAreUnique : Type 0
PostsAreUnique = (given : Case) (atoms : List Row) (one other : Option (List ℕ)) → IsPost given atoms one → IsPost given atoms other → one ≡ other

-- What the fact of an instance says, the instance gives.
abbrev pub FactsAreGiven : Type 0
FactsAreGiven = (sets : Sets) (given : Case) (fact : Fact) → IsFactOf sets given fact → IsGiven given (statement_of sets fact)

-- The atoms of what an instance gives hold, as they are placed, at each whole point of its system.
abbrev pub GivenAtomsHold : Type 0
GivenAtomsHold = (program : Program) (instance : Instance Statement) (given : Case) (statement : Statement) (z : List ℤ)
    → IsCaseOf program instance given → IsStatementOf program statement → IsGiven given statement → IsPoint given.system z
    → AllByRecursion (λ atom. Meets (given.place atom) z) statement.atoms

-- ---- the least set

-- It has what an instance over facts of it gives.
abbrev pub LeastHasWhatItGives : Type 0
LeastHasWhatItGives = (program : Program) (rule : RuleName) (sets : Sets) (instance : Instance Fact) (given : Case) (fact : Fact)
    → HasKind rule instance → IsCaseOf program (map_instance (statement_of sets) instance) given → AllByRecursion (Least program rule sets) (premises_of instance)
    → IsFactOf sets given fact → Least program rule sets fact

-- The list has each fact that an instance of the rule over facts of it gives.
abbrev pub HasWhatItGives : Program → RuleName → Sets → List Fact → Type 0
HasWhatItGives program rule sets facts =
    (instance : Instance Fact) (given : Case) (fact : Fact) → HasKind rule instance → IsCaseOf program (map_instance (statement_of sets) instance) given
    → AllByRecursion (Contains facts) (premises_of instance) → IsFactOf sets given fact → Contains facts fact

-- Such a list has the whole least set.
abbrev pub LeastIsSmallest : Type 0
LeastIsSmallest = (program : Program) (rule : RuleName) (sets : Sets) (facts : List Fact) (fact : Fact)
    → HasWhatItGives program rule sets facts → Least program rule sets fact → Contains facts fact

-- the fact of a home that holds no predicate
abbrev pub bare_at : Home → Fact
bare_at home = record { home = home; held = [] }

-- Where no home has predicates, each instance whose system is not refuted gives exactly the bare fact of its home; where the facts
-- that it starts from are in the least set, so is that one.
abbrev pub OpenInstancesGiveTheirHomes : Type 0
OpenInstancesGiveTheirHomes = (program : Program) (rule : RuleName) (sets : Sets) (instance : Instance Fact) (given : Case) → ((home : Home) → sets home ≡ [])
    → HasKind rule instance → IsCaseOf program (map_instance (statement_of sets) instance) given → (¬ IsRefuted given.system)
    → IsFactOf sets given (bare_at given.target)
    × (AllByRecursion (Least program rule sets) (premises_of instance) → Least program rule sets (bare_at given.target))

-- No edge of the program has a test.
abbrev pub HasNoTests : Program → Type 0
HasNoTests program = (i e : ℕ) (thread : Thread) (edge : Edge) → IsEdgeOf program i e thread edge → edge.tests ≡ []

-- Where no edge has a test, some whole point meets the system of each instance over statements without atoms.
abbrev pub BareInstancesAreOpen : Type 0
BareInstancesAreOpen = (program : Program) (instance : Instance Statement) (given : Case) → IsProgram program → HasNoTests program
    → AllByRecursion (λ statement. statement.atoms ≡ []) (premises_of instance) → IsCaseOf program instance given → (z : List ℤ) × IsPoint given.system z

-- Where no edge has a test and no home a predicate, each instance gives exactly the bare fact of its home; where the facts that it
-- starts from are in the least set, so is that one.
abbrev pub EachInstanceGivesItsHome : Type 0
EachInstanceGivesItsHome = (program : Program) (rule : RuleName) (sets : Sets) (instance : Instance Fact) (given : Case)
    → IsProgram program → HasNoTests program → ((home : Home) → sets home ≡ [])
    → HasKind rule instance → IsCaseOf program (map_instance (statement_of sets) instance) given
    → IsFactOf sets given (bare_at given.target)
    × (AllByRecursion (Least program rule sets) (premises_of instance) → Least program rule sets (bare_at given.target))

-- ---- the instances over a list

-- The instance is one of the rule, and comes to a case over what the facts say.
pub record IsInstanceOver (program : Program) (rule : RuleName) (facts : List Statement) (numbers : Instance ℕ) : Type 0 where
  pub instance : Instance Statement
  pub given : Case
  pub has_kind : HasKind rule instance
  pub resolved : IsResolved facts numbers instance
  pub is_case : IsCaseOf program instance given

-- The list has exactly these, each once.
pub record AreInstancesOver (program : Program) (rule : RuleName) (facts : List Statement) (instances : List (Instance ℕ)) : Type 0 where
  pub exact : (numbers : Instance ℕ) → Contains instances numbers ↔ IsInstanceOver program rule facts numbers
  pub none_twice : AllPairs (λ a b. a ≢ b) instances

-- So is it with the list of all instances over facts at homes of the program.
abbrev pub InstancesAreExact : Type 0
InstancesAreExact = (program : Program) (rule : RuleName) (facts : List Statement)
    → AllByRecursion (λ fact. IsHomeOf program fact.home) facts → AreInstancesOver program rule facts (instances_over program rule facts)

-- ---- the homes that there are

-- Each location of a thread is a home.
abbrev pub LocationsAreHomes : Type 0
LocationsAreHomes = (program : Program) (k l : ℕ) (thread : Thread) → IsLocationOf program k l thread → IsHomeOf program (State k l)

-- Each edge is a home.
abbrev pub EdgesAreHomes : Type 0
EdgesAreHomes = (program : Program) (i e : ℕ) (thread : Thread) (edge : Edge) → IsEdgeOf program i e thread edge → IsHomeOf program (Env i e)

-- A home at an edge has its edge.
abbrev pub HomesHaveEdges : Type 0
HomesHaveEdges = (program : Program) (i e : ℕ) → IsHomeOf program (Env i e) → (thread : Thread) × (edge : Edge) × IsEdgeOf program i e thread edge

-- ---- what is stored

-- A home has one number.
abbrev pub HomesAreDistinct : Type 0
HomesAreDistinct = (program : Program) (n m : ℕ) (home : Home) → at_number (homes program) n ≡ Some home → at_number (homes program) m ≡ Some home → n ≡ m

-- A word holds 128 positions.
abbrev pub IsWord : StoredFact → Type 0
IsWord stored = stored.held < 2 ^ 128

-- What stands for the same fact is the same.
abbrev pub StoredFactsTellFacts : Type 0
StoredFactsTellFacts = (program : Program) (one other : StoredFact) → IsWord one → IsWord other → HasItsHome program one → HasItsHome program other
    → fact_of program one ≡ fact_of program other → one ≡ other

-- Lists that are kept by the numbers of homes are predicates of the homes, each that of its home.
pub record AreSetsByNumber (program : Program) (lists : List (List Row)) : Type 0 where
  pub sets_are : AreSetsOf program (sets_of program lists)
  pub each : (n : ℕ) (home : Home) → at_number (homes program) n ≡ Some home → sets_of program lists home ≡ set_at lists n

abbrev pub StoredSetsAreByNumber : Type 0
StoredSetsAreByNumber = (program : Program) (lists : List (List Row)) → AreStoredSetsOf program lists → AreSetsByNumber program lists

-- ---- tables

-- Of what the same facts are said, the table is the same, and there is one at most.
abbrev pub TablesAreUnique : Type 0
TablesAreUnique = (program : Program) (rule : RuleName) (sets : Sets) (one other : List ℕ)
    → IsTableOf (Least program rule sets) one → IsTableOf (Least program rule sets) other → one ≡ other
