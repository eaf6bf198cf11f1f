-- What stands for homes, facts and instances in a program.
use Rattle.std.specs.Prelude.{◌≡◌, ℕ, ◌==◌, ◌&&◌, Bool, false, if◌then◌else◌, List, [], ◌∷◌, length, map, Some, IsSome, unwrap_or}
use Rattle.thr_base.specs.Held.{positions}
use Rattle.thr_base.specs.declared.names.Home.{Home as StoredHome}
use Rattle.thr_base.specs.declared.names.Home.TheVariants.{State as StoredState, Env as StoredEnv}
use Rattle.thr_base.specs.declared.names.Fact.{Fact as StoredFact}
use Rattle.thr_base.specs.declared.names.Instance.{Instance as StoredInstance}
use Rattle.thr_base.specs.declared.names.Instance.TheVariants as stored
use Rattle.lin_rows.specs.Row.{Row}
use Rattle.predicate_sets.specs.Sets.{set_at}
use Rattle.transition_formula.specs.Program.{Program, at_number}
use Rattle.horn_rules.specs.Home.{Home, State, Env, homes}
use Rattle.horn_rules.specs.Fact.{Sets, Fact, IsSetOf}
use Rattle.horn_rules.specs.Instance.{Instance, Init, Own, Guar, Env as Environment, Inter}

-- the home that the code's value stands for
abbrev pub home_of : StoredHome → Home
home_of (StoredState thread location) = State thread.0 location.0
home_of (StoredEnv thread edge) = Env thread.0 edge.0

-- the home of a number; where there is none, a location of thread 0, which no program has
abbrev pub home_numbered : Program → ℕ → Home
home_numbered program n = unwrap_or (at_number (homes program) n) (State 0 0)

-- the fact that a stored one stands for: at the home of its number, the positions that its word holds
abbrev pub fact_of : Program → StoredFact → Fact
fact_of program stored = record { home = home_numbered program stored.home.0; held = positions stored.held }

abbrev pub facts_of : Program → List StoredFact → List Fact
facts_of program facts = map (fact_of program) facts

-- The home of the stored fact exists.
abbrev pub HasItsHome : Program → StoredFact → Type 0
HasItsHome program stored = IsSome (at_number (homes program) stored.home.0)

-- the instance that the code's value stands for, over the ids of facts
abbrev pub instance_of : StoredInstance → Instance ℕ
instance_of (stored.Init i) = Init i.0
instance_of (stored.Own f e) = Own f.0 e.0
instance_of (stored.Guar f e) = Guar f.0 e.0
instance_of (stored.Env f t) = Environment f.0 t.0
instance_of (stored.Inter f g e) = Inter f.0 g.0 e.0

-- ---- predicates by the numbers of homes

abbrev pub same_home : Home → Home → Bool
same_home (State i l) (State j m) = i == j && l == m
same_home (Env i e) (Env j f) = i == j && e == f
same_home one other = false

-- what stands in one list at the place of a home in another, or nothing
abbrev pub list_at : List Home → List (List Row) → Home → List Row
list_at [] lists home = []
list_at (other ∷ others) [] home = []
list_at (other ∷ others) (list ∷ lists) home = if same_home other home then list else list_at others lists home

-- the predicates of each home: the n-th list is that of the n-th home, and other homes have none
abbrev pub sets_of : Program → List (List Row) → Sets
sets_of program lists = list_at (homes program) lists

-- Each home has its list of predicates.
pub record AreStoredSetsOf (program : Program) (lists : List (List Row)) : Type 0 where
  pub one_each : length lists ≡ length (homes program)
  pub sets_are : (n : ℕ) (home : Home) → at_number (homes program) n ≡ Some home → IsSetOf program home (set_at lists n)
