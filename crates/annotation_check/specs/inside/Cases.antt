-- The cases of an annotation's instances, and what the code holds of one. No public clause cites this file.
use Rattle.std.specs.Prelude.{◌≡◌, ◌+◌, ◌≤◌, ℕ, length, Option, Some, None, option_map}
use Rattle.std.specs.List.{AllByRecursion}
use Rattle.lin_rows.specs.Row.{Row}
use Rattle.predicate_sets.specs.Sets.{set_at}
use Rattle.transition_formula.specs.Program.{Program, at_number}
use Rattle.horn_rules.specs.declared.job.Premise.{Premise}
use Rattle.horn_rules.specs.Home.{Home, State, homes, home_width, IsHomeOf}
use Rattle.horn_rules.specs.Fact.{Statement}
use Rattle.horn_rules.specs.Instance.{Instance, first_of, second_of, premises_of, map_instance}
use Rattle.horn_rules.specs.Instances.{IsResolved}
use Rattle.horn_rules.specs.Case.{Case, IsCaseOf, placed_at}
use Rattle.horn_rules.specs.Target.{target_at}
use Rattle.horn_rules.specs.Stored.{home_numbered, HasItsHome as FactHasHome}
use Rattle.annotation_form.specs.Annotation.{Annotation, statements_of}
use Rattle.annotation_check.specs.declared.stored_case.StoredCase.{StoredCase}

-- What the instance over the annotation's facts comes to.
pub record ComesTo (program : Program) (annotation : Annotation) (numbers : Instance ℕ) (given : Case) : Type 0 where
  pub instance : Instance Statement
  pub resolved : IsResolved (statements_of program annotation) numbers instance
  pub is_case : IsCaseOf program instance given

-- The instance comes to a case.
abbrev pub HasCase : Program → Annotation → Instance ℕ → Type 0
HasCase program annotation numbers = (given : Case) × ComesTo program annotation numbers given

-- The premise is the fact of its id, with the predicates of its home.
pub record IsPremiseOf (annotation : Annotation) (premise : Premise) : Type 0 where
  pub fact_is : at_number annotation.facts premise.id.0 ≡ Some premise.fact
  pub set_is : premise.set.value ≡ set_at annotation.sets premise.fact.home.0

-- These are the premises that the instance names.
pub record ArePremises (annotation : Annotation) (numbers : Instance ℕ) (first second : Option Premise) : Type 0 where
  pub over : Instance Premise
  pub ids_are : map_instance (λ premise. premise.id.0) over ≡ numbers
  pub first_is : first ≡ first_of over
  pub second_is : second ≡ second_of over
  pub each : AllByRecursion (IsPremiseOf annotation) (premises_of over)

-- where a premise stands, if it is there
abbrev pub place_of : Program → Option Premise → Option Home
place_of program premise = option_map (λ found. home_numbered program found.fact.home.0) premise

-- The premise, if it is there, stands at a home of the program.
abbrev pub HasItsHome : Program → Option Premise → Type 0
HasItsHome program None = Unit {0}
HasItsHome program (Some premise) = FactHasHome program premise.fact

-- The instance with these premises leads to the home, which the program has.
pub record LeadsTo (program : Program) (numbers : Instance ℕ) (first second : Option Premise) (home : Home) : Type 0 where
  pub target_is : target_at program numbers (place_of program first) (place_of program second) ≡ Some home
  pub is_home : IsHomeOf program home

-- The atom stands within the rows of the stored case, where the case places it.
pub record IsPlacedIn (stored : StoredCase) (given : Case) (atom : Row) : Type 0 where
  pub within : stored.before + length atom.coefficients ≤ stored.rows.columns
  pub placed : given.place atom ≡ placed_at stored.before stored.rows.columns atom

-- What the code holds of a case.
pub record IsStoredCase (program : Program) (given : Case) (stored : StoredCase) : Type 0 where
  pub rows_are : stored.rows ≡ given.system
  pub home_is : at_number (homes program) stored.home.0 ≡ Some given.target
  pub places : (atom : Row) → length atom.coefficients ≡ home_width (length program.columns) given.target → IsPlacedIn stored given atom

-- the case that it tells, at any home
abbrev pub told_by : StoredCase → Case
told_by stored = record { target = State 0 0; system = stored.rows; place = placed_at stored.before stored.rows.columns }
