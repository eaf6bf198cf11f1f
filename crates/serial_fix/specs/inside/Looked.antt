-- The instances that a run has looked at, in its order. No public clause cites this file.
use Rattle.std.specs.Prelude.{◌≡◌, ◌≢◌, ℕ, ◌+◌, ◌-◌, ◌*◌, ◌^◌, ◌<◌, max, min, List, length, AllPairs, Option, Some, None}
use Rattle.std.specs.List.{AllByRecursion}
use Rattle.thr_base.specs.declared.names.RuleName.TheVariants.{Rg}
use Rattle.thr_base.specs.declared.names.Fact.{Fact as StoredFact}
use Rattle.lin_rows.specs.Row.{Row}
use Rattle.transition_formula.specs.Program.{Program, at_number}
use Rattle.horn_rules.specs.declared.job.Premise.{Premise}
use Rattle.horn_rules.specs.Fact.{Fact, statement_of}
use Rattle.horn_rules.specs.Instance.{Instance, Init, Own, Guar, Env as Environment, Inter, HasKind, map_instance}
use Rattle.horn_rules.specs.Instances.{IsResolved}
use Rattle.horn_rules.specs.Case.{Case, IsCaseOf}
use Rattle.horn_rules.specs.Home.{homes}
use Rattle.horn_rules.specs.Stored.{facts_of, home_of, sets_of}
use Rattle.serial_fix.specs.inside.Found.{FoundFacts}
use Rattle.serial_fix.specs.declared.run.Known.{Known}

-- ---- the order in which a run looks: at the starts, and then at fact by fact, alone with its edges and with those before it

-- the place of a part of what is looked at with the n-th fact
abbrev pub turn : ℕ → ℕ → ℕ
turn n part = n * 2 ^ 40 + part

-- where the pairs of a fact begin, behind its edges
abbrev pub first_pair : ℕ
first_pair = 2 ^ 20

-- the place of an instance over the numbers of facts
abbrev pub place_in_run : Instance ℕ → ℕ
place_in_run (Init i) = i
place_in_run (Own n e) = turn n (2 * e)
place_in_run (Guar n e) = turn n (2 * e + 1)
place_in_run (Environment n m) = turn (max n m) (first_pair + 2 * min n m + (1 - (n - m)))
place_in_run (Inter n m e) = 0

-- ---- what was looked at

-- The fact stands at its number, and its home is this one.
pub record IsKnown (program : Program) (facts : List StoredFact) (known : Known) : Type 0 where
  pub at : at_number facts known.id.0 ≡ Some known.fact
  pub home_is : at_number (homes program) known.fact.home.0 ≡ Some (home_of known.home)

-- So does that of the premise, if it is there.
abbrev pub IsNumbered : List StoredFact → Option Premise → Type 0
IsNumbered facts None = Unit {0}
IsNumbered facts (Some premise) = at_number facts premise.id.0 ≡ Some premise.fact

-- The instance is one of the rule over facts that are there, and comes to a case.
pub record IsOver (program : Program) (lists : List (List Row)) (facts : List StoredFact) (numbers : Instance ℕ) : Type 0 where
  pub instance : Instance Fact
  pub given : Case
  pub resolved : IsResolved (facts_of program facts) numbers instance
  pub has_kind : HasKind Rg instance
  pub is_case : IsCaseOf program (map_instance (statement_of (sets_of program lists)) instance) given

-- As many instances as jobs were counted are over facts that are there, none twice, and all before this place in the run.
pub record AreLookedAt (program : Program) (lists : List (List Row)) (found : FoundFacts) (upto : ℕ) : Type 0 where
  pub instances : List (Instance ℕ)
  pub count : length instances ≡ found.jobs
  pub none_twice : AllPairs (λ a b. a ≢ b) instances
  pub over : AllByRecursion (IsOver program lists found.facts) instances
  pub before : AllByRecursion (λ instance. place_in_run instance < upto) instances
