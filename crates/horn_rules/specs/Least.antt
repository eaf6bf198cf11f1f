-- What can be derived from nothing.
use Rattle.std.specs.Prelude.{◌≡◌, List, [], ◌∷◌}
use Rattle.std.specs.List.{AllByRecursion, Contains}
use Rattle.thr_base.specs.declared.names.RuleName.{RuleName}
use Rattle.transition_formula.specs.Program.{Program}
use Rattle.horn_rules.specs.Fact.{Sets, Fact, Statement, statement_of}
use Rattle.horn_rules.specs.Instance.{Instance, HasKind, premises_of, map_instance}
use Rattle.horn_rules.specs.Case.{Case, IsCaseOf}
use Rattle.horn_rules.specs.Post.{IsFactOf}

-- The fact is what an instance of the rule over these facts gives.
pub record Comes (program : Program) (rule : RuleName) (sets : Sets) (earlier : List Fact) (fact : Fact) : Type 0 where
  pub instance : Instance Fact
  pub given : Case
  pub has_kind : HasKind rule instance
  pub is_case : IsCaseOf program (map_instance (statement_of sets) instance) given
  pub stand_earlier : AllByRecursion (Contains earlier) (premises_of instance)
  pub is_fact : IsFactOf sets given fact

-- Each fact comes from those behind it: the list is a derivation, the newest fact first.
abbrev pub IsDerivation : Program → RuleName → Sets → List Fact → Type 0
IsDerivation program rule sets [] = Unit {0}
IsDerivation program rule sets (fact ∷ earlier) = Comes program rule sets earlier fact × IsDerivation program rule sets earlier

-- The fact can be derived from nothing.
abbrev pub Least : Program → RuleName → Sets → Fact → Type 0
Least program rule sets fact = (facts : List Fact) × IsDerivation program rule sets facts × Contains facts fact

-- Some fact of the least set says this.
abbrev pub LeastSays : Program → RuleName → Sets → Statement → Type 0
LeastSays program rule sets statement = (fact : Fact) × Least program rule sets fact × (statement ≡ statement_of sets fact)
