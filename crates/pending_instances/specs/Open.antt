-- Where instances over live facts lead.
use Rattle.std.specs.Prelude.{◌≡◌, ℕ, List, Option, Some, option_map}
use Rattle.std.specs.Option.{option_and_then}
use Rattle.thr_base.specs.declared.names.HomeNo.{HomeNo}
use Rattle.thr_base.specs.declared.names.Instance.{Instance}
use Rattle.thr_base.specs.declared.names.RuleName.{RuleName}
use Rattle.fact_table.specs.declared.live_fact.LiveFact.{LiveFact}
use Rattle.fact_table.specs.Live.{live_at}
use Rattle.transition_formula.specs.Program.{Program, at_number}
use Rattle.horn_rules.specs.Home.{Home, homes}
use Rattle.horn_rules.specs.Instance.{HasKind, first_of, second_of}
use Rattle.horn_rules.specs.Stored.{home_numbered, instance_of}
use Rattle.horn_rules.specs.Target.{target_at}

-- the home of a live fact, by its id
abbrev pub home_live : Program → List LiveFact → ℕ → Option Home
home_live program live id = option_map (λ f. home_numbered program f.fact.home.0) (live_at live id)

-- the home of which an instance over live facts gives one; nothing where a premise is not live, or where it is no instance of the program
abbrev pub target_in : Program → List LiveFact → Instance → Option Home
target_in program live instance =
    target_at program (instance_of instance) (option_and_then (home_live program live) (first_of (instance_of instance)))
    (option_and_then (home_live program live) (second_of (instance_of instance)))

-- The instance is one of the rule and of the program over live facts.
pub record Leads (program : Program) (rule : RuleName) (live : List LiveFact) (instance : Instance) : Type 0 where
  pub has_kind : HasKind rule (instance_of instance)
  pub target : Home
  pub target_is : target_in program live instance ≡ Some target

-- The home of this number is its target.
pub record IsTarget (program : Program) (live : List LiveFact) (instance : Instance) (home : HomeNo) : Type 0 where
  pub target : Home
  pub target_is : target_in program live instance ≡ Some target
  pub number_is : at_number (homes program) home.0 ≡ Some target

-- It leads, to the home of this number.
pub record LeadsTo (program : Program) (rule : RuleName) (live : List LiveFact) (instance : Instance) (home : HomeNo) : Type 0 where
  pub has_kind : HasKind rule (instance_of instance)
  pub is_target : IsTarget program live instance home
