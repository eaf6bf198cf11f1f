-- Facts with the instances of which they came, the newest first.
use Rattle.std.specs.Prelude.{◌≡◌, ◌<◌, ◌==◌, ℕ, if◌then◌else◌, List, [], ◌∷◌, Option, Some, None, option_map}
use Rattle.std.specs.Option.{option_and_then}
use Rattle.std.specs.List.{AllByRecursion}
use Rattle.transition_formula.specs.Program.{Program}
use Rattle.horn_rules.specs.Home.{Home}
use Rattle.horn_rules.specs.Fact.{Fact}
use Rattle.horn_rules.specs.Instance.{Instance, first_of, second_of}
use Rattle.horn_rules.specs.Target.{target_at}

-- A fact, the id that it has, and the instance that gave it, over the ids of its premises.
pub record KeptFact : Type 0 where
  pub id : ℕ
  pub fact : Fact
  pub kept : Instance ℕ

-- the fact of an id
abbrev pub fact_at : List KeptFact → ℕ → Option Fact
fact_at [] id = None
fact_at (f ∷ earlier) id = if f.id == id then Some f.fact else fact_at earlier id

-- the home of an id's fact
abbrev pub home_at : List KeptFact → ℕ → Option Home
home_at facts id = option_map (λ fact. fact.home) (fact_at facts id)

-- the home of which an instance over these facts gives one; nothing where a premise is missing, or where it is no instance of the program
abbrev pub target_among : Program → List KeptFact → Instance ℕ → Option Home
target_among program facts instance =
    target_at program instance (option_and_then (home_at facts) (first_of instance)) (option_and_then (home_at facts) (second_of instance))

-- Each fact stands where its instance leads from facts behind it, and has a greater id than these.
abbrev pub AreKept : Program → List KeptFact → Type 0
AreKept program [] = Unit {0}
AreKept program (f ∷ earlier) =
    (target_among program earlier f.kept ≡ Some f.fact.home) × AllByRecursion (λ (g : KeptFact). g.id < f.id) earlier × AreKept program earlier
