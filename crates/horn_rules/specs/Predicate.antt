-- A predicate: an atom at a home.
use Rattle.std.specs.Prelude.{if◌then◌else◌, List, [], ◌∷◌}
use Rattle.lin_rows.specs.Row.{Row}
use Rattle.transition_formula.specs.Program.{Program}
use Rattle.horn_rules.specs.Home.{Home, IsHomeOf}
use Rattle.horn_rules.specs.Fact.{IsAtomOf}
use Rattle.horn_rules.specs.Stored.{same_home}

-- an atom at a home
pub record Predicate : Type 0 where
  pub home : Home
  pub atom : Row

-- The program has the home, and the atom is one of it.
pub record IsPredicateOf (program : Program) (predicate : Predicate) : Type 0 where
  pub has_home : IsHomeOf program predicate.home
  pub is_atom : IsAtomOf program predicate.home predicate.atom

-- the atoms at a home, in the order of the predicates
abbrev pub home_atoms : Home → List Predicate → List Row
home_atoms home [] = []
home_atoms home (predicate ∷ predicates) =
    if same_home home predicate.home then predicate.atom ∷ home_atoms home predicates else home_atoms home predicates
