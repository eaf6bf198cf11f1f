-- Predicates, facts, and what facts say. Positions count from 1.
use Rattle.std.specs.Prelude.{◌≡◌, ℕ, List, length, filter_map}
use Rattle.std.specs.List.{AllByRecursion}
use Rattle.lin_rows.specs.Row.{Row}
use Rattle.lin_rows.specs.Atom.{IsAtom}
use Rattle.predicate_sets.specs.HomeSet.{AreDistinct}
use Rattle.transition_formula.specs.Program.{Program, at_number}
use Rattle.horn_rules.specs.Home.{Home, home_width}

-- the predicates of each home, as a list of atoms
abbrev pub Sets : Type 0
Sets = Home → List Row

-- The atom has one coefficient for each column of the home.
pub record IsAtomOf (program : Program) (home : Home) (atom : Row) : Type 0 where
  pub is_atom : IsAtom atom
  pub one_each : length atom.coefficients ≡ home_width (length program.columns) home

-- The predicates of a home: atoms of it, none of them twice.
pub record IsSetOf (program : Program) (home : Home) (atoms : List Row) : Type 0 where
  pub are_atoms : AllByRecursion (IsAtomOf program home) atoms
  pub none_twice : AreDistinct atoms

-- Each home has predicates of it.
abbrev pub AreSetsOf : Program → Sets → Type 0
AreSetsOf program sets = (home : Home) → IsSetOf program home (sets home)

-- A fact: at a home, the predicates at these positions hold.
pub record Fact : Type 0 where
  pub home : Home
  pub held : List ℕ

-- What a fact says: at a home, these atoms hold.
pub record Statement : Type 0 where
  pub home : Home
  pub atoms : List Row

-- the atoms of a list at these positions, in the order of the positions
abbrev pub atoms_at : List Row → List ℕ → List Row
atoms_at atoms held = filter_map (at_number atoms) held

-- what a fact says, where homes have these predicates
abbrev pub statement_of : Sets → Fact → Statement
statement_of sets fact = record { home = fact.home; atoms = atoms_at (sets fact.home) fact.held }

-- The statement is made of atoms of its home.
pub record IsStatementOf (program : Program) (statement : Statement) : Type 0 where
  pub are_atoms : AllByRecursion (IsAtomOf program statement.home) statement.atoms
