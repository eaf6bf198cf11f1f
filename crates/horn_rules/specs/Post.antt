-- What an instance gives.
use Rattle.std.specs.Prelude.{◌≡◌, ◌↔◌, ℕ, List, Option, Some, None}
use Rattle.std.specs.List.{AllByRecursion, Contains}
use Rattle.thr_base.specs.Held.{Rise}
use Rattle.lin_rows.specs.Row.{Row}
use Rattle.farkas_cert.specs.Cert.{IsRefuted}
use Rattle.farkas_cert.specs.Proof.{Entails}
use Rattle.transition_formula.specs.Program.{at_number}
use Rattle.horn_rules.specs.Fact.{Sets, Fact, Statement}
use Rattle.horn_rules.specs.Case.{Case}

-- The system entails the atom at position k of the list, as it is placed.
abbrev pub EntailsAt : Case → List Row → ℕ → Type 0
EntailsAt given atoms k = (atom : Row) × (at_number atoms k ≡ Some atom) × Entails given.system (given.place atom)

-- These are the positions of exactly the atoms that the system entails; it is not refuted.
pub record AreEntailed (given : Case) (atoms : List Row) (held : List ℕ) : Type 0 where
  pub open_system : ¬ IsRefuted given.system
  pub rising : Rise 0 held
  pub exact : (k : ℕ) → Contains held k ↔ EntailsAt given atoms k

-- The post over a list of atoms: nothing where the system is refuted, and else these positions.
abbrev pub IsPost : Case → List Row → Option (List ℕ) → Type 0
IsPost given atoms None = IsRefuted given.system
IsPost given atoms (Some held) = AreEntailed given atoms held

-- The fact that the instance gives, where homes have these predicates: at the target home, with the post over its list.
pub record IsFactOf (sets : Sets) (given : Case) (fact : Fact) : Type 0 where
  pub at_target : fact.home ≡ given.target
  pub entailed : AreEntailed given (sets given.target) fact.held

-- The instance gives a fact that says so, which need not be all: it stands at the target home, and the system entails each of its atoms.
pub record IsGiven (given : Case) (statement : Statement) : Type 0 where
  pub at_target : statement.home ≡ given.target
  pub entailed : AllByRecursion (λ atom. Entails given.system (given.place atom)) statement.atoms
