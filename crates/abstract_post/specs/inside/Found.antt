-- What a solver finds of the rows of an instance. No public clause cites this file.
use Rattle.std.specs.Prelude.{◌≡◌, ◌↔◌, ℕ, ◌^◌, ◌<◌, ◌≤◌, Bool, true, List, ◌∷◌, map, length, Some, None, Result, Ok, Err}
use Rattle.thr_base.specs.Held.{holds}
use Rattle.lin_rows.specs.Row.{Row}
use Rattle.lin_rows.specs.System.{System}
use Rattle.farkas_cert.specs.Cert.{IsRefuted}
use Rattle.farkas_cert.specs.Proof.{Entails, with_denial}
use Rattle.farkas_cert.specs.declared.answers.LeaveKind.{LeaveKind}
use Rattle.rational_entail.specs.Entailment.{leave_of}
use Rattle.transition_formula.specs.Program.{at_number}
use Rattle.abstract_post.specs.declared.deciding.Found.{Found}
use Rattle.abstract_post.specs.declared.deciding.Found.TheVariants as found
use Rattle.abstract_post.specs.Left.{LeavesWith}

-- Whether the system entails the row, or the kind with which that is left undecided.
abbrev pub Tells : System → Row → Result Bool LeaveKind → Type 0
Tells system row (Ok entailed) = (leave_of (with_denial system row) ≡ None) × ((entailed ≡ true) ↔ Entails system row)
Tells system row (Err kind) = leave_of (with_denial system row) ≡ Some kind

-- The position is held exactly where the system entails the row, which was decided.
pub record IsDecidedAt (system : System) (held k : ℕ) (row : Row) : Type 0 where
  pub held_is : (holds held k ≡ true) ↔ Entails system row
  pub decides : leave_of (with_denial system row) ≡ None

-- So it is with each of the first atoms, as they are placed, and no position behind theirs is held.
pub record AreDecided (system : System) (place : Row → Row) (atoms : List Row) (held count : ℕ) : Type 0 where
  pub no_more : held < 2 ^ count
  pub each : (k : ℕ) (atom : Row) → k ≤ count → at_number atoms k ≡ Some atom → IsDecidedAt system held k (place atom)

-- What was found of the system and the atoms, as they are placed.
abbrev pub IsFound : System → (Row → Row) → List Row → Found → Type 0
IsFound system place atoms found.Refuted = IsRefuted system
IsFound system place atoms (found.Held held) = (¬ IsRefuted system) × AreDecided system place atoms held (length atoms)
IsFound system place atoms (found.Left kind) = LeavesWith system place atoms kind
