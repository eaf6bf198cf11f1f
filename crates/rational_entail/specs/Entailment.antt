-- What the answers of the solver say.
use Rattle.std.specs.Prelude.{◌≡◌, ℕ, Option, Some, None, option_map, ⊤}
use Rattle.lin_rows.specs.Row.{Row}
use Rattle.lin_rows.specs.System.{System}
use Rattle.farkas_cert.specs.Proof.{Entails}
use Rattle.farkas_cert.specs.Elimination as elimination
use Rattle.farkas_cert.specs.Elimination.{left_by}
use Rattle.farkas_cert.specs.declared.answers.LeaveKind.{LeaveKind}
use Rattle.farkas_cert.specs.declared.answers.Decided.{Decided}
use Rattle.farkas_cert.specs.declared.answers.Decided.TheVariants as decided
use Rattle.tableau_elim.specs.Rounds as tableau
use Rattle.tableau_elim.specs.Rounds.{Outcome, Refuted, Point, GaveUp}
use Rattle.rational_entail.specs.declared.denial.Entailed.{Entailed}
use Rattle.rational_entail.specs.declared.denial.Entailed.TheVariants as entailed

-- the stage and the kind with which an answer leaves the rows undecided, if it does
abbrev pub left_in : Decided → Option (ℕ × LeaveKind)
left_in (decided.Refuted cert) = None
left_in (decided.Point x d) = None
left_in (decided.Leaves stage kind) = Some (stage, kind)

-- what an elimination leaves is left where the tableau gave up
abbrev pub left_with : Outcome → Option (ℕ × LeaveKind) → Option (ℕ × LeaveKind)
left_with (Refuted pairs) left = None
left_with (Point x d) left = None
left_with GaveUp left = left

-- When a system is left undecided, with which stage and kind: where its tableau gives up and its elimination leaves, and as that does.
abbrev pub left_of : System → Option (ℕ × LeaveKind)
left_of system = left_with (tableau.outcome_of system) (left_by (elimination.outcome_of system))

-- the kind alone
abbrev pub leave_of : System → Option LeaveKind
leave_of system = option_map (λ left. left.1) (left_of system)

-- The answer leaves exactly where the system is left, with its stage and kind.
abbrev pub LeavesAlike : System → Decided → Type 0
LeavesAlike system answer = left_in answer ≡ left_of system

-- the answer on the rows with an atom's negation, as one on the rows that it denies
abbrev pub decided_in : Entailed → Decided
decided_in (entailed.Yes cert) = decided.Refuted cert
decided_in (entailed.No x d) = decided.Point x d
decided_in (entailed.Leaves stage kind) = decided.Leaves stage kind

-- What is answered of an atom holds: it is entailed, or it is not; where the system is left, nothing is said.
abbrev pub Says : System → Row → Entailed → Type 0
Says system atom (entailed.Yes cert) = Entails system atom
Says system atom (entailed.No x d) = ¬ Entails system atom
Says system atom (entailed.Leaves stage kind) = ⊤
