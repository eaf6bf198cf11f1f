-- What the program holds while it eliminates.
use Rattle.std.specs.Prelude.{◌≡◌, ℕ, suc, ◌+◌, ◌<◌, true, length, map, reverse, if◌then◌else◌, is_none, ⊤}
use Rattle.std.specs.List.{AllByRecursion}
use Rattle.lin_rows.specs.System.{System}
use Rattle.farkas_cert.specs.Cert.{Pairs}
use Rattle.farkas_cert.specs.Proof.{overflow_of}
use Rattle.farkas_cert.specs.Line.{Line, coefficient_at, has_variable, is_nonzero}
use Rattle.farkas_cert.specs.BackSubstitution.{Kept, Solved, Bounded}
use Rattle.farkas_cert.specs.Elimination.{Work, Next, Goes, Ends, Outcome, Refuted, Leaves}
use Rattle.farkas_cert.specs.declared.answers.LeaveKind.TheVariants.{Overflow}
use Rattle.plain_elim.specs.declared.kept.Kept.{Kept as HeldKept}
use Rattle.plain_elim.specs.declared.kept.Kept.TheVariants as kept
use Rattle.plain_elim.specs.declared.work.Work.{Work as HeldWork}
use Rattle.plain_elim.specs.declared.work.Next.{Next as HeldNext}
use Rattle.plain_elim.specs.declared.work.Next.TheVariants as next

-- what a stage kept, as the definition has it
abbrev pub kept_of : HeldKept → Kept
kept_of (kept.Solved c line) = Solved c line
kept_of (kept.Bounded c lines) = Bounded c lines.items

-- what a stage starts from; the program holds what was kept in the order of the stages
abbrev pub work_of : HeldWork → Work
work_of work = record { lines = work.lines.items; kept = reverse (map kept_of work.kept.items); made = work.made }

-- what multipliers that refute come to, where they are those of a stage
abbrev pub refuted_by : System → Pairs → ℕ → Outcome
refuted_by system pairs number = if is_none (overflow_of system.rows pairs) then Refuted pairs else Leaves number Overflow

-- what a stage comes to
abbrev pub next_of : System → HeldNext → Next
next_of system (next.Goes work) = Goes (work_of work)
next_of system (next.Refutes cert number) = Ends (refuted_by system cert number)
next_of system (next.Leaves number kind) = Ends (Leaves number kind)

-- ---- what is known of it

-- The line has a coefficient at column c of n, and a bound behind its coefficients.
pub record BoundsColumn (n c : ℕ) (line : Line) : Type 0 where
  pub within : c < n
  pub has_bound : n < length line.numbers
  pub there : is_nonzero (coefficient_at c line) ≡ true

-- What was kept for a column bounds it.
abbrev pub BoundsItsColumn : ℕ → Kept → Type 0
BoundsItsColumn n (Solved c line) = BoundsColumn n c line
BoundsItsColumn n (Bounded c lines) = (c < n) × AllByRecursion (BoundsColumn n c) lines

-- The line has as many numbers as a line of the system, and a variable.
pub record IsOpen (system : System) (line : Line) : Type 0 where
  pub width : length line.numbers ≡ system.columns + suc (length system.rows)
  pub variable : has_variable system.columns line ≡ true

-- A stage may start from the work: each line is open, and what was kept bounds its column.
pub record IsReady (system : System) (work : Work) : Type 0 where
  pub lines : AllByRecursion (IsOpen system) work.lines
  pub kept : AllByRecursion (BoundsItsColumn system.columns) work.kept

abbrev pub IsReadyNext : System → Next → Type 0
IsReadyNext system (Goes work) = IsReady system work
IsReadyNext system (Ends outcome) = ⊤
