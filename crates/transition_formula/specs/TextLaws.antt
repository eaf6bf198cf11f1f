-- What the texts of columns and of atoms tell.
use Rattle.std.specs.Prelude.{◌≡◌, ◌≢◌, ℕ, ◌<◌, ◌≤◌, Bool, List, length, Option}
use Rattle.std.specs.List.{AllByRecursion}
use Rattle.thr_base.specs.Limits.{most_threads}
use Rattle.thr_base.specs.ColumnText.{IsColumnText}
use Rattle.lin_rows.specs.Row.{Row}
use Rattle.transition_formula.specs.Program.{Program, IsProgram}
use Rattle.transition_formula.specs.AtomText.{IsAtomText}

-- The byte is printable, a blank among these.
pub record IsPrintable (b : ℕ) : Type 0 where
  pub from : 32 ≤ b
  pub to : b ≤ 126

-- The byte is printable, and neither a blank, a quote, a `*` nor a `-`.
pub record IsOfName (b : ℕ) : Type 0 where
  pub printable : IsPrintable b
  pub no_blank : b ≢ 32
  pub no_quote : b ≢ 39
  pub no_star : b ≢ 42
  pub no_minus : b ≢ 45

-- The text of a column has at least one byte, and each is of a name.
pub record IsColumnWord (text : List ℕ) : Type 0 where
  pub some : 0 < length text
  pub bytes : AllByRecursion IsOfName text

abbrev pub ColumnTextsAreWords : Type 0
ColumnTextsAreWords = (threads : ℕ) (owner : Option ℕ) (text : List ℕ) → threads ≤ most_threads → IsColumnText threads owner text → IsColumnWord text

-- A text is that of one atom at most.
abbrev pub AtomTextsTellAtoms : Type 0
AtomTextsTellAtoms = (program : Program) (env : Bool) (one other : Row) (text : List ℕ) → IsProgram program
    → IsAtomText program.columns env one text → IsAtomText program.columns env other text → one ≡ other

-- The text of an atom is printable, so that it stands in one line.
abbrev pub AtomTextsArePrintable : Type 0
AtomTextsArePrintable = (program : Program) (env : Bool) (atom : Row) (text : List ℕ) → IsProgram program
    → IsAtomText program.columns env atom text → AllByRecursion IsPrintable text
