-- What texts of predicates tell.
use Rattle.std.specs.Prelude.{◌≡◌, ℕ, List}
use Rattle.transition_formula.specs.Program.{Program, IsProgram}
use Rattle.annotation_form.specs.Predicates.{Predicate, IsPredicatesText, IsTextOfPredicates}
use Rattle.annotation_form.specs.BadLine.{IsBadLine}

-- A text is that of one list of predicates at most.
abbrev pub TextsTellPredicates : Type 0
TextsTellPredicates = (program : Program) (one other : List Predicate) (text : List ℕ) → IsProgram program
    → IsPredicatesText program one text → IsPredicatesText program other text → one ≡ other

-- A text has one bad line at most.
abbrev pub OneLineIsBad : Type 0
OneLineIsBad = (program : Program) (text : List ℕ) (n m : ℕ)
    → IsBadLine (IsTextOfPredicates program) text n → IsBadLine (IsTextOfPredicates program) text m → n ≡ m

-- A text of predicates has none.
abbrev pub TextsHaveNoBadLine : Type 0
TextsHaveNoBadLine = (program : Program) (text : List ℕ) (n : ℕ) → IsTextOfPredicates program text → ¬ IsBadLine (IsTextOfPredicates program) text n
