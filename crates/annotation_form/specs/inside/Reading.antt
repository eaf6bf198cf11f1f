-- What the parts of the reader say. No public clause cites this file.
use Rattle.std.specs.Prelude.{◌≡◌, ℕ, ◌+◌, ◌<◌, ◌^◌, pos, Bool, true, false, List, [], ◌∷◌, ◌++◌, length, codes}
use Rattle.std.specs.List.{AllByRecursion}
use Rattle.thr_base.specs.Limits.{most_predicates}
use Rattle.thr_base.specs.Number.{number_text}
use Rattle.lin_rows.specs.Row.{Row}
use Rattle.predicate_sets.specs.HomeSet.{Lacks}
use Rattle.transition_formula.specs.Program.{Program}
use Rattle.horn_rules.specs.Home.{Home, State, Env}
use Rattle.horn_rules.specs.HomeText.{home_text}
use Rattle.annotation_form.specs.declared.predicates.Lines.{Lines}
use Rattle.annotation_form.specs.declared.predicates.Lines.TheVariants.{Sets, Bad}
use Rattle.annotation_form.specs.Lines.{lines_text}
use Rattle.annotation_form.specs.BadLine.{IsBadLine}
use Rattle.annotation_form.specs.Predicates.{Predicate, IsPredicateOf, IsPredicatesText, IsTextOfPredicates, IsReadAs, AreAllowed, home_atoms, predicate_text, predicate_texts, lists_of}

-- whether a home is an edge
abbrev pub is_env : Home → Bool
is_env (State i l) = false
is_env (Env i e) = true

-- The numbers of the home are ones that the code holds.
abbrev pub IsSmall : Home → Type 0
IsSmall (State i l) = (i < 2 ^ 32) × (l < 2 ^ 32)
IsSmall (Env i e) = (i < 2 ^ 32) × (e < 2 ^ 32)

-- The three words of a home's text.
abbrev pub AreWordsOf : Home → List ℕ → List ℕ → List ℕ → Type 0
AreWordsOf (State i l) kind thread place = (kind ≡ codes "s") × (thread ≡ number_text (pos i)) × (place ≡ number_text (pos l))
AreWordsOf (Env i e) kind thread place = (kind ≡ codes "e") × (thread ≡ number_text (pos i)) × (place ≡ number_text (pos e))

-- The line is that of this home and this text of an atom.
abbrev pub IsHead : List ℕ → Home → List ℕ → Type 0
IsHead line home atom = line ≡ home_text home ++ (codes " : " ++ atom)

-- The line is that of this predicate, which the program has.
pub record IsLineOf (program : Program) (predicate : Predicate) (line : List ℕ) : Type 0 where
  pub of_program : IsPredicateOf program predicate
  pub line_is : line ≡ predicate_text program predicate

-- A home's predicates lack this one's atom, and there is room for it.
pub record HasRoom (predicates : List Predicate) (predicate : Predicate) : Type 0 where
  pub lacks : Lacks (home_atoms predicate.home predicates) predicate.atom
  pub room : length (home_atoms predicate.home predicates) < most_predicates

-- Whether a predicate was added, and what the sets are then.
abbrev pub IsAdded : Program → List Predicate → Predicate → Bool → List (List Row) → Type 0
IsAdded program before predicate true later = HasRoom before predicate × (later ≡ lists_of program (before ++ predicate ∷ []))
IsAdded program before predicate false later = ¬ HasRoom before predicate

-- A line was taken: it is that of one predicate, which was added.
pub record IsTaken (program : Program) (before : List Predicate) (line : List ℕ) (later : List (List Row)) : Type 0 where
  pub predicate : Predicate
  pub is_line : IsLineOf program predicate line
  pub only : (other : Predicate) → IsLineOf program other line → other ≡ predicate
  pub has_room : HasRoom before predicate
  pub later_is : later ≡ lists_of program (before ++ predicate ∷ [])

-- Whether a line was taken. It was not where no predicate with this line has room.
abbrev pub IsTakenAs : Program → List Predicate → List ℕ → Bool → List (List Row) → Type 0
IsTakenAs program before line true later = IsTaken program before line later
IsTakenAs program before line false later = (predicate : Predicate) → IsLineOf program predicate line → ¬ HasRoom before predicate

-- What is known where so many lines are read, and this is left.
pub record IsReadSoFar (program : Program) (text : List ℕ) (sets : List (List Row)) (number : ℕ) (left : List ℕ) : Type 0 where
  pub before : List Predicate
  pub allowed : AreAllowed program before
  pub only : (others : List Predicate) → AllByRecursion (IsPredicateOf program) others → predicate_texts program others ≡ predicate_texts program before → others ≡ before
  pub sets_are : sets ≡ lists_of program before
  pub number_is : number ≡ length before + 1
  pub text_is : text ≡ lines_text (predicate_texts program before) ++ left

-- What lines are read as: the sets of the text, or its bad line.
abbrev pub IsLinesAnswer : Program → List ℕ → Lines → Type 0
IsLinesAnswer program text (Sets sets) = IsReadAs program text sets
IsLinesAnswer program text (Bad n) = IsBadLine (IsTextOfPredicates program) text n

-- Sets that are read are those of each list of predicates with this text.
abbrev pub IsReadOnly : Program → List ℕ → Lines → Type 0
IsReadOnly program text (Sets sets) = (predicates : List Predicate) → IsPredicatesText program predicates text → sets ≡ lists_of program predicates
IsReadOnly program text (Bad n) = Unit {0}
