-- The text of predicates: a line for each, and a last line `end`.
use Rattle.std.specs.Prelude.{◌≡◌, ◌≤◌, ℕ, List, [], ◌∷◌, ◌++◌, length, map, codes}
use Rattle.std.specs.List.{AllByRecursion}
use Rattle.thr_base.specs.Limits.{most_predicates}
use Rattle.lin_rows.specs.Row.{Row}
use Rattle.transition_formula.specs.Program.{Program}
use Rattle.transition_formula.specs.AtomText.{atom_text}
use Rattle.horn_rules.specs.Home.{Home, homes}
use Rattle.horn_rules.specs.HomeText.{home_text}
use Rattle.horn_rules.specs.Fact.{IsSetOf}
pub use Rattle.horn_rules.specs.Predicate.{Predicate, IsPredicateOf, home_atoms}
use Rattle.annotation_form.specs.Lines.{lines_text}

-- the line of a predicate, without its line feed
abbrev pub predicate_text : Program → Predicate → List ℕ
predicate_text program predicate = home_text predicate.home ++ (codes " : " ++ atom_text program.columns predicate.atom)

-- the lines of predicates
abbrev pub predicate_texts : Program → List Predicate → List (List ℕ)
predicate_texts program predicates = map (predicate_text program) predicates

-- These predicates may stand in a text: the program has them, none stands twice at its home, and no home has too many.
pub record AreAllowed (program : Program) (predicates : List Predicate) : Type 0 where
  pub of_program : AllByRecursion (IsPredicateOf program) predicates
  pub are_sets : (home : Home) → IsSetOf program home (home_atoms home predicates)
  pub few : (home : Home) → length (home_atoms home predicates) ≤ most_predicates

-- The text is that of these predicates.
pub record IsPredicatesText (program : Program) (predicates : List Predicate) (text : List ℕ) : Type 0 where
  pub allowed : AreAllowed program predicates
  pub text_is : text ≡ lines_text (predicate_texts program predicates ++ codes "end" ∷ [])

-- The text is that of some predicates.
abbrev pub IsTextOfPredicates : Program → List ℕ → Type 0
IsTextOfPredicates program text = (predicates : List Predicate) × IsPredicatesText program predicates text

-- the predicates of each home, in the order of the homes' numbers
abbrev pub lists_of : Program → List Predicate → List (List Row)
lists_of program predicates = map (λ home. home_atoms home predicates) (homes program)

-- The text is that of some predicates, and these are their sets.
pub record IsReadAs (program : Program) (text : List ℕ) (sets : List (List Row)) : Type 0 where
  pub predicates : List Predicate
  pub is_text : IsPredicatesText program predicates text
  pub sets_are : sets ≡ lists_of program predicates
