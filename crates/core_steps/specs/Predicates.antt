-- How homes get predicates.
use Rattle.std.specs.Prelude.{◌<◌, ◌≤◌, Bool, if◌then◌else◌, List, [], ◌∷◌, ◌++◌, length}
use Rattle.std.specs.List.{Contains, list_any}
use Rattle.thr_base.specs.Limits.{most_predicates}
use Rattle.horn_rules.specs.Home.{Home}
use Rattle.horn_rules.specs.Fact.{Sets}
use Rattle.horn_rules.specs.Stored.{same_home}
use Rattle.horn_rules.specs.Predicate.{Predicate}

-- the predicates of each home, with one more at the end of its home's list
abbrev pub with_predicate : Sets → Predicate → Sets
with_predicate sets predicate home = if same_home home predicate.home then sets home ++ predicate.atom ∷ [] else sets home

-- with more, one after another
abbrev pub with_predicates : Sets → List Predicate → Sets
with_predicates sets [] = sets
with_predicates sets (predicate ∷ predicates) = with_predicates (with_predicate sets predicate) predicates

-- some predicate is at the home
abbrev pub is_changed : List Predicate → Home → Bool
is_changed predicates home = list_any (λ predicate. same_home home predicate.home) predicates

-- Of the first predicates, in their order, the second ones are new: those that their homes do not have by then, and no home gets too many.
pub data AreNew : Sets → List Predicate → List Predicate → Type 0 where
  none : (sets : Sets) → AreNew sets [] []
  known : (sets : Sets) (predicate : Predicate) (predicates new : List Predicate) → Contains (sets predicate.home) predicate.atom
      → AreNew sets predicates new → AreNew sets (predicate ∷ predicates) new
  added : (sets : Sets) (predicate : Predicate) (predicates new : List Predicate) → (¬ Contains (sets predicate.home) predicate.atom)
      → length (sets predicate.home) < most_predicates → AreNew (with_predicate sets predicate) predicates new
      → AreNew sets (predicate ∷ predicates) (predicate ∷ new)

-- This home is the first that would get too many.
pub data Overfills : Sets → List Predicate → Home → Type 0 where
  full : (sets : Sets) (predicate : Predicate) (predicates : List Predicate) → (¬ Contains (sets predicate.home) predicate.atom)
      → most_predicates ≤ length (sets predicate.home) → Overfills sets (predicate ∷ predicates) predicate.home
  known : (sets : Sets) (predicate : Predicate) (predicates : List Predicate) (home : Home) → Contains (sets predicate.home) predicate.atom
      → Overfills sets predicates home → Overfills sets (predicate ∷ predicates) home
  added : (sets : Sets) (predicate : Predicate) (predicates : List Predicate) (home : Home) → (¬ Contains (sets predicate.home) predicate.atom)
      → length (sets predicate.home) < most_predicates → Overfills (with_predicate sets predicate) predicates home
      → Overfills sets (predicate ∷ predicates) home
