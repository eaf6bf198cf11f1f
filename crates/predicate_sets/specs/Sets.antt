-- The lists of all homes, by number from 1.
use Rattle.std.specs.Prelude.{◌≡◌, ◌+◌, ◌-◌, ◌<◌, ◌≤◌, ℕ, List, [], ◌∷◌, ◌++◌, length, slice_index_or, slice_set, Result, Ok, Err}
use Rattle.std.specs.List.{AllByRecursion}
use Rattle.thr_base.specs.Limits.{most_predicates}
use Rattle.lin_rows.specs.Row.{Row}
use Rattle.predicate_sets.specs.HomeSet.{IsHomeSet, Lacks, StandsAt}
use Rattle.predicate_sets.specs.declared.sets.Added.{Added}
use Rattle.predicate_sets.specs.declared.sets.Added.TheVariants.{New, Known}
use Rattle.predicate_sets.specs.declared.sets.AddStop.{AddStop}
use Rattle.predicate_sets.specs.declared.sets.AddStop.TheVariants.{Full, Memory}

-- What is known of the lists of all homes.
abbrev pub AreHomeSets : List (List Row) → Type 0
AreHomeSets sets = AllByRecursion IsHomeSet sets

-- The home exists.
abbrev pub HasHome : List (List Row) → ℕ → Type 0
HasHome sets home = (0 < home) × (home ≤ length sets)

-- the list of a home
abbrev pub set_at : List (List Row) → ℕ → List Row
set_at sets home = slice_index_or sets (home - 1) []

-- the lists with another one at one home
abbrev pub with_set : List (List Row) → ℕ → List Row → List (List Row)
with_set sets home set = slice_set sets (home - 1) set

-- The list has no such atom, and room for it.
abbrev pub Takes : List Row → Row → Type 0
Takes set atom = Lacks set atom × (length set < most_predicates)

-- How an atom is added to a home's list: at the end, unless it is there already or the list is full. A refusal changes nothing.
abbrev pub IsAddAnswer : List (List Row) → ℕ → Row → Result Added AddStop → List (List Row) → Type 0
IsAddAnswer sets home atom (Ok (New place)) later =
    let set = set_at sets home in
    Takes set atom × (place ≡ length set + 1) × (later ≡ with_set sets home (set ++ atom ∷ []))
IsAddAnswer sets home atom (Ok (Known place)) later = StandsAt (set_at sets home) atom place × (later ≡ sets)
IsAddAnswer sets home atom (Err Full) later =
    let set = set_at sets home in
    Lacks set atom × (length set ≡ most_predicates) × (later ≡ sets)
IsAddAnswer sets home atom (Err Memory) later = Takes (set_at sets home) atom × (later ≡ sets)
