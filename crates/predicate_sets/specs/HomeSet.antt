-- The list of the predicates of a home.
use Rattle.std.specs.Prelude.{◌≡◌, ◌≢◌, ◌≤◌, ℕ, zero, suc, List, [], ◌∷◌, length, slice_get, Some}
use Rattle.std.specs.List.{AllByRecursion}
use Rattle.thr_base.specs.Limits.{most_predicates}
use Rattle.lin_rows.specs.Row.{Row}

-- The atom stands nowhere in the list.
abbrev pub Lacks : List Row → Row → Type 0
Lacks set atom = AllByRecursion (λ other. other ≢ atom) set

-- The atom stands in the list at this position, from 1.
abbrev pub StandsAt : List Row → Row → ℕ → Type 0
StandsAt set atom zero = ⊥
StandsAt set atom (suc place) = slice_get set place ≡ Some atom

-- No atom stands in the list twice.
abbrev pub AreDistinct : List Row → Type 0
AreDistinct [] = Unit {0}
AreDistinct (atom ∷ set) = Lacks set atom × AreDistinct set

-- What is known of each list that a program holds.
pub record IsHomeSet (set : List Row) : Type 0 where
  pub few : length set ≤ most_predicates
  pub distinct : AreDistinct set
