-- The first of refusals, as it is found: of two lists the earlier of the first ones.
use Rattle.std.specs.Prelude.{◌≡◌, Bool, ◌||◌, ◌&&◌, ◌==◌, nat_lt, List, [], ◌∷◌, ◌++◌, Option, Some, None, Contains, if◌then◌else◌}
use Rattle.thr_base.specs.declared.stops.Refusal.{Refusal}
use Rattle.thr_base.specs.Refusals.{IsFirst}

-- whether a refusal comes before another one
abbrev pub precedes : Refusal → Refusal → Bool
precedes one other = nat_lt one.place other.place || (one.place == other.place && nat_lt one.code other.code)

-- the earlier of two; of equal ones the first
abbrev pub of_two : Refusal → Refusal → Refusal
of_two one other = if precedes other one then other else one

-- the earlier of two that there may be
abbrev pub earlier : Option Refusal → Option Refusal → Option Refusal
earlier None other = other
earlier (Some d) None = Some d
earlier (Some d) (Some e) = Some (of_two d e)

abbrev pub first_of : List Refusal → Option Refusal
first_of [] = None
first_of (d ∷ ds) = earlier (Some d) (first_of ds)

-- ---- what is said of first refusals

-- A refusal that is the first of a list stands in it, and none of the list comes before; only an empty list has none. Of lists
-- that are made in turn, the first is the earlier one of their first ones.
pub record FirstsAreFirst : Type 0 where
  pub is_first : (refusals : List Refusal) (refusal : Refusal) → first_of refusals ≡ Some refusal → IsFirst (Contains refusals) refusal
  pub none_where_empty : (refusals : List Refusal) → first_of refusals ≡ None → refusals ≡ []
  pub of_both : (refusals more : List Refusal) → first_of (refusals ++ more) ≡ earlier (first_of refusals) (first_of more)
