-- The first of a list that does not go through.
use Rattle.std.proofs.Common.{◌≡◌, ◌≢◌, ℤ, Bool, true, false, List, [], ◌∷◌, ◌++◌, Option, Some, None, refl, sym, ap, ◌∙◌}
use Rattle.std.specs.List.{AllByRecursion}
use Rattle.step_meaning.specs.Outcome.{Goes, Blocks, Overflows, first_stop, outcome_by}
use Rattle.step_meaning.specs.Laws.{IsFirstStop}

-- each of them goes through
abbrev pub AllGo : List (Option Bool) → Type 0
AllGo looks = AllByRecursion (λ look. look ≡ Some true) looks

pub first_stop-all : (looks : List (Option Bool)) → AllGo looks → first_stop looks ≡ Some true
first_stop-all [] all = refl
first_stop-all (None ∷ looks) all = absurd cc
first_stop-all (Some false ∷ looks) all = absurd cc
first_stop-all (Some true ∷ looks) all = first_stop-all looks all.1

pub first_stop-none_stops : (looks : List (Option Bool)) → first_stop looks ≡ Some true → AllGo looks
first_stop-none_stops [] e = tt
first_stop-none_stops (None ∷ looks) e = absurd cc
first_stop-none_stops (Some false ∷ looks) e = absurd cc
first_stop-none_stops (Some true ∷ looks) e = (refl, first_stop-none_stops looks e)

-- what stands behind looks that all go through
pub first_stop-behind : (front looks : List (Option Bool)) → first_stop front ≡ Some true → first_stop (front ++ looks) ≡ first_stop looks
first_stop-behind [] looks e = refl
first_stop-behind (None ∷ front) looks e = absurd cc
first_stop-behind (Some false ∷ front) looks e = absurd cc
first_stop-behind (Some true ∷ front) looks e = first_stop-behind front looks e

-- what stands behind a look that is false is not looked at
pub first_stop-false : (front looks : List (Option Bool)) → first_stop front ≡ Some false → first_stop (front ++ looks) ≡ Some false
first_stop-false [] looks e = absurd cc
first_stop-false (None ∷ front) looks e = absurd cc
first_stop-false (Some false ∷ front) looks e = refl
first_stop-false (Some true ∷ front) looks e = first_stop-false front looks e

-- what stands behind a look that does not fit is not looked at
pub first_stop-none : (front looks : List (Option Bool)) → first_stop front ≡ None → first_stop (front ++ looks) ≡ None
first_stop-none [] looks e = absurd cc
first_stop-none (None ∷ front) looks e = refl
first_stop-none (Some false ∷ front) looks e = absurd cc
first_stop-none (Some true ∷ front) looks e = first_stop-none front looks e

-- no list stops by what none of it is
pub first_stop-never : (stop : Option Bool) (looks : List (Option Bool)) → stop ≢ Some true → AllByRecursion (λ look. look ≢ stop) looks → first_stop looks ≢ stop
first_stop-never stop [] other all = λ e. other (sym e)
first_stop-never stop (None ∷ looks) other all = all.0
first_stop-never stop (Some false ∷ looks) other all = all.0
first_stop-never stop (Some true ∷ looks) other all = first_stop-never stop looks other all.1

-- what stops is the first that does
pub is_first : (stop : Option Bool) (looks : List (Option Bool)) → stop ≢ Some true → first_stop looks ≡ stop → IsFirstStop looks stop
is_first stop [] other e = absurd (other (sym e))
is_first stop (None ∷ looks) other e = record { front = []; behind = looks; order = ap (λ look. look ∷ looks) e; hold = tt }
is_first stop (Some false ∷ looks) other e = record { front = []; behind = looks; order = ap (λ look. look ∷ looks) e; hold = tt }
is_first stop (Some true ∷ looks) other e =
    let rest = is_first stop looks other e in
    record { front = Some true ∷ rest.front; behind = rest.behind; order = ap (λ l. Some true ∷ l) rest.order; hold = (refl, rest.hold) }

-- and the first that does is what stops
pub first_is : (stop : Option Bool) (looks : List (Option Bool)) (first : IsFirstStop looks stop) → first_stop looks ≡ first_stop (stop ∷ first.behind)
first_is stop looks first = ap first_stop first.order ∙ first_stop-behind first.front (stop ∷ first.behind) (first_stop-all first.front first.hold)

-- ---- outcomes by what stops
pub outcome-goes : (stop : Option Bool) (after given : List ℤ) → outcome_by stop after ≡ Goes given → (stop ≡ Some true) × (after ≡ given)
outcome-goes None after given e = absurd cc
outcome-goes (Some false) after given e = absurd cc
outcome-goes (Some true) after given e = (refl, cc)

pub outcome-blocks : (stop : Option Bool) (after : List ℤ) → outcome_by stop after ≡ Blocks → stop ≡ Some false
outcome-blocks None after e = absurd cc
outcome-blocks (Some false) after e = refl
outcome-blocks (Some true) after e = absurd cc

pub outcome-overflows : (stop : Option Bool) (after : List ℤ) → outcome_by stop after ≡ Overflows → stop ≡ None
outcome-overflows None after e = refl
outcome-overflows (Some false) after e = absurd cc
outcome-overflows (Some true) after e = absurd cc
