-- The list of a home among those of all homes.
use Rattle.std.proofs.Common.{◌≡◌, ℕ, zero, suc, ◌-◌, List, [], ◌∷◌, map, length, get_or, set, replicate, sym, ap, ◌∙◌, arith}
use Rattle.std.proofs.lemmas.List.{get_or-map, length-map}
use Rattle.std.specs.List.{AllByRecursion}
use Rattle.lin_rows.specs.Row.{Row}
use Rattle.lin_rows.proofs.Lists.{AllByRecursion-at}
use Rattle.predicate_sets.specs.HomeSet.{IsHomeSet}
use Rattle.predicate_sets.specs.Sets.{HasHome, set_at}

pub set_at-map : {X : Type 0} (f : X → List Row) (xs : List X) (sets : List (List Row)) (home : ℕ) (x : X)
    → map f xs ≡ sets → HasHome sets home → x ≡ get_or xs (home - 1) x → set_at sets home ≡ f x
set_at-map f xs sets home x seen has at =
    ap (λ v. set_at v home) (sym seen)
    ∙ get_or-map f xs (home - 1) x [] (omega (arith, length-map xs f, ap length seen, has.0, has.1))
    ∙ ap f (sym at)

-- no predicates
pub empty-is : IsHomeSet []
empty-is = record { few = omega arith; distinct = tt }

pub empties-are : (n : ℕ) → AllByRecursion IsHomeSet (replicate n [])
empties-are zero = tt
empties-are (suc n) = (empty-is, empties-are n)

-- another list at one home
pub set-are : (sets : List (List Row)) (k : ℕ) (atoms : List Row) → AllByRecursion IsHomeSet sets → IsHomeSet atoms → AllByRecursion IsHomeSet (set sets k atoms)
set-are [] k atoms are is = tt
set-are (first ∷ sets) zero atoms are is = (is, are.1)
set-are (first ∷ sets) (suc k) atoms are is = (are.0, set-are sets k atoms are.1 is)

-- the list of a home is one of them
pub set_at-is : (sets : List (List Row)) (home : ℕ) → AllByRecursion IsHomeSet sets → HasHome sets home → IsHomeSet (set_at sets home)
set_at-is sets home are has = AllByRecursion-at IsHomeSet sets (home - 1) [] are (omega (arith, has.0, has.1))
