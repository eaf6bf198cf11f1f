-- A predicate is added to the sets, or has no room there.
use Rattle.std.proofs.Common.{◌≡◌, ◌≢◌, ℕ, zero, suc, List, [], ◌∷◌, ◌++◌, length, Some, refl, ap, subst, ◌∙◌, arith}
use Rattle.thr_base.specs.Limits.{most_predicates}
use Rattle.lin_rows.specs.Row.{Row}
use Rattle.transition_formula.specs.Program.{Program, at_number}
use Rattle.lin_rows.proofs.Lists.{AllByRecursion-slice_get}
use Rattle.horn_rules.specs.Home.{Home, homes}
use Rattle.predicate_sets.specs.HomeSet.{Lacks, StandsAt}
use Rattle.predicate_sets.specs.Sets.{set_at, with_set, Takes}
use Rattle.annotation_form.specs.Predicates.{Predicate, home_atoms, lists_of}
use Rattle.annotation_form.specs.inside.Reading.{HasRoom}
use Rattle.annotation_form.proofs.Sets.{set_at-lists_of, with_set-lists_of}

-- the list of a home that has a number
here : (program : Program) (sets : List (List Row)) (number : ℕ) (home : Home) (before : List Predicate) → at_number (homes program) number ≡ Some home → sets ≡ lists_of program before
    → set_at sets number ≡ home_atoms home before
here program sets number home before is e = ap (λ s. set_at s number) e ∙ set_at-lists_of program before number home is

pub full-no_room : (program : Program) (sets : List (List Row)) (number : ℕ) (home : Home) (atom : Row) (before : List Predicate) → at_number (homes program) number ≡ Some home → sets ≡ lists_of program before
    → length (set_at sets number) ≡ most_predicates → ¬ HasRoom before (record { home = home; atom = atom })
full-no_room program sets number home atom before is e full has = omega (arith, has.room, ap length (here program sets number home before is e), full)

stands-lacks : (set : List Row) (atom : Row) (place : ℕ) → StandsAt set atom place → Lacks set atom → ⊥
stands-lacks set atom zero stands lacks = stands
stands-lacks set atom (suc k) stands lacks = AllByRecursion-slice_get (λ other. other ≢ atom) set k atom lacks stands refl

pub known-no_room : (program : Program) (sets : List (List Row)) (number : ℕ) (home : Home) (atom : Row) (place : ℕ) (before : List Predicate) → at_number (homes program) number ≡ Some home
    → sets ≡ lists_of program before → StandsAt (set_at sets number) atom place → ¬ HasRoom before (record { home = home; atom = atom })
known-no_room program sets number home atom place before is e stands has =
    stands-lacks (home_atoms home before) atom place (subst (λ s. StandsAt s atom place) (here program sets number home before is e) stands) has.lacks

pub new-room : (program : Program) (sets : List (List Row)) (number : ℕ) (home : Home) (atom : Row) (before : List Predicate) → at_number (homes program) number ≡ Some home → sets ≡ lists_of program before
    → Takes (set_at sets number) atom → HasRoom before (record { home = home; atom = atom })
new-room program sets number home atom before is e takes =
    let same = here program sets number home before is e in
    record { lacks = subst (λ s. Lacks s atom) same takes.0; room = omega (arith, ap length same, takes.1) }

pub new-sets : (program : Program) (sets : List (List Row)) (number : ℕ) (home : Home) (atom : Row) (later : List (List Row)) (before : List Predicate) → at_number (homes program) number ≡ Some home
    → sets ≡ lists_of program before → later ≡ with_set sets number (set_at sets number ++ atom ∷ []) → later ≡ lists_of program (before ++ record { home = home; atom = atom } ∷ [])
new-sets program sets number home atom later before is e made =
    made ∙ ap (λ s. with_set s number (set_at s number ++ atom ∷ [])) e ∙ with_set-lists_of program before number home atom is
