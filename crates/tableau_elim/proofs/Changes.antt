-- All lines are changed in place, one after the other.
use Rattle.std.proofs.Common.{◌≡◌, ℕ, zero, suc, ◌+◌, ◌<◌, ◌≤◌, refl, sym, ◌∙◌, ap, subst, arith, List, [], ◌∷◌, ◌++◌, length, map, take, drop, get_or, Option, Some, None, append-nil, add-one, add-zero}
use Rattle.std.specs.Prelude.{slice_set}
use Rattle.std.specs.Option.{option_map, option_and_then}
use Rattle.std.specs.List.{AllByRecursion}
use Rattle.std.proofs.lemmas.List.{take_more_set, drop-set-lt, drop_more, get_or-drop, drop_all, take_all}
use Rattle.lin_rows.proofs.Lists.{AllByRecursion-at}
use Rattle.farkas_cert.specs.Elimination.{every}
use Rattle.farkas_cert.proofs.Combinations.{front_more}
use Rattle.tableau_elim.specs.Tableau.{Line, Pivot, line_after_pivot}
use Rattle.tableau_elim.specs.inside.Lines.{IsSound}
use Rattle.tableau_elim.proofs.Lines.{no_line}

-- the first k lines are made, and the others are as they were
pub record IsChanging (pivot : Pivot) (given now : List Line) (k : ℕ) : Type 0 where
  pub whole : option_map (λ rest. take k now ++ rest) (every (map (line_after_pivot pivot) (drop k given))) ≡ every (map (line_after_pivot pivot) given)
  pub left : drop k now ≡ drop k given

abbrev pub in_front : {X : Type 0} → Option X → Option (List X) → Option (List X)
in_front x xs = option_and_then (λ z. option_map (λ zs. z ∷ zs) xs) x

every_front : {X : Type 0} (o : Option X) (os : List (Option X)) → every (o ∷ os) ≡ in_front o (every os)
unfolding every
every_front None os = refl
every_front (Some x) os = refl

pub every-step : {X Y : Type 0} (f : X → Option Y) (xs : List X) (k : ℕ) (d : X) → k < length xs
    → every (map f (drop k xs)) ≡ in_front (f (get_or xs k d)) (every (map f (drop (suc k) xs)))
every-step f [] k d h = absurd (omega arith)
every-step f (x ∷ xs) zero d h = every_front (f x) (map f xs)
every-step f (x ∷ xs) (suc k) d h = every-step f xs k d (omega arith)

pub same_from_drop : {X : Type 0} (now given : List X) (k : ℕ) (d : X) → drop k now ≡ drop k given → get_or now k d ≡ get_or given k d
same_from_drop now given k d e =
    let left = get_or-drop k now 0 d in
    let right = get_or-drop k given 0 d in
    let same = ap (λ xs. get_or xs 0 d) e in
    rw (sym (add-zero k)) (sym left ∙ same ∙ right)

pub nothing_before : {X : Type 0} (o : Option (List X)) → option_map (λ rest. [] ++ rest) o ≡ o
nothing_before None = refl
nothing_before (Some xs) = refl

pub changing_begins : (pivot : Pivot) (given : List Line) → IsChanging pivot given given 0
changing_begins pivot given = record { whole = nothing_before (every (map (line_after_pivot pivot) given)); left = refl }

pub changing_goes_on : (pivot : Pivot) (given now : List Line) (k : ℕ) (old new : Line) → k < length given → length now ≡ length given
    → get_or now k no_line ≡ old → line_after_pivot pivot old ≡ Some new → IsChanging pivot given now k → IsChanging pivot given (slice_set now k new) (k + 1)
changing_goes_on pivot given now k old new h l here made i =
    let rest = every (map (line_after_pivot pivot) (drop (suc k) given)) in
    let same = sym (same_from_drop now given k no_line i.left) ∙ here in
    let number : Some new ≡ line_after_pivot pivot (get_or given k no_line) = sym made ∙ ap (line_after_pivot pivot) (sym same) in
    let step = every-step (line_after_pivot pivot) given k no_line h in
    let front = take_more_set now k new (omega arith) in
    let kept = drop-set-lt (k + 1) now k new (omega arith) in
    let left = drop_more now k no_line (omega arith) in
    let right = drop_more given k no_line (omega arith) in
    record {
      whole = rw (front, add-one)
          (front_more (take k now) new rest ∙ ap (λ o. option_map (λ rest. take k now ++ rest) (in_front o rest)) number ∙ ap (λ o. option_map (λ rest. take k now ++ rest) o) (sym step) ∙ i.whole);
      left = let e = i.left in cc;
    }

pub changing_stops : (pivot : Pivot) (given now : List Line) (k : ℕ) (old : Line) → k < length given
    → get_or now k no_line ≡ old → line_after_pivot pivot old ≡ None → IsChanging pivot given now k → every (map (line_after_pivot pivot) given) ≡ None
changing_stops pivot given now k old h here none i =
    let rest = every (map (line_after_pivot pivot) (drop (suc k) given)) in
    let same = sym (same_from_drop now given k no_line i.left) ∙ here in
    let number : None ≡ line_after_pivot pivot (get_or given k no_line) = sym none ∙ ap (line_after_pivot pivot) (sym same) in
    sym (ap (λ o. option_map (λ rest. take k now ++ rest) (in_front o rest)) number ∙ ap (λ o. option_map (λ rest. take k now ++ rest) o) (sym (every-step (line_after_pivot pivot) given k no_line h)) ∙ i.whole)

pub every_nothing : {X : Type 0} (os : List (Option X)) → length os ≡ 0 → every os ≡ Some []
unfolding every
every_nothing [] e = refl
every_nothing (o ∷ os) e = absurd (omega arith)

pub changing_ends : (pivot : Pivot) (given now : List Line) (k : ℕ) → length given ≤ k → length now ≡ length given
    → IsChanging pivot given now k → every (map (line_after_pivot pivot) given) ≡ Some now
changing_ends pivot given now k h l i =
    let none = every_nothing (map (line_after_pivot pivot) (drop k given)) (ap (λ xs. length (map (line_after_pivot pivot) xs)) (drop_all k given h)) in
    sym i.whole ∙ ap (λ o. option_map (λ rest. take k now ++ rest) o) none ∙ ap Some (append-nil (take k now) ∙ take_all k now (omega arith))

pub sound_now : (given now : List Line) (k : ℕ) → k < length given → drop k now ≡ drop k given → AllByRecursion IsSound given → IsSound (get_or now k no_line)
sound_now given now k h e s = subst IsSound (sym (same_from_drop now given k no_line e)) (AllByRecursion-at IsSound given k no_line s h)
