-- A list of what may be there is made one by one.
use Rattle.std.proofs.Common.{◌≡◌, ℕ, suc, ◌+◌, ◌<◌, ◌≤◌, sym, ◌∙◌, ap, List, [], ◌∷◌, ◌++◌, length, map, drop, get_or, Option, Some, None, append-nil, add-one}
use Rattle.std.specs.Option.{option_map}
use Rattle.std.proofs.lemmas.List.{drop_all}
use Rattle.farkas_cert.specs.Elimination.{every}
use Rattle.farkas_cert.proofs.Combinations.{front_more}
use Rattle.tableau_elim.proofs.Changes.{in_front, every-step, nothing_before, every_nothing}

-- what is made, followed by what is left to make
abbrev pub IsMaking : {X Y : Type 0} → (X → Option Y) → List X → List Y → ℕ → Type 0
IsMaking f xs front k = option_map (λ rest. front ++ rest) (every (map f (drop k xs))) ≡ every (map f xs)

pub making_begins : {X Y : Type 0} (f : X → Option Y) (xs : List X) (front : List Y) → front ≡ [] → IsMaking f xs front 0
making_begins f xs front e = ap (λ front. option_map (λ rest. front ++ rest) (every (map f xs))) e ∙ nothing_before (every (map f xs))

pub making_goes_on : {X Y : Type 0} (f : X → Option Y) (xs : List X) (front next : List Y) (k : ℕ) (d : X) (y : Y) → k < length xs
    → f (get_or xs k d) ≡ Some y → next ≡ front ++ y ∷ [] → IsMaking f xs front k → IsMaking f xs next (k + 1)
making_goes_on f xs front next k d y h e n i =
    let rest = every (map f (drop (suc k) xs)) in
    rw (n, add-one)
    (front_more front y rest ∙ ap (λ o. option_map (λ rest. front ++ rest) (in_front o rest)) (sym e) ∙ ap (λ o. option_map (λ rest. front ++ rest) o) (sym (every-step f xs k d h)) ∙ i)

pub making_stops : {X Y : Type 0} (f : X → Option Y) (xs : List X) (front : List Y) (k : ℕ) (d : X) → k < length xs → f (get_or xs k d) ≡ None
    → IsMaking f xs front k → every (map f xs) ≡ None
making_stops f xs front k d h e i =
    let rest = every (map f (drop (suc k) xs)) in
    sym (ap (λ o. option_map (λ rest. front ++ rest) (in_front o rest)) (sym e) ∙ ap (λ o. option_map (λ rest. front ++ rest) o) (sym (every-step f xs k d h)) ∙ i)

pub making_ends : {X Y : Type 0} (f : X → Option Y) (xs : List X) (front : List Y) (k : ℕ) → length xs ≤ k → IsMaking f xs front k → every (map f xs) ≡ Some front
making_ends f xs front k h i =
    let none = every_nothing (map f (drop k xs)) (ap (λ xs. length (map f xs)) (drop_all k xs h)) in
    sym i ∙ ap (λ o. option_map (λ rest. front ++ rest) o) none ∙ ap Some (append-nil front)
