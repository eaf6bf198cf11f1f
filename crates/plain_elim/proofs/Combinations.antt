-- What the loop that makes a combination has done, and what is left of it.
use Rattle.std.proofs.Common.{◌≡◌, ℕ, suc, ◌+◌, ◌<◌, max, refl, sym, ◌∙◌, ap, List, [], ◌∷◌, ◌++◌, length, take, drop, get_or, Bool, Option, Some, None, append-nil, add-one}
use Rattle.std.specs.Prelude.{ℤ, pos}
use Rattle.std.specs.Option.{option_map}
use Rattle.std.proofs.lemmas.List.{take_at}
use Rattle.farkas_cert.specs.Divided.{divided_numbers}
use Rattle.farkas_cert.specs.Line.{combination, combination_fits, made_line}
use Rattle.farkas_cert.specs.Combination.{combined_number, combined_numbers, in_front}
use Rattle.farkas_cert.proofs.Combinations.{front_more, combined_numbers-step, combined_numbers-end, combined_numbers-all, some_by, none_by}

-- the loop goes on, stops, or ends
pub combined_numbers-more : (a : ℤ) (xs : List ℤ) (b : ℤ) (ys : List ℤ) (p : ℕ) (front next : List ℤ) (z : ℤ) (whole : Option (List ℤ))
    → p < max (length xs) (length ys) → Some z ≡ combined_number a (get_or xs p (pos 0)) b (get_or ys p (pos 0)) → next ≡ front ++ z ∷ []
    → option_map (λ rest. front ++ rest) (combined_numbers a (drop p xs) b (drop p ys)) ≡ whole
    → option_map (λ rest. next ++ rest) (combined_numbers a (drop (p + 1) xs) b (drop (p + 1) ys)) ≡ whole
combined_numbers-more a xs b ys p front next z whole h e n k =
    let rest = combined_numbers a (drop (suc p) xs) b (drop (suc p) ys) in
    let step = combined_numbers-step a xs b ys p h in
    let more = front_more front z rest ∙ ap (λ o. option_map (λ rest. front ++ rest) (in_front o rest)) e ∙ ap (λ o. option_map (λ rest. front ++ rest) o) (sym step) ∙ k in
    rw (n, add-one) more

pub combined_numbers-stops : (a : ℤ) (xs : List ℤ) (b : ℤ) (ys : List ℤ) (p : ℕ) (front : List ℤ) (whole : Option (List ℤ))
    → p < max (length xs) (length ys) → None ≡ combined_number a (get_or xs p (pos 0)) b (get_or ys p (pos 0))
    → option_map (λ rest. front ++ rest) (combined_numbers a (drop p xs) b (drop p ys)) ≡ whole → None ≡ whole
combined_numbers-stops a xs b ys p front whole h e k =
    let rest = combined_numbers a (drop (suc p) xs) b (drop (suc p) ys) in
    ap (λ o. option_map (λ rest. front ++ rest) (in_front o rest)) e ∙ ap (λ o. option_map (λ rest. front ++ rest) o) (sym (combined_numbers-step a xs b ys p h)) ∙ k

pub combined_numbers-ends : (a : ℤ) (xs : List ℤ) (b : ℤ) (ys : List ℤ) (p : ℕ) (front : List ℤ) (whole : Option (List ℤ))
    → max (length xs) (length ys) ≡ p → option_map (λ rest. front ++ rest) (combined_numbers a (drop p xs) b (drop p ys)) ≡ whole → Some front ≡ whole
combined_numbers-ends a xs b ys p front whole h k =
    ap Some (sym (append-nil front)) ∙ ap (λ o. option_map (λ rest. front ++ rest) o) (sym (combined_numbers-end a xs b ys p h)) ∙ k

pub made_some : (equal : Bool) (a : ℤ) (xs : List ℤ) (b : ℤ) (ys made : List ℤ) → Some made ≡ combined_numbers a xs b ys
    → Some (record { equal = equal; numbers = divided_numbers made }) ≡ made_line equal a xs b ys
unfolding made_line
made_some equal a xs b ys made e =
    let is = some_by (combination_fits a xs b ys) (combination a xs b ys) made (e ∙ combined_numbers-all a xs b ys) in
    rw (is.0, is.1) refl

pub made_none : (equal : Bool) (a : ℤ) (xs : List ℤ) (b : ℤ) (ys : List ℤ) → None ≡ combined_numbers a xs b ys → None ≡ made_line equal a xs b ys
unfolding made_line
made_none equal a xs b ys e =
    let is = none_by (combination_fits a xs b ys) (combination a xs b ys) (e ∙ combined_numbers-all a xs b ys) in
    rw is refl

-- what a vector holds after a slice of it was written
pub written_back : {X : Type 0} (P : List X → Type 0) (new items : List X) (n : ℕ) → length new ≡ n → P new
    → P (take n (new ++ drop (length new) items))
written_back P new items n e h = rw (take_at new (drop (length new) items) n e) h

pub same_made : (equal : Bool) (a a' : ℤ) (xs xs' : List ℤ) (b b' : ℤ) (ys ys' : List ℤ) → a' ≡ a → xs' ≡ xs → b' ≡ b → ys' ≡ ys
    → made_line equal a' xs' b' ys' ≡ made_line equal a xs b ys
same_made equal a a' xs xs' b b' ys ys' e f g h = rw (e, f, g, h) refl
