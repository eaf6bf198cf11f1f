-- The multipliers that are not 0, listed one after another.
use Rattle.std.proofs.Common.{◌≡◌, ℕ, suc, ◌+◌, ◌<◌, ◌≤◌, sym, ◌∙◌, ap, refl, List, [], ◌∷◌, ◌++◌, length, drop, get_or, true, false, cond, append_assoc, append-nil, add-one}
use Rattle.std.specs.Prelude.{ℤ, pos}
use Rattle.std.proofs.lemmas.List.{drop_more, drop_all}
use Rattle.farkas_cert.specs.Cert.{Pairs}
use Rattle.farkas_cert.specs.Line.{is_nonzero, nonzero_pairs}

-- one more multiplier
abbrev listed_one : ℕ → ℤ → Pairs → Pairs
listed_one k m rest = cond (is_nonzero m) ((k, m) ∷ rest) rest

-- The listed pairs go on with the multiplier at a place.
nonzero_pairs-step : (ms : List ℤ) (i : ℕ) → i < length ms
    → nonzero_pairs (suc i) (drop i ms) ≡ listed_one (suc i) (get_or ms i (pos 0)) (nonzero_pairs (suc (suc i)) (drop (suc i) ms))
unfolding nonzero_pairs
nonzero_pairs-step ms i h = ap (λ xs. nonzero_pairs (suc i) xs) (drop_more ms i (pos 0) h) ∙ rw add-one refl

-- With one pair more, what is left makes the same whole.
pub nonzero_pairs-more : (ms : List ℤ) (i : ℕ) (front next whole : Pairs) → i < length ms → is_nonzero (get_or ms i (pos 0)) ≡ true
    → next ≡ front ++ (i + 1, get_or ms i (pos 0)) ∷ [] → front ++ nonzero_pairs (suc i) (drop i ms) ≡ whole
    → next ++ nonzero_pairs (suc (i + 1)) (drop (i + 1) ms) ≡ whole
nonzero_pairs-more ms i front next whole h t e k =
    let m = get_or ms i (pos 0) in
    let rest = nonzero_pairs (suc (suc i)) (drop (suc i) ms) in
    let here : listed_one (suc i) m rest ≡ (suc i, m) ∷ rest = rw t refl in
    let step = ap (λ ps. front ++ ps) (nonzero_pairs-step ms i h ∙ here) in
    rw (e, add-one) (append_assoc front ((suc i, m) ∷ []) rest ∙ sym step ∙ k)

-- A multiplier 0 adds no pair.
pub nonzero_pairs-skips : (ms : List ℤ) (i : ℕ) (front next whole : Pairs) → i < length ms → is_nonzero (get_or ms i (pos 0)) ≡ false
    → next ≡ front → front ++ nonzero_pairs (suc i) (drop i ms) ≡ whole → next ++ nonzero_pairs (suc (i + 1)) (drop (i + 1) ms) ≡ whole
nonzero_pairs-skips ms i front next whole h t e k =
    let m = get_or ms i (pos 0) in
    let rest = nonzero_pairs (suc (suc i)) (drop (suc i) ms) in
    let here : listed_one (suc i) m rest ≡ rest = rw t refl in
    let step = ap (λ ps. front ++ ps) (nonzero_pairs-step ms i h ∙ here) in
    rw (e, add-one) (sym step ∙ k)

-- Behind the last multiplier the pairs are the whole.
pub nonzero_pairs-ends : (ms : List ℤ) (i : ℕ) (front whole : Pairs) → length ms ≤ i → front ++ nonzero_pairs (suc i) (drop i ms) ≡ whole → front ≡ whole
unfolding nonzero_pairs
nonzero_pairs-ends ms i front whole h k = sym (append-nil front) ∙ ap (λ xs. front ++ nonzero_pairs (suc i) xs) (sym (drop_all i ms h)) ∙ k
