-- One term more of an atom's text.
use Rattle.std.proofs.Common.{◌≡◌, ◌==◌, ◌&&◌, ℕ, ℤ, Bool, List, [], ◌++◌, ◌+◌, ◌<◌, unsigned_abs, get_or, drop, length, add-one, drop-cons, length-append, ap, refl, append_assoc, pos}
use Rattle.transition_formula.specs.AtomText.{column_texts, term_text, terms_text}
use Rattle.transition_formula.specs.Program.{Column}
use Rattle.std.proofs.lemmas.List.{length-map}

-- There are two texts for each column, one before and one after a step.
pub length-column_texts : (columns : List Column) → length (column_texts columns) ≡ length columns + length columns
length-column_texts columns = simp (length-append, length-map)

-- the terms from place i on
pub terms_text-drop : (first : Bool) (ks : List ℤ) (texts : List (List ℕ)) (i : ℕ) (d : ℤ) → i < length ks → i < length texts
    → terms_text first (drop i ks) (drop i texts) ≡ term_text first (get_or ks i d) (get_or texts i []) ++ terms_text (first && (unsigned_abs (get_or ks i d) == 0)) (drop (i + 1) ks) (drop (i + 1) texts)
terms_text-drop first ks texts i d within has_text = rw (drop-cons ks i d within, drop-cons texts i [] has_text, add-one) refl

-- one term is appended, and the terms from the next place on are left
pub term-next : (out new whole : List ℕ) (first next : Bool) (ks : List ℤ) (texts : List (List ℕ)) (i : ℕ) (k : ℤ)
    → i < length ks → i < length texts → k ≡ get_or ks i (pos 0)
    → new ≡ out ++ term_text first k (get_or texts i []) → next ≡ (first && (unsigned_abs k == 0))
    → out ++ terms_text first (drop i ks) (drop i texts) ≡ whole
    → new ++ terms_text next (drop (i + 1) ks) (drop (i + 1) texts) ≡ whole
term-next out new whole first next ks texts i k within has_text k-is new-is next-is before =
    let step : out ++ terms_text first (drop i ks) (drop i texts) ≡ out ++ (term_text first (get_or ks i (pos 0)) (get_or texts i []) ++ terms_text (first && (unsigned_abs (get_or ks i (pos 0)) == 0)) (drop (i + 1) ks) (drop (i + 1) texts)) = ap (λ t. out ++ t) (terms_text-drop first ks texts i (pos 0) within has_text) in
    let step' : out ++ terms_text first (drop i ks) (drop i texts) ≡ out ++ (term_text first k (get_or texts i []) ++ terms_text (first && (unsigned_abs k == 0)) (drop (i + 1) ks) (drop (i + 1) texts)) = rw k-is step in
    rw (new-is, next-is, append_assoc, ← step') before
