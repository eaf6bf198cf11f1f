-- A term taken apart: its sign, its size and the text of its column.
use Rattle.std.proofs.Common.{◌≡◌, ◌≢◌, ℕ, ◌+◌, ◌<◌, ℤ, pos, negsuc, Bool, List, [], ◌∷◌, ◌++◌, length, take, drop, unsigned_abs, refl, ap, ◌∙◌, arith, append_assoc, inl, inr, length-append}
use Rattle.std.specs.List.{AllByRecursion}
use Rattle.std.proofs.lemmas.Bool.Decides.{eqb_tells}
use Rattle.std.proofs.Math.Seq.{take-append_seam, drop-append_seam}
use Rattle.thr_base.specs.Number.{Fits, number_text}
use Rattle.lin_rows.proofs.Lists.{AllByRecursion-append}
use Rattle.lin_rows.proofs.Numbers.{Fits-unsigned_abs}
use Rattle.transition_formula.specs.AtomText.{factor, joint, term_text}
use Rattle.transition_formula.specs.inside.AtomReading.{IsPlain, IsWord, HasNoMinus, is_negative}
use Rattle.transition_formula.proofs.Words.{number_text-plain, no_blanks, factor-one, factor-more}

-- A number other than 0 has an absolute value other than 0.
pub size-some : (k : ℤ) → k ≢ pos 0 → unsigned_abs k ≢ 0
size-some (pos n) other e = other (ap pos e)
size-some (negsuc n) other e = cc

-- The term of a coefficient other than 0 is its joint, its factor and the column's text.
pub term_text-some : (first : Bool) (k : ℤ) (name : List ℕ) → k ≢ pos 0 → term_text first k name ≡ joint first k ++ (factor (unsigned_abs k) ++ name)
term_text-some first k name other = elim (eqb_tells (unsigned_abs k) 0) [ inl p ↦ absurd (size-some k other p.1) | inr p ↦ rw p.0 refl ]

-- A coefficient 0 has no term.
pub term_text-none : (first : Bool) (k : ℤ) (name : List ℕ) → k ≡ pos 0 → term_text first k name ≡ []
term_text-none first k name e = rw e refl

-- a number with its star, and then a word: no blank, and no `-` at its front
pub factored-no_blanks : (n : ℕ) (name : List ℕ) → Fits (pos n) → IsWord name → AllByRecursion (λ b. b ≢ 32) (factor n ++ name)
factored-no_blanks n name fits is = elim (eqb_tells n 1) [
  | inl p ↦ rw (factor-one n p.1) (no_blanks name is.bytes)
  | inr p ↦ rw (factor-more n p.1, append_assoc) (AllByRecursion-append (λ b. b ≢ 32) (number_text (pos n)) (42 ∷ name) (no_blanks (number_text (pos n)) (number_text-plain n fits)) (λ e. omega arith, no_blanks name is.bytes))
]

-- A plain text in front of one with no minus first has no minus first.
no_minus-front : (xs ys : List ℕ) → AllByRecursion IsPlain xs → HasNoMinus ys → HasNoMinus (xs ++ ys)
no_minus-front [] ys plain rest = rest
no_minus-front (x ∷ xs) ys plain rest = plain.0.no_minus

-- A star is no minus.
star_no_minus : (rest : List ℕ) → HasNoMinus (42 ∷ rest)
star_no_minus rest e = omega arith

-- A blank is no minus.
blank_no_minus : (rest : List ℕ) → HasNoMinus (32 ∷ rest)
blank_no_minus rest e = omega arith

-- A factor with a column's text has no minus first.
pub factored-no_minus : (n : ℕ) (name rest : List ℕ) → Fits (pos n) → IsWord name → HasNoMinus ((factor n ++ name) ++ (32 ∷ rest))
factored-no_minus n name rest fits is = elim (eqb_tells n 1) [
  | inl p ↦ rw (factor-one n p.1) (no_minus-front name (32 ∷ rest) is.bytes (blank_no_minus rest))
  | inr p ↦ rw (factor-more n p.1, append_assoc, append_assoc) (no_minus-front (number_text (pos n)) (42 ∷ (name ++ (32 ∷ rest))) (number_text-plain n fits) (star_no_minus (name ++ (32 ∷ rest))))
]

-- what the reader finds of a term
pub record Parts (first : Bool) (k : ℤ) (name : List ℕ) (negative : Bool) (size : ℤ) (found : List ℕ) (end : ℕ) : Type 0 where
  pub sign : negative ≡ is_negative k
  pub size_is : size ≡ pos (unsigned_abs k)
  pub name_is : found ≡ name
  pub end_is : end ≡ length (term_text first k name)

-- What is found of a term's text is its sign, its size and its column's text.
pub parts-of_term : (text : List ℕ) (first : Bool) (k : ℤ) (name rest : List ℕ) (negative : Bool) (start len name_start : ℕ) (size : ℤ) (tail found : List ℕ)
    → k ≢ pos 0 → Fits k → IsWord name → text ≡ term_text first k name ++ (32 ∷ rest)
    → tail ≡ drop start text → found ≡ drop name_start (take len tail)
    → ((k : ℤ) (rest : List ℕ) → HasNoMinus rest → text ≡ joint first k ++ rest → (negative ≡ is_negative k) × (start ≡ length (joint first k)))
    → ((front rest : List ℕ) → AllByRecursion (λ b. b ≢ 32) front → tail ≡ front ++ (32 ∷ rest) → len ≡ length front)
    → ((n : ℕ) (name : List ℕ) → 0 < n → Fits (pos n) → IsWord name → take len tail ≡ factor n ++ name → (size ≡ pos n) × (name_start ≡ length (factor n)))
    → Parts first k name negative size found (start + len)
parts-of_term text first k name rest negative start len name_start size tail found other fits is text-is tail-is found-is joined marked factored =
    let n = unsigned_abs k in
    let word = factor n ++ name in
    let fits' : Fits (pos n) = Fits-unsigned_abs k fits in
    let split : text ≡ joint first k ++ (word ++ (32 ∷ rest)) = text-is ∙ ap (λ (t : List ℕ). t ++ (32 ∷ rest)) (term_text-some first k name other) ∙ append_assoc (joint first k) word (32 ∷ rest) in
    let at_start = joined k (word ++ (32 ∷ rest)) (factored-no_minus n name rest fits' is) split in
    let tail_is : tail ≡ word ++ (32 ∷ rest) = tail-is ∙ rw (at_start.1, split) (drop-append_seam (joint first k) (word ++ (32 ∷ rest))) in
    let ends : len ≡ length word = marked word rest (factored-no_blanks n name fits' is) tail_is in
    let whole : take len tail ≡ word = rw (tail_is, ends) (take-append_seam word (32 ∷ rest)) in
    let size_some : unsigned_abs k ≢ 0 = size-some k other in
    let at_name = factored n name (omega arith) fits' is whole in
    record {
      sign = at_start.0;
      size_is = at_name.0;
      name_is = found-is ∙ rw (at_name.1, whole) (drop-append_seam (factor n) name);
      end_is = omega (arith, at_start.1, ends, ap length (term_text-some first k name other), length-append (joint first k) word);
    }
