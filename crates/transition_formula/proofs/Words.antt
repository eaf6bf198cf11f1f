-- Words: what stands in front of a mark, and the texts of terms taken apart.
use Rattle.std.proofs.Common.{◌≡◌, ◌≢◌, ◌==◌, ℕ, zero, suc, ◌+◌, ◌<◌, ℤ, pos, List, [], ◌∷◌, ◌++◌, length, take, drop, get_or, Some, None, refl, sym, ap, ◌∙◌, arith, append_assoc, inl, inr, ◌⊎◌, length-append}
use Rattle.std.specs.List.{AllByRecursion, position, position_from}
use Rattle.std.specs.Char.{IsAsciiDigit}
use Rattle.std.proofs.lemmas.Iterator.Adapters.{position_from-zero}
use Rattle.std.proofs.lemmas.Bool.Decides.{eqb_tells}
use Rattle.std.proofs.Math.Seq.{take-append_seam}
use Rattle.thr_base.specs.Number.{Fits, number_text}
use Rattle.thr_base.proofs.Numbers.{IsTextOf-number_text}
use Rattle.lin_rows.proofs.Lists.{AllByRecursion-weaken}
use Rattle.transition_formula.specs.AtomText.{factor}
use Rattle.transition_formula.specs.inside.AtomReading.{IsPlain, IsWord}

-- A byte that is not the mark is passed.
position_from-step : (mark i b : ℕ) (xs : List ℕ) → b ≢ mark → position_from (λ c. c == mark) i (b ∷ xs) ≡ position_from (λ c. c == mark) (i + 1) xs
position_from-step mark i b xs other = elim (eqb_tells b mark) [ inl p ↦ absurd (other p.1) | inr p ↦ rw p.0 refl ]

-- The mark is found behind a front without it.
position_from-marked : (mark i : ℕ) (front rest : List ℕ) → AllByRecursion (λ b. b ≢ mark) front → position_from (λ b. b == mark) i (front ++ (mark ∷ rest)) ≡ Some (i + length front)
position_from-marked mark i [] rest none = elim (eqb_tells mark mark) [ inl p ↦ rw p.0 (ap Some (omega arith)) | inr p ↦ absurd (p.1 refl) ]
position_from-marked mark i (b ∷ front) rest none = position_from-step mark i b (front ++ (mark ∷ rest)) none.0 ∙ position_from-marked mark (i + 1) front rest none.1 ∙ ap Some (omega arith)

-- The mark is at the length of the front.
pub position-marked : (mark : ℕ) (front rest : List ℕ) → AllByRecursion (λ b. b ≢ mark) front → position (λ b. b == mark) (front ++ (mark ∷ rest)) ≡ Some (length front)
position-marked mark front rest none = position_from-zero (λ b. b == mark) (front ++ (mark ∷ rest)) ∙ position_from-marked mark 0 front rest none ∙ ap Some (omega arith)

-- A text without the mark has no place of it.
position_from-unmarked : (mark i : ℕ) (front : List ℕ) → AllByRecursion (λ b. b ≢ mark) front → position_from (λ b. b == mark) i front ≡ None
position_from-unmarked mark i [] none = refl
position_from-unmarked mark i (b ∷ front) none = position_from-step mark i b front none.0 ∙ position_from-unmarked mark (i + 1) front none.1

-- In a text without the mark none is found.
pub position-unmarked : (mark : ℕ) (front : List ℕ) → AllByRecursion (λ b. b ≢ mark) front → position (λ b. b == mark) front ≡ None
position-unmarked mark front none = position_from-zero (λ b. b == mark) front ∙ position_from-unmarked mark 0 front none

-- what holds of digits holds of each byte of digits
pub each-from_digits : (P : ℕ → Type 0) → ((b : ℕ) → IsAsciiDigit b → P b) → (xs : List ℕ) → ((k : ℕ) → k < length xs → IsAsciiDigit (get_or xs k 0)) → AllByRecursion P xs
each-from_digits P gives [] digits = tt
each-from_digits P gives (x ∷ xs) digits = (gives x (digits 0 (omega arith)), each-from_digits P gives xs (λ k h. digits (suc k) (omega arith)))

-- digits are plain
digit-plain : (b : ℕ) → IsAsciiDigit b → IsPlain b
digit-plain b digit = record { no_blank = λ e. omega (arith, digit); no_star = λ e. omega (arith, digit); no_minus = λ e. omega (arith, digit) }

-- The text of a natural number is plain.
pub number_text-plain : (n : ℕ) → Fits (pos n) → AllByRecursion IsPlain (number_text (pos n))
number_text-plain n fits = each-from_digits IsPlain digit-plain (number_text (pos n)) (IsTextOf-number_text (pos n) fits).digits

-- The text of a number is not empty.
number_text-some : (n : ℕ) → Fits (pos n) → 0 < length (number_text (pos n))
number_text-some n fits = (IsTextOf-number_text (pos n) fits).some

-- the factor

-- The factor 1 is not written.
pub factor-one : (n : ℕ) → n ≡ 1 → factor n ≡ []
factor-one n e = rw e refl

-- Another factor is written with a star.
pub factor-more : (n : ℕ) → n ≢ 1 → factor n ≡ number_text (pos n) ++ (42 ∷ [])
factor-more n other = elim (eqb_tells n 1) [ inl p ↦ absurd (other p.1) | inr p ↦ rw p.0 refl ]

-- a word has neither blanks nor stars
pub no_blanks : (xs : List ℕ) → AllByRecursion IsPlain xs → AllByRecursion (λ b. b ≢ 32) xs
no_blanks xs plain = AllByRecursion-weaken IsPlain (λ b. b ≢ 32) (λ b p. p.no_blank) xs plain

-- A plain text has no star.
pub no_stars : (xs : List ℕ) → AllByRecursion IsPlain xs → AllByRecursion (λ b. b ≢ 42) xs
no_stars xs plain = AllByRecursion-weaken IsPlain (λ b. b ≢ 42) (λ b p. p.no_star) xs plain

-- Where the star of a word stands: there is none, or it ends the number.
pub record OneFactor (n : ℕ) (name word : List ℕ) (star : ℕ) : Type 0 where
  pub one : n ≡ 1
  pub factor_is : factor n ≡ []
  pub at_end : star ≡ length word

pub record Factor (n : ℕ) (name word : List ℕ) (star : ℕ) : Type 0 where
  pub factor_is : factor n ≡ number_text (pos n) ++ (42 ∷ [])
  pub word_is : word ≡ number_text (pos n) ++ (42 ∷ name)
  pub within : star ≡ length (number_text (pos n))

-- Where the factor is 1, no star is found.
factor_at-one : (n : ℕ) (name word : List ℕ) (star : ℕ) → n ≡ 1 → IsWord name → word ≡ factor n ++ name
    → (AllByRecursion (λ b. b ≢ 42) word → star ≡ length word)
    → OneFactor n name word star
factor_at-one n name word star e is word-is unmarked =
    let same : word ≡ name = rw (factor-one n e) at word-is in
    record { one = e; factor_is = factor-one n e; at_end = unmarked (rw same (no_stars name is.bytes)) }

-- Where it is another, the star is found behind it.
factor_at-more : (n : ℕ) (name word : List ℕ) (star : ℕ) → n ≢ 1 → Fits (pos n) → IsWord name → word ≡ factor n ++ name
    → ((front rest : List ℕ) → AllByRecursion (λ b. b ≢ 42) front → word ≡ front ++ (42 ∷ rest) → star ≡ length front)
    → Factor n name word star
factor_at-more n name word star other fits is word-is marked =
    let same : word ≡ number_text (pos n) ++ (42 ∷ name) = word-is ∙ ap (λ (f : List ℕ). f ++ name) (factor-more n other) ∙ append_assoc (number_text (pos n)) (42 ∷ []) name in
    record { factor_is = factor-more n other; word_is = same; within = marked (number_text (pos n)) name (no_stars (number_text (pos n)) (number_text-plain n fits)) same }

-- Where the star is, or that there is none, tells the factor.
pub factor_at : (n : ℕ) (name word : List ℕ) (star : ℕ) → Fits (pos n) → IsWord name → word ≡ factor n ++ name
    → (AllByRecursion (λ b. b ≢ 42) word → star ≡ length word)
    → ((front rest : List ℕ) → AllByRecursion (λ b. b ≢ 42) front → word ≡ front ++ (42 ∷ rest) → star ≡ length front)
    → OneFactor n name word star ⊎ Factor n name word star
factor_at n name word star fits is word-is unmarked marked = elim (eqb_tells n 1) [
  | inl p ↦ inl (factor_at-one n name word star p.1 is word-is unmarked)
  | inr p ↦ inr (factor_at-more n name word star p.1 fits is word-is marked)
]

-- a star at the end means that there is none
pub factor-at_end : (n : ℕ) (name word : List ℕ) (star : ℕ) → star ≡ length word → OneFactor n name word star ⊎ Factor n name word star → (pos 1 ≡ pos n) × (0 ≡ length (factor n))
factor-at_end n name word star end (inl one) = (ap pos (sym one.one), sym (ap length one.factor_is))
factor-at_end n name word star end (inr more) = absurd (omega (arith, more.within, ap length more.word_is, length-append (number_text (pos n)) (42 ∷ name)))

-- Where a star is found, what is in front of it is the factor.
pub factor-within : (n : ℕ) (name word : List ℕ) (star : ℕ) (size : ℤ) → star ≢ length word → Fits (pos n)
    → ((z : ℤ) → Fits z → take star word ≡ number_text z → size ≡ z)
    → OneFactor n name word star ⊎ Factor n name word star → (size ≡ pos n) × (star + 1 ≡ length (factor n))
factor-within n name word star size inside fits read (inl one) = absurd (inside one.at_end)
factor-within n name word star size inside fits read (inr more) =
    let front : take star word ≡ number_text (pos n) = rw (more.within, more.word_is) (take-append_seam (number_text (pos n)) (42 ∷ name)) in
    (read (pos n) fits front, omega (arith, more.within, ap length more.factor_is, length-append (number_text (pos n)) (42 ∷ [])))

-- Nothing is left of the empty list.
pub drop_none : (n : ℕ) → length (drop {A = ℕ} n []) ≡ 0
drop_none zero = refl
drop_none (suc n) = refl
