-- What parsing says of the size of a number.
use Rattle.std.proofs.Common.{◌≡◌, ℕ, zero, suc, ◌<◌, ◌^◌, ◌==◌, ℤ, pos, negsuc, neg_ℤ, SFits, Bool, true, false, cond, ◌&&◌, not, nat_lt, ltb, eqb, List, [], ◌∷◌, length, Some, None, Result, Ok, Err, refl, sym, ap, subst, ◌∙◌, inl, inr, arith}
use Rattle.std.specs.Char.{is_ascii_digit}
use Rattle.std.specs.Int.{w128}
use Rattle.std.specs.List.{list_all}
use Rattle.std.specs.Result.{OkIff, result_ok}
use Rattle.std.specs.Str.{all_ascii_digits}
use Rattle.std.specs.Str.Parse.{digits_value, ParsesSigned}
use Rattle.std.proofs.lemmas.Bool.{lt-ltb, ltb-true, cases_Bool}
use Rattle.std.proofs.lemmas.Bool.Decides.{nat_tests}
use Rattle.std.proofs.lemmas.Int.{ints}
use Rattle.std.proofs.lemmas.Str.Parse.{IsNumeralModel, numerals_by_value, tells_all_ascii_digits, parse_signed_digits}
use Rattle.thr_base.specs.Number.{Fits}
use Rattle.c_tree.specs.Grammar.{number_value}
use Rattle.c_tree.specs.Magnitude.{IsMagnitude}

digits_model : IsNumeralModel (λ ds. all_ascii_digits ds ≡ true) (digits_value 10)
digits_model = numerals_by_value _ tells_all_ascii_digits

same_test : (bs : List ℕ) → list_all is_ascii_digit bs ≡ all_ascii_digits bs
same_test [] = refl
same_test (b ∷ bs) = ap (λ (t : Bool). is_ascii_digit b && t) (same_test bs)

result_ok-from_OkIff : {E : Type 0} (v k : ℕ) (z : ℤ) (r : Result ℤ E) (P : Type 0) → P → OkIff r (P × (v < k)) z → result_ok r ≡ cond (ltb v k) (Some z) None
result_ok-from_OkIff v k z (Ok x) P p h = rw (lt-ltb v k h.0.1) (ap (λ (y : ℤ). Some y) h.1)
result_ok-from_OkIff v k z (Err e) P p h =
    elim (cases_Bool (ltb v k)) [
      | inl below ↦ absurd (h (p, ltb-true v k below))
      | inr past ↦ rw past refl
    ]

-- the value of digits, as parsing gives it
pub value_parsed : {E : Type 0} (bs : List ℕ) (r : Result ℤ E) → ParsesSigned w128 10 bs r → list_all is_ascii_digit bs ≡ true → 0 < length bs → result_ok r ≡ number_value bs
value_parsed bs r h digits some =
    let test : not (eqb (length bs) 0) ≡ true = grind (arith, nat_tests) in
    rw (test, digits) (result_ok-from_OkIff _ _ _ r (0 < length bs) some (parse_signed_digits digits_model w128 bs r h (sym (same_test bs) ∙ digits)))

-- ---- what digits write is not negative, and fits

magnitude_by : (text : List ℕ) (b : Bool) (value : ℤ) → (b ≡ true → digits_value 10 text < 2 ^ 127) → cond b (Some (pos (digits_value 10 text))) None ≡ Some value → IsMagnitude value
magnitude_by text true value lt e = let same : pos (digits_value 10 text) ≡ value = cc in subst IsMagnitude same (lt refl)
magnitude_by text false value lt e = absurd cc

last_true : (a b : Bool) → (a && b) ≡ true → b ≡ true
last_true true b e = e
last_true false b e = absurd cc

pub IsMagnitude-number_value : (text : List ℕ) (value : ℤ) → number_value text ≡ Some value → IsMagnitude value
IsMagnitude-number_value text value e =
    magnitude_by text (not (length text == 0) && list_all is_ascii_digit text && nat_lt (digits_value 10 text) (2 ^ 127)) value
    (λ so. ltb-true (digits_value 10 text) (2 ^ 127) (last_true (not (length text == 0) && list_all is_ascii_digit text) _ so)) e

pub Fits-magnitude : (z : ℤ) → IsMagnitude z → Fits z
Fits-magnitude (pos n) h = h
Fits-magnitude (negsuc n) h = absurd h

-- with a `-` in front of it
pub Fits-negated : (z : ℤ) → IsMagnitude z → Fits (neg_ℤ z)
Fits-negated (pos zero) h = omega arith
Fits-negated (pos (suc n)) h = h
Fits-negated (negsuc n) h = absurd h

-- so it is in the range of an `i128`
pub SFits-negated : (z : ℤ) → IsMagnitude z → SFits w128 (neg_ℤ z)
SFits-negated (pos n) h = omega (arith, ints)
SFits-negated (negsuc n) h = absurd h

pub number_fits : (text : List ℕ) (value : ℤ) → number_value text ≡ Some value → Fits value
number_fits text value e = Fits-magnitude value (IsMagnitude-number_value text value e)
