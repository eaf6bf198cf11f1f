-- What parsing says of the size of a number.
use Rattle.std.proofs.Common.{◌≡◌, ℕ, ◌^◌, ◌<◌, ℤ, true, ltb, List, [], ◌∷◌, length, take, Result, Ok, Err, is_ok, refl, sym, inl, inr, arith}
use Rattle.std.proofs.Math.Numerals.{one-add}
use Rattle.std.specs.Char.{is_ascii_digit}
use Rattle.std.specs.Int.{w128}
use Rattle.std.specs.List.{prefix_len}
use Rattle.std.specs.Result.{OkIff}
use Rattle.std.specs.Str.{all_ascii_digits}
use Rattle.std.specs.Str.Parse.{digits_value, ParsesSigned}
use Rattle.std.proofs.lemmas.Bool.{lt-ltb, cases_Bool}
use Rattle.std.proofs.lemmas.Bool.Decides.{nat_tests}
use Rattle.std.proofs.lemmas.Str.Parse.{IsNumeralModel, numerals_by_value, tells_all_ascii_digits, parse_signed_digits}

digits_model : IsNumeralModel (λ ds. all_ascii_digits ds ≡ true) (digits_value 10)
digits_model = numerals_by_value _ tells_all_ascii_digits

is_ok-from_OkIff : {E : Type 0} (v k : ℕ) (z : ℤ) (r : Result ℤ E) (P : Type 0) → P → OkIff r (P × (v < k)) z → is_ok r ≡ ltb v k
is_ok-from_OkIff v k z (Ok x) P p h = sym (lt-ltb v k h.0.1)
is_ok-from_OkIff v k z (Err e) P p h = grind (arith, nat_tests)

pub fits_tells : {E : Type 0} (bs : List ℕ) (r : Result ℤ E) → ParsesSigned w128 10 bs r → all_ascii_digits bs ≡ true → 0 < length bs → is_ok r ≡ ltb (digits_value 10 bs) (2 ^ 127)
fits_tells bs r h digits some = is_ok-from_OkIff _ _ _ r (0 < length bs) some (parse_signed_digits digits_model w128 bs r h digits)

pub digits_front : (bs : List ℕ) → all_ascii_digits (take (prefix_len is_ascii_digit bs) bs) ≡ true
digits_front [] = refl
digits_front (b ∷ bs) =
    elim (cases_Bool (is_ascii_digit b)) [
      | inl passes ↦ rw (passes, one-add (prefix_len is_ascii_digit bs)) (rw passes (digits_front bs))
      | inr stops ↦ rw stops refl
    ]
