-- The texts of numbers up to 128 bits.
use Rattle.std.proofs.Common.{◌≡◌, ℕ, zero, suc, ◌+◌, ◌-◌, ◌*◌, ◌/◌, ◌%◌, ◌^◌, ◌<◌, ◌≤◌, ℤ, pos, negsuc, List, [], ◌∷◌, ◌++◌, length, get_or, fold, Result, Ok, refl, sym, ◌∙◌, ap, subst, arith, append_assoc, append-nil, length-append}
use Rattle.std.proofs.Math.IntN.{neg_ℤ}
use Rattle.std.proofs.Math.ListN.{get_or-append}
use mir.Syntax.{w128}
use Rattle.std.specs.Fmt.{decimal}
use Rattle.std.specs.Str.{IsUtf8, IsAscii}
use Rattle.std.specs.Str.Parse.{AllDigits, digits_value, digits_value_after, ParsesSigned}
use Rattle.std.specs.Char.{digit_value, IsAsciiDigit}
use Rattle.std.proofs.lemmas.Fmt.{IsAscii-decimal_wide, decimal_is_IsNumeral_wide, decimal_digit, decimal_step_wide, decimal_by_steps_wide}
use Rattle.std.proofs.lemmas.Str.{IsUtf8-from_ascii, digit_value_digit}
use Rattle.std.proofs.lemmas.Str.Parse.{IsNumeralModel, numerals_by_value, numerals_by_fold, tells_digits, tells_by_index, digit_from_value, parse_signed_minus, parse_signed_digits}
use Rattle.std.proofs.lemmas.Result.{Ok-from_Ok_iff}
use Rattle.thr_base.specs.Number.{Fits, number_text, digits_number, AreDigitsOf, IsTextOf}

small : (n : ℕ) → n < 2 ^ 127 → n < 10 ^ 64
small n h = omega arith

IsAscii-number_text : (z : ℤ) → Fits z → IsAscii (number_text z)
IsAscii-number_text (pos n) h i = IsAscii-decimal_wide n (small n h) i
IsAscii-number_text (negsuc n) h zero = omega arith
IsAscii-number_text (negsuc n) h (suc i) = IsAscii-decimal_wide (suc n) (small (suc n) h) i

pub IsUtf8-number_text : (z : ℤ) → Fits z → IsUtf8 (number_text z)
IsUtf8-number_text z h = IsUtf8-from_ascii (number_text z) (IsAscii-number_text z h)

-- the text of a number is read as that number
pub parse-number_text : {E : Type 0} (z : ℤ) (bs : List ℕ) (r : Result ℤ E) → Fits z → bs ≡ number_text z → ParsesSigned w128 10 bs r → r ≡ Ok z
parse-number_text (pos n) bs r fits is h =
    let k = decimal_is_IsNumeral_wide n (small n fits) in
    let read = parse_signed_digits (numerals_by_value _ tells_digits) w128 (decimal n) r (subst (λ l. ParsesSigned w128 10 l r) is h) k.0.1 in
    Ok-from_Ok_iff r _ _ read (k.0.0, omega (arith, k.1, fits)) ∙ ap (λ m. Ok (pos m)) k.1
parse-number_text (negsuc n) bs r fits is h =
    let k = decimal_is_IsNumeral_wide (suc n) (small (suc n) fits) in
    let read = parse_signed_minus (numerals_by_value _ tells_digits) w128 (45 ∷ decimal (suc n)) r (subst (λ l. ParsesSigned w128 10 l r) is h) refl in
    Ok-from_Ok_iff r _ _ read (k.0.1, k.0.0, omega (arith, k.1, fits)) ∙ ap (λ m. Ok (neg_ℤ (pos m))) k.1

-- digits with no needless zero are what `decimal` writes of their value

le_value_after : (n : ℕ) (ds : List ℕ) → n ≤ digits_value_after 10 n ds
le_value_after n [] = omega arith
le_value_after n (c ∷ cs) = omega (arith, le_value_after (n * 10 + digit_value c) cs)

decimal_value_after : (n : ℕ) (ds : List ℕ) → 0 < n → AllDigits 10 ds → digits_value_after 10 n ds < 10 ^ 64 → decimal (digits_value_after 10 n ds) ≡ decimal n ++ ds
decimal_value_after n [] some d below = sym (append-nil (decimal n))
decimal_value_after n (c ∷ cs) some d below =
    let m : ℕ = n * 10 + digit_value c in
    let k = digit_value_digit c (digit_from_value c d.0) in
    let front : m / 10 ≡ n = omega (arith, d.0) in
    let end : 48 + m % 10 ≡ c = omega (arith, d.0) in
    decimal_value_after m cs (omega arith) d.1 below
    ∙ ap (λ (x : List ℕ). x ++ cs) (decimal_step_wide m (omega arith) (omega (arith, le_value_after m cs)) ∙ (λ i. decimal (front i) ++ (end i ∷ [])))
    ∙ append_assoc (decimal n) (c ∷ []) cs

decimal_value_digits : (ds : List ℕ) → AllDigits 10 ds → 0 < length ds → (get_or ds 0 0 ≡ 48 → length ds ≡ 1) → digits_value 10 ds < 10 ^ 64 → decimal (digits_value 10 ds) ≡ ds
decimal_value_digits [] d some lead below = absurd (omega arith)
decimal_value_digits (c ∷ []) d some lead below =
    let k = digit_value_digit c (digit_from_value c d.0) in
    decimal_digit (0 * 10 + digit_value c) (omega (arith, d.0)) ∙ ap (λ (x : ℕ). x ∷ []) (omega arith)
decimal_value_digits (c ∷ e ∷ cs) d some lead below =
    let k = digit_value_digit c (digit_from_value c d.0) in
    let no : c ≡ 48 → ⊥ = λ z. omega (arith, lead z) in
    let is : 48 + (0 * 10 + digit_value c) ≡ c = omega arith in
    decimal_value_after (0 * 10 + digit_value c) (e ∷ cs) (omega arith) d.1 below
    ∙ ap (λ (x : List ℕ). x ++ (e ∷ cs)) (decimal_digit (0 * 10 + digit_value c) (omega (arith, d.0)) ∙ ap (λ (x : ℕ). x ∷ []) is)

-- the definitions of this crate are std's

own : IsNumeralModel (λ ds. (i : ℕ) → i < length ds → IsAsciiDigit (get_or ds i 0)) digits_number
own = numerals_by_fold _ tells_by_index (λ n ds. fold (λ m digit. m * 10 + (digit - 48)) n ds) (record { empty = λ n. refl; more = λ n c cs h. refl })

first_decimal_wide : (n : ℕ) → 0 < n → n < 10 ^ 64 → 48 < get_or (decimal n) 0 0
first_decimal_wide n some below = (decimal_by_steps_wide (λ m ds. (0 < length ds) × (0 < m → 48 < get_or ds 0 0)) (λ m l. (omega arith, λ a. omega arith))
    (λ m ds l h. (omega (arith, length-append ds ((48 + m % 10) ∷ [])), λ a. omega (arith, get_or-append ds ((48 + m % 10) ∷ []) 0 0 h.0, h.1 (omega arith)))) n below).1 some

decimal_plain : (n : ℕ) → n < 10 ^ 64 → get_or (decimal n) 0 0 ≡ 48 → length (decimal n) ≡ 1
decimal_plain zero below e = ap length (decimal_digit 0 (omega arith))
decimal_plain (suc n) below e = absurd (omega (arith, first_decimal_wide (suc n) (omega arith) below))

AreDigitsOf-decimal : (n : ℕ) → n < 10 ^ 64 → AreDigitsOf n (decimal n)
AreDigitsOf-decimal n below =
    let k = decimal_is_IsNumeral_wide n below in
    record {
      digits = own.from (decimal n) k.0.1;
      some = k.0.0;
      plain = decimal_plain n below;
      number = own.same (decimal n) k.0.1 ∙ k.1;
    }

decimal-AreDigitsOf : (n : ℕ) (text : List ℕ) → n < 10 ^ 64 → AreDigitsOf n text → text ≡ decimal n
decimal-AreDigitsOf n text below are =
    let d = own.to text are.digits in
    let value : digits_value 10 text ≡ n = sym (own.same text d) ∙ are.number in
    sym (decimal_value_digits text d are.some are.plain (omega arith)) ∙ ap decimal value

pub IsTextOf-number_text : (z : ℤ) → Fits z → IsTextOf z (number_text z)
IsTextOf-number_text (pos n) h = AreDigitsOf-decimal n (small n h)
IsTextOf-number_text (negsuc n) h = (decimal (suc n), refl, AreDigitsOf-decimal (suc n) (small (suc n) h))

pub number_text-IsTextOf : (z : ℤ) (text : List ℕ) → Fits z → IsTextOf z text → text ≡ number_text z
number_text-IsTextOf (pos n) text h are = decimal-AreDigitsOf n text (small n h) are
number_text-IsTextOf (negsuc n) text h (digits, is, are) = is ∙ ap (λ (l : List ℕ). 45 ∷ l) (decimal-AreDigitsOf (suc n) digits (small (suc n) h) are)
