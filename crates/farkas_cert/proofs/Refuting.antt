-- The given rows are derived, and a derived line that is false refutes the system.
use Rattle.std.proofs.Common.{◌≡◌, ℕ, zero, suc, ◌≤◌, refl, sym, ap, ◌∙◌, arith, subst, List, [], ◌∷◌, ◌++◌, map, take, drop, length, get_or, Bool, true, false, cond, Some, inl, inr}
use Rattle.std.specs.Prelude.{ℤ, pos, negsuc, neg_ℤ, ◌<ℤ◌, slice_get, slice_set, replicate, unsigned_abs, ◌&&◌, not, int_lt}
use Rattle.std.specs.Int.{◌∣◌}
use Rattle.std.specs.List.{AllByRecursion, list_any}
use Rattle.std.proofs.lemmas.Int.{ints}
use Rattle.std.proofs.lemmas.Nat.Gcd.{le_of_dvd, dvd-zero}
use Rattle.lin_rows.specs.Row.{Row, product_of}
use Rattle.lin_rows.specs.System.{System}
use Rattle.lin_rows.proofs.Booleans.{both_true}
use Rattle.farkas_cert.specs.Cert.{Refutes, weighted_sum}
use Rattle.farkas_cert.specs.Reduced.{IsReduced}
use Rattle.farkas_cert.specs.Line.{Line, given_line, given_lines, bound_of, multipliers_of, is_nonzero, has_variable, fails, is_false, refuting_multipliers, nonzero_pairs}
use Rattle.lin_rows.proofs.Divisors.{DividesAll, AllZero}
use Rattle.lin_rows.proofs.Integers.{zero-mul_ℤ, one-mul_ℤ}
use Rattle.lin_rows.proofs.Points.{product_of-neg, product_of-AllZero}
use Rattle.farkas_cert.proofs.Integers.{linear}
use Rattle.farkas_cert.proofs.Signs.{Signs, RowSign, signs_neg, split_at, nonzero_pairs-in_order}
use Rattle.farkas_cert.proofs.Weighted.{values_at, bounds_of, weighted_coefficients, weighted_bound, zeros_from_products, multiple_product, divides_from_multiple, divides_listed, divides_neg, divides_parts}
use Rattle.farkas_cert.proofs.Derived.{IsDerived}

-- ---- the given rows

-- The product of zeros is 0.
pub zeros_product : (n : ℕ) (zs : List ℤ) → product_of (replicate n (pos 0)) zs ≡ pos 0
zeros_product zero zs = refl
zeros_product (suc n) [] = refl
zeros_product (suc n) (z ∷ zs) = omega (arith, linear, zero-mul_ℤ z, zeros_product n zs)

-- The product of a 1 among zeros is the number at its place.
unit_product : (f : Row → ℤ) (rows : List Row) (k : ℕ) (row : Row) → slice_get rows k ≡ Some row
    → product_of (slice_set (replicate (length rows) (pos 0)) k (pos 1)) (map f rows) ≡ f row
unit_product f [] k row e = absurd cc
unit_product f (x ∷ rows) zero row e =
    let same : x ≡ row = cc in
    let here = ap f same in
    omega (arith, linear, one-mul_ℤ (f x), zeros_product (length rows) (map f rows))
unit_product f (x ∷ rows) (suc k) row e = omega (arith, linear, zero-mul_ℤ (f x), unit_product f rows k row e)

-- 0 has each sign.
zero_sign : (r equal : Bool) → RowSign r equal (pos 0)
zero_sign true equal = tt
zero_sign false true = refl
zero_sign false false = omega (arith, linear)

-- 1 has the sign that its row asks for.
one_sign : (r : Bool) → RowSign r r (pos 1)
one_sign true = tt
one_sign false = omega (arith, linear)

-- Zeros have the signs.
zeros_signs : (equal : Bool) (rows : List Row) → Signs equal rows (replicate (length rows) (pos 0))
zeros_signs equal [] = tt
zeros_signs equal (row ∷ rows) = (zero_sign row.equal equal, zeros_signs equal rows)

-- A 1 among zeros has the signs.
unit_signs : (rows : List Row) (k : ℕ) (row : Row) → slice_get rows k ≡ Some row
    → Signs row.equal rows (slice_set (replicate (length rows) (pos 0)) k (pos 1))
unit_signs [] k row e = absurd cc
unit_signs (x ∷ rows) zero row e =
    let same : x ≡ row = cc in
    (subst (λ (r : Row). RowSign x.equal r.equal (pos 1)) same (one_sign x.equal), zeros_signs row.equal rows)
unit_signs (x ∷ rows) (suc k) row e = (zero_sign x.equal row.equal, unit_signs rows k row e)

-- A 1 among zeros has no common divisor but 1.
unit_primitive : (rows : List Row) (k : ℕ) (row : Row) (g : ℕ) → slice_get rows k ≡ Some row
    → DividesAll g (slice_set (replicate (length rows) (pos 0)) k (pos 1)) → g ≤ 1
unit_primitive [] k row g e h = absurd cc
unit_primitive (x ∷ rows) zero row g e h = le_of_dvd (omega arith) h.0
unit_primitive (x ∷ rows) (suc k) row g e h = unit_primitive rows k row g e h.1

-- What divides both lists divides the second.
divides_right : (g : ℕ) (xs ys : List ℤ) → DividesAll g (xs ++ ys) → DividesAll g ys
divides_right g [] ys h = h
divides_right g (x ∷ xs) ys h = divides_right g xs ys h.1

-- The first numbers are the front.
take-front : (n : ℕ) (xs ys : List ℤ) → length xs ≡ n → take n (xs ++ ys) ≡ xs
take-front zero [] ys e = refl
take-front (suc n) [] ys e = absurd (omega arith)
take-front zero (x ∷ xs) ys e = absurd (omega arith)
take-front (suc n) (x ∷ xs) ys e = ap (λ t. x ∷ t) (take-front n xs ys (omega arith))

-- Behind the front and one number comes the rest.
drop-front : (n : ℕ) (xs : List ℤ) (y : ℤ) (ys : List ℤ) → length xs ≡ n → drop (suc n) (xs ++ (y ∷ ys)) ≡ ys
drop-front zero [] y ys e = refl
drop-front (suc n) [] y ys e = absurd (omega arith)
drop-front zero (x ∷ xs) y ys e = absurd (omega arith)
drop-front (suc n) (x ∷ xs) y ys e = drop-front n xs y ys (omega arith)

-- Behind the front comes the number.
get-front : (n : ℕ) (xs : List ℤ) (y : ℤ) (ys : List ℤ) → length xs ≡ n → get_or (xs ++ (y ∷ ys)) n (pos 0) ≡ y
get-front zero [] y ys e = refl
get-front (suc n) [] y ys e = absurd (omega arith)
get-front zero (x ∷ xs) y ys e = absurd (omega arith)
get-front (suc n) (x ∷ xs) y ys e = get-front n xs y ys (omega arith)

-- The coefficients, the bound and the multipliers of a given line.
pub given_parts : (n total k : ℕ) (row : Row) → length row.coefficients ≡ n →
    (take n (given_line total k row).numbers ≡ row.coefficients) × (bound_of n (given_line total k row) ≡ row.bound)
    × (multipliers_of n (given_line total k row) ≡ slice_set (replicate total (pos 0)) k (pos 1))
given_parts n total k row e =
    let unit = slice_set (replicate total (pos 0)) k (pos 1) in
    (take-front n row.coefficients (row.bound ∷ unit) e, get-front n row.coefficients row.bound unit e, drop-front n row.coefficients row.bound unit e)

-- A given line is derived.
given_derived : (system : System) (k : ℕ) (row : Row) → slice_get system.rows k ≡ Some row → length row.coefficients ≡ system.columns
    → IsDerived system (given_line (length system.rows) k row)
given_derived system k row e w =
    let parts = given_parts system.columns (length system.rows) k row w in
    record {
      coefficients = λ y. rw (parts.0, parts.2) (sym (unit_product (λ r. product_of r.coefficients y) system.rows k row e));
      bound = rw (parts.1, parts.2) (sym (unit_product (λ r. r.bound) system.rows k row e));
      signs = rw parts.2 (unit_signs system.rows k row e);
      primitive = λ g h. inl (unit_primitive system.rows k row g e (divides_right g row.coefficients (row.bound ∷ slice_set (replicate (length system.rows) (pos 0)) k (pos 1)) h).1);
    }

-- All given lines are derived.
pub all_given_derived : (system : System) (k : ℕ) (rows : List Row) → drop k system.rows ≡ rows
    → AllByRecursion (λ row. length row.coefficients ≡ system.columns) rows
    → AllByRecursion (IsDerived system) (given_lines (length system.rows) k rows)
unfolding given_lines
all_given_derived system k [] e w = tt
all_given_derived system k (row ∷ rows) e w =
    let at = split_at system.rows rows k row e in
    (given_derived system k row at.0 w.0, all_given_derived system (suc k) rows at.1 w.1)

-- ---- lines without a variable

-- What is not true is false.
pub not_true : (a : Bool) → not a ≡ true → a ≡ false
not_true true e = absurd cc
not_true false e = refl

-- Numbers of which none is other than 0 are all 0.
pub zeros_below : (xs : List ℤ) → list_any is_nonzero xs ≡ false → AllZero xs
zeros_below [] e = tt
zeros_below (pos zero ∷ xs) e = (refl, zeros_below xs e)
zeros_below (pos (suc m) ∷ xs) e = absurd cc
zeros_below (negsuc m ∷ xs) e = absurd cc

-- A line that does not vary has coefficients 0.
pub no_variable : (n : ℕ) (line : Line) → has_variable n line ≡ false → AllZero (take n line.numbers)
unfolding has_variable
no_variable n line e = zeros_below (take n line.numbers) e

-- ---- false lines

-- Multipliers of the right signs that cancel all columns and leave a negative bound refute.
refutes_by : (system : System) (equal : Bool) (ms : List ℤ) → Signs equal system.rows ms
    → ((y : List ℤ) → product_of ms (values_at y system.rows) ≡ pos 0) → product_of ms (bounds_of system.rows) <ℤ pos 0 → Refutes system (nonzero_pairs 1 ms)
refutes_by system equal ms s c b = record {
  in_order = nonzero_pairs-in_order system.rows system.rows 0 0 equal ms (omega arith) refl s;
  contradicts = record {
    cancels = zeros_from_products (weighted_sum system.rows (nonzero_pairs 1 ms)).coefficients (λ y. weighted_coefficients system.rows system.rows 0 equal ms y refl s ∙ c y);
    negative = rw (weighted_bound system.rows system.rows 0 equal ms refl s) b;
  };
}

-- Each number divides numbers that are all 0.
zeros_divide : (g : ℕ) (xs : List ℤ) → AllZero xs → DividesAll g xs
zeros_divide g [] h = tt
zeros_divide g (x ∷ xs) h = (rw h.0 (dvd-zero g), zeros_divide g xs h.1)

-- Each of numbers that are all 0 is 0.
zero_at : (n : ℕ) (xs : List ℤ) → AllZero xs → get_or xs n (pos 0) ≡ pos 0
zero_at n [] h = refl
zero_at zero (x ∷ xs) h = h.0
zero_at (suc n) (x ∷ xs) h = zero_at n xs h.1

-- The multipliers of a line without a variable and with a bound other than 0 have no common divisor.
reduced_by : (system : System) (line : Line) → IsDerived system line → AllZero (take system.columns line.numbers)
    → ¬ (bound_of system.columns line ≡ pos 0) → (g : ℕ) → DividesAll g (multipliers_of system.columns line) → g ≤ 1
reduced_by system line h z b g d =
    let bound : g ∣ unsigned_abs (bound_of system.columns line) =
    divides_from_multiple g (bound_of system.columns line) (rw h.bound (multiple_product g (multipliers_of system.columns line) (bounds_of system.rows) d)) in
    elim (h.primitive g (divides_parts g system.columns line.numbers (zeros_divide g (take system.columns line.numbers) z) bound d)) [
      | inl l ↦ l
      | inr all ↦ absurd (b (zero_at system.columns line.numbers all))
    ]

-- What passes the test is negative.
is_negative : (b : ℤ) → int_lt b (pos 0) ≡ true → b <ℤ pos 0
is_negative b e = omega (arith, ints)

-- A number other than 0 that is not positive is negative.
pub nonzero_negative : (b : ℤ) → is_nonzero b ≡ true → int_lt (pos 0) b ≡ false → b <ℤ pos 0
nonzero_negative (pos zero) f p = absurd cc
nonzero_negative (pos (suc n)) f p = omega (arith, ints)
nonzero_negative (negsuc n) f p = omega (arith, ints)

-- what has to be shown of the multipliers of a false line
abbrev pub IsProvedBy : System → List ℤ → Type 0
IsProvedBy system ms = Refutes system (nonzero_pairs 1 ms) × IsReduced (nonzero_pairs 1 ms)

-- A derived line with a negative bound alone refutes.
by_negative : (system : System) (line : Line) → IsDerived system line → AllZero (take system.columns line.numbers)
    → bound_of system.columns line <ℤ pos 0 → IsProvedBy system (multipliers_of system.columns line)
by_negative system line h z b = (
  refutes_by system line.equal (multipliers_of system.columns line) h.signs
      (λ y. sym (h.coefficients y) ∙ product_of-AllZero (take system.columns line.numbers) y z)
      (rw (← h.bound) b),
  λ g d. reduced_by system line h z (λ e. absurd (omega (arith, linear))) g (divides_listed g 1 (multipliers_of system.columns line) d),
)

-- A derived equality with a positive bound alone refutes, with the other signs.
by_positive : (system : System) (line : Line) → IsDerived system line → line.equal ≡ true → AllZero (take system.columns line.numbers)
    → pos 0 <ℤ bound_of system.columns line → IsProvedBy system (map neg_ℤ (multipliers_of system.columns line))
by_positive system line h e z b =
    let ms = multipliers_of system.columns line in (
      refutes_by system true (map neg_ℤ ms) (signs_neg system.rows ms (rw e at h.signs))
          (λ y. product_of-neg ms (values_at y system.rows) ∙ ap neg_ℤ (sym (h.coefficients y) ∙ product_of-AllZero (take system.columns line.numbers) y z))
          (let n = product_of-neg ms (bounds_of system.rows) in omega (arith, linear, h.bound)),
      λ g d. reduced_by system line h z (λ e. absurd (omega (arith, linear))) g (divides_neg g ms (divides_listed g 1 (map neg_ℤ ms) d)),
    )

-- by the kind of the line and the sign of its bound
by_kind : (system : System) (line : Line) (equal positive : Bool) → line.equal ≡ equal → int_lt (pos 0) (bound_of system.columns line) ≡ positive
    → IsDerived system line → AllZero (take system.columns line.numbers) → fails equal (bound_of system.columns line) ≡ true
    → IsProvedBy system (cond (equal && positive) (map neg_ℤ (multipliers_of system.columns line)) (multipliers_of system.columns line))
by_kind system line false positive e p h z f = by_negative system line h z (is_negative (bound_of system.columns line) f)
by_kind system line true true e p h z f = by_positive system line h e z (omega (arith, ints))
by_kind system line true false e p h z f = by_negative system line h z (nonzero_negative (bound_of system.columns line) f p)

-- A derived line that is false refutes.
pub false_refutes : (system : System) (line : Line) → IsDerived system line → is_false system.columns line ≡ true
    → IsProvedBy system (refuting_multipliers system.columns line)
unfolding is_false refuting_multipliers
false_refutes system line h f =
    let parts = both_true (not (has_variable system.columns line)) (fails line.equal (bound_of system.columns line)) f in
    by_kind system line line.equal (int_lt (pos 0) (bound_of system.columns line)) refl refl h (no_variable system.columns line (not_true (has_variable system.columns line) parts.0)) parts.1
