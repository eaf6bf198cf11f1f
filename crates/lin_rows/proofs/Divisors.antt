-- The greatest common divisor, by Euclid's steps.
use Rattle.std.proofs.Common.{◌≡◌, ℕ, zero, suc, ◌*◌, ◌/◌, ◌%◌, ◌≤◌, ◌<◌, List, [], ◌∷◌, map, fold, ℤ, pos, negsuc, neg_ℤ, ◌*ℤ◌, unsigned_abs, refl, sym, ◌∙◌, ap, subst, arith, mod-lt, le_refl, suc-ne-zero, mul-one, mul-le-mul_left, ◌^◌, lit<}
use Rattle.std.specs.Int.{IsGcd, ◌∣◌, int_div_euclid}
use Rattle.std.specs.List.{AllByRecursion}
use Rattle.std.proofs.lemmas.Nat.Gcd.{IsGcd-from_zero, IsGcd-from_mod, dvd_refl, dvd_trans, dvd-zero, mod-eq-zero_of_dvd}
use Rattle.std.proofs.lemmas.Int.{ints, unsigned_abs-mul}
use Rattle.std.proofs.Math.Nat.{div-add-mod, eq-zero_of_zero-dvd, eq-one_of_dvd-one, dvd_of_mul-dvd-mul_left, mul-dvd-mul_left, lt_of_mul-lt-mul_left}
use Rattle.thr_base.specs.Number.{Fits}
use Rattle.lin_rows.specs.Gcd.{gcd_within, gcd, gcd_of}
use Rattle.lin_rows.proofs.Numbers.{unsigned_abs-below}
use Rattle.lin_rows.proofs.Lists.{AllByRecursion-weaken}

-- more fuel changes nothing
gcd_within-fuel : (f h a b : ℕ) → b ≤ f → b ≤ h → gcd_within f a b ≡ gcd_within h a b
gcd_within-fuel zero zero a b p q = refl
gcd_within-fuel zero (suc h) a zero p q = refl
gcd_within-fuel zero (suc h) a (suc b) p q = absurd (omega arith)
gcd_within-fuel (suc f) zero a zero p q = refl
gcd_within-fuel (suc f) zero a (suc b) p q = absurd (omega arith)
gcd_within-fuel (suc f) (suc h) a zero p q = refl
gcd_within-fuel (suc f) (suc h) a (suc b) p q =
    let r : a % suc b < suc b = mod-lt a (omega arith) in
    gcd_within-fuel f h (suc b) (a % suc b) (omega arith) (omega arith)

-- one step
pub gcd-step : (a b : ℕ) → 0 < b → gcd a b ≡ gcd b (a % b)
gcd-step a zero p = absurd (omega arith)
gcd-step a (suc b) p =
    let r : a % suc b < suc b = mod-lt a (omega arith) in
    gcd_within-fuel b (a % suc b) (suc b) (a % suc b) (omega arith) (omega arith)

-- The greatest common divisor of a number and 0 is the number.
pub gcd-zero : (a : ℕ) → gcd a 0 ≡ a
gcd-zero a = refl

-- ---- what the algorithm gives divides, and is divided by what divides
-- Euclid's steps, as many as the second number, end at the greatest common divisor.
IsGcd-gcd_within : (f a b : ℕ) → b ≤ f → IsGcd a b (gcd_within f a b)
IsGcd-gcd_within zero a b p = IsGcd-from_zero a b (omega arith)
IsGcd-gcd_within (suc f) a zero p = IsGcd-from_zero a 0 refl
IsGcd-gcd_within (suc f) a (suc b) p =
    let r : a % suc b < suc b = mod-lt a (omega arith) in
    IsGcd-from_mod a (suc b) (gcd_within f (suc b) (a % suc b)) (IsGcd-gcd_within f (suc b) (a % suc b) (omega arith))

-- The function gives the greatest common divisor.
pub IsGcd-gcd : (a b : ℕ) → IsGcd a b (gcd a b)
IsGcd-gcd a b = IsGcd-gcd_within b a b (le_refl b)

-- the greatest common divisor of a number and all numbers of a list
abbrev gcd_onto : ℕ → List ℤ → ℕ
gcd_onto g xs = fold (λ g x. gcd (unsigned_abs x) g) g xs

-- d divides each number of a list.
abbrev pub DividesAll : ℕ → List ℤ → Type 0
DividesAll d xs = AllByRecursion (λ x. d ∣ unsigned_abs x) xs

-- What is found onto a number divides it and the whole list.
gcd_onto-divides : (g : ℕ) (xs : List ℤ) → (gcd_onto g xs ∣ g) × DividesAll (gcd_onto g xs) xs
gcd_onto-divides g [] = (dvd_refl g, tt)
gcd_onto-divides g (x ∷ xs) =
    let more = gcd_onto-divides (gcd (unsigned_abs x) g) xs in
    let both = IsGcd-gcd (unsigned_abs x) g in
    (dvd_trans _ more.0 both.1, (dvd_trans _ more.0 both.0, more.1))

-- Each divisor of the number and of the list divides what is found.
gcd_onto-greatest : (d g : ℕ) (xs : List ℤ) → d ∣ g → DividesAll d xs → d ∣ gcd_onto g xs
gcd_onto-greatest d g [] p all = p
gcd_onto-greatest d g (x ∷ xs) p all = gcd_onto-greatest d (gcd (unsigned_abs x) g) xs ((IsGcd-gcd (unsigned_abs x) g).2 d all.0 p) all.1

-- The greatest common divisor of a list divides each of its numbers.
pub gcd_of-divides : (xs : List ℤ) → DividesAll (gcd_of xs) xs
gcd_of-divides xs = (gcd_onto-divides 0 xs).1

-- Each common divisor of a list divides the greatest.
pub gcd_of-greatest : (d : ℕ) (xs : List ℤ) → DividesAll d xs → d ∣ gcd_of xs
gcd_of-greatest d xs all = gcd_onto-greatest d 0 xs (dvd-zero d) all

-- ---- it is 0 exactly where all numbers are
-- all numbers of the list are 0
abbrev pub AllZero : List ℤ → Type 0
AllZero xs = AllByRecursion (λ x. x ≡ pos 0) xs

-- A number whose absolute value 0 divides is 0.
pub zero_from_abs : (x : ℤ) → 0 ∣ unsigned_abs x → x ≡ pos 0
zero_from_abs (pos n) h = ap pos (eq-zero_of_zero-dvd h)
zero_from_abs (negsuc n) h = absurd (suc-ne-zero n (eq-zero_of_zero-dvd h))

-- Numbers that 0 divides are all 0.
AllZero-from_divisor : (xs : List ℤ) → DividesAll 0 xs → AllZero xs
AllZero-from_divisor [] all = tt
AllZero-from_divisor (x ∷ xs) all = (zero_from_abs x all.0, AllZero-from_divisor xs all.1)

-- Numbers whose greatest common divisor is 0 are all 0.
pub AllZero-from_gcd_of : (xs : List ℤ) → gcd_of xs ≡ 0 → AllZero xs
AllZero-from_gcd_of xs e = AllZero-from_divisor xs (subst (λ d. DividesAll d xs) e (gcd_of-divides xs))

-- Numbers that are all 0 have the greatest common divisor 0.
pub gcd_of-AllZero : (xs : List ℤ) → AllZero xs → gcd_of xs ≡ 0
gcd_of-AllZero [] all = refl
gcd_of-AllZero (x ∷ xs) all = ap (λ v. gcd_onto (gcd (unsigned_abs v) 0) xs) all.0 ∙ gcd_of-AllZero xs all.1

-- ---- signs do not matter
-- The absolute value does not change with the sign.
pub unsigned_abs-neg : (x : ℤ) → unsigned_abs (neg_ℤ x) ≡ unsigned_abs x
unsigned_abs-neg (pos zero) = refl
unsigned_abs-neg (pos (suc n)) = refl
unsigned_abs-neg (negsuc n) = refl

-- What is found onto a number does not change with the signs of the list.
gcd_onto-neg : (g : ℕ) (xs : List ℤ) → gcd_onto g (map neg_ℤ xs) ≡ gcd_onto g xs
gcd_onto-neg g [] = refl
gcd_onto-neg g (x ∷ xs) = ap (λ n. gcd_onto (gcd n g) (map neg_ℤ xs)) (unsigned_abs-neg x) ∙ gcd_onto-neg (gcd (unsigned_abs x) g) xs

-- The greatest common divisor does not change with the signs.
pub gcd_of-neg : (xs : List ℤ) → gcd_of (map neg_ℤ xs) ≡ gcd_of xs
gcd_of-neg xs = gcd_onto-neg 0 xs

-- ---- exact quotients
-- the remainder of a multiple of g, one below it
remainder_below : (n g : ℕ) → 0 < g → g ∣ suc n → suc (n % g) ≡ g
remainder_below n g p h =
    let whole = div-add-mod n g in
    let low : n % g < g = mod-lt n p in
    let e : suc n % g ≡ 0 = mod-eq-zero_of_dvd g h in
    let k = suc n / g in
    let exact = div-add-mod (suc n) g in
    let above : n / g < k = lt_of_mul-lt-mul_left g (omega arith) in
    let steps = mul-le-mul_left g above in
    omega arith

-- A number is its divisor times the quotient.
pub exact_quotient : (x : ℤ) (g : ℕ) → 0 < g → g ∣ unsigned_abs x → x ≡ pos g *ℤ int_div_euclid x (pos g)
exact_quotient (pos n) g p h = omega (arith, ints, div-add-mod n g, mod-eq-zero_of_dvd g h)
exact_quotient (negsuc n) g p h = omega (arith, ints, div-add-mod n g, remainder_below n g p h)

-- the numbers of a list over a divisor
abbrev pub quotients : ℕ → List ℤ → List ℤ
quotients g xs = map (λ x. int_div_euclid x (pos g)) xs

-- A divisor of the quotients, times the divisor, divides the numbers.
DividesAll-quotients : (g h : ℕ) (xs : List ℤ) → 0 < g → DividesAll g xs → DividesAll h (quotients g xs) → DividesAll (g * h) xs
DividesAll-quotients g h [] p all less = tt
DividesAll-quotients g h (x ∷ xs) p all less =
    let y = int_div_euclid x (pos g) in
    let e : unsigned_abs x ≡ g * unsigned_abs y = ap unsigned_abs (exact_quotient x g p all.0) ∙ unsigned_abs-mul (pos g) y in
    (subst (λ n. g * h ∣ n) (sym e) (mul-dvd-mul_left h g less.0), DividesAll-quotients g h xs p all.1 less.1)

-- numbers over their greatest common divisor have none above 1
pub gcd_of-quotients : (xs : List ℤ) → 0 < gcd_of xs → gcd_of (quotients (gcd_of xs) xs) ≡ 1
gcd_of-quotients xs p =
    let g = gcd_of xs in
    let h = gcd_of (quotients g xs) in
    let all = DividesAll-quotients g h xs p (gcd_of-divides xs) (gcd_of-divides (quotients g xs)) in
    let d : g * h ∣ g = gcd_of-greatest (g * h) xs all in
    let d' : g * h ∣ g * 1 = subst (λ n. g * h ∣ n) (sym (mul-one g)) d in
    eq-one_of_dvd-one (dvd_of_mul-dvd-mul_left h p d')

-- ---- it is no greater than the numbers
-- What Euclid's steps end at is below a bound of both numbers.
gcd_within-below : (f a b n : ℕ) → a < n → b < n → gcd_within f a b < n
gcd_within-below zero a b n p q = p
gcd_within-below (suc f) a zero n p q = p
gcd_within-below (suc f) a (suc b) n p q =
    let r : a % suc b < suc b = mod-lt a (omega arith) in
    gcd_within-below f (suc b) (a % suc b) n q (omega arith)

-- What is found onto a number is below a bound of it and of the list.
gcd_onto-below : (g n : ℕ) (xs : List ℤ) → g < n → AllByRecursion (λ x. unsigned_abs x < n) xs → gcd_onto g xs < n
gcd_onto-below g n [] p all = p
gcd_onto-below g n (x ∷ xs) p all = gcd_onto-below (gcd (unsigned_abs x) g) n xs (gcd_within-below g (unsigned_abs x) g n all.0 p) all.1

-- The greatest common divisor is below a bound of the absolute values.
pub gcd_of-below : (n : ℕ) (xs : List ℤ) → 0 < n → AllByRecursion (λ x. unsigned_abs x < n) xs → gcd_of xs < n
gcd_of-below n xs p all = gcd_onto-below 0 n xs p all

-- The divisor of numbers that fit fits.
pub gcd_of-fits : (xs : List ℤ) → AllByRecursion Fits xs → gcd_of xs < 2 ^ 127
gcd_of-fits xs all = gcd_of-below (2 ^ 127) xs (lit< tt) (AllByRecursion-weaken Fits (λ x. unsigned_abs x < 2 ^ 127) unsigned_abs-below xs all)

-- From 1 on the divisor stays 1.
pub gcd_onto-one : (xs : List ℤ) → fold (λ g x. gcd (unsigned_abs x) g) 1 xs ≡ 1
gcd_onto-one [] = refl
gcd_onto-one (x ∷ xs) = gcd_onto-one xs
