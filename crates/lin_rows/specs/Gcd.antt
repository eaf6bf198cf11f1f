-- The greatest common divisor of integers, and the least common multiple of two.
use Rattle.std.specs.Prelude.{ℕ, zero, suc, ◌*◌, ◌/◌, ◌%◌, ◌<◌, ℤ, List, fold, unsigned_abs}
use Rattle.std.specs.Int.{IsGcd, ◌∣◌}
use Rattle.std.specs.List.{AllByRecursion}

-- Euclid's steps; a fuel of at least b is enough.
abbrev pub gcd_within : ℕ → ℕ → ℕ → ℕ
gcd_within zero a b = a
gcd_within (suc fuel) a zero = a
gcd_within (suc fuel) a (suc b) = gcd_within fuel (suc b) (a % suc b)

abbrev pub gcd : ℕ → ℕ → ℕ
gcd a b = gcd_within b a b

-- the least common multiple of two positive numbers
abbrev pub lcm : ℕ → ℕ → ℕ
lcm a b = a / gcd a b * b

-- the greatest common divisor of all numbers of a list; 0 where all are 0
abbrev pub gcd_of : List ℤ → ℕ
gcd_of xs = fold (λ g x. gcd (unsigned_abs x) g) 0 xs

-- ---- laws

-- `gcd` is the greatest common divisor of two numbers; `gcd_of` divides each number of a list, and each common divisor divides it.
pub record DivisorsAreGreatest : Type 0 where
  pub of_two : (a b : ℕ) → IsGcd a b (gcd a b)
  pub common : (xs : List ℤ) → AllByRecursion (λ x. gcd_of xs ∣ unsigned_abs x) xs
  pub greatest : (xs : List ℤ) (g : ℕ) → AllByRecursion (λ x. g ∣ unsigned_abs x) xs → g ∣ gcd_of xs

-- `lcm` is the least common multiple of two positive numbers: both divide it, and it divides each number that both divide.
pub record MultiplesAreLeast : Type 0 where
  pub positive : (a b : ℕ) → 0 < a → 0 < b → 0 < lcm a b
  pub of_first : (a b : ℕ) → 0 < a → a ∣ lcm a b
  pub of_second : (a b : ℕ) → b ∣ lcm a b
  pub least : (a b m : ℕ) → 0 < a → a ∣ m → b ∣ m → lcm a b ∣ m
