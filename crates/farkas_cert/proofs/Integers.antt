-- Laws of the integers in the form in which the elimination's proofs cite them.
use Rattle.std.proofs.Common.{◌≡◌, arith, sym, ap, ◌∙◌}
use Rattle.std.specs.Prelude.{ℤ, pos, ◌*ℤ◌, ◌≤ℤ◌, ◌<ℤ◌}
use borrow.Author.Differences.{same_in, same_out, sum_is_lem, neg_is, lt_out, le_out, below_in, at_most_in, Apart-out}
use Rattle.lin_rows.proofs.Integers.{mul_comm_ℤ, mul_assoc_ℤ, zero-mul_ℤ, one-mul_ℤ, mul-zero_ℤ, mul-le-mul_ℤ, mul-lt-mul_ℤ, le_of_mul-le-mul_ℤ, eq_of_mul-eq-mul_ℤ}

-- for `omega`: sums and differences, with each product as an unknown
pub ruleset linear = (same_out, Apart-out, same_in, lt_out, le_out, below_in, at_most_in, sum_is_lem, neg_is)

-- the factors of three in another order
pub mul_left_comm_ℤ : (a b c : ℤ) → a *ℤ (b *ℤ c) ≡ b *ℤ (a *ℤ c)
mul_left_comm_ℤ a b c = sym (mul_assoc_ℤ a b c) ∙ ap (λ t. t *ℤ c) (mul_comm_ℤ a b) ∙ mul_assoc_ℤ b a c

-- for `simp`: products of the same factors become the same
pub ruleset factors = (mul_assoc_ℤ, mul_comm_ℤ, mul_left_comm_ℤ)

-- A number times 1 is the number.
pub mul-one_ℤ : (a : ℤ) → a *ℤ pos 1 ≡ a
mul-one_ℤ a = mul_comm_ℤ a (pos 1) ∙ one-mul_ℤ a

-- a factor on the right
pub mul_right_le_ℤ : (a b c : ℤ) → pos 0 ≤ℤ c → a ≤ℤ b → (a *ℤ c) ≤ℤ (b *ℤ c)
mul_right_le_ℤ a b c n h = omega (arith, linear, mul-le-mul_ℤ c a b n h, mul_comm_ℤ a c, mul_comm_ℤ b c)

-- A positive second factor may be taken off an order.
pub le_of_mul_right_ℤ : (a b c : ℤ) → pos 0 <ℤ c → (a *ℤ c) ≤ℤ (b *ℤ c) → a ≤ℤ b
le_of_mul_right_ℤ a b c n h = le_of_mul-le-mul_ℤ c a b n (omega (arith, linear, mul_comm_ℤ a c, mul_comm_ℤ b c))

-- A positive second factor may be taken off an equation.
pub eq_of_mul_right_ℤ : (a b c : ℤ) → pos 0 <ℤ c → a *ℤ c ≡ b *ℤ c → a ≡ b
eq_of_mul_right_ℤ a b c n h = eq_of_mul-eq-mul_ℤ c a b n (mul_comm_ℤ c a ∙ h ∙ mul_comm_ℤ b c)

-- The product of positive numbers is positive.
pub mul-positive_ℤ : (a b : ℤ) → pos 0 <ℤ a → pos 0 <ℤ b → pos 0 <ℤ (a *ℤ b)
mul-positive_ℤ a b h k = omega (arith, linear, mul-lt-mul_ℤ a (pos 0) b h k, mul-zero_ℤ a)

-- The product of numbers from 0 on is from 0 on.
pub mul-not_negative_ℤ : (a b : ℤ) → pos 0 ≤ℤ a → pos 0 ≤ℤ b → pos 0 ≤ℤ (a *ℤ b)
mul-not_negative_ℤ a b h k = omega (arith, linear, mul-le-mul_ℤ a (pos 0) b h k, mul-zero_ℤ a)
