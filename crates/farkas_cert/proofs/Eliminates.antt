-- The made lines have no coefficient at the column of their stage.
use Rattle.std.proofs.Common.{◌≡◌, ℕ, zero, suc, ◌<◌, refl, sym, ap, ◌∙◌, arith, min, true}
use Rattle.std.specs.Prelude.{ℤ, pos, negsuc, neg_ℤ, ◌+ℤ◌, ◌*ℤ◌, ◌<ℤ◌, unsigned_abs}
use Rattle.std.specs.Int.{int_signum, ◌∣◌}
use Rattle.std.proofs.lemmas.Int.{unsigned_abs-mul, ints}
use Rattle.std.proofs.Math.Nat.{dvd-mul_left_of_dvd, eq-zero_of_zero-dvd}
use Rattle.lin_rows.specs.Gcd.{gcd}
use Rattle.lin_rows.proofs.Divisors.{IsGcd-gcd}
use Rattle.farkas_cert.specs.Divided.{over}
use Rattle.farkas_cert.specs.Line.{is_nonzero}
use Rattle.farkas_cert.proofs.Divisors.{over-exact}
use Rattle.lin_rows.proofs.Integers.{mul-add_ℤ, mul_assoc_ℤ, mul_comm_ℤ, mul-neg_ℤ, neg-mul_ℤ, zero-mul_ℤ}
use Rattle.farkas_cert.proofs.Integers.{linear, eq_of_mul_right_ℤ}

-- ---- signs

-- A number times its sign is its absolute value.
pub sign_self : (p : ℤ) → int_signum p *ℤ p ≡ pos (unsigned_abs p)
sign_self (pos zero) = refl
sign_self (pos (suc n)) = let m : min (suc n) 1 ≡ 1 = omega arith in rw m (omega (arith, ints))
sign_self (negsuc n) = omega (arith, ints)

-- A number other than 0 has a positive absolute value.
pub nonzero_abs : (q : ℤ) → is_nonzero q ≡ true → 0 < unsigned_abs q
nonzero_abs (pos zero) e = absurd cc
nonzero_abs (pos (suc n)) e = omega arith
nonzero_abs (negsuc n) e = omega arith

-- A divisor of a positive number is positive.
positive_from_divides : (g n : ℕ) → g ∣ n → 0 < n → 0 < g
positive_from_divides zero n d h = let z = eq-zero_of_zero-dvd d in absurd (omega arith)
positive_from_divides (suc g) n d h = omega arith

-- The greatest common divisor with a positive second number is positive.
pub gcd_positive : (p q : ℕ) → 0 < q → pos 0 <ℤ pos (gcd p q)
gcd_positive p q h = let g = positive_from_divides (gcd p q) q (IsGcd-gcd p q).1 h in omega (arith, linear)

-- The greatest common divisor with a positive first number is positive.
pub gcd_positive_left : (p q : ℕ) → 0 < p → pos 0 <ℤ pos (gcd p q)
gcd_positive_left p q h = let g = positive_from_divides (gcd p q) p (IsGcd-gcd p q).0 h in omega (arith, linear)

-- A positive number has a positive absolute value.
pub positive_abs : (p : ℤ) → pos 0 <ℤ p → 0 < unsigned_abs p
positive_abs (pos n) h = omega (arith, linear)
positive_abs (negsuc n) h = omega arith

-- ---- the products at the column cancel

-- Where two products cancel, so do their quotients.
cancels_by : (g a q b p u v : ℤ) → pos 0 <ℤ g → g *ℤ a ≡ u → g *ℤ b ≡ v → u *ℤ q +ℤ v *ℤ p ≡ pos 0 → a *ℤ q +ℤ b *ℤ p ≡ pos 0
cancels_by g a q b p u v n e k h =
    let first = sym (mul_assoc_ℤ g a q) ∙ ap (λ t. t *ℤ q) e in
    let second = sym (mul_assoc_ℤ g b p) ∙ ap (λ t. t *ℤ p) k in
    eq_of_mul_right_ℤ (a *ℤ q +ℤ b *ℤ p) (pos 0) g n
    (omega (arith, linear, mul_comm_ℤ (a *ℤ q +ℤ b *ℤ p) g, mul-add_ℤ g (a *ℤ q) (b *ℤ p), zero-mul_ℤ g))

-- The factors with which an equality is put in cancel the column.
pub substitution_cancels : (p q : ℤ) → is_nonzero q ≡ true →
    let g = gcd (unsigned_abs p) (unsigned_abs q) in over g (pos (unsigned_abs p)) *ℤ q +ℤ neg_ℤ (over g (int_signum p *ℤ q)) *ℤ p ≡ pos 0
substitution_cancels p q e =
    let g = gcd (unsigned_abs p) (unsigned_abs q) in
    let d = IsGcd-gcd (unsigned_abs p) (unsigned_abs q) in
    let divides : g ∣ unsigned_abs (int_signum p *ℤ q) = rw (unsigned_abs-mul (int_signum p) q) (dvd-mul_left_of_dvd g d.1 (unsigned_abs (int_signum p))) in
    cancels_by (pos g) (over g (pos (unsigned_abs p))) q (neg_ℤ (over g (int_signum p *ℤ q))) p (pos (unsigned_abs p)) (neg_ℤ (int_signum p *ℤ q))
    (gcd_positive (unsigned_abs p) (unsigned_abs q) (nonzero_abs q e))
    (over-exact g (pos (unsigned_abs p)) d.0)
    (mul-neg_ℤ (pos g) (over g (int_signum p *ℤ q)) ∙ ap neg_ℤ (over-exact g (int_signum p *ℤ q) divides))
    (omega (arith, linear, neg-mul_ℤ (int_signum p *ℤ q) p, mul_assoc_ℤ (int_signum p) q p, ap (λ t. int_signum p *ℤ t) (mul_comm_ℤ q p), mul_assoc_ℤ (int_signum p) p q, ap (λ t. t *ℤ q) (sign_self p)))

-- The factors of a pair cancel the column.
pub pairing_cancels : (p r : ℤ) → pos 0 <ℤ p →
    let q = neg_ℤ r in let g = gcd (unsigned_abs p) (unsigned_abs q) in over g q *ℤ p +ℤ over g p *ℤ r ≡ pos 0
pairing_cancels p r h =
    let q = neg_ℤ r in
    let g = gcd (unsigned_abs p) (unsigned_abs q) in
    let d = IsGcd-gcd (unsigned_abs p) (unsigned_abs q) in
    cancels_by (pos g) (over g q) p (over g p) r q p
    (gcd_positive_left (unsigned_abs p) (unsigned_abs q) (positive_abs p h))
    (over-exact g q d.1) (over-exact g p d.0)
    (omega (arith, linear, neg-mul_ℤ r p, mul_comm_ℤ r p))
