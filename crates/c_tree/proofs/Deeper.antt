-- The number of levels that are left.
use Rattle.std.proofs.Common.{◌≡◌, ℕ, suc, ◌-◌, ◌<◌, ap, arith}

-- at one level fewer, and one more
pub deeper : {A : Type 0} (f : ℕ → A) (n : ℕ) → 0 < n → f n ≡ f (suc (n - 1))
deeper f n more = let one : n ≡ suc (n - 1) = omega arith in ap f one
