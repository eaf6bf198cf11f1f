-- Tests, and what is given by them.
use Rattle.std.proofs.Common.{◌≡◌, Bool, true, false, cond, ◌&&◌, Some, None, refl, sym, true≢false}

-- both parts of a test that holds
pub both_true : (a b : Bool) → (a && b) ≡ true → (a ≡ true) × (b ≡ true)
both_true true true e = (refl, refl)
both_true true false e = (refl, e)
both_true false b e = absurd (true≢false (sym e))

-- what is given where a test holds
pub given_where_true : {A : Type 0} (b : Bool) (x y : A) → cond b (Some x) None ≡ Some y → (b ≡ true) × (x ≡ y)
given_where_true true x y e = (refl, cc)
given_where_true false x y e = absurd cc
