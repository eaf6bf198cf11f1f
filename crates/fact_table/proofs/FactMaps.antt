-- Lengths of maps.
use Rattle.std.proofs.Common.{◌≡◌, ℕ, ◌+◌, cond, Option, Some, None, is_some}

-- one more entry, where the key was absent
pub one_more : {X : Type 0} (old : Option X) (count more : ℕ) → old ≡ None → more ≡ count + cond (is_some old) 0 1 → more ≡ count + 1
one_more None count more absent is = is
one_more (Some x) count more absent is = cc
