-- Numbers that test programs append. No proof of the crate itself cites this file.
use Rattle.std.proofs.Common.{◌≡◌, ◌≢◌, ℕ, ◌+◌, ◌*◌, ◌<◌, ◌≤◌, List, subst, sym, arith}
use Rattle.std.specs.List.{Contains}
use mathlib.Core.List.{IsPrefix}
use mathlib.Core.Logic.{dite}
use native.Mathlib.Decide.{ℕ_discrete, dec_le}
use Rattle.board_lock.proofs.Prefixes.{prefix_trans, Contains-prefix}

-- with the next number all up to it are there
pub next_there : (from next : ℕ) (before after : List ℕ) → IsPrefix before after → ((n : ℕ) → from ≤ n → n < next → Contains before n) → Contains after next
    → (n : ℕ) → from ≤ n → n < next + 1 → Contains after n
next_there from next before after begins all last n low high =
    dite (ℕ_discrete n next) (λ (same : n ≡ next). subst (Contains after) (sym same) last)
    (λ (other : n ≢ next). Contains-prefix before after n begins (all n low (omega arith)))

-- the numbers of both are in what both begin
pub both_there : (count : ℕ) (one other joined all : List ℕ) → IsPrefix one joined → IsPrefix other joined → IsPrefix joined all
    → ((n : ℕ) → n < count → Contains one n) → ((n : ℕ) → count ≤ n → n < count + count → Contains other n) → (n : ℕ) → n < 2 * count → Contains all n
both_there count one other joined all first second last low high n small =
    dite (dec_le count n) (λ (above : count ≤ n). Contains-prefix other all n (prefix_trans other joined all second last) (high n above (omega arith)))
    (λ (below : ¬ (count ≤ n)). Contains-prefix one all n (prefix_trans one joined all first last) (low n (omega arith)))
