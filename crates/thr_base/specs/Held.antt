-- The positions of a home's predicates that a fact holds, from 1 to 128. Bit k - 1 of the word that is held stands for position k.
use Rattle.std.specs.Prelude.{◌≡◌, ◌↔◌, ℕ, ◌-◌, ◌^◌, ◌<◌, ◌≤◌, ◌==◌, Bool, true, List, [], ◌∷◌, filter}
use Rattle.std.specs.List.{range_with_len, Contains}
use Rattle.std.specs.Int.{bit_at}

-- The position is held.
abbrev pub holds : ℕ → ℕ → Bool
holds held k = bit_at held (k - 1) == 1

-- the positions that are held, in rising order
unfoldable pub positions : ℕ → List ℕ
positions held = filter (holds held) (range_with_len 1 128)

-- The positions rise, from above `last`.
abbrev pub Rise : ℕ → List ℕ → Type 0
Rise last [] = Unit {0}
Rise last (k ∷ ks) = (last < k) × Rise k ks

-- ---- laws

-- The positions of a word rise, and are exactly those from 1 to 128 that it holds.
pub record ArePositionsOf (held : ℕ) (ks : List ℕ) : Type 0 where
  pub rising : Rise 0 ks
  pub exact : (k : ℕ) → Contains ks k ↔ ((0 < k) × (k ≤ 128) × (holds held k ≡ true))

-- Words of the same positions are the same.
abbrev pub PositionsTellWords : Type 0
PositionsTellWords = (one other : ℕ) → one < 2 ^ 128 → other < 2 ^ 128 → positions one ≡ positions other → one ≡ other

-- A word is below 2 ^ n exactly where no position above n is held.
abbrev pub WordsAreBelow : Type 0
WordsAreBelow = (held n : ℕ) → held < 2 ^ 128 → n ≤ 128 → (held < 2 ^ n) ↔ ((k : ℕ) → Contains (positions held) k → k ≤ n)
