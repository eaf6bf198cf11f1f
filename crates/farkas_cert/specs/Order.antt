-- Certificates of rows in another order: which certificates of the rows they are.
use Rattle.std.specs.Prelude.{◌≡◌, ◌≢◌, ℕ, zero, suc, ℤ, cond, nat_lt, List, [], ◌∷◌, map, get_or, Some, ⊤}
use Rattle.std.specs.List.{AllByRecursion}
use Rattle.lin_rows.specs.Row.{Row}
use Rattle.lin_rows.specs.System.{System}
use Rattle.farkas_cert.specs.Cert.{Pairs, InOrder, Refutes, row_numbered, weighted_sum}
use Rattle.farkas_cert.specs.Reduced.{IsReduced}

-- No number stands twice.
abbrev pub StandsOnce : List ℕ → Type 0
StandsOnce [] = ⊤
StandsOnce (n ∷ ns) = AllByRecursion (λ other. n ≢ other) ns × StandsOnce ns

-- The others are rows of a list: the k-th is the row of the k-th number of the order, and no row is taken twice.
pub record IsOrder (order : List ℕ) (rows others : List Row) : Type 0 where
  pub rows_are : map (row_numbered rows) order ≡ map Some others
  pub once : StandsOnce order

-- the number among the rows of the other that is numbered k
abbrev pub number_in : List ℕ → ℕ → ℕ
number_in order zero = 0
number_in order (suc k) = get_or order k 0

-- a pair among others, before the first of a greater number
abbrev pub placed_pair : ℕ → ℤ → Pairs → Pairs
placed_pair k m [] = (k, m) ∷ []
placed_pair k m ((j, n) ∷ pairs) = cond (nat_lt k j) ((k, m) ∷ (j, n) ∷ pairs) ((j, n) ∷ placed_pair k m pairs)

-- the same multipliers with the numbers that their rows have among the rows
abbrev pub renumbered_pairs : List ℕ → Pairs → Pairs
renumbered_pairs order [] = []
renumbered_pairs order ((k, m) ∷ pairs) = placed_pair (number_in order k) m (renumbered_pairs order pairs)

-- ---- laws

-- A certificate of the others, renumbered, refutes the rows.
abbrev pub RefutesInAnyOrder : Type 0
RefutesInAnyOrder = (system other : System) (order : List ℕ) (pairs : Pairs)
    → IsOrder order system.rows other.rows → Refutes other pairs → Refutes system (renumbered_pairs order pairs)

-- It has the same weighted sum,
abbrev pub SumsAlikeInAnyOrder : Type 0
SumsAlikeInAnyOrder = (rows others : List Row) (order : List ℕ) (pairs : Pairs)
    → IsOrder order rows others → InOrder others 0 pairs → weighted_sum rows (renumbered_pairs order pairs) ≡ weighted_sum others pairs

-- and stays without a common divisor.
abbrev pub IsReducedInAnyOrder : Type 0
IsReducedInAnyOrder = (order : List ℕ) (pairs : Pairs) → IsReduced pairs → IsReduced (renumbered_pairs order pairs)
