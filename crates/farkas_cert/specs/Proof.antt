-- Certificates that a check with bounded numbers can follow, entailment, and what both are good for.
use Rattle.std.specs.Prelude.{◌≡◌, ℕ, suc, ℤ, List, [], ◌∷◌, ◌++◌, Option, Some, None, option_map, ◌&&◌, if◌then◌else◌}
use Rattle.std.specs.Option.{option_or}
use Rattle.thr_base.specs.Number.{fits}
use Rattle.std.specs.List.{AllByRecursion}
use Rattle.lin_rows.specs.Row.{Row, Meets, MeetsOver, multiple_of, sum_of}
use Rattle.lin_rows.specs.System.{System, IsPoint, IsRationalPoint, with_row}
use Rattle.lin_rows.specs.Atom.{IsAtom, negation}
use Rattle.farkas_cert.specs.Cert.{Pairs, Refutes, IsRefuted, InOrder, row_numbered, weighted_sum}

-- ---- the order in which products and sums are made
-- the numbers of a row: its coefficients, and its bound as the last
abbrev pub numbers_of : Option Row → List ℤ
numbers_of None = []
numbers_of (Some row) = row.coefficients ++ row.bound ∷ []

-- for each pair its row's number and the products of that row's numbers with the multiplier
abbrev pub products : List Row → Pairs → List (ℕ × List ℤ)
products rows [] = []
products rows ((k, m) ∷ pairs) = (k, multiple_of m (numbers_of (row_numbered rows k))) ∷ products rows pairs

-- the first place at which one of two lists has a number that does not fit
abbrev pub unfit_place : List ℤ → List ℤ → Option ℕ
unfit_place [] ys = None
unfit_place (x ∷ xs) [] = None
unfit_place (x ∷ xs) (y ∷ ys) = if fits x && fits y then option_map suc (unfit_place xs ys) else Some 0

-- The row and the column of the first product or partial sum that does not fit: pair by pair, and in each
-- pair column by column, the bound last. A sum begins at its first product.
abbrev pub first_unfit : List ℤ → List (ℕ × List ℤ) → Option (ℕ × ℕ)
first_unfit sums [] = None
first_unfit sums ((k, terms) ∷ rest) =
    let more = sum_of terms sums in
    option_or (option_map (λ column. (k, column)) (unfit_place terms more)) (first_unfit more rest)

abbrev pub overflow_of : List Row → Pairs → Option (ℕ × ℕ)
overflow_of rows pairs = first_unfit [] (products rows pairs)

-- ---- proofs and entailment
-- The pairs refute the system, and every product and partial sum on the way fits.
pub record Proves (system : System) (pairs : Pairs) : Type 0 where
  pub refutes : Refutes system pairs
  pub fits : overflow_of system.rows pairs ≡ None

-- the system with an atom's negation as its last row
abbrev pub with_denial : System → Row → System
with_denial system atom = with_row system (negation atom)

-- The system without the atom is refuted.
abbrev pub Entails : System → Row → Type 0
Entails system atom = IsRefuted (with_denial system atom)

-- ---- laws
-- A refuted system has no rational point.
abbrev pub RefutedHasNoPoint : Type 0
RefutedHasNoPoint = (system : System) (x : List ℤ) (d : ℤ) → IsRefuted system → ¬ IsRationalPoint system x d

-- Nor has it a whole point.
abbrev pub RefutedHasNoWholePoint : Type 0
RefutedHasNoWholePoint = (system : System) (z : List ℤ) → IsRefuted system → ¬ IsPoint system z

-- The weighted sum of rows, in order, holds at each rational point of them.
abbrev pub PointsMeetWeightedSums : Type 0
PointsMeetWeightedSums = (rows : List Row) (pairs : Pairs) (x : List ℤ) (d : ℤ)
    → InOrder rows 0 pairs → AllByRecursion (λ row. MeetsOver row x d) rows → MeetsOver (weighted_sum rows pairs) x d

-- Each whole point of a system meets every atom that it entails.
abbrev pub PointsMeetEntailed : Type 0
PointsMeetEntailed = (system : System) (atom : Row) (z : List ℤ) → IsAtom atom → Entails system atom → IsPoint system z → Meets atom z
