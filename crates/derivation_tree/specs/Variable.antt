-- Rows over variables that have names, and the systems that they make: the variables are numbered in the order in which the rows first
-- name them.
use Rattle.std.specs.Prelude.{ℕ, suc, zero, ◌==◌, ◌&&◌, ℤ, pos, negsuc, ◌+ℤ◌, Bool, false, if◌then◌else◌, List, [], ◌∷◌, ◌++◌, length, map, flat_map}
use Rattle.std.specs.List.{list_any}
use Rattle.lin_rows.specs.Row.{Row}
use Rattle.lin_rows.specs.System.{System}

pub data Variable : Type 0 where
  -- a column at a node: in the state, or after the step
  After : ℕ → ℕ → Variable
  -- a column before a node's step
  Before : ℕ → ℕ → Variable
  -- an input of a node's step
  Input : ℕ → ℕ → Variable

abbrev pub same_variable : Variable → Variable → Bool
same_variable (After n c) (After m d) = n == m && c == d
same_variable (Before n c) (Before m d) = n == m && c == d
same_variable (Input n c) (Input m d) = n == m && c == d
same_variable one other = false

-- a coefficient of a variable
pub record Term : Type 0 where
  pub variable : Variable
  pub coefficient : ℤ

-- the terms' sum is at most the bound, or it is the bound
pub record NamedRow : Type 0 where
  pub equal : Bool
  pub terms : List Term
  pub bound : ℤ

-- a term, where its coefficient is not 0
abbrev pub with_term : Variable → ℤ → List Term → List Term
with_term variable (pos zero) terms = terms
with_term variable (pos (suc n)) terms = record { variable = variable; coefficient = pos (suc n) } ∷ terms
with_term variable (negsuc n) terms = record { variable = variable; coefficient = negsuc n } ∷ terms

abbrev pub terms_over : List Variable → List ℤ → List Term
terms_over [] coefficients = []
terms_over (v ∷ variables) [] = []
terms_over (v ∷ variables) (a ∷ coefficients) = with_term v a (terms_over variables coefficients)

-- a row, with these variables for its columns
abbrev pub row_named : List Variable → Row → NamedRow
row_named variables row = record { equal = row.equal; terms = terms_over variables row.coefficients; bound = row.bound }

-- ---- numbering

-- the variables that stand already, and behind them the terms' others as they come
abbrev pub variables_after : List Variable → List Term → List Variable
variables_after named [] = named
variables_after named (term ∷ terms) =
    variables_after (if list_any (same_variable term.variable) named then named else named ++ term.variable ∷ []) terms

abbrev pub variables_of : List NamedRow → List Variable
variables_of rows = variables_after [] (flat_map (λ row. row.terms) rows)

-- the coefficient of a variable in a sum
abbrev pub coefficient_in : List Term → Variable → ℤ
coefficient_in [] v = pos 0
coefficient_in (term ∷ terms) v = if same_variable term.variable v then term.coefficient +ℤ coefficient_in terms v else coefficient_in terms v

abbrev pub row_over : List Variable → NamedRow → Row
row_over variables row = record { equal = row.equal; coefficients = map (coefficient_in row.terms) variables; bound = row.bound }

-- the system of rows, over exactly the variables that they name
abbrev pub system_over : List NamedRow → System
system_over rows = let variables = variables_of rows in record { columns = length variables; rows = map (row_over variables) rows }
