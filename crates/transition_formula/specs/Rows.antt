-- The rows of initial states, and of the steps by an edge.
use Rattle.std.specs.Prelude.{◌≡◌, ℕ, ◌+◌, suc, ◌==◌, not, ◌&&◌, ℤ, pos, negsuc, neg_ℤ, Bool, true, List, [], ◌∷◌, ◌++◌, length, map, filter, take, drop, replicate, slice_set, Option, Some, None}
use Rattle.std.specs.List.{list_any, range_with_len}
use Rattle.lin_rows.specs.Row.{Row}
use Rattle.lin_rows.specs.System.{System}
use Rattle.transition_formula.specs.Program.{Form, Column, Edge, Thread, Program, IsEdgeOf}

-- n zeros
abbrev pub zeros : ℕ → List ℤ
zeros n = replicate n (pos 0)

-- n numbers: k at place c, and 0 elsewhere
abbrev pub unit : ℕ → ℕ → ℤ → List ℤ
unit n c k = slice_set (zeros n) c k

-- coefficients . z = bound
abbrev pub equality : List ℤ → ℤ → Row
equality coefficients bound = record { equal = true; coefficients = coefficients; bound = bound }

-- over so many columns, column c is v
abbrev pub column_is : ℕ → ℕ → ℤ → Row
column_is width c v = equality (unit width c (pos 1)) v

-- ---- initial states

-- the row of a column that has a start, before other rows
abbrev pub start_row : ℕ → ℕ → Option ℤ → List Row → List Row
start_row width c None rows = rows
start_row width c (Some v) rows = column_is width c v ∷ rows

-- a row for each column that has a start; the first of these columns is column c
abbrev pub start_rows : ℕ → ℕ → List Column → List Row
start_rows width c [] = []
start_rows width c (column ∷ columns) = start_row width c column.start (start_rows width (suc c) columns)

-- the rows of the initial states
abbrev pub init_rows : Program → List Row
init_rows program = start_rows (length program.columns) 0 program.columns

-- ---- steps: n columns before, the same n columns after, and m inputs

-- the edge sets column c
abbrev pub sets_column : Edge → ℕ → Bool
sets_column edge c = list_any (λ set. set.0 == c) edge.sets

-- a step by the edge keeps column c: it is not the counter, and not set
abbrev pub is_kept : ℕ → Edge → ℕ → Bool
is_kept counter edge c = not (c == counter) && not (sets_column edge c)

-- column c is after what it was before: c' - c = 0
abbrev pub kept_row : ℕ → ℕ → ℕ → Row
kept_row n m c = equality (unit n c (negsuc 0) ++ (unit n c (pos 1) ++ zeros m)) (pos 0)

-- a test, over the columns before and the inputs
abbrev pub test_row : ℕ → Row → Row
test_row n row = record row { coefficients = take n row.coefficients ++ (zeros n ++ drop n row.coefficients) }

-- a set: column c after, minus the form over the columns before and the inputs
abbrev pub set_row : ℕ → ℕ × Form → Row
set_row n (c, form) = equality (map neg_ℤ (take n form.coefficients) ++ (unit n c (pos 1) ++ map neg_ℤ (drop n form.coefficients))) form.constant

-- how many columns and inputs the rows of an edge are over
abbrev pub edge_width : ℕ → ℕ → ℕ
edge_width n m = n + (n + m)

-- the columns that an edge keeps, in their order
abbrev pub kept_columns : ℕ → ℕ → Edge → List ℕ
kept_columns n counter edge = filter (is_kept counter edge) (range_with_len 0 n)

-- The rows of an edge, over n columns: the counter before and after, the columns that it keeps, the tests, the sets.
abbrev pub edge_rows : ℕ → ℕ → Edge → List Row
edge_rows n counter edge =
    let width = edge_width n edge.inputs in
    column_is width counter (pos edge.from)
    ∷ column_is width (n + counter) (pos edge.to)
    ∷ (map (kept_row n edge.inputs) (kept_columns n counter edge)
    ++ (map (test_row n) edge.tests ++ map (set_row n) edge.sets))

-- ---- as systems

abbrev pub init_system : Program → System
init_system program = record { columns = length program.columns; rows = init_rows program }

abbrev pub edge_system : Program → Thread → Edge → System
edge_system program thread edge =
    let n = length program.columns in
    record { columns = edge_width n edge.inputs; rows = edge_rows n thread.counter edge }

-- What rows are those of edge e of thread i.
abbrev pub AreEdgeRows : Program → ℕ → ℕ → System → Type 0
AreEdgeRows program i e rows = (thread : Thread) (edge : Edge) → IsEdgeOf program i e thread edge → rows ≡ edge_system program thread edge

-- what all threads see of a step by an edge, over the columns before and after: its thread steps, and columns are kept
abbrev pub seen_system : Program → Thread → Edge → System
seen_system program thread edge =
    let n = length program.columns in
    record {
      columns = n + n;
      rows = column_is (n + n) thread.counter (pos edge.from)
          ∷ column_is (n + n) (n + thread.counter) (pos edge.to)
          ∷ map (kept_row n 0) (kept_columns n thread.counter edge);
    }

-- What rows are what all threads see of edge e of thread i.
abbrev pub AreSeenRows : Program → ℕ → ℕ → System → Type 0
AreSeenRows program i e rows = (thread : Thread) (edge : Edge) → IsEdgeOf program i e thread edge → rows ≡ seen_system program thread edge
