-- The program of the tests. No public clause cites this file but that of `two_bare_threads`, which makes it for tests.
use Rattle.std.specs.Prelude.{ℕ, pos, List, [], ◌∷◌, Some}
use Rattle.transition_formula.specs.Program.{Column, Edge, Thread, Program}

-- the counter of thread i
abbrev pub counter_column : ℕ → List ℕ → Column
counter_column i text = record { text = text; owner = Some i; start = Some (pos 1) }

abbrev pub worked_columns : List Column
worked_columns = counter_column 1 (116 ∷ 49 ∷ 46 ∷ 36 ∷ 112 ∷ 99 ∷ []) ∷ counter_column 2 (116 ∷ 50 ∷ 46 ∷ 36 ∷ 112 ∷ 99 ∷ []) ∷ []

-- a step that only leads on
abbrev pub bare_edge : ℕ → ℕ → Edge
bare_edge from to = record { from = from; to = to; inputs = 0; tests = []; sets = [] }

-- 3 locations and 2 edges
abbrev pub first_thread : Thread
first_thread = record { counter = 0; locations = 3; edges = bare_edge 1 2 ∷ bare_edge 2 0 ∷ [] }

-- 4 locations and 1 edge
abbrev pub second_thread : Thread
second_thread = record { counter = 1; locations = 4; edges = bare_edge 1 3 ∷ [] }

abbrev pub worked_program : Program
worked_program = record { columns = worked_columns; threads = first_thread ∷ second_thread ∷ [] }
