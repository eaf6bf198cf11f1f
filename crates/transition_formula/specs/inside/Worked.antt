-- The program of the tests. No public clause cites this file but that of `two_threads`, which makes it for tests.
use Rattle.std.specs.Prelude.{ℕ, pos, negsuc, List, [], ◌∷◌, Some, None, false}
use Rattle.lin_rows.specs.Row.{Row}
use Rattle.transition_formula.specs.Program.{Form, Column, Edge, Thread, Program}

-- x, which starts at 0
abbrev pub shared_column : Column
shared_column = record { text = 120 ∷ []; owner = None; start = Some (pos 0) }

-- the first thread's own t1.l, which may start anywhere
abbrev pub own_column : Column
own_column = record { text = 116 ∷ 49 ∷ 46 ∷ 108 ∷ []; owner = Some 1; start = None }

abbrev pub first_counter_column : Column
first_counter_column = record { text = 116 ∷ 49 ∷ 46 ∷ 36 ∷ 112 ∷ 99 ∷ []; owner = Some 1; start = Some (pos 1) }

abbrev pub second_counter_column : Column
second_counter_column = record { text = 116 ∷ 50 ∷ 46 ∷ 36 ∷ 112 ∷ 99 ∷ []; owner = Some 2; start = Some (pos 1) }

abbrev pub worked_columns : List Column
worked_columns = shared_column ∷ own_column ∷ first_counter_column ∷ second_counter_column ∷ []

-- 2x + 5i <= 7, with i the input
abbrev pub worked_test : Row
worked_test = record { equal = false; coefficients = pos 2 ∷ pos 0 ∷ pos 0 ∷ pos 0 ∷ pos 5 ∷ []; bound = pos 7 }

-- x - i + 3
abbrev pub own_form : Form
own_form = record { coefficients = pos 1 ∷ pos 0 ∷ pos 0 ∷ pos 0 ∷ negsuc 0 ∷ []; constant = pos 3 }

-- x + 1
abbrev pub shared_form : Form
shared_form = record { coefficients = pos 1 ∷ pos 0 ∷ pos 0 ∷ pos 0 ∷ []; constant = pos 1 }

-- where the test holds, the first thread sets its own column
abbrev pub first_edge : Edge
first_edge = record { from = 1; to = 2; inputs = 1; tests = worked_test ∷ []; sets = (1, own_form) ∷ [] }

-- the second thread sets the shared column
abbrev pub second_edge : Edge
second_edge = record { from = 1; to = 2; inputs = 0; tests = []; sets = (0, shared_form) ∷ [] }

abbrev pub worked_thread : ℕ → Edge → Thread
worked_thread counter edge = record { counter = counter; locations = 3; edges = edge ∷ [] }

abbrev pub worked_threads : List Thread
worked_threads = worked_thread 2 first_edge ∷ worked_thread 3 second_edge ∷ []

abbrev pub worked_program : Program
worked_program = record { columns = worked_columns; threads = worked_threads }
