-- The program of a test: one thread that adds 1 to a variable where the variable is at most a bound. No public clause cites this file.
use Rattle.std.specs.Prelude.{ℤ, pos, List, [], ◌∷◌, Some, None, false}
use Rattle.transition_formula.specs.Program.{Column, Edge, Program, Thread}

-- x, which starts at 0, and the counter t1.$pc
abbrev pub adding_columns : List Column
adding_columns =
    record { text = 120 ∷ []; owner = None; start = Some (pos 0) }
    ∷ record { text = 116 ∷ 49 ∷ 46 ∷ 36 ∷ 112 ∷ 99 ∷ []; owner = Some 1; start = Some (pos 1) } ∷ []

-- where x is at most the bound, x + 1 is set
abbrev pub adding_edge : ℤ → Edge
adding_edge bound = record {
  from = 1;
  to = 2;
  inputs = 0;
  tests = record { equal = false; coefficients = pos 1 ∷ pos 0 ∷ []; bound = bound } ∷ [];
  sets = (0, record { coefficients = pos 1 ∷ pos 0 ∷ []; constant = pos 1 }) ∷ [];
}

abbrev pub adding_thread : ℤ → Thread
adding_thread bound = record { counter = 1; locations = 3; edges = adding_edge bound ∷ [] }

abbrev pub adding_program : ℤ → Program
adding_program bound = record { columns = adding_columns; threads = adding_thread bound ∷ [] }
