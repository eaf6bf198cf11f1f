-- What stands for programs in a program.
use Rattle.std.specs.Prelude.{ℕ, List, map, option_map}
use Rattle.transition_formula.specs.Program.{Form, Column, Edge, Thread, Program}
use Rattle.transition_formula.specs.declared.graph.Line.{Line}
use Rattle.transition_formula.specs.declared.graph.Column.{Column as StoredColumn}
use Rattle.transition_formula.specs.declared.graph.Edge.{Edge as StoredEdge}
use Rattle.transition_formula.specs.declared.graph.ThreadGraph.{ThreadGraph}

abbrev pub form_of : Line → Form
form_of line = record { coefficients = line.coefficients.items; constant = line.constant }

-- a column and the form that it is set to
abbrev pub set_of : ℕ × Line → ℕ × Form
set_of set = (set.0, form_of set.1)

abbrev pub column_of : StoredColumn → Column
column_of column = record { text = column.text.items; owner = option_map (λ thread. thread.0) column.owner; start = column.start }

abbrev pub edge_of : StoredEdge → Edge
edge_of edge = record {
  from = edge.from.0;
  to = edge.to.0;
  inputs = edge.inputs;
  tests = edge.tests.rows;
  sets = map set_of edge.sets.items;
}

abbrev pub thread_of : ThreadGraph → Thread
thread_of thread = record { counter = thread.counter; locations = thread.locations; edges = map edge_of thread.edges.items }

abbrev pub program_of : List StoredColumn → List ThreadGraph → Program
program_of columns threads = record { columns = map column_of columns; threads = map thread_of threads }
