-- What was made so far, and then what is made of the rest, is what is made of all.
use Rattle.std.proofs.Common.{◌≡◌, ◌++◌, map, drop}
use Rattle.transition_formula.specs.Stored.{column_of}
use Rattle.thread_cfg.specs.Graph.{program_column}
use Rattle.thread_cfg.proofs.columns.program_columns.Given as goal

abbrev pub invariant-loop-column : goal.invariant-loop-column
invariant-loop-column l = map column_of l.made.items ++ map program_column (drop l.column-index l.columns) ≡ map program_column l.columns
