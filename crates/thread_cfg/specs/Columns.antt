-- The columns of a text, as those of its program.
use Rattle.std.specs.Prelude.{◌-◌, List, length, option_map, take}
use Rattle.c_tree.specs.Plain as plain
use Rattle.c_check.specs.declared.plan.Column as stored_column
use Rattle.c_check.specs.Columns.{columns_of}
use Rattle.transition_formula.specs.Program.{Column}
use Rattle.thread_cfg.specs.Threads.{threads_running}

-- a column of the text as one of the program
abbrev pub program_column : stored_column.Column → Column
program_column c = record { text = c.text; owner = option_map (λ i. i.0) c.owner; start = c.start }

-- the columns that have values in the source, which are all but the counters
abbrev pub value_columns : plain.Tree → List stored_column.Column
value_columns tree = take (length (columns_of tree) - length (threads_running tree)) (columns_of tree)
