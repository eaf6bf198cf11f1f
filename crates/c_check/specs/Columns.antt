-- The columns of a text: its variables, its locks, the locals and temporaries of each thread, and a counter for each thread.
use Rattle.std.specs.Prelude.{ℕ, zero, suc, ◌+◌, ℤ, pos, List, [], ◌∷◌, ◌++◌, length, map, filter, slice_get, bytes_eq, Option, Some, None, codes}
use Rattle.thr_base.specs.Number.{number_text}
use Rattle.thr_base.specs.ColumnText.{own_text}
use Rattle.thr_base.specs.declared.names.ThreadNo.{ThreadNo}
use Rattle.c_tree.specs.declared.expr.Name.{Name}
use Rattle.c_tree.specs.Plain as plain
use Rattle.c_check.specs.declared.columns.OwnVariables.{OwnVariables}
use Rattle.c_check.specs.declared.plan.Column.{Column}
use Rattle.c_check.specs.declared.plan.ColumnKind.{ColumnKind}
use Rattle.c_check.specs.declared.plan.ColumnKind.TheVariants as kind
use Rattle.c_check.specs.declared.plan.Thread.{Thread}
use Rattle.c_check.specs.Temporaries.{need}
use Rattle.c_check.specs.Program.{Function, functions_of, globals_in, locks_in, created_of}

-- ---- what all threads share

abbrev pub start_of : Option ℤ → ℤ
start_of None = pos 0
start_of (Some value) = value

abbrev pub variable_column : plain.Global → Column
variable_column g = record { kind = kind.Variable; text = g.name.text; owner = None; start = Some (start_of g.start) }

abbrev pub lock_column : Name → Column
lock_column x = record { kind = kind.Lock; text = x.text; owner = None; start = Some (pos 0) }

-- ---- what a thread has of its own

-- the name of a local in its column: from its second declaration in the function on with the number of the declaration
abbrev pub local_name : ℕ → List ℕ → List ℕ
local_name zero name = name
local_name (suc earlier) name = name ++ (codes "#" ++ number_text (pos (earlier + 2)))

abbrev pub own_column : ThreadNo → ColumnKind → List ℕ → Option ℤ → Column
own_column i k name start = record { kind = k; text = own_text i.0 name; owner = Some i; start = start }

-- the columns of locals of these names, behind others
abbrev pub local_columns : ThreadNo → List (List ℕ) → List (List ℕ) → List Column
local_columns i earlier [] = []
local_columns i earlier (name ∷ names) =
    own_column i kind.Local (local_name (length (filter (bytes_eq name) earlier)) name) None ∷ local_columns i (earlier ++ name ∷ []) names

-- the columns of so many temporaries, behind those of others
abbrev pub temporary_columns : ThreadNo → ℕ → ℕ → List Column
temporary_columns i earlier zero = []
temporary_columns i earlier (suc more) =
    own_column i kind.Temporary (codes "$" ++ number_text (pos (earlier + 1))) None ∷ temporary_columns i (earlier + 1) more

-- what a thread that runs a function has of its own, beside its counter
abbrev pub own_variables : Function → OwnVariables
own_variables f = record { locals = map (λ l. l.name.text) f.locals; temporaries = need f.body }

abbrev pub thread_columns : ThreadNo → OwnVariables → List Column
thread_columns i own = local_columns i [] own.locals ++ temporary_columns i 0 own.temporaries

abbrev pub counter_column : ThreadNo → Column
counter_column i = own_column i kind.Counter (codes "$pc") (Some (pos 1))

-- ---- threads, by the numbers of their functions; a number that no function has is never asked for

abbrev pub count_if : Option OwnVariables → ℕ
count_if None = 0
count_if (Some own) = length own.locals + own.temporaries

abbrev pub own_count : List OwnVariables → ℕ → ℕ
own_count owns n = count_if (slice_get owns n)

abbrev pub threads_from : List OwnVariables → ℕ → List ℕ → List Thread
threads_from owns first [] = []
threads_from owns first (n ∷ ns) = record { function = n; first = first } ∷ threads_from owns (first + own_count owns n) ns

abbrev pub columns_if : ThreadNo → Option OwnVariables → List Column
columns_if i None = []
columns_if i (Some own) = thread_columns i own

abbrev pub own_columns_from : List OwnVariables → ℕ → List ℕ → List Column
own_columns_from owns i [] = []
own_columns_from owns i (n ∷ ns) = columns_if (record { 0 = i }) (slice_get owns n) ++ own_columns_from owns (i + 1) ns

abbrev pub counters_from : ℕ → List ℕ → List Column
counters_from i [] = []
counters_from i (n ∷ ns) = counter_column (record { 0 = i }) ∷ counters_from (i + 1) ns

-- ---- of a text

abbrev pub shared_columns : plain.Tree → List Column
shared_columns tree = map variable_column (globals_in tree.items) ++ map lock_column (locks_in tree.items)

abbrev pub owns_of : plain.Tree → List OwnVariables
owns_of tree = map own_variables (functions_of tree)

abbrev pub columns_of : plain.Tree → List Column
columns_of tree =
    shared_columns tree ++ (own_columns_from (owns_of tree) 1 (created_of tree) ++ counters_from 1 (created_of tree))

abbrev pub threads_of : plain.Tree → List Thread
threads_of tree = threads_from (owns_of tree) (length (shared_columns tree)) (created_of tree)
