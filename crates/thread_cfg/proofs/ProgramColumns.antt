-- The columns of a text's program have the texts of their owners, and start as a program's do.
use Rattle.std.proofs.Common.{◌≡◌, ℕ, zero, suc, ◌+◌, ℤ, List, [], ◌∷◌, ◌++◌, map, length, slice_get, Option, Some, None, refl, ap}
use Rattle.std.specs.List.{AllByRecursion}
use Rattle.lin_rows.proofs.Lists.{AllByRecursion-append, AllByRecursion-map}
use Rattle.thr_base.specs.declared.names.ThreadNo.{ThreadNo}
use Rattle.thr_base.specs.ColumnText.{IsColumnText}
use Rattle.c_tree.specs.declared.expr.Name.{Name}
use Rattle.c_tree.specs.Plain as plain
use Rattle.c_check.specs.declared.columns.OwnVariables.{OwnVariables}
use Rattle.c_check.specs.declared.plan.Column as stored
use Rattle.c_check.specs.Program.{created_of, globals_in, locks_in}
use Rattle.c_check.specs.Columns.{columns_if, counters_from, local_columns, lock_column, own_columns_from, owns_of, shared_columns, temporary_columns, variable_column}
use Rattle.c_check.specs.WellFormed as well
use Rattle.transition_formula.specs.Program.{IsColumn, StartFits, StartsWhereShared}
use Rattle.thread_cfg.specs.Graph.{program_column}

-- as many counters as threads
pub length-counters : (i : ℕ) (ns : List ℕ) → length (counters_from i ns) ≡ length ns
length-counters i [] = refl
length-counters i (n ∷ ns) = ap suc (length-counters (i + 1) ns)

-- ---- starts
-- a start that fits in a plan fits in a program
start-fits : (start : Option ℤ) → well.StartFits start → StartFits start
start-fits None h = tt
start-fits (Some v) h = h

-- what a program asks of each column
pub columns-are : (threads : ℕ) (columns : List stored.Column) → AllByRecursion (λ c. IsColumnText threads (well.owner_number c) c.text) columns → AllByRecursion (λ c. well.StartFits c.start) columns
    → AllByRecursion (IsColumn threads) (map program_column columns)
columns-are threads [] texts starts = tt
columns-are threads (c ∷ columns) texts starts = (record { text_is = texts.0; start_fits = start-fits c.start starts.0 }, columns-are threads columns texts.1 starts.1)

-- The column has a value initially exactly where it is shared.
abbrev StartIs : stored.Column → Type 0
StartIs c = StartsWhereShared (program_column c)

-- variables have a start
variables-start : (gs : List plain.Global) → AllByRecursion StartIs (map variable_column gs)
variables-start [] = tt
variables-start (g ∷ gs) = ((λ e. refl, λ e. refl), variables-start gs)

-- locks have a start
locks-start : (xs : List Name) → AllByRecursion StartIs (map lock_column xs)
locks-start [] = tt
locks-start (x ∷ xs) = ((λ e. refl, λ e. refl), locks-start xs)

-- locals have none
locals-start : (i : ThreadNo) (earlier names : List (List ℕ)) → AllByRecursion StartIs (local_columns i earlier names)
locals-start i earlier [] = tt
locals-start i earlier (name ∷ names) = ((λ e. absurd cc, λ e. absurd cc), locals-start i (earlier ++ name ∷ []) names)

-- temporaries have none
temporaries-start : (i : ThreadNo) (earlier n : ℕ) → AllByRecursion StartIs (temporary_columns i earlier n)
temporaries-start i earlier zero = tt
temporaries-start i earlier (suc n) = ((λ e. absurd cc, λ e. absurd cc), temporaries-start i (earlier + 1) n)

-- nothing of one thread's own has a start
columns_if-start : (i : ThreadNo) (own : Option OwnVariables) → AllByRecursion StartIs (columns_if i own)
columns_if-start i None = tt
columns_if-start i (Some own) =
    AllByRecursion-append StartIs (local_columns i [] own.locals) (temporary_columns i 0 own.temporaries) (locals-start i [] own.locals) (temporaries-start i 0 own.temporaries)

-- nothing of the threads' own has one
own-start : (owns : List OwnVariables) (i : ℕ) (ns : List ℕ) → AllByRecursion StartIs (own_columns_from owns i ns)
own-start owns i [] = tt
own-start owns i (n ∷ ns) =
    let number : ThreadNo = record { 0 = i } in
    AllByRecursion-append StartIs (columns_if number (slice_get owns n)) (own_columns_from owns (i + 1) ns) (columns_if-start number (slice_get owns n)) (own-start owns (i + 1) ns)

-- the columns in front of the counters
abbrev pub front_of : plain.Tree → List stored.Column
front_of tree = shared_columns tree ++ own_columns_from (owns_of tree) 1 (created_of tree)

-- Variables and locks have a value initially, and what is a thread's own has none.
pub front-start : (tree : plain.Tree) → AllByRecursion StartsWhereShared (map program_column (front_of tree))
front-start tree =
    let own = own_columns_from (owns_of tree) 1 (created_of tree) in
    AllByRecursion-map StartIs StartsWhereShared program_column (λ c k. k) (front_of tree)
    (AllByRecursion-append StartIs (shared_columns tree) own
    (AllByRecursion-append StartIs (map variable_column (globals_in tree.items)) (map lock_column (locks_in tree.items)) (variables-start (globals_in tree.items)) (locks-start (locks_in tree.items)))
    (own-start (owns_of tree) 1 (created_of tree)))
