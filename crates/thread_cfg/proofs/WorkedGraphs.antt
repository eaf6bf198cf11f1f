-- Worked tables of edges of statements: reads and assignments, loops and jumps, locks. Columns are x, l and the counter where nothing
-- else is said.
use Rattle.std.specs.Prelude.{◌≡◌, ℕ, pos, [], ◌∷◌}
use Rattle.std.proofs.Common.{refl}
use Rattle.lin_rows.specs.Row.{Row}
use Rattle.c_check.specs.declared.meaning.Variable.TheVariants as variable
use Rattle.c_check.specs.declared.operation.Mark.TheVariants as mark
use Rattle.c_check.specs.Plan.{Arithmetic, Condition, Stmt}
use Rattle.transition_formula.specs.Program.{Form}
use Rattle.thread_cfg.specs.Source.{Frame}
use Rattle.thread_cfg.specs.Action.{thread_actions}
use Rattle.thread_cfg.specs.Graph.{edges_from}
use Rattle.thread_cfg.proofs.WorkedWords.{any, at_most, body, compare, edge, edge_with, equals, for_rest, form, if_else, l, minus, not_zero, number, plus, set_l, set_x, set_y, table, table_one, table_two, when, while, x, y}

-- ---- forms over x, l and the counter

abbrev constant : ℕ → Form
constant n = form (pos 0 ∷ pos 0 ∷ pos 0 ∷ []) (pos n)

abbrev form_x : Form
form_x = form (pos 1 ∷ pos 0 ∷ pos 0 ∷ []) (pos 0)

abbrev form_l : Form
form_l = form (pos 0 ∷ pos 1 ∷ pos 0 ∷ []) (pos 0)

abbrev next_l : Form
next_l = form (pos 0 ∷ pos 1 ∷ pos 0 ∷ []) (pos 1)

-- ---- assignments

-- x = x + 1; is a read and an assignment: columns are x, l, the temporary and the counter
increment_shared : table_one (set_x (plus x 1) ∷ []) ≡
    edge 1 2 [] ((2, form (pos 1 ∷ pos 0 ∷ pos 0 ∷ pos 0 ∷ []) (pos 0)) ∷ [])
    ∷ edge 2 3 [] ((0, form (pos 0 ∷ pos 0 ∷ pos 1 ∷ pos 0 ∷ []) (pos 1)) ∷ []) ∷ []
increment_shared = refl

-- l = l + 1;
increment_local : table (set_l (plus l 1) ∷ []) ≡ edge 1 2 [] ((1, next_l) ∷ []) ∷ []
increment_local = refl

-- l = x;
read_once : table (set_l x ∷ []) ≡ edge 1 2 [] ((1, form_x) ∷ []) ∷ []
read_once = refl

-- x = l;
write_once : table (set_x l ∷ []) ≡ edge 1 2 [] ((0, form_l) ∷ []) ∷ []
write_once = refl

-- x = 7 * -(l - 3) - 2;
product : table (set_x (Arithmetic.Difference (Arithmetic.Product (number 7) (Arithmetic.Negated (Arithmetic.Difference l (number 3)))) (number 2)) ∷ []) ≡
    edge 1 2 [] ((0, form (pos 0 ∷ minus 7 ∷ pos 0 ∷ []) (pos 19)) ∷ []) ∷ []
product = refl

-- l = x + x; reads x twice: columns are x, y, l, two temporaries and the counter
read_twice : table_two (set_l (Arithmetic.Sum x x) ∷ []) ≡
    edge 1 2 [] ((3, form (pos 1 ∷ pos 0 ∷ pos 0 ∷ pos 0 ∷ pos 0 ∷ pos 0 ∷ []) (pos 0)) ∷ [])
    ∷ edge 2 3 [] ((4, form (pos 1 ∷ pos 0 ∷ pos 0 ∷ pos 0 ∷ pos 0 ∷ pos 0 ∷ []) (pos 0)) ∷ [])
    ∷ edge 3 4 [] ((2, form (pos 0 ∷ pos 0 ∷ pos 0 ∷ pos 1 ∷ pos 1 ∷ pos 0 ∷ []) (pos 0)) ∷ []) ∷ []
read_twice = refl

-- y = x - l + 2 * y; x = x; the second statement has its reads in the first temporary again
temporaries_again : table_two (set_y (Arithmetic.Sum (Arithmetic.Difference x l) (Arithmetic.Product (number 2) y)) ∷ set_x x ∷ []) ≡
    edge 1 2 [] ((3, form (pos 1 ∷ pos 0 ∷ pos 0 ∷ pos 0 ∷ pos 0 ∷ pos 0 ∷ []) (pos 0)) ∷ [])
    ∷ edge 2 3 [] ((4, form (pos 0 ∷ pos 1 ∷ pos 0 ∷ pos 0 ∷ pos 0 ∷ pos 0 ∷ []) (pos 0)) ∷ [])
    ∷ edge 3 4 [] ((1, form (pos 0 ∷ pos 0 ∷ minus 1 ∷ pos 1 ∷ pos 2 ∷ pos 0 ∷ []) (pos 0)) ∷ [])
    ∷ edge 4 5 [] ((3, form (pos 1 ∷ pos 0 ∷ pos 0 ∷ pos 0 ∷ pos 0 ∷ pos 0 ∷ []) (pos 0)) ∷ [])
    ∷ edge 5 6 [] ((0, form (pos 0 ∷ pos 0 ∷ pos 0 ∷ pos 1 ∷ pos 0 ∷ pos 0 ∷ []) (pos 0)) ∷ []) ∷ []
temporaries_again = refl

-- x = __VERIFIER_nondet_int(); has an input, which stands behind the columns
any_value : table (Stmt.AssignAny 0 (variable.Shared 0) ∷ []) ≡ edge_with 1 1 2 [] ((0, form (pos 0 ∷ pos 0 ∷ pos 0 ∷ pos 1 ∷ []) (pos 0)) ∷ []) ∷ []
any_value = refl

-- ---- comparisons with reads

-- if (x < y) l = 9; reads both: columns are x, y, l, two temporaries and the counter
compare_two : table_two (if_else (when (compare mark.Less x y)) (set_l (number 9) ∷ []) [] ∷ []) ≡
    edge 1 2 [] ((3, form (pos 1 ∷ pos 0 ∷ pos 0 ∷ pos 0 ∷ pos 0 ∷ pos 0 ∷ []) (pos 0)) ∷ [])
    ∷ edge 2 3 [] ((4, form (pos 0 ∷ pos 1 ∷ pos 0 ∷ pos 0 ∷ pos 0 ∷ pos 0 ∷ []) (pos 0)) ∷ [])
    ∷ edge 3 4 (at_most (pos 0 ∷ pos 0 ∷ pos 0 ∷ pos 1 ∷ minus 1 ∷ pos 0 ∷ []) (minus 1) ∷ []) []
    ∷ edge 3 5 (at_most (pos 0 ∷ pos 0 ∷ pos 0 ∷ minus 1 ∷ pos 1 ∷ pos 0 ∷ []) (pos 0) ∷ []) []
    ∷ edge 4 5 [] ((2, form (pos 0 ∷ pos 0 ∷ pos 0 ∷ pos 0 ∷ pos 0 ∷ pos 0 ∷ []) (pos 9)) ∷ []) ∷ []
compare_two = refl

-- while (x <= y) l = 9; reads both again each time
while_two : table_two (while (when (compare mark.AtMost x y)) (set_l (number 9) ∷ []) ∷ []) ≡
    edge 1 2 [] ((3, form (pos 1 ∷ pos 0 ∷ pos 0 ∷ pos 0 ∷ pos 0 ∷ pos 0 ∷ []) (pos 0)) ∷ [])
    ∷ edge 2 3 [] ((4, form (pos 0 ∷ pos 1 ∷ pos 0 ∷ pos 0 ∷ pos 0 ∷ pos 0 ∷ []) (pos 0)) ∷ [])
    ∷ edge 3 4 (at_most (pos 0 ∷ pos 0 ∷ pos 0 ∷ pos 1 ∷ minus 1 ∷ pos 0 ∷ []) (pos 0) ∷ []) []
    ∷ edge 3 5 (at_most (pos 0 ∷ pos 0 ∷ pos 0 ∷ minus 1 ∷ pos 1 ∷ pos 0 ∷ []) (minus 1) ∷ []) []
    ∷ edge 4 1 [] ((2, form (pos 0 ∷ pos 0 ∷ pos 0 ∷ pos 0 ∷ pos 0 ∷ pos 0 ∷ []) (pos 9)) ∷ []) ∷ []
while_two = refl

-- ---- choices, loops and jumps

-- if (__VERIFIER_nondet_int()) l = 1; else l = 2;
choice : table (if_else any (set_l (number 1) ∷ []) (set_l (number 2) ∷ []) ∷ []) ≡
    edge 1 2 [] [] ∷ edge 1 3 [] []
    ∷ edge 2 4 [] ((1, constant 1) ∷ [])
    ∷ edge 3 4 [] ((1, constant 2) ∷ []) ∷ []
choice = refl

-- while (any) { while (any) break; l = 1; } l = 2;
break_inner : table (while any (while any (Stmt.Break 0 ∷ []) ∷ set_l (number 1) ∷ []) ∷ set_l (number 2) ∷ []) ≡
    edge 1 2 [] [] ∷ edge 1 5 [] []
    ∷ edge 2 3 [] [] ∷ edge 2 4 [] []
    ∷ edge 3 4 [] []
    ∷ edge 4 1 [] ((1, constant 1) ∷ [])
    ∷ edge 5 6 [] ((1, constant 2) ∷ []) ∷ []
break_inner = refl

-- while (any) { while (any) { if (any) break; } } l = 2; behind the inner loop stands the outer one
break_last : table (while any (while any (if_else any (Stmt.Break 0 ∷ []) [] ∷ []) ∷ []) ∷ set_l (number 2) ∷ []) ≡
    edge 1 2 [] [] ∷ edge 1 5 [] []
    ∷ edge 2 3 [] [] ∷ edge 2 1 [] []
    ∷ edge 3 4 [] [] ∷ edge 3 2 [] []
    ∷ edge 4 1 [] []
    ∷ edge 5 6 [] ((1, constant 2) ∷ []) ∷ []
break_last = refl

-- while (any) { if (any) return; l = 1; } l = 2; what stands behind is passed
return_in_loop : table (while any (if_else any (Stmt.Exit 0 ∷ []) [] ∷ set_l (number 1) ∷ []) ∷ set_l (number 2) ∷ []) ≡
    edge 1 2 [] [] ∷ edge 1 5 [] []
    ∷ edge 2 3 [] [] ∷ edge 2 4 [] []
    ∷ edge 3 6 [] []
    ∷ edge 4 1 [] ((1, constant 1) ∷ [])
    ∷ edge 5 6 [] ((1, constant 2) ∷ []) ∷ []
return_in_loop = refl

-- while (any) break; behind a jump nothing goes on, but what stands there has its location: return; l = 1;
behind_return : table (while any (Stmt.Break 0 ∷ set_l (number 1) ∷ []) ∷ Stmt.Exit 0 ∷ set_l (number 2) ∷ []) ≡
    edge 1 2 [] [] ∷ edge 1 4 [] []
    ∷ edge 2 4 [] []
    ∷ edge 3 1 [] ((1, constant 1) ∷ [])
    ∷ edge 4 6 [] []
    ∷ edge 5 6 [] ((1, constant 2) ∷ []) ∷ []
behind_return = refl

-- ---- for: l is counted up to 3

-- l <= 3
abbrev up_to : Row
up_to = at_most (pos 0 ∷ pos 1 ∷ pos 0 ∷ []) (pos 3)

-- 3 + 1 <= l
abbrev past : Row
past = at_most (pos 0 ∷ minus 1 ∷ pos 0 ∷ []) (minus 4)

abbrev counts : Condition
counts = when (compare mark.AtMost l (number 3))

-- what stands for a condition that is missing
abbrev always : Condition
always = when (not_zero (number 1))

-- for (l = 0; l <= 3; l++) x = 9; the last part stands behind the body
for_whole : table (set_l (number 0) ∷ for_rest counts (set_x (number 9) ∷ []) (set_l (plus l 1) ∷ []) ∷ []) ≡
    edge 1 2 [] ((1, constant 0) ∷ [])
    ∷ edge 2 3 (up_to ∷ []) [] ∷ edge 2 5 (past ∷ []) []
    ∷ edge 3 4 [] ((0, constant 9) ∷ [])
    ∷ edge 4 2 [] ((1, next_l) ∷ []) ∷ []
for_whole = refl

-- for (; l <= 3; l++) x = 9;
for_no_first : table (for_rest counts (set_x (number 9) ∷ []) (set_l (plus l 1) ∷ []) ∷ []) ≡
    edge 1 2 (up_to ∷ []) [] ∷ edge 1 4 (past ∷ []) []
    ∷ edge 2 3 [] ((0, constant 9) ∷ [])
    ∷ edge 3 1 [] ((1, next_l) ∷ []) ∷ []
for_no_first = refl

-- for (l = 0; ; l++) x = 9; never ends: the false side is not made
for_no_condition : table (set_l (number 0) ∷ for_rest always (set_x (number 9) ∷ []) (set_l (plus l 1) ∷ []) ∷ []) ≡
    edge 1 2 [] ((1, constant 0) ∷ [])
    ∷ edge 2 3 [] []
    ∷ edge 3 4 [] ((0, constant 9) ∷ [])
    ∷ edge 4 2 [] ((1, next_l) ∷ []) ∷ []
for_no_condition = refl

-- for (l = 0; l <= 3; ) x = 9;
for_no_last : table (set_l (number 0) ∷ for_rest counts (set_x (number 9) ∷ []) [] ∷ []) ≡
    edge 1 2 [] ((1, constant 0) ∷ [])
    ∷ edge 2 3 (up_to ∷ []) [] ∷ edge 2 4 (past ∷ []) []
    ∷ edge 3 2 [] ((0, constant 9) ∷ []) ∷ []
for_no_last = refl

-- for (l = 0; l <= 3; l++) ;
for_no_body : table (set_l (number 0) ∷ for_rest counts [] (set_l (plus l 1) ∷ []) ∷ []) ≡
    edge 1 2 [] ((1, constant 0) ∷ [])
    ∷ edge 2 3 (up_to ∷ []) [] ∷ edge 2 4 (past ∷ []) []
    ∷ edge 3 2 [] ((1, next_l) ∷ []) ∷ []
for_no_body = refl

-- for (;;) ;
for_nothing : table (for_rest always [] [] ∷ []) ≡ edge 1 1 [] [] ∷ []
for_nothing = refl

-- for (; any; l++) { if (any) break; } break passes the last part, and the end of the body does not
for_break : table (for_rest any (if_else any (Stmt.Break 0 ∷ []) [] ∷ []) (set_l (plus l 1) ∷ []) ∷ set_x (number 9) ∷ []) ≡
    edge 1 2 [] [] ∷ edge 1 5 [] []
    ∷ edge 2 3 [] [] ∷ edge 2 4 [] []
    ∷ edge 3 5 [] []
    ∷ edge 4 1 [] ((1, next_l) ∷ [])
    ∷ edge 5 6 [] ((0, constant 9) ∷ []) ∷ []
for_break = refl

-- for (; any; l++) while (any) break; behind the inner loop stands the last part
for_while : table (for_rest any (while any (Stmt.Break 0 ∷ []) ∷ []) (set_l (plus l 1) ∷ []) ∷ []) ≡
    edge 1 2 [] [] ∷ edge 1 5 [] []
    ∷ edge 2 3 [] [] ∷ edge 2 4 [] []
    ∷ edge 3 4 [] []
    ∷ edge 4 1 [] ((1, next_l) ∷ []) ∷ []
for_while = refl

-- while (any) for (; any; x++) ; the read of the last part comes first: columns are x, l, the temporary and the counter
for_read : table_one (while any (for_rest any [] (set_x (plus x 1) ∷ []) ∷ []) ∷ []) ≡
    edge 1 2 [] [] ∷ edge 1 5 [] []
    ∷ edge 2 3 [] [] ∷ edge 2 1 [] []
    ∷ edge 3 4 [] ((2, form (pos 1 ∷ pos 0 ∷ pos 0 ∷ pos 0 ∷ []) (pos 0)) ∷ [])
    ∷ edge 4 2 [] ((0, form (pos 0 ∷ pos 0 ∷ pos 1 ∷ pos 0 ∷ []) (pos 1)) ∷ []) ∷ []
for_read = refl

-- ---- locks: thread 2 of two; columns are x, the lock, and the two counters

abbrev second : Frame
second = record { thread = 2; first = 2; variables = 1 }

abbrev lock_form : ℕ → Form
lock_form n = form (pos 0 ∷ pos 0 ∷ pos 0 ∷ pos 0 ∷ []) (pos n)

-- pthread_mutex_lock(&m); pthread_mutex_unlock(&m);
lock_unlock : edges_from 4 second 1 (thread_actions second 0 (body (Stmt.Lock 0 0 ∷ Stmt.Unlock 0 0 ∷ []))) ≡
    edge 1 2 (equals (pos 0 ∷ pos 1 ∷ pos 0 ∷ pos 0 ∷ []) (pos 0) ∷ []) ((1, lock_form 2) ∷ [])
    ∷ edge 2 3 (equals (pos 0 ∷ pos 1 ∷ pos 0 ∷ pos 0 ∷ []) (pos 2) ∷ []) ((1, lock_form 0) ∷ [])
    ∷ edge 2 0 (at_most (pos 0 ∷ pos 1 ∷ pos 0 ∷ pos 0 ∷ []) (pos 1) ∷ []) []
    ∷ edge 2 0 (at_most (pos 0 ∷ minus 1 ∷ pos 0 ∷ pos 0 ∷ []) (minus 3) ∷ []) [] ∷ []
lock_unlock = refl

-- nothing to do
nothing : table [] ≡ []
nothing = refl
