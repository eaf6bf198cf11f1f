-- Worked tables of edges of atomic blocks: one edge a path, its rows and forms over the columns in front of the block. Columns are x,
-- l and the counter where nothing else is said.
use Rattle.std.specs.Prelude.{◌≡◌, ℕ, pos, [], ◌∷◌}
use Rattle.std.proofs.Common.{refl}
use Rattle.c_check.specs.declared.meaning.Variable.TheVariants as variable
use Rattle.c_check.specs.declared.operation.Mark.TheVariants as mark
use Rattle.c_check.specs.Plan.{Arithmetic, Stmt, Test}
use Rattle.transition_formula.specs.Program.{Form}
use Rattle.thread_cfg.specs.Source.{Frame}
use Rattle.thread_cfg.specs.Action.{thread_actions}
use Rattle.thread_cfg.specs.Graph.{edges_from}
use Rattle.thread_cfg.proofs.WorkedWords.{any, assert, assume, at_most, atomic, body, compare, edge, edge_with, equals, form, if_else, l, minus, not_zero, number, plus, set_l, set_x, table, when, x}

abbrev constant : ℕ → Form
constant n = form (pos 0 ∷ pos 0 ∷ pos 0 ∷ []) (pos n)

abbrev form_l : Form
form_l = form (pos 0 ∷ pos 1 ∷ pos 0 ∷ []) (pos 0)

abbrev next_l : Form
next_l = form (pos 0 ∷ pos 1 ∷ pos 0 ∷ []) (pos 1)

-- ---- paths

-- nothing in the block: one path, on which nothing happens
block-empty : table (atomic [] ∷ []) ≡ edge 1 2 [] [] ∷ []
block-empty = refl

-- { if (l < x) { assert(l == 0); x = l; } else l = l + 1; assume(x >= l); } behind which l = 9; stands. Behind the true sides the
-- assumption says l <= l, which is left out; at a false side of the assertion the path ends.
block-mixed :
    table (atomic (if_else (when (compare mark.Less l x)) (assert (compare mark.Equal l (number 0)) ∷ set_x l ∷ []) (set_l (plus l 1) ∷ [])
    ∷ assume (compare mark.AtLeast x l) ∷ []) ∷ set_l (number 9) ∷ []) ≡
    edge 1 2 (at_most (minus 1 ∷ pos 1 ∷ pos 0 ∷ []) (minus 1) ∷ equals (pos 0 ∷ pos 1 ∷ pos 0 ∷ []) (pos 0) ∷ []) ((0, form_l) ∷ [])
    ∷ edge 1 0 (at_most (minus 1 ∷ pos 1 ∷ pos 0 ∷ []) (minus 1) ∷ at_most (pos 0 ∷ pos 1 ∷ pos 0 ∷ []) (minus 1) ∷ []) []
    ∷ edge 1 0 (at_most (minus 1 ∷ pos 1 ∷ pos 0 ∷ []) (minus 1) ∷ at_most (pos 0 ∷ minus 1 ∷ pos 0 ∷ []) (minus 1) ∷ []) []
    ∷ edge 1 2 (at_most (pos 1 ∷ minus 1 ∷ pos 0 ∷ []) (pos 0) ∷ at_most (minus 1 ∷ pos 1 ∷ pos 0 ∷ []) (minus 1) ∷ []) ((1, next_l) ∷ [])
    ∷ edge 2 3 [] ((1, constant 9) ∷ []) ∷ []
block-mixed = refl

-- { if (any) l = 1; else l = 2; if (l != 2) x = l; } the first pick varies slowest; of the six paths those are made whose rows are true
block-order :
    table (atomic (if_else any (set_l (number 1) ∷ []) (set_l (number 2) ∷ []) ∷ if_else (when (compare mark.Unequal l (number 2))) (set_x l ∷ []) [] ∷ []) ∷ []) ≡
    edge 1 2 [] ((0, constant 1) ∷ (1, constant 1) ∷ [])
    ∷ edge 1 2 [] ((1, constant 2) ∷ []) ∷ []
block-order = refl

-- { if (x == l) ; if (any) ; } six paths, of which the last picks are apart
block-picks : table (atomic (if_else (when (compare mark.Equal x l)) [] [] ∷ if_else any [] [] ∷ []) ∷ []) ≡
    edge 1 2 (equals (pos 1 ∷ minus 1 ∷ pos 0 ∷ []) (pos 0) ∷ []) []
    ∷ edge 1 2 (equals (pos 1 ∷ minus 1 ∷ pos 0 ∷ []) (pos 0) ∷ []) []
    ∷ edge 1 2 (at_most (pos 1 ∷ minus 1 ∷ pos 0 ∷ []) (minus 1) ∷ []) []
    ∷ edge 1 2 (at_most (pos 1 ∷ minus 1 ∷ pos 0 ∷ []) (minus 1) ∷ []) []
    ∷ edge 1 2 (at_most (minus 1 ∷ pos 1 ∷ pos 0 ∷ []) (minus 1) ∷ []) []
    ∷ edge 1 2 (at_most (minus 1 ∷ pos 1 ∷ pos 0 ∷ []) (minus 1) ∷ []) [] ∷ []
block-picks = refl

-- { if (l <= 0 || x <= 1) l = 9; } where the first test is true, nothing is picked of the second one
block-or :
    table (atomic (if_else (when (Test.Or (compare mark.AtMost l (number 0)) (compare mark.AtMost x (number 1)))) (set_l (number 9) ∷ []) [] ∷ []) ∷ []) ≡
    edge 1 2 (at_most (pos 0 ∷ pos 1 ∷ pos 0 ∷ []) (pos 0) ∷ []) ((1, constant 9) ∷ [])
    ∷ edge 1 2 (at_most (pos 0 ∷ minus 1 ∷ pos 0 ∷ []) (minus 1) ∷ at_most (pos 1 ∷ pos 0 ∷ pos 0 ∷ []) (pos 1) ∷ []) ((1, constant 9) ∷ [])
    ∷ edge 1 2 (at_most (pos 0 ∷ minus 1 ∷ pos 0 ∷ []) (minus 1) ∷ at_most (minus 1 ∷ pos 0 ∷ pos 0 ∷ []) (minus 2) ∷ []) [] ∷ []
block-or = refl

-- { if (!(l <= 0)) l = 9; } the picks of `!` are those of its operand, the true one first
block-not : table (atomic (if_else (when (Test.Not (compare mark.AtMost l (number 0)))) (set_l (number 9) ∷ []) [] ∷ []) ∷ []) ≡
    edge 1 2 (at_most (pos 0 ∷ pos 1 ∷ pos 0 ∷ []) (pos 0) ∷ []) []
    ∷ edge 1 2 (at_most (pos 0 ∷ minus 1 ∷ pos 0 ∷ []) (minus 1) ∷ []) ((1, constant 9) ∷ []) ∷ []
block-not = refl

-- ---- assertions and assumptions

-- { l = 9; assert(x <= 3); assert(x >= 1); x = 9; } a path that fails keeps what it has set before
block-fails : table (atomic (set_l (number 9) ∷ assert (compare mark.AtMost x (number 3)) ∷ assert (compare mark.AtLeast x (number 1)) ∷ set_x (number 9) ∷ []) ∷ []) ≡
    edge 1 2 (at_most (pos 1 ∷ pos 0 ∷ pos 0 ∷ []) (pos 3) ∷ at_most (minus 1 ∷ pos 0 ∷ pos 0 ∷ []) (minus 1) ∷ []) ((0, constant 9) ∷ (1, constant 9) ∷ [])
    ∷ edge 1 0 (at_most (pos 1 ∷ pos 0 ∷ pos 0 ∷ []) (pos 3) ∷ at_most (pos 1 ∷ pos 0 ∷ pos 0 ∷ []) (pos 0) ∷ []) ((1, constant 9) ∷ [])
    ∷ edge 1 0 (at_most (minus 1 ∷ pos 0 ∷ pos 0 ∷ []) (minus 4) ∷ []) ((1, constant 9) ∷ []) ∷ []
block-fails = refl

-- { assume(x == 0); x = 1; } the test-and-set of a word: the row is about the value in front
block-test_and_set : table (atomic (assume (compare mark.Equal x (number 0)) ∷ set_x (number 1) ∷ []) ∷ []) ≡
    edge 1 2 (equals (pos 1 ∷ pos 0 ∷ pos 0 ∷ []) (pos 0) ∷ []) ((0, constant 1) ∷ []) ∷ []
block-test_and_set = refl

-- ---- blocks whose rows have no variable

-- { assert(1 == 1); if (2 < 1) l = 1; else l = 2; } of six paths one is made
block-constant :
    table (atomic (assert (compare mark.Equal (number 1) (number 1)) ∷ if_else (when (compare mark.Less (number 2) (number 1))) (set_l (number 1) ∷ []) (set_l (number 2) ∷ []) ∷ []) ∷ []) ≡
    edge 1 2 [] ((1, constant 2) ∷ []) ∷ []
block-constant = refl

-- { l = 3; if (l < 4) x = 1; else x = 2; assert(l == x); } all rows are between numbers once l is composed
block-composed :
    table (atomic (set_l (number 3) ∷ if_else (when (compare mark.Less l (number 4))) (set_x (number 1) ∷ []) (set_x (number 2) ∷ []) ∷ assert (compare mark.Equal l x) ∷ []) ∷ []) ≡
    edge 1 0 [] ((0, constant 1) ∷ (1, constant 3) ∷ []) ∷ []
block-composed = refl

-- { assume(0); l = 1; } no path is made
block-never : table (atomic (assume (not_zero (number 0)) ∷ set_l (number 1) ∷ []) ∷ set_l (number 9) ∷ []) ≡ edge 2 3 [] ((1, constant 9) ∷ []) ∷ []
block-never = refl

-- ---- composition

-- { x = x; } the set stands though it changes nothing
block-itself : table (atomic (set_x x ∷ []) ∷ []) ≡ edge 1 2 [] ((0, form (pos 1 ∷ pos 0 ∷ pos 0 ∷ []) (pos 0)) ∷ []) ∷ []
block-itself = refl

-- { x = x + l; l = x - l; x = x - l; } exchanges x and l
block-exchange : table (atomic (set_x (Arithmetic.Sum x l) ∷ set_l (Arithmetic.Difference x l) ∷ set_x (Arithmetic.Difference x l) ∷ []) ∷ []) ≡
    edge 1 2 [] ((0, form_l) ∷ (1, form (pos 1 ∷ pos 0 ∷ pos 0 ∷ []) (pos 0)) ∷ []) ∷ []
block-exchange = refl

-- over x, y, z and the counter, all of them shared but the last
abbrev three : Frame
three = record { thread = 1; first = 3; variables = 3 }

abbrev shared : ℕ → Arithmetic
shared n = Arithmetic.Value (variable.Shared n)

-- { x = x + 1; y = x; z = any; }
block-inputs : edges_from 4 three 1 (thread_actions three 0 (body (atomic (
    Stmt.Assign 0 0 (variable.Shared 0) (plus (shared 0) 1) ∷ Stmt.Assign 0 0 (variable.Shared 1) (shared 0) ∷ Stmt.AssignAny 0 (variable.Shared 2) ∷ []) ∷ []))) ≡
    edge_with 1 1 2 [] (
    (0, form (pos 1 ∷ pos 0 ∷ pos 0 ∷ pos 0 ∷ pos 0 ∷ []) (pos 1))
    ∷ (1, form (pos 1 ∷ pos 0 ∷ pos 0 ∷ pos 0 ∷ pos 0 ∷ []) (pos 1))
    ∷ (2, form (pos 0 ∷ pos 0 ∷ pos 0 ∷ pos 0 ∷ pos 1 ∷ []) (pos 0)) ∷ []) ∷ []
block-inputs = refl

-- { z = any; y = z; z = any; x = z - 2 * y; } the inputs in the order in which they are taken, the sets in that of the columns
block-sets : edges_from 4 three 1 (thread_actions three 0 (body (atomic (
    Stmt.AssignAny 0 (variable.Shared 2) ∷ Stmt.Assign 0 0 (variable.Shared 1) (shared 2) ∷ Stmt.AssignAny 0 (variable.Shared 2)
    ∷ Stmt.Assign 0 0 (variable.Shared 0) (Arithmetic.Difference (shared 2) (Arithmetic.Product (number 2) (shared 1))) ∷ []) ∷ []))) ≡
    edge_with 2 1 2 [] (
    (0, form (pos 0 ∷ pos 0 ∷ pos 0 ∷ pos 0 ∷ minus 2 ∷ pos 1 ∷ []) (pos 0))
    ∷ (1, form (pos 0 ∷ pos 0 ∷ pos 0 ∷ pos 0 ∷ pos 1 ∷ pos 0 ∷ []) (pos 0))
    ∷ (2, form (pos 0 ∷ pos 0 ∷ pos 0 ∷ pos 0 ∷ pos 0 ∷ pos 1 ∷ []) (pos 0)) ∷ []) ∷ []
block-sets = refl

-- { if (any) l = any; assume(l <= x); } a path has the inputs that it takes, and its rows are over these
block-any : table (atomic (if_else any (Stmt.AssignAny 0 (variable.Own 0) ∷ []) [] ∷ assume (compare mark.AtMost l x) ∷ []) ∷ []) ≡
    edge_with 1 1 2 (at_most (minus 1 ∷ pos 0 ∷ pos 0 ∷ pos 1 ∷ []) (pos 0) ∷ []) ((1, form (pos 0 ∷ pos 0 ∷ pos 0 ∷ pos 1 ∷ []) (pos 0)) ∷ [])
    ∷ edge 1 2 (at_most (minus 1 ∷ pos 1 ∷ pos 0 ∷ []) (pos 0) ∷ []) [] ∷ []
block-any = refl
