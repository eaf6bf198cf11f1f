-- Words for small bodies and for their tables of edges. All threads share x and y, and a lock m behind them where there is one; a
-- thread has a local l of its own.
use Rattle.std.specs.Prelude.{ℕ, zero, suc, ℤ, pos, neg_ℤ, true, false, List, [], ◌∷◌}
use Rattle.lin_rows.specs.Row.{Row}
use Rattle.c_check.specs.declared.meaning.Variable.TheVariants as variable
use Rattle.c_check.specs.declared.operation.Mark.{Mark}
use Rattle.c_check.specs.declared.operation.Mark.TheVariants as mark
use Rattle.c_check.specs.Plan.{Arithmetic, Test, Condition, Stmt, Stmts}
use Rattle.transition_formula.specs.Program.{Form, Edge}
use Rattle.thread_cfg.specs.Source.{Frame}
use Rattle.thread_cfg.specs.Action.{thread_actions}
use Rattle.thread_cfg.specs.Graph.{edges_from}

-- ---- bodies; what no answer names stands at place 0

abbrev pub body : List Stmt → Stmts
body [] = Stmts.End
body (s ∷ ss) = Stmts.Then s (body ss)

-- the same statement, so many times
abbrev pub repeated : ℕ → Stmt → Stmts → Stmts
repeated zero s rest = rest
repeated (suc n) s rest = Stmts.Then s (repeated n s rest)

abbrev pub x : Arithmetic
x = Arithmetic.Value (variable.Shared 0)

abbrev pub y : Arithmetic
y = Arithmetic.Value (variable.Shared 1)

abbrev pub l : Arithmetic
l = Arithmetic.Value (variable.Own 0)

abbrev pub number : ℕ → Arithmetic
number n = Arithmetic.Number (pos n)

abbrev pub plus : Arithmetic → ℕ → Arithmetic
plus a n = Arithmetic.Sum a (number n)

abbrev pub compare : Mark → Arithmetic → Arithmetic → Test
compare m a b = Test.Compare 0 m a b

-- a number that is used as a condition
abbrev pub not_zero : Arithmetic → Test
not_zero a = Test.Compare 0 mark.Unequal a (number 0)

abbrev pub when : Test → Condition
when t = Condition.Tested 0 t

abbrev pub any : Condition
any = Condition.Choice 0

abbrev pub if_else : Condition → List Stmt → List Stmt → Stmt
if_else c ts es = Stmt.If 0 c (body ts) (body es)

abbrev pub while : Condition → List Stmt → Stmt
while c ss = Stmt.Loop 0 c (body ss) Stmts.End

-- a `for` behind its first part
abbrev pub for_rest : Condition → List Stmt → List Stmt → Stmt
for_rest c ss last = Stmt.Loop 0 c (body ss) (body last)

abbrev pub set_x : Arithmetic → Stmt
set_x e = Stmt.Assign 0 0 (variable.Shared 0) e

abbrev pub set_y : Arithmetic → Stmt
set_y e = Stmt.Assign 0 0 (variable.Shared 1) e

abbrev pub set_l : Arithmetic → Stmt
set_l e = Stmt.Assign 0 0 (variable.Own 0) e

abbrev pub assert : Test → Stmt
assert t = Stmt.Assert 0 t

abbrev pub assume : Test → Stmt
assume t = Stmt.Assume 0 t

abbrev pub atomic : List Stmt → Stmt
atomic ss = Stmt.Atomic 0 (body ss)

-- ---- rows, forms and edges

abbrev pub minus : ℕ → ℤ
minus n = neg_ℤ (pos n)

abbrev pub at_most : List ℤ → ℤ → Row
at_most coefficients bound = record { equal = false; coefficients = coefficients; bound = bound }

abbrev pub equals : List ℤ → ℤ → Row
equals coefficients bound = record { equal = true; coefficients = coefficients; bound = bound }

abbrev pub form : List ℤ → ℤ → Form
form coefficients constant = record { coefficients = coefficients; constant = constant }

abbrev pub edge : ℕ → ℕ → List Row → List (ℕ × Form) → Edge
edge from to tests sets = record { from = from; to = to; inputs = 0; tests = tests; sets = sets }

abbrev pub edge_with : ℕ → ℕ → ℕ → List Row → List (ℕ × Form) → Edge
edge_with inputs from to tests sets = record { from = from; to = to; inputs = inputs; tests = tests; sets = sets }

-- ---- tables: over the columns of a program of one thread, its counter the last of them

-- over x, l and the counter
abbrev pub frame : Frame
frame = record { thread = 1; first = 1; variables = 1 }

abbrev pub table : List Stmt → List Edge
table ss = edges_from 3 frame 1 (thread_actions frame 1 (body ss))

-- over x, l, a temporary, and the counter
abbrev pub table_one : List Stmt → List Edge
table_one ss = edges_from 4 frame 1 (thread_actions frame 1 (body ss))

-- over x, y, l, two temporaries, and the counter
abbrev pub frame_two : Frame
frame_two = record { thread = 1; first = 2; variables = 2 }

abbrev pub table_two : List Stmt → List Edge
table_two ss = edges_from 6 frame_two 1 (thread_actions frame_two 1 (body ss))
