-- Worked programs of whole texts, made by hand: a counter under a lock in two threads of one function, and which functions are looked
-- at.
use Rattle.std.specs.Prelude.{◌≡◌, ℕ, ℤ, pos, neg_ℤ, ◌+ℤ◌, List, [], ◌∷◌, ◌++◌, map, codes, Option, Some, None}
use Rattle.std.proofs.Common.{refl}
use Rattle.c_tree.specs.declared.expr.Name.{Name}
use Rattle.c_tree.specs.Plain as plain
use Rattle.transition_formula.specs.Program.{Column, Edge, Form, Program}
use Rattle.thr_base.specs.ColumnText.{own_text}
use Rattle.thr_base.specs.Number.{number_text}
use Rattle.thr_base.specs.Refusals.{coefficient}
use Rattle.thread_cfg.specs.Threads.{threads_running}
use Rattle.thread_cfg.specs.Graph.{program_of, refusals_of}
use Rattle.thread_cfg.specs.Places.{location_places}
use Rattle.thread_cfg.proofs.WorkedWords.{at_most, edge, equals, form, minus}

-- ---- texts

abbrev name_at : ℕ → List ℕ → Name
name_at from text = record { from = from; text = text }

abbrev named : ℕ → List ℕ → plain.Expr
named from text = plain.Expr.Named (name_at from text)

abbrev one_at : ℕ → plain.Expr
one_at from = plain.Expr.Number from (pos 1)

abbrev binary : plain.Operator → plain.Expr → plain.Expr → plain.Expr
binary operator left right = plain.Expr.Binary operator 0 left right

abbrev set : ℕ → List ℕ → plain.Expr → plain.Stmt
set from text e = plain.Stmt.Assigns (plain.Assign.Set (name_at from text) (plain.Value.Computed e))

abbrev create : ℕ → List ℕ → plain.Stmt
create from function = plain.Stmt.Calls (plain.Call.Create 0 (name_at 0 (codes "t")) (name_at from function))

abbrev main_of : List plain.Stmt → plain.Item
main_of creations = plain.Item.Main 0 (plain.stmt_list (plain.Stmt.Handles 0 (name_at 0 (codes "t") ∷ []) ∷ creations))

abbrev shared_one : List ℕ → plain.Item
shared_one text = plain.Item.Globals (record { name = name_at 0 text; start = None } ∷ [])

-- ---- the counter: lock(m); c = c + 1; assert(c >= 1); c = c - 1; unlock(m); return;

abbrev counter_body : List plain.Stmt
counter_body =
    plain.Stmt.Calls (plain.Call.Lock 10 (name_at 15 (codes "m")))
    ∷ set 20 (codes "c") (binary plain.Operator.Plus (named 24 (codes "c")) (one_at 28))
    ∷ plain.Stmt.Calls (plain.Call.Assert 30 (binary plain.Operator.AtLeast (named 37 (codes "c")) (one_at 42)))
    ∷ set 50 (codes "c") (binary plain.Operator.Minus (named 54 (codes "c")) (one_at 58))
    ∷ plain.Stmt.Calls (plain.Call.Unlock 60 (name_at 67 (codes "m")))
    ∷ plain.Stmt.Return 70 ∷ []

abbrev counter_tree : plain.Tree
counter_tree = record {
  items = shared_one (codes "c") ∷ plain.Item.Locks (name_at 0 (codes "m") ∷ [])
      ∷ plain.Item.Thread (name_at 5 (codes "worker")) (plain.stmt_list counter_body)
      ∷ main_of (create 80 (codes "worker") ∷ create 90 (codes "worker") ∷ []) ∷ [];
  end = 100;
}

abbrev column : List ℕ → Option ℕ → Option ℤ → Column
column text owner start = record { text = text; owner = owner; start = start }

-- over c, m, both temporaries and both counters
abbrev row_of_c : ℤ → List ℤ
row_of_c k = k ∷ pos 0 ∷ pos 0 ∷ pos 0 ∷ pos 0 ∷ pos 0 ∷ []

abbrev row_of_m : ℤ → List ℤ
row_of_m k = pos 0 ∷ k ∷ pos 0 ∷ pos 0 ∷ pos 0 ∷ pos 0 ∷ []

abbrev number_form : ℕ → Form
number_form n = form (row_of_c (pos 0)) (pos n)

-- the edges of thread i, whose temporary is this column and has this row
abbrev counter_edges : ℕ → ℕ → List ℤ → List Edge
counter_edges i temporary row =
    edge 1 2 (equals (row_of_m (pos 1)) (pos 0) ∷ []) ((1, number_form i) ∷ [])
    ∷ edge 2 3 [] ((temporary, form (row_of_c (pos 1)) (pos 0)) ∷ [])
    ∷ edge 3 4 [] ((0, form row (pos 1)) ∷ [])
    ∷ edge 4 5 (at_most (row_of_c (minus 1)) (minus 1) ∷ []) []
    ∷ edge 4 0 (at_most (row_of_c (pos 1)) (pos 0) ∷ []) []
    ∷ edge 5 6 [] ((temporary, form (row_of_c (pos 1)) (pos 0)) ∷ [])
    ∷ edge 6 7 [] ((0, form row (minus 1)) ∷ [])
    ∷ edge 7 8 (equals (row_of_m (pos 1)) (pos i) ∷ []) ((1, number_form 0) ∷ [])
    ∷ edge 7 0 (at_most (row_of_m (pos 1)) (pos i +ℤ minus 1) ∷ []) []
    ∷ edge 7 0 (at_most (row_of_m (minus 1)) (neg_ℤ (pos i +ℤ pos 1)) ∷ []) []
    ∷ edge 8 9 [] [] ∷ []

-- the text of the first temporary of thread i
abbrev temporary_text : ℕ → List ℕ
temporary_text i = own_text i (codes "$" ++ number_text (pos 1))

abbrev counter_program : Program
counter_program = record {
  columns = column (codes "c") None (Some (pos 0)) ∷ column (codes "m") None (Some (pos 0))
      ∷ column (temporary_text 1) (Some 1) None ∷ column (temporary_text 2) (Some 2) None
      ∷ column (own_text 1 (codes "$pc")) (Some 1) (Some (pos 1)) ∷ column (own_text 2 (codes "$pc")) (Some 2) (Some (pos 1)) ∷ [];
  threads =
      record { counter = 4; locations = 10; edges = counter_edges 1 2 (pos 0 ∷ pos 0 ∷ pos 1 ∷ pos 0 ∷ pos 0 ∷ pos 0 ∷ []) }
      ∷ record { counter = 5; locations = 10; edges = counter_edges 2 3 (pos 0 ∷ pos 0 ∷ pos 0 ∷ pos 1 ∷ pos 0 ∷ pos 0 ∷ []) } ∷ [];
}

-- the program of the counter
counter-program : program_of counter_tree ≡ counter_program
counter-program = refl

-- nothing of the counter is refused
counter-refusals : refusals_of counter_tree ≡ []
counter-refusals = refl

-- where the actions of the counter stand: a statement's read and its assignment both at the statement
counter-places : map location_places (threads_running counter_tree) ≡
    (10 ∷ 20 ∷ 20 ∷ 37 ∷ 50 ∷ 50 ∷ 60 ∷ 70 ∷ []) ∷ (10 ∷ 20 ∷ 20 ∷ 37 ∷ 50 ∷ 50 ∷ 60 ∷ 70 ∷ []) ∷ []
counter-places = refl

-- ---- which functions are looked at

abbrev sum_too_large : plain.Expr
sum_too_large = binary plain.Operator.Plus (plain.Expr.Number 45 (pos 170141183460469231731687303715884105727)) (one_at 48)

-- int x; void *a() { x = M + 1; } void *b() { x = 1; }, and the functions of which threads are created
abbrev two_functions : List plain.Stmt → plain.Tree
two_functions creations = record {
  items = shared_one (codes "x")
      ∷ plain.Item.Thread (name_at 30 (codes "a")) (plain.stmt_list (set 41 (codes "x") sum_too_large ∷ []))
      ∷ plain.Item.Thread (name_at 60 (codes "b")) (plain.stmt_list (set 71 (codes "x") (one_at 75) ∷ []))
      ∷ main_of creations ∷ [];
  end = 200;
}

-- a function that no thread runs is not looked at
unused-function : refusals_of (two_functions (create 90 (codes "b") ∷ [])) ≡ []
unused-function = refl

-- one that two threads run is refused for each
used_twice : refusals_of (two_functions (create 90 (codes "a") ∷ create 95 (codes "b") ∷ create 99 (codes "a") ∷ [])) ≡
    record { code = coefficient; place = 45 } ∷ record { code = coefficient; place = 45 } ∷ []
used_twice = refl

-- the first thread runs the second function
second_function : map (λ thread. thread.edges) (program_of (two_functions (create 90 (codes "b") ∷ []))).threads ≡
    (edge 1 2 [] ((0, form (pos 0 ∷ pos 0 ∷ []) (pos 1)) ∷ []) ∷ []) ∷ []
second_function = refl
