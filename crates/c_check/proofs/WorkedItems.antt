-- What programs as people write them do, as items, each worked out by hand: the thread `f` of a text that declares
-- `int x, y; pthread_mutex_t m;`. Items have no places, so all are 0 here.
use Rattle.std.proofs.Common.{◌≡◌, ℕ, pos, List, [], ◌∷◌, map, Option, Some, None, codes, refl}
use Rattle.c_tree.specs.declared.expr.Name.{Name}
use Rattle.c_tree.specs.declared.expr.UnaryKind.TheVariants as unary
use Rattle.c_tree.specs.Plain as plain
use Rattle.c_check.specs.declared.meaning.Variable.{Variable}
use Rattle.c_check.specs.declared.meaning.Variable.TheVariants as variable
use Rattle.c_check.specs.declared.operation.Mark.{Mark}
use Rattle.c_check.specs.declared.operation.Mark.TheVariants as mark
use Rattle.c_check.specs.Plan.{Arithmetic}
use Rattle.c_check.specs.Items.{Comparison, Guard, Item, Items, Side, one, unrolled}
use Rattle.c_check.specs.Program.{functions_of}
use Rattle.c_check.specs.Check.{function_items}

-- ---- programs

abbrev named : List ℕ → Name
named text = record { from = 0; text = text }

abbrev x : Name
x = named (codes "x")

abbrev y : Name
y = named (codes "y")

abbrev m : Name
m = named (codes "m")

-- a local
abbrev k : Name
k = named (codes "k")

abbrev does : plain.Stmts → List Items
does body = map function_items (functions_of (record {
  items = plain.Item.Globals (record { name = x; start = None } ∷ record { name = y; start = None } ∷ [])
      ∷ plain.Item.Locks (m ∷ [])
      ∷ plain.Item.Thread (named (codes "f")) body
      ∷ [];
  end = 0;
}))

abbrev number : ℕ → plain.Expr
number n = plain.Expr.Number 0 (pos n)

abbrev binary : plain.Operator → plain.Expr → plain.Expr → plain.Expr
binary operator left right = plain.Expr.Binary operator 0 left right

abbrev not_of : plain.Expr → plain.Expr
not_of e = plain.Expr.Prefixed 0 unary.Not (plain.Expr.Parens 0 e)

abbrev set : Name → plain.Expr → plain.Stmt
set name e = plain.Stmt.Assigns (plain.Assign.Set name (plain.Value.Computed e))

abbrev if_so : plain.Expr → plain.Stmt → plain.Stmt
if_so e s = plain.Stmt.If 0 (plain.Value.Computed e) s

abbrev int_k : ℕ → plain.Stmt
int_k n = plain.Stmt.Locals 0 (record { name = k; start = Some (plain.Value.Computed (number n)) } ∷ [])

abbrev lone : plain.Stmt → plain.Stmts
lone s = plain.Stmts.Then s plain.Stmts.End

abbrev nothing : plain.Stmt
nothing = plain.Stmt.Empty 0

-- ---- items

abbrev X : Variable
X = variable.Shared 0

abbrev Y : Variable
Y = variable.Shared 1

-- locals, and temporaries behind them
abbrev own : ℕ → Variable
own n = variable.Own n

abbrev value : Variable → Arithmetic
value v = Arithmetic.Value v

abbrev constant : ℕ → Arithmetic
constant n = Arithmetic.Number (pos n)

abbrev compared : Mark → Arithmetic → Arithmetic → Comparison
compared mark left right = record { mark = mark; left = left; right = right }

abbrev at_once : Comparison → Guard
at_once c = Guard.Compared [] c

abbrev asks : Comparison → Side → Side → Items
asks c true_side false_side = one (Item.Branch (Some c) true_side false_side)

-- ---- conditions

-- if (!(x < 1 && y < 2)) x = 3;
short_circuit_under_not : does (lone (if_so (not_of (binary plain.Operator.And (binary plain.Operator.Less (plain.Expr.Named x) (number 1)) (binary plain.Operator.Less (plain.Expr.Named y) (number 2)))) (set x (number 3))))
    ≡ asks (compared mark.Less (value X) (constant 1)) (Side.Goes (asks (compared mark.Less (value Y) (constant 2)) (Side.Goes Items.End) (Side.Goes (one (Item.Assign X (constant 3))))))
    (Side.Goes (one (Item.Assign X (constant 3))))
    ∷ []
short_circuit_under_not = refl

-- if (!(x < 1 || y < 2)) x = 3;
either_under_not : does (lone (if_so (not_of (binary plain.Operator.Or (binary plain.Operator.Less (plain.Expr.Named x) (number 1)) (binary plain.Operator.Less (plain.Expr.Named y) (number 2)))) (set x (number 3))))
    ≡ asks (compared mark.Less (value X) (constant 1)) (Side.Goes Items.End)
    (Side.Goes (asks (compared mark.Less (value Y) (constant 2)) (Side.Goes Items.End) (Side.Goes (one (Item.Assign X (constant 3))))))
    ∷ []
either_under_not = refl

-- if (x == 0) y = 1; else y = 2;
if_with_else : does (lone (plain.Stmt.IfElse 0 (plain.Value.Computed (binary plain.Operator.Equal (plain.Expr.Named x) (number 0))) (set y (number 1)) (set y (number 2))))
    ≡ asks (compared mark.Equal (value X) (constant 0)) (Side.Goes (one (Item.Assign Y (constant 1)))) (Side.Goes (one (Item.Assign Y (constant 2)))) ∷ []
if_with_else = refl

-- if (__VERIFIER_nondet_int()) x = __VERIFIER_nondet_int();
choices : does (lone (plain.Stmt.If 0 (plain.Value.Input 0) (plain.Stmt.Assigns (plain.Assign.Set x (plain.Value.Input 0)))))
    ≡ one (Item.Branch None (Side.Goes (one (Item.AssignAny X))) (Side.Goes Items.End)) ∷ []
choices = refl

abbrev x_below_one : plain.Expr
x_below_one = binary plain.Operator.Less (plain.Expr.Named x) (number 1)

abbrev y_below_two : plain.Expr
y_below_two = binary plain.Operator.Less (plain.Expr.Named y) (number 2)

abbrev asks_x : Side → Side → Items
asks_x true_side false_side = asks (compared mark.Less (value X) (constant 1)) true_side false_side

abbrev asks_y : Side → Side → Items
asks_y true_side false_side = asks (compared mark.Less (value Y) (constant 2)) true_side false_side

-- if (x < 1 && y < 2) x = 3;
both_in_turn : does (lone (if_so (binary plain.Operator.And x_below_one y_below_two) (set x (number 3))))
    ≡ asks_x (Side.Goes (asks_y (Side.Goes (one (Item.Assign X (constant 3)))) (Side.Goes Items.End))) (Side.Goes Items.End) ∷ []
both_in_turn = refl

-- what is asked where one of `x < 1` and `y < 2` is false: `x < 4`
abbrev or_else : Side
or_else = Side.Goes (asks (compared mark.Less (value X) (constant 4)) (Side.Goes (one (Item.Assign X (constant 3)))) (Side.Goes Items.End))

-- if (x < 1 && y < 2 || x < 4) x = 3;
both_or_another : does (lone (if_so (binary plain.Operator.Or (binary plain.Operator.And x_below_one y_below_two) (binary plain.Operator.Less (plain.Expr.Named x) (number 4))) (set x (number 3))))
    ≡ asks_x (Side.Goes (asks_y (Side.Goes (one (Item.Assign X (constant 3)))) or_else)) or_else ∷ []
both_or_another = refl

-- ---- shared accesses

-- x = x + y + x;
reads_from_left_to_right : does (lone (set x (binary plain.Operator.Plus (binary plain.Operator.Plus (plain.Expr.Named x) (plain.Expr.Named y)) (plain.Expr.Named x))))
    ≡ Items.Then (Item.Read (own 0) X) (Items.Then (Item.Read (own 1) Y) (Items.Then (Item.Read (own 2) X)
    (one (Item.Assign X (Arithmetic.Sum (Arithmetic.Sum (value (own 0)) (value (own 1))) (value (own 2)))))))
    ∷ []
reads_from_left_to_right = refl

-- int k = 5; k++; --k; x += k; x -= y;
changes_read_first : does (plain.Stmts.Then (int_k 5) (plain.Stmts.Then (plain.Stmt.Assigns (plain.Assign.Increment k)) (plain.Stmts.Then (plain.Stmt.Assigns (plain.Assign.DecrementFirst 0 k))
    (plain.Stmts.Then (plain.Stmt.Assigns (plain.Assign.Add x (plain.Expr.Named k))) (lone (plain.Stmt.Assigns (plain.Assign.Subtract x (plain.Expr.Named y))))))))
    ≡ Items.Then (Item.Assign (own 0) (constant 5)) (Items.Then (Item.Assign (own 0) (Arithmetic.Sum (value (own 0)) (constant 1)))
    (Items.Then (Item.Assign (own 0) (Arithmetic.Difference (value (own 0)) (constant 1)))
    (Items.Then (Item.Read (own 1) X) (Items.Then (Item.Assign X (Arithmetic.Sum (value (own 1)) (value (own 0))))
    (Items.Then (Item.Read (own 1) X) (Items.Then (Item.Read (own 2) Y) (one (Item.Assign X (Arithmetic.Difference (value (own 1)) (value (own 2)))))))))))
    ∷ []
changes_read_first = refl

-- pthread_mutex_lock(&m); x = x + 1; pthread_mutex_unlock(&m);
counter_under_a_lock : does (plain.Stmts.Then (plain.Stmt.Calls (plain.Call.Lock 0 m)) (plain.Stmts.Then (set x (binary plain.Operator.Plus (plain.Expr.Named x) (number 1))) (lone (plain.Stmt.Calls (plain.Call.Unlock 0 m)))))
    ≡ Items.Then (Item.Lock 0) (Items.Then (Item.Read (own 0) X) (Items.Then (Item.Assign X (Arithmetic.Sum (value (own 0)) (constant 1))) (one (Item.Unlock 0)))) ∷ []
counter_under_a_lock = refl

-- int k = 1; __VERIFIER_atomic_begin(); k = x; x = x + 1; __VERIFIER_atomic_end(); if (k == 0) y = 1;
test_and_set : does (plain.Stmts.Then (int_k 1)
    (plain.Stmts.Then (plain.Stmt.Atomic 0 (plain.Stmts.Then (set k (plain.Expr.Named x)) (lone (set x (binary plain.Operator.Plus (plain.Expr.Named x) (number 1))))))
    (lone (if_so (binary plain.Operator.Equal (plain.Expr.Named k) (number 0)) (set y (number 1))))))
    ≡ Items.Then (Item.Assign (own 0) (constant 1))
    (Items.Then (Item.Atomic (Items.Then (Item.Assign (own 0) (value X)) (one (Item.Assign X (Arithmetic.Sum (value X) (constant 1))))))
    (asks (compared mark.Equal (value (own 0)) (constant 0)) (Side.Goes (one (Item.Assign Y (constant 1)))) (Side.Goes Items.End)))
    ∷ []
test_and_set = refl

abbrev x_and_y : plain.Expr
x_and_y = binary plain.Operator.Plus (plain.Expr.Named x) (plain.Expr.Named y)

abbrev less : plain.Expr → plain.Expr → plain.Expr
less left right = binary plain.Operator.Less left right

-- __VERIFIER_atomic_begin(); if (x + y < 1) x = x + y; assert(x < y); __VERIFIER_assume(y < x); __VERIFIER_atomic_end();
nothing_is_read_first_in_a_block : does (lone (plain.Stmt.Atomic 0
    (plain.Stmts.Then (if_so (less x_and_y (number 1)) (set x x_and_y))
    (plain.Stmts.Then (plain.Stmt.Calls (plain.Call.Assert 0 (less (plain.Expr.Named x) (plain.Expr.Named y))))
    (lone (plain.Stmt.Calls (plain.Call.Assume 0 (less (plain.Expr.Named y) (plain.Expr.Named x)))))))))
    ≡ one (Item.Atomic
    (Items.Then (Item.Branch (Some (compared mark.Less (Arithmetic.Sum (value X) (value Y)) (constant 1))) (Side.Goes (one (Item.Assign X (Arithmetic.Sum (value X) (value Y))))) (Side.Goes Items.End))
    (Items.Then (Item.Branch (Some (compared mark.Less (value X) (value Y))) (Side.Goes Items.End) Side.Failed)
    (asks (compared mark.Less (value Y) (value X)) (Side.Goes Items.End) Side.Nowhere))))
    ∷ []
nothing_is_read_first_in_a_block = refl

-- ---- loops

-- while (x != y) { break; }
while_with_break : does (lone (plain.Stmt.While 0 (plain.Value.Computed (binary plain.Operator.Unequal (plain.Expr.Named x) (plain.Expr.Named y))) (plain.Stmt.Block 0 (lone (plain.Stmt.Break 0)))))
    ≡ one (Item.Loop (Guard.Compared ((own 0, X) ∷ (own 1, Y) ∷ []) (compared mark.Unequal (value (own 0)) (value (own 1)))) (one Item.Break) Items.End) ∷ []
while_with_break = refl

abbrev below_three : plain.Value
below_three = plain.Value.Computed (binary plain.Operator.Less (plain.Expr.Named x) (number 3))

abbrev x_is_below_three : Guard
x_is_below_three = at_once (compared mark.Less (value X) (constant 3))

abbrev for_x : Option plain.Assign → Option plain.Value → Option plain.Assign → plain.Stmt
for_x None condition last = plain.Stmt.For 0 (plain.First.Nothing 0) condition last nothing
for_x (Some first) condition last = plain.Stmt.For 0 (plain.First.Assigns first) condition last nothing

abbrev from_zero : Option plain.Assign
from_zero = Some (plain.Assign.Set x (plain.Value.Computed (number 0)))

-- the read of `x` in front of its change
abbrev one_more : Items
one_more = Items.Then (Item.Read (own 0) X) (one (Item.Assign X (Arithmetic.Sum (value (own 0)) (constant 1))))

-- for (x = 0; x < 3; x++) ;
for_with_all_parts : does (lone (for_x from_zero (Some below_three) (Some (plain.Assign.Increment x)))) ≡ Items.Then (Item.Assign X (constant 0)) (one (Item.Loop x_is_below_three Items.End one_more)) ∷ []
for_with_all_parts = refl

-- for (; x < 3; ++x) ;
for_without_a_first_part : does (lone (for_x None (Some below_three) (Some (plain.Assign.IncrementFirst 0 x)))) ≡ one (Item.Loop x_is_below_three Items.End one_more) ∷ []
for_without_a_first_part = refl

-- for (x = 0; ; x++) ;
for_without_a_condition : does (lone (for_x from_zero None (Some (plain.Assign.Increment x))))
    ≡ Items.Then (Item.Assign X (constant 0)) (one (Item.Loop (at_once (compared mark.Unequal (constant 1) (constant 0))) Items.End one_more)) ∷ []
for_without_a_condition = refl

-- for (x = 0; x < 3; ) ;
for_without_a_last_part : does (lone (for_x from_zero (Some below_three) None)) ≡ Items.Then (Item.Assign X (constant 0)) (one (Item.Loop x_is_below_three Items.End Items.End)) ∷ []
for_without_a_last_part = refl

-- for (int k = 0; k < 3; k++) x = k;
for_with_a_local : does (lone (plain.Stmt.For 0 (plain.First.Declares 0 (record { name = k; start = Some (plain.Value.Computed (number 0)) } ∷ []))
    (Some (plain.Value.Computed (binary plain.Operator.Less (plain.Expr.Named k) (number 3)))) (Some (plain.Assign.Increment k)) (set x (plain.Expr.Named k))))
    ≡ Items.Then (Item.Assign (own 0) (constant 0))
    (one (Item.Loop (at_once (compared mark.Less (value (own 0)) (constant 3))) (one (Item.Assign X (value (own 0)))) (one (Item.Assign (own 0) (Arithmetic.Sum (value (own 0)) (constant 1))))))
    ∷ []
for_with_a_local = refl

-- A loop that is come to asks its guard, goes through its body and its last part, and comes to itself again.
loop_is_come_to : unrolled x_is_below_three (one Item.Exit) one_more
    ≡ asks (compared mark.Less (value X) (constant 3))
    (Side.Goes (Items.Then Item.Exit (Items.Then (Item.Read (own 0) X) (Items.Then (Item.Assign X (Arithmetic.Sum (value (own 0)) (constant 1))) (one (Item.Again x_is_below_three (one Item.Exit) one_more))))))
    (Side.Goes Items.End)
loop_is_come_to = refl

-- ---- failing and stopping

-- assert(x == 1);
assertion : does (lone (plain.Stmt.Calls (plain.Call.Assert 0 (binary plain.Operator.Equal (plain.Expr.Named x) (number 1))))) ≡ asks (compared mark.Equal (value X) (constant 1)) (Side.Goes Items.End) Side.Failed ∷ []
assertion = refl

-- __VERIFIER_assume(x);
assumption_of_a_number : does (lone (plain.Stmt.Calls (plain.Call.Assume 0 (plain.Expr.Named x)))) ≡ asks (compared mark.Unequal (value X) (constant 0)) (Side.Goes Items.End) Side.Nowhere ∷ []
assumption_of_a_number = refl

-- reach_error(); abort(); return;
errors_and_ends : does (plain.Stmts.Then (plain.Stmt.Calls (plain.Call.ReachError 0)) (plain.Stmts.Then (plain.Stmt.Calls (plain.Call.Abort 0)) (lone (plain.Stmt.Return 0))))
    ≡ Items.Then (Item.Branch (Some (compared mark.Unequal (constant 0) (constant 0))) (Side.Goes Items.End) Side.Failed)
    (Items.Then (Item.Branch (Some (compared mark.Unequal (constant 0) (constant 0))) (Side.Goes Items.End) Side.Nowhere) (one Item.Exit))
    ∷ []
errors_and_ends = refl
