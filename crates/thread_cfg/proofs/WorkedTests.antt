-- Worked tables of tests: each mark of a comparison under both sides, in each statement; and `&&`, `||` and `!`. Columns are x, l and
-- the counter.
use Rattle.std.specs.Prelude.{◌≡◌, ℕ, pos, [], ◌∷◌}
use Rattle.std.proofs.Common.{refl}
use Rattle.lin_rows.specs.Row.{Row}
use Rattle.c_check.specs.declared.operation.Mark.TheVariants as mark
use Rattle.c_check.specs.Plan.{Test}
use Rattle.transition_formula.specs.Program.{Form}
use Rattle.thread_cfg.proofs.WorkedWords.{assert, assume, at_most, compare, edge, equals, form, if_else, l, minus, not_zero, number, set_l, table, when, while, x}

-- ---- the rows that l and x are asked, each with what is on the right taken off what is on the left

abbrev equal : Row
equal = equals (minus 1 ∷ pos 1 ∷ pos 0 ∷ []) (pos 0)

-- l <= x - 1
abbrev less : Row
less = at_most (minus 1 ∷ pos 1 ∷ pos 0 ∷ []) (minus 1)

-- x + 1 <= l
abbrev greater : Row
greater = at_most (pos 1 ∷ minus 1 ∷ pos 0 ∷ []) (minus 1)

-- l <= x
abbrev no_more : Row
no_more = at_most (minus 1 ∷ pos 1 ∷ pos 0 ∷ []) (pos 0)

-- x <= l
abbrev no_less : Row
no_less = at_most (pos 1 ∷ minus 1 ∷ pos 0 ∷ []) (pos 0)

-- the form of a number
abbrev constant : Form
constant = form (pos 0 ∷ pos 0 ∷ pos 0 ∷ []) (pos 9)

-- ---- assert

-- assert(l == x)
assert-equal : table (assert (compare mark.Equal l x) ∷ []) ≡ edge 1 2 (equal ∷ []) [] ∷ edge 1 0 (less ∷ []) [] ∷ edge 1 0 (greater ∷ []) [] ∷ []
assert-equal = refl

-- assert(l != x)
assert-unequal : table (assert (compare mark.Unequal l x) ∷ []) ≡ edge 1 2 (less ∷ []) [] ∷ edge 1 2 (greater ∷ []) [] ∷ edge 1 0 (equal ∷ []) [] ∷ []
assert-unequal = refl

-- assert(l < x)
assert-less : table (assert (compare mark.Less l x) ∷ []) ≡ edge 1 2 (less ∷ []) [] ∷ edge 1 0 (no_less ∷ []) [] ∷ []
assert-less = refl

-- assert(l <= x)
assert-at_most : table (assert (compare mark.AtMost l x) ∷ []) ≡ edge 1 2 (no_more ∷ []) [] ∷ edge 1 0 (greater ∷ []) [] ∷ []
assert-at_most = refl

-- assert(l > x)
assert-greater : table (assert (compare mark.Greater l x) ∷ []) ≡ edge 1 2 (greater ∷ []) [] ∷ edge 1 0 (no_more ∷ []) [] ∷ []
assert-greater = refl

-- assert(l >= x)
assert-at_least : table (assert (compare mark.AtLeast l x) ∷ []) ≡ edge 1 2 (no_less ∷ []) [] ∷ edge 1 0 (less ∷ []) [] ∷ []
assert-at_least = refl

-- assert(!(l < x)): the true side still comes first, and it leads to the failing location
assert-not : table (assert (Test.Not (compare mark.Less l x)) ∷ []) ≡ edge 1 0 (less ∷ []) [] ∷ edge 1 2 (no_less ∷ []) [] ∷ []
assert-not = refl

-- ---- __VERIFIER_assume: the false side has no edge

-- __VERIFIER_assume(l == x)
assume-equal : table (assume (compare mark.Equal l x) ∷ []) ≡ edge 1 2 (equal ∷ []) [] ∷ []
assume-equal = refl

-- __VERIFIER_assume(l != x)
assume-unequal : table (assume (compare mark.Unequal l x) ∷ []) ≡ edge 1 2 (less ∷ []) [] ∷ edge 1 2 (greater ∷ []) [] ∷ []
assume-unequal = refl

-- __VERIFIER_assume(l < x)
assume-less : table (assume (compare mark.Less l x) ∷ []) ≡ edge 1 2 (less ∷ []) [] ∷ []
assume-less = refl

-- __VERIFIER_assume(!(l < x)): here it is the true side of the comparison that has none
assume-not : table (assume (Test.Not (compare mark.Less l x)) ∷ []) ≡ edge 1 2 (no_less ∷ []) [] ∷ []
assume-not = refl

-- ---- if

-- if (l == x) l = 9;
if-equal : table (if_else (when (compare mark.Equal l x)) (set_l (number 9) ∷ []) [] ∷ []) ≡
    edge 1 2 (equal ∷ []) [] ∷ edge 1 3 (less ∷ []) [] ∷ edge 1 3 (greater ∷ []) []
    ∷ edge 2 3 [] ((1, constant) ∷ []) ∷ []
if-equal = refl

-- if (l != x) l = 9; else { l = 9; l = 9; }
if-unequal : table (if_else (when (compare mark.Unequal l x)) (set_l (number 9) ∷ []) (set_l (number 9) ∷ set_l (number 9) ∷ []) ∷ []) ≡
    edge 1 2 (less ∷ []) [] ∷ edge 1 2 (greater ∷ []) [] ∷ edge 1 3 (equal ∷ []) []
    ∷ edge 2 5 [] ((1, constant) ∷ [])
    ∷ edge 3 4 [] ((1, constant) ∷ [])
    ∷ edge 4 5 [] ((1, constant) ∷ []) ∷ []
if-unequal = refl

-- if (l > x) ; else l = 9;
if-empty : table (if_else (when (compare mark.Greater l x)) [] (set_l (number 9) ∷ []) ∷ []) ≡
    edge 1 3 (greater ∷ []) [] ∷ edge 1 2 (no_more ∷ []) []
    ∷ edge 2 3 [] ((1, constant) ∷ []) ∷ []
if-empty = refl

-- ---- while

-- while (l == x) l = 9;
while-equal : table (while (when (compare mark.Equal l x)) (set_l (number 9) ∷ []) ∷ []) ≡
    edge 1 2 (equal ∷ []) [] ∷ edge 1 3 (less ∷ []) [] ∷ edge 1 3 (greater ∷ []) []
    ∷ edge 2 1 [] ((1, constant) ∷ []) ∷ []
while-equal = refl

-- while (l != x) ;
while-unequal : table (while (when (compare mark.Unequal l x)) [] ∷ []) ≡
    edge 1 1 (less ∷ []) [] ∷ edge 1 1 (greater ∷ []) [] ∷ edge 1 2 (equal ∷ []) [] ∷ []
while-unequal = refl

-- while (l >= x) l = 9;
while-at_least : table (while (when (compare mark.AtLeast l x)) (set_l (number 9) ∷ []) ∷ []) ≡
    edge 1 2 (no_less ∷ []) [] ∷ edge 1 3 (less ∷ []) []
    ∷ edge 2 1 [] ((1, constant) ∷ []) ∷ []
while-at_least = refl

-- ---- `&&`, `||` and `!`: l <= 0 && (l <= 1 || !(l <= 2 && l <= 3))

abbrev nested : Test
nested = Test.And (compare mark.AtMost l (number 0))
    (Test.Or (compare mark.AtMost l (number 1)) (Test.Not (Test.And (compare mark.AtMost l (number 2)) (compare mark.AtMost l (number 3)))))

-- l <= n
abbrev below : ℕ → Row
below n = at_most (pos 0 ∷ pos 1 ∷ pos 0 ∷ []) (pos n)

-- n <= l
abbrev above : ℕ → Row
above n = at_most (pos 0 ∷ minus 1 ∷ pos 0 ∷ []) (minus n)

-- if (nested) l = 9;
if-nested : table (if_else (when nested) (set_l (number 9) ∷ []) [] ∷ []) ≡
    edge 1 2 (below 0 ∷ []) [] ∷ edge 1 6 (above 1 ∷ []) []
    ∷ edge 2 5 (below 1 ∷ []) [] ∷ edge 2 3 (above 2 ∷ []) []
    ∷ edge 3 4 (below 2 ∷ []) [] ∷ edge 3 5 (above 3 ∷ []) []
    ∷ edge 4 6 (below 3 ∷ []) [] ∷ edge 4 5 (above 4 ∷ []) []
    ∷ edge 5 6 [] ((1, constant) ∷ []) ∷ []
if-nested = refl

-- while (nested) l = 9;
while-nested : table (while (when nested) (set_l (number 9) ∷ []) ∷ []) ≡
    edge 1 2 (below 0 ∷ []) [] ∷ edge 1 6 (above 1 ∷ []) []
    ∷ edge 2 5 (below 1 ∷ []) [] ∷ edge 2 3 (above 2 ∷ []) []
    ∷ edge 3 4 (below 2 ∷ []) [] ∷ edge 3 5 (above 3 ∷ []) []
    ∷ edge 4 6 (below 3 ∷ []) [] ∷ edge 4 5 (above 4 ∷ []) []
    ∷ edge 5 1 [] ((1, constant) ∷ []) ∷ []
while-nested = refl

-- assert(nested)
assert-nested : table (assert nested ∷ []) ≡
    edge 1 2 (below 0 ∷ []) [] ∷ edge 1 0 (above 1 ∷ []) []
    ∷ edge 2 5 (below 1 ∷ []) [] ∷ edge 2 3 (above 2 ∷ []) []
    ∷ edge 3 4 (below 2 ∷ []) [] ∷ edge 3 5 (above 3 ∷ []) []
    ∷ edge 4 0 (below 3 ∷ []) [] ∷ edge 4 5 (above 4 ∷ []) [] ∷ []
assert-nested = refl

-- __VERIFIER_assume(nested)
assume-nested : table (assume nested ∷ []) ≡
    edge 1 2 (below 0 ∷ []) []
    ∷ edge 2 5 (below 1 ∷ []) [] ∷ edge 2 3 (above 2 ∷ []) []
    ∷ edge 3 4 (below 2 ∷ []) [] ∷ edge 3 5 (above 3 ∷ []) []
    ∷ edge 4 5 (above 4 ∷ []) [] ∷ []
assume-nested = refl

-- ---- tests without a variable

-- if (1) l = 9; else l = 9;
if-constant : table (if_else (when (not_zero (number 1))) (set_l (number 9) ∷ []) (set_l (number 9) ∷ []) ∷ []) ≡
    edge 1 2 [] [] ∷ edge 2 4 [] ((1, constant) ∷ []) ∷ edge 3 4 [] ((1, constant) ∷ []) ∷ []
if-constant = refl

-- while (0) l = 9;
while-never : table (while (when (not_zero (number 0))) (set_l (number 9) ∷ []) ∷ []) ≡ edge 1 3 [] [] ∷ edge 2 1 [] ((1, constant) ∷ []) ∷ []
while-never = refl

-- assert(0), which is reach_error()
assert-never : table (assert (not_zero (number 0)) ∷ []) ≡ edge 1 0 [] [] ∷ []
assert-never = refl

-- assert(1)
assert-always : table (assert (not_zero (number 1)) ∷ []) ≡ edge 1 2 [] [] ∷ []
assert-always = refl

-- __VERIFIER_assume(0), which is abort()
assume-never : table (assume (not_zero (number 0)) ∷ set_l (number 9) ∷ []) ≡ edge 2 3 [] ((1, constant) ∷ []) ∷ []
assume-never = refl

-- assert(2 < 1)
assert-two : table (assert (compare mark.Less (number 2) (number 1)) ∷ []) ≡ edge 1 0 [] [] ∷ []
assert-two = refl

-- assert(l <= l): what is taken off leaves no variable
assert-itself : table (assert (compare mark.AtMost l l) ∷ []) ≡ edge 1 2 [] [] ∷ []
assert-itself = refl

-- assert(l), a number that is used as a condition
assert-number : table (assert (not_zero l) ∷ []) ≡
    edge 1 2 (at_most (pos 0 ∷ pos 1 ∷ pos 0 ∷ []) (minus 1) ∷ []) []
    ∷ edge 1 2 (at_most (pos 0 ∷ minus 1 ∷ pos 0 ∷ []) (minus 1) ∷ []) []
    ∷ edge 1 0 (equals (pos 0 ∷ pos 1 ∷ pos 0 ∷ []) (pos 0) ∷ []) [] ∷ []
assert-number = refl
