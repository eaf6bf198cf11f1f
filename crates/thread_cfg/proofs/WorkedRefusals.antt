-- Worked refusals: products and sums at the edge of the numbers that fit, atomic blocks with many paths, threads with many locations.
-- M stands for 2^127 - 1, the greatest number that fits. Columns are x, l and the counter.
use Rattle.std.specs.Prelude.{◌≡◌, ℕ, pos, List, [], ◌∷◌}
use Rattle.std.proofs.Common.{refl}
use Rattle.thr_base.specs.declared.stops.Refusal.{Refusal}
use Rattle.thr_base.specs.Refusals.{coefficient, too_many}
use Rattle.c_check.specs.declared.meaning.Variable.TheVariants as variable
use Rattle.c_check.specs.declared.operation.Mark.{Mark}
use Rattle.c_check.specs.declared.operation.Mark.TheVariants as mark
use Rattle.c_check.specs.Plan.{Arithmetic, Stmt, Stmts, Test}
use Rattle.c_check.specs.Program.{Function}
use Rattle.thread_cfg.specs.Action.{thread_actions}
use Rattle.thread_cfg.specs.Threads.{Running}
use Rattle.thread_cfg.specs.Graph.{refusals_from, thread_refusals}
use Rattle.thread_cfg.proofs.WorkedWords.{any, assert, assume, atomic, body, compare, edge, form, frame, if_else, l, not_zero, number, plus, repeated, set_l, set_x, table, when, x}

abbrev refused : List Stmt → List Refusal
refused ss = refusals_from 3 frame 1 (thread_actions frame 1 (body ss))

abbrev unfit_at : ℕ → Refusal
unfit_at place = record { code = coefficient; place = place }

abbrev most : ℕ
most = 170141183460469231731687303715884105727

abbrev greatest : Arithmetic
greatest = number most

abbrev least : Arithmetic
least = Arithmetic.Negated greatest

-- a comparison at a place
abbrev compare_at : ℕ → Mark → Arithmetic → Arithmetic → Test
compare_at place m a b = Test.Compare place m a b

-- ---- comparisons

-- if (M) ; asks M <= 0 - 1, where M + 1 does not fit, on an edge that would not be made
refused-if : refused (if_else (when (compare_at 7 mark.Unequal greatest (number 0))) [] [] ∷ []) ≡ unfit_at 7 ∷ []
refused-if = refl

-- if (0 <= M) ; has M + 1 on its false side, which would not be made
refused-false_side : refused (if_else (when (compare_at 7 mark.AtMost (number 0) greatest)) [] [] ∷ []) ≡ unfit_at 7 ∷ []
refused-false_side = refl

-- __VERIFIER_assume(0 <= M) has no false side
assume-side : refused (assume (compare_at 7 mark.AtMost (number 0) greatest) ∷ []) ≡ []
assume-side = refl

-- __VERIFIER_assume(l == M) asks neither l <= M - 1 nor l >= M + 1
assume-equal : refused (assume (compare_at 7 mark.Equal l greatest) ∷ []) ≡ []
assume-equal = refl

-- __VERIFIER_assume(l != M)
refused-unequal : refused (assume (compare_at 7 mark.Unequal l greatest) ∷ []) ≡ unfit_at 7 ∷ []
refused-unequal = refl

-- assert(l == M) asks both on its false side
refused-equal : refused (assert (compare_at 7 mark.Equal l greatest) ∷ []) ≡ unfit_at 7 ∷ []
refused-equal = refl

-- assert(l < M) asks l <= M - 1 and l >= M, which fit
assert-less : refused (assert (compare_at 7 mark.Less l greatest) ∷ []) ≡ []
assert-less = refl

-- assert(l < -M) asks l <= -M - 1
refused-less : refused (assert (compare_at 7 mark.Less l least) ∷ []) ≡ unfit_at 7 ∷ []
refused-less = refl

-- assert(l <= -M) asks l <= -M and l >= -M + 1
assert-at_most : refused (assert (compare_at 7 mark.AtMost l least) ∷ []) ≡ []
assert-at_most = refl

-- assert(0 > M) asks 0 >= M + 1, on an edge that would not be made
refused-greater : refused (assert (compare_at 7 mark.Greater (number 0) greatest) ∷ []) ≡ unfit_at 7 ∷ []
refused-greater = refl

-- __VERIFIER_assume(l - M <= M): neither operand is too large, and their difference is
refused-difference : refused (assume (compare_at 7 mark.AtMost (Arithmetic.Difference l greatest) greatest) ∷ []) ≡ unfit_at 7 ∷ []
refused-difference = refl

-- __VERIFIER_assume(l + M <= M): the difference fits
assert-difference : refused (assume (compare_at 7 mark.AtMost (Arithmetic.Sum l greatest) greatest) ∷ []) ≡ []
assert-difference = refl

-- __VERIFIER_assume(l <= 0 && M * l * 2 < l): the place is that of the comparison
refused-second : refused (assume (Test.And (compare_at 7 mark.AtMost l (number 0))
    (compare_at 17 mark.Less (Arithmetic.Product (Arithmetic.Product greatest l) (number 2)) l)) ∷ []) ≡ unfit_at 17 ∷ []
refused-second = refl

-- ---- assignments: the place is that of the right side

-- l = M + 1;
refused-sum : refused (Stmt.Assign 3 7 (variable.Own 0) (plus greatest 1) ∷ []) ≡ unfit_at 7 ∷ []
refused-sum = refl

-- l = M + 1 - 1; the first sum is looked at alone
refused-first_sum : refused (Stmt.Assign 3 7 (variable.Own 0) (Arithmetic.Difference (plus greatest 1) (number 1)) ∷ []) ≡ unfit_at 7 ∷ []
refused-first_sum = refl

-- l = 1 - 1 + M;
sum-fits : refused (Stmt.Assign 3 7 (variable.Own 0) (Arithmetic.Sum (Arithmetic.Difference (number 1) (number 1)) greatest) ∷ []) ≡ []
sum-fits = refl

-- l = -M - 1; 2^127 below 0 does not fit
refused-least : refused (Stmt.Assign 3 7 (variable.Own 0) (Arithmetic.Difference least (number 1)) ∷ []) ≡ unfit_at 7 ∷ []
refused-least = refl

-- l = M * l + l; a coefficient
refused-coefficient : refused (Stmt.Assign 3 7 (variable.Own 0) (Arithmetic.Sum (Arithmetic.Product greatest l) l) ∷ []) ≡ unfit_at 7 ∷ []
refused-coefficient = refl

-- l = M * (l - 2); a product
refused-product : refused (Stmt.Assign 3 7 (variable.Own 0) (Arithmetic.Product greatest (Arithmetic.Difference l (number 2))) ∷ []) ≡ unfit_at 7 ∷ []
refused-product = refl

-- x = M * x + x; over two temporaries, which have a coefficient each
temporaries-fit : refusals_from 5 frame 1 (thread_actions frame 1 (body (Stmt.Assign 3 7 (variable.Shared 0) (Arithmetic.Sum (Arithmetic.Product greatest x) x) ∷ []))) ≡ []
temporaries-fit = refl

-- each refusal of a thread, in the order of its edges
refused-twice : refused (Stmt.Assign 3 7 (variable.Own 0) (plus greatest 1) ∷ assert (compare_at 17 mark.AtMost l greatest) ∷ []) ≡ unfit_at 7 ∷ unfit_at 17 ∷ []
refused-twice = refl

-- ---- composed forms

-- { l = M; x = l + 1; } fits over the columns in front, and not composed
refused-composed : refused (atomic (set_l greatest ∷ Stmt.Assign 13 17 (variable.Shared 0) (plus l 1) ∷ []) ∷ []) ≡ unfit_at 17 ∷ []
refused-composed = refl

-- { l = M; x = l + 1 - 1; } the form over the columns is made first
composed-fits : table (atomic (set_l greatest ∷ set_x (Arithmetic.Difference (plus l 1) (number 1)) ∷ []) ∷ []) ≡
    edge 1 2 [] ((0, form (pos 0 ∷ pos 0 ∷ pos 0 ∷ []) (pos most)) ∷ (1, form (pos 0 ∷ pos 0 ∷ pos 0 ∷ []) (pos most)) ∷ []) ∷ []
composed-fits = refl

-- { x = M; l = M; l = x + l - M; } columns are summed in their order, and what an expression adds comes last
refused-column_order : refused (atomic (set_x greatest ∷ set_l greatest ∷ Stmt.Assign 23 27 (variable.Own 0)
    (Arithmetic.Difference (Arithmetic.Sum x l) greatest) ∷ []) ∷ []) ≡ unfit_at 27 ∷ []
refused-column_order = refl

-- { assume(0); l = M + 1; } a path that is left out is composed to its end; this one has two picks
refused-behind : refused (atomic (assume (not_zero (number 0)) ∷ Stmt.Assign 13 17 (variable.Own 0) (plus greatest 1) ∷ []) ∷ []) ≡ unfit_at 17 ∷ unfit_at 17 ∷ []
refused-behind = refl

-- { assert(0); l = M + 1; } the picks of the true side are composed; behind the false one nothing is
refused-assert : refused (atomic (assert (not_zero (number 0)) ∷ Stmt.Assign 13 17 (variable.Own 0) (plus greatest 1) ∷ []) ∷ []) ≡ unfit_at 17 ∷ unfit_at 17 ∷ []
refused-assert = refl

-- { assume(l == M); } the false side is not asked
block-assume : refused (atomic (assume (compare_at 7 mark.Equal l greatest) ∷ []) ∷ []) ≡ []
block-assume = refl

-- ---- paths: 64 and no more

abbrev choice : Stmt
choice = if_else any [] []

abbrev block : ℕ → Stmt → Stmts → List Refusal
block n s rest = refusals_from 3 frame 1 (thread_actions frame 1 (Stmts.Then (Stmt.Atomic 5 (repeated n s rest)) Stmts.End))

abbrev many_at : ℕ → Refusal
many_at place = record { code = too_many; place = place }

-- six choices have 64 paths
paths-64 : block 6 choice Stmts.End ≡ []
paths-64 = refl

-- an assertion in front of them has one more, at the word that begins the block
paths-65 : block 1 (assert (compare mark.AtMost l (number 0))) (repeated 6 choice Stmts.End) ≡ many_at 5 ∷ []
paths-65 = refl

-- an assumption has none more, but where its true side has two rows
paths-assume : block 6 choice (body (assume (compare mark.AtMost l (number 0)) ∷ [])) ≡ []
paths-assume = refl

paths-unequal : block 6 choice (body (assume (compare mark.Unequal l (number 0)) ∷ [])) ≡ many_at 5 ∷ []
paths-unequal = refl

-- seven choices have 128
paths-128 : block 7 choice Stmts.End ≡ many_at 5 ∷ []
paths-128 = refl

-- if (1) ; has three picks, of which one would be made: three of these have 27 paths, and four have 81
paths-27 : block 3 (if_else (when (not_zero (number 1))) [] []) Stmts.End ≡ []
paths-27 = refl

paths-81 : block 4 (if_else (when (not_zero (number 1))) [] []) Stmts.End ≡ many_at 5 ∷ []
paths-81 = refl

-- assertions that fail have no picks behind them: 31 of `==` have 63 paths, and 32 have 65
paths-63 : block 31 (assert (compare mark.Equal l (number 0))) Stmts.End ≡ []
paths-63 = refl

paths-fail : block 32 (assert (compare mark.Equal l (number 0))) Stmts.End ≡ many_at 5 ∷ []
paths-fail = refl

-- behind an assumption that is false there are paths still
paths-never : block 1 (assume (not_zero (number 0))) (repeated 6 choice Stmts.End) ≡ many_at 5 ∷ []
paths-never = refl

-- a block that has too many paths is not looked through for numbers
paths-numbers : block 7 choice (body (set_l (plus greatest 1) ∷ [])) ≡ many_at 5 ∷ []
paths-numbers = refl

-- ---- locations: 256 and no more, the failing one and the last one among them

abbrev function : Stmts → Function
function ss = record { from = 11; locals = []; body = ss }

abbrev thread : Stmts → Running
thread ss = record { frame = frame; function = function ss }

-- 254 jumps
locations-256 : thread_refusals 3 (thread (repeated 254 (Stmt.Exit 20) Stmts.End)) ≡ []
locations-256 = refl

-- 255 jumps: at the name of the function
locations-257 : thread_refusals 3 (thread (repeated 255 (Stmt.Exit 20) Stmts.End)) ≡ many_at 11 ∷ []
locations-257 = refl

-- 127 times x = x + 1; are 254 locations, and one jump more is too many
locations-reads : thread_refusals 4 (thread (repeated 127 (set_x (plus x 1)) (body (Stmt.Exit 20 ∷ [])))) ≡ many_at 11 ∷ []
locations-reads = refl

-- the numbers of a thread with too many locations are not looked at
locations-numbers : thread_refusals 3 (thread (repeated 255 (set_l (plus greatest 1)) Stmts.End)) ≡ many_at 11 ∷ []
locations-numbers = refl
