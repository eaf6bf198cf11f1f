-- Expressions and the parts of statements are read alike over tokens that differ in their places alone.
use Rattle.std.proofs.Common.{◌≡◌, ℕ, zero, suc, ℤ, Bool, true, false, cond, List, [], ◌∷◌, length, Option, Some, None, refl, subst}
use Rattle.c_tree.specs.declared.term.Term.{Term}
use Rattle.c_tree.specs.declared.term.Term.TheVariants as terms
use Rattle.c_tree.specs.declared.expr.Name.{Name}
use Rattle.c_tree.specs.declared.expr.Expr.{roll-Expr}
use Rattle.c_tree.specs.declared.expr.Conjunction.{roll-Conjunction}
use Rattle.c_tree.specs.declared.expr.Equality.{roll-Equality}
use Rattle.c_tree.specs.declared.expr.Relation.{roll-Relation}
use Rattle.c_tree.specs.declared.expr.Sum.{roll-Sum}
use Rattle.c_tree.specs.declared.expr.Product.{roll-Product}
use Rattle.c_tree.specs.declared.expr.Unary.{Unary}
use Rattle.c_tree.specs.declared.expr.Unary.TheVariants as unaries
use Rattle.c_tree.specs.declared.expr.UnaryKind.{UnaryKind}
use Rattle.c_tree.specs.declared.simple.Assign.TheVariants as assigns
use Rattle.c_tree.specs.declared.simple.Call.TheVariants as calls
use Rattle.c_tree.specs.declared.simple.Itype.TheVariants as itypes
use Rattle.c_tree.specs.declared.simple.Lname.{Lname}
use Rattle.c_tree.specs.declared.simple.Local.{Local}
use Rattle.c_tree.specs.declared.simple.Nil.{Nil}
use Rattle.c_tree.specs.declared.simple.Nil.TheVariants as nils
use Rattle.c_tree.specs.declared.simple.Qual.{Qual}
use Rattle.c_tree.specs.inside.Input.{Input, Parser, ◌>>=◌, ◌>>◌, pure, here, take_token, expect, peek, bytes}
use Rattle.c_tree.specs.inside.Chain.{mark_at, more_of}
use Rattle.c_tree.specs.inside.Expr as spec
use Rattle.c_tree.specs.inside.Simple as simple_spec
use Rattle.c_tree.proofs.Moving.{AreAlike, Alike, Moves, SameSome, IsMarked, peek_alike, bytes_alike, length_alike, pure_moves, refuse_moves, deep_moves, here_moves, take_moves, bind_moves, by_moves, looked_moves, eaten_moves, expect_moves, marks_alike, more_moves}

-- ---- marks

or_marked : IsMarked spec.or_mark
or_marked terms.Or from other = tt
or_marked _ from other = tt

and_marked : IsMarked spec.and_mark
and_marked terms.And from other = tt
and_marked _ from other = tt

equality_marked : IsMarked spec.equality_mark
equality_marked terms.Equal from other = tt
equality_marked terms.Unequal from other = tt
equality_marked _ from other = tt

relation_marked : IsMarked spec.relation_mark
relation_marked terms.Less from other = tt
relation_marked terms.AtMost from other = tt
relation_marked terms.Greater from other = tt
relation_marked terms.AtLeast from other = tt
relation_marked _ from other = tt

sum_marked : IsMarked spec.sum_mark
sum_marked terms.Plus from other = tt
sum_marked terms.Minus from other = tt
sum_marked _ from other = tt

product_marked : IsMarked spec.product_mark
product_marked terms.Star from other = tt
product_marked _ from other = tt

pub comma_marked : IsMarked simple_spec.comma_mark
comma_marked terms.Comma from other = tt
comma_marked _ from other = tt

qual_marked : IsMarked simple_spec.qual_mark
qual_marked terms.Static from other = tt
qual_marked terms.Volatile from other = tt
qual_marked terms.Extern from other = tt
qual_marked _ from other = tt

-- ---- names and numbers

pub name_moves : Moves spec.name spec.name
unfolding spec.name
name_moves = record { does = λ i j alike. (read i j).does i j alike }
  where
    read : (i j : Input) → Moves (expect terms.Name >>= λ from. pure {A = Name} (record { from = from; text = bytes i })) (expect terms.Name >>= λ from. pure {A = Name} (record { from = from; text = bytes j }))
    read i j = bind_moves (expect_moves terms.Name) (λ a b. pure_moves _ _)

number_of_moves : (value : Option ℤ) → Moves (spec.number_of value) (spec.number_of value)
number_of_moves None = refuse_moves
number_of_moves (Some value) = bind_moves (expect_moves terms.Number) (λ a b. pure_moves _ _)

number_at : List ℕ → Parser ℤ
number_at text = spec.number_of (spec.number_value text)

pub number_moves : Moves spec.number spec.number
unfolding spec.number number_at
number_moves = record { does = λ i j alike. (by_moves number_at number_at (λ text. number_of_moves (spec.number_value text)) (bytes i) (bytes j) (bytes_alike i j alike)).does i j alike }

-- ---- expressions

-- a level of expressions
level_moves : {M A B : Type 0} (mark : Term → ℕ → Option M) → IsMarked mark → (made : ℕ → A → List (M × A) → B) (p : Parser A) → Moves p p
    → Moves (here >>= λ from. p >>= λ first. more_of mark p >>= λ more. pure (made from first more)) (here >>= λ from. p >>= λ first. more_of mark p >>= λ more. pure (made from first more))
level_moves mark marked made p m = bind_moves here_moves (λ a b. bind_moves m (λ x y. bind_moves (more_moves mark marked p p m) (λ xs ys. pure_moves (made a x xs) (made b y ys))))

module _ (u : Parser Unary) (m : Moves u u) where
  product_moves : Moves (spec.product u) (spec.product u)
  unfolding spec.product
  product_moves = level_moves spec.product_mark product_marked (λ from first more. roll-Product (record { from = from; first = first; more = more })) u m

  sum_moves : Moves (spec.sum u) (spec.sum u)
  unfolding spec.sum
  sum_moves = level_moves spec.sum_mark sum_marked (λ from first more. roll-Sum (record { from = from; first = first; more = more })) (spec.product u) product_moves

  relation_moves : Moves (spec.relation u) (spec.relation u)
  unfolding spec.relation
  relation_moves = level_moves spec.relation_mark relation_marked (λ from first more. roll-Relation (record { from = from; first = first; more = more })) (spec.sum u) sum_moves

  equality_moves : Moves (spec.equality u) (spec.equality u)
  unfolding spec.equality
  equality_moves = level_moves spec.equality_mark equality_marked (λ from first more. roll-Equality (record { from = from; first = first; more = more })) (spec.relation u) relation_moves

  conjunction_moves : Moves (spec.conjunction u) (spec.conjunction u)
  unfolding spec.conjunction
  conjunction_moves = level_moves spec.and_mark and_marked (λ from first more. roll-Conjunction (record { from = from; first = first; more = more })) (spec.equality u) equality_moves

  expr_over_moves : Moves (spec.expr_over u) (spec.expr_over u)
  unfolding spec.expr_over
  expr_over_moves = level_moves spec.or_mark or_marked (λ from first more. roll-Expr (record { from = from; first = first; more = more })) (spec.conjunction u) conjunction_moves

-- operands, where those one level deeper move if there are any
abbrev IfMoves : Option (Parser Unary) → Type 0
IfMoves None = Unit {0}
IfMoves (Some u) = Moves u u

operated_moves : (deeper : Option (Parser Unary)) → IfMoves deeper → (kind : UnaryKind) → Moves (spec.operated deeper kind) (spec.operated deeper kind)
operated_moves None m kind = deep_moves
operated_moves (Some u) m kind = bind_moves take_moves (λ a b. bind_moves m (λ x y. pure_moves (unaries.Operator a kind x) (unaries.Operator b kind y)))

parenthesized_moves : (deeper : Option (Parser Unary)) → IfMoves deeper → Moves (spec.parenthesized deeper) (spec.parenthesized deeper)
parenthesized_moves None m = deep_moves
parenthesized_moves (Some u) m = bind_moves take_moves (λ a b. bind_moves (expr_over_moves u m) (λ x y. bind_moves (expect_moves terms.RightParen) (λ c d. pure_moves (unaries.Paren a x) (unaries.Paren b y))))

unary_by_moves : (deeper : Option (Parser Unary)) → IfMoves deeper → (k : Term) → Moves (spec.unary_by deeper k) (spec.unary_by deeper k)
unary_by_moves deeper m terms.Minus = operated_moves deeper m _
unary_by_moves deeper m terms.Plus = operated_moves deeper m _
unary_by_moves deeper m terms.Not = operated_moves deeper m _
unary_by_moves deeper m terms.LeftParen = parenthesized_moves deeper m
unary_by_moves deeper m terms.Number = bind_moves here_moves (λ a b. bind_moves number_moves (λ x y. pure_moves (unaries.Number a x) (unaries.Number b y)))
unary_by_moves deeper m terms.Name = bind_moves name_moves (λ x y. pure_moves _ _)
unary_by_moves deeper m _ = refuse_moves

unary_with_moves : (deeper : Option (Parser Unary)) → IfMoves deeper → Moves (spec.unary_with deeper) (spec.unary_with deeper)
unfolding spec.unary_with
unary_with_moves deeper m = looked_moves (unary_by_moves deeper m)

unary_moves : (levels : ℕ) → Moves (spec.unary levels) (spec.unary levels)
unfolding spec.unary
unary_moves zero = unary_with_moves None tt
unary_moves (suc levels) = unary_with_moves (Some (spec.unary levels)) (unary_moves levels)

pub expr_moves : (levels : ℕ) → Moves (spec.expr levels) (spec.expr levels)
expr_moves levels = expr_over_moves (spec.unary levels) (unary_moves levels)

-- ---- parts of statements

pub empty_parens_moves : Moves simple_spec.empty_parens simple_spec.empty_parens
empty_parens_moves = bind_moves (expect_moves terms.LeftParen) (λ a b. expect_moves terms.RightParen)

nondet_moves : Moves simple_spec.nondet simple_spec.nondet
unfolding simple_spec.nondet
nondet_moves = bind_moves (expect_moves terms.Nondet) (λ a b. bind_moves empty_parens_moves (λ x y. pure_moves _ _))

nil_if : Bool → Parser Nil
nil_if b = cond b (take_token >>= λ from. pure (nils.Zero from)) (expect terms.Null >>= λ from. pure (nils.Null from))

nil_if_moves : (b : Bool) → Moves (nil_if b) (nil_if b)
unfolding nil_if
nil_if_moves true = bind_moves take_moves (λ a b. pure_moves (nils.Zero a) (nils.Zero b))
nil_if_moves false = bind_moves (expect_moves terms.Null) (λ a b. pure_moves _ _)

zero_alike : (i j : Input) → AreAlike i.tokens j.tokens → simple_spec.is_zero (peek i) (bytes i) ≡ simple_spec.is_zero (peek j) (bytes j)
zero_alike i j alike = rw (peek_alike i j alike, bytes_alike i j alike) refl

pub nil_moves : Moves simple_spec.nil simple_spec.nil
unfolding simple_spec.nil nil_if
nil_moves = record { does = λ i j alike. (by_moves nil_if nil_if nil_if_moves (simple_spec.is_zero (peek i) (bytes i)) (simple_spec.is_zero (peek j) (bytes j)) (zero_alike i j alike)).does i j alike }

address_moves : Moves simple_spec.address simple_spec.address
unfolding simple_spec.address
address_moves = bind_moves (expect_moves terms.Address) (λ a b. name_moves)

lock_argument_moves : Moves simple_spec.lock_argument simple_spec.lock_argument
unfolding simple_spec.lock_argument
lock_argument_moves = bind_moves (expect_moves terms.LeftParen) (λ a b. bind_moves address_moves (λ x y. bind_moves (expect_moves terms.RightParen) (λ c d. pure_moves _ _)))

exit_argument_moves : Moves simple_spec.exit_argument simple_spec.exit_argument
unfolding simple_spec.exit_argument
exit_argument_moves = bind_moves (expect_moves terms.LeftParen) (λ a b. bind_moves nil_moves (λ x y. bind_moves (expect_moves terms.RightParen) (λ c d. pure_moves _ _)))

init_moves : (from other : ℕ) → Moves (simple_spec.init from) (simple_spec.init other)
unfolding simple_spec.init
init_moves from other = bind_moves (expect_moves terms.LeftParen) (λ a b. bind_moves address_moves (λ x y. bind_moves (expect_moves terms.Comma) (λ c d. bind_moves nil_moves (λ n o. bind_moves (expect_moves terms.RightParen) (λ e f. pure_moves _ _)))))

create_moves : (from other : ℕ) → Moves (simple_spec.create from) (simple_spec.create other)
unfolding simple_spec.create
create_moves from other = bind_moves (expect_moves terms.LeftParen) (λ a b. bind_moves address_moves (λ x y. bind_moves (expect_moves terms.Comma) (λ c d. bind_moves nil_moves (λ n o. bind_moves (expect_moves terms.Comma) (λ e f.
    bind_moves name_moves (λ v w. bind_moves (expect_moves terms.Comma) (λ g h. bind_moves nil_moves (λ r s. bind_moves (expect_moves terms.RightParen) (λ k l. pure_moves _ _)))))))))

join_moves : (from other : ℕ) → Moves (simple_spec.join from) (simple_spec.join other)
unfolding simple_spec.join
join_moves from other = bind_moves (expect_moves terms.LeftParen) (λ a b. bind_moves name_moves (λ x y. bind_moves (expect_moves terms.Comma) (λ c d. bind_moves nil_moves (λ n o. bind_moves (expect_moves terms.RightParen) (λ e f. pure_moves _ _)))))

module _ (levels : ℕ) where
  right_by_moves : (k : Term) → Moves (simple_spec.right_by levels k) (simple_spec.right_by levels k)
  right_by_moves terms.Nondet = bind_moves nondet_moves (λ x y. pure_moves _ _)
  right_by_moves _ = bind_moves (expr_moves levels) (λ x y. pure_moves _ _)

  right_moves : Moves (simple_spec.right levels) (simple_spec.right levels)
  unfolding simple_spec.right
  right_moves = looked_moves right_by_moves

  cond_by_moves : (k : Term) → Moves (simple_spec.cond_by levels k) (simple_spec.cond_by levels k)
  cond_by_moves terms.Nondet = bind_moves nondet_moves (λ x y. pure_moves _ _)
  cond_by_moves _ = bind_moves (expr_moves levels) (λ x y. pure_moves _ _)

  pub cond_moves : Moves (simple_spec.cond levels) (simple_spec.cond levels)
  unfolding simple_spec.cond
  cond_moves = looked_moves cond_by_moves

  assigned_by_moves : (x y : Name) (k : Term) → Moves (simple_spec.assigned_by levels x k) (simple_spec.assigned_by levels y k)
  assigned_by_moves x y terms.Assign = bind_moves take_moves (λ a b. bind_moves right_moves (λ v w. pure_moves (assigns.Set x v) (assigns.Set y w)))
  assigned_by_moves x y terms.AddTo = bind_moves take_moves (λ a b. bind_moves (expr_moves levels) (λ v w. pure_moves (assigns.Add x v) (assigns.Add y w)))
  assigned_by_moves x y terms.SubtractFrom = bind_moves take_moves (λ a b. bind_moves (expr_moves levels) (λ v w. pure_moves (assigns.Subtract x v) (assigns.Subtract y w)))
  assigned_by_moves x y terms.Increment = bind_moves take_moves (λ a b. pure_moves (assigns.Increment x) (assigns.Increment y))
  assigned_by_moves x y terms.Decrement = bind_moves take_moves (λ a b. pure_moves (assigns.Decrement x) (assigns.Decrement y))
  assigned_by_moves x y _ = refuse_moves

  assigned_moves : Moves (simple_spec.assigned levels) (simple_spec.assigned levels)
  unfolding simple_spec.assigned
  assigned_moves = bind_moves name_moves (λ x y. looked_moves (assigned_by_moves x y))

  assign_by_moves : (k : Term) → Moves (simple_spec.assign_by levels k) (simple_spec.assign_by levels k)
  assign_by_moves terms.Name = assigned_moves
  assign_by_moves terms.Increment = bind_moves take_moves (λ a b. bind_moves name_moves (λ x y. pure_moves (assigns.IncrementFirst a x) (assigns.IncrementFirst b y)))
  assign_by_moves terms.Decrement = bind_moves take_moves (λ a b. bind_moves name_moves (λ x y. pure_moves (assigns.DecrementFirst a x) (assigns.DecrementFirst b y)))
  assign_by_moves _ = refuse_moves

  pub assign_moves : Moves (simple_spec.assign levels) (simple_spec.assign levels)
  unfolding simple_spec.assign
  assign_moves = looked_moves assign_by_moves

  argument_moves : Moves (simple_spec.argument levels) (simple_spec.argument levels)
  unfolding simple_spec.argument
  argument_moves = bind_moves (expect_moves terms.LeftParen) (λ a b. bind_moves (expr_moves levels) (λ x y. bind_moves (expect_moves terms.RightParen) (λ c d. pure_moves _ _)))

  call_by_moves : (k : Term) → Moves (simple_spec.call_by levels k) (simple_spec.call_by levels k)
  call_by_moves terms.Assert = bind_moves take_moves (λ a b. bind_moves argument_moves (λ x y. pure_moves (calls.Assert a x) (calls.Assert b y)))
  call_by_moves terms.Assume = bind_moves take_moves (λ a b. bind_moves argument_moves (λ x y. pure_moves (calls.Assume a x) (calls.Assume b y)))
  call_by_moves terms.ReachError = bind_moves take_moves (λ a b. bind_moves empty_parens_moves (λ x y. pure_moves (calls.ReachError a) (calls.ReachError b)))
  call_by_moves terms.Abort = bind_moves take_moves (λ a b. bind_moves empty_parens_moves (λ x y. pure_moves (calls.Abort a) (calls.Abort b)))
  call_by_moves terms.Exit = bind_moves take_moves (λ a b. bind_moves exit_argument_moves (λ x y. pure_moves (calls.Exit a x) (calls.Exit b y)))
  call_by_moves terms.MutexLock = bind_moves take_moves (λ a b. bind_moves lock_argument_moves (λ x y. pure_moves (calls.Lock a x) (calls.Lock b y)))
  call_by_moves terms.MutexUnlock = bind_moves take_moves (λ a b. bind_moves lock_argument_moves (λ x y. pure_moves (calls.Unlock a x) (calls.Unlock b y)))
  call_by_moves terms.MutexDestroy = bind_moves take_moves (λ a b. bind_moves lock_argument_moves (λ x y. pure_moves (calls.Destroy a x) (calls.Destroy b y)))
  call_by_moves terms.MutexInit = bind_moves take_moves init_moves
  call_by_moves terms.Create = bind_moves take_moves create_moves
  call_by_moves terms.Join = bind_moves take_moves join_moves
  call_by_moves _ = refuse_moves

  pub call_moves : Moves (simple_spec.call levels) (simple_spec.call levels)
  unfolding simple_spec.call
  call_moves = looked_moves call_by_moves

  start_if_moves : (b : Bool) → Moves (simple_spec.start_if levels b) (simple_spec.start_if levels b)
  start_if_moves true = bind_moves right_moves (λ x y. pure_moves _ _)
  start_if_moves false = pure_moves _ _

  lname_moves : Moves (simple_spec.lname levels) (simple_spec.lname levels)
  unfolding simple_spec.lname
  lname_moves = bind_moves name_moves (λ x y. eaten_moves terms.Assign (λ b. bind_moves (start_if_moves b) (λ s t. pure_moves {A = Lname} (record { name = x; start = s }) (record { name = y; start = t }))))

-- ---- words in front of a type

quals_by : (n : ℕ) → Moves (simple_spec.quals_from n) (simple_spec.quals_from n) → (q r : Option Qual) → SameSome q r → Moves (simple_spec.quals_behind q (simple_spec.quals_from n)) (simple_spec.quals_behind r (simple_spec.quals_from n))
quals_by n others None None same = pure_moves [] []
quals_by n others None (Some r) same = absurd same
quals_by n others (Some q) None same = absurd same
quals_by n others (Some q) (Some r) same = bind_moves take_moves (λ a b. bind_moves others (λ xs ys. pure_moves (q ∷ xs) (r ∷ ys)))

quals_from_moves : (n : ℕ) → Moves (simple_spec.quals_from n) (simple_spec.quals_from n)
unfolding simple_spec.quals_from
quals_from_moves zero = pure_moves [] []
quals_from_moves (suc n) = record { does = λ i j alike. (quals_by n (quals_from_moves n) (mark_at simple_spec.qual_mark i) (mark_at simple_spec.qual_mark j) (marks_alike simple_spec.qual_mark qual_marked i j alike)).does i j alike }

pub quals_moves : Moves simple_spec.quals simple_spec.quals
unfolding simple_spec.quals
quals_moves = record { does = λ i j alike. (by_moves simple_spec.quals_from simple_spec.quals_from quals_from_moves (length i.tokens) (length j.tokens) (length_alike i.tokens j.tokens alike)).does i j alike }

itype_by_moves : (k : Term) → Moves (simple_spec.itype_by k) (simple_spec.itype_by k)
itype_by_moves terms.Int = bind_moves take_moves (λ a b. pure_moves (itypes.Int a) (itypes.Int b))
itype_by_moves terms.Long = bind_moves take_moves (λ a b. eaten_moves terms.Int (λ c. pure_moves (simple_spec.long_if a c) (simple_spec.long_if b c)))
itype_by_moves _ = refuse_moves

pub itype_moves : Moves simple_spec.itype simple_spec.itype
unfolding simple_spec.itype
itype_moves = looked_moves itype_by_moves

pub local_moves : (levels : ℕ) → Moves (simple_spec.local levels) (simple_spec.local levels)
unfolding simple_spec.local
local_moves levels = bind_moves here_moves (λ a b. bind_moves quals_moves (λ qs rs. bind_moves itype_moves (λ t u. bind_moves (lname_moves levels) (λ x y. bind_moves (more_moves simple_spec.comma_mark comma_marked _ _ (lname_moves levels))
    (λ xs ys. bind_moves (expect_moves terms.Semicolon) (λ c d. pure_moves {A = Local} (record { from = a; quals = qs; itype = t; first = x; more = xs }) (record { from = b; quals = rs; itype = u; first = y; more = ys })))))))

pub handles_moves : Moves simple_spec.handles simple_spec.handles
unfolding simple_spec.handles
handles_moves = bind_moves (expect_moves terms.HandleType) (λ a b. bind_moves name_moves (λ x y. bind_moves (more_moves simple_spec.comma_mark comma_marked _ _ name_moves) (λ xs ys. bind_moves (expect_moves terms.Semicolon) (λ c d. pure_moves _ _))))
