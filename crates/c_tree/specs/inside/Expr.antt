-- How expressions are read.
use Rattle.std.specs.Prelude.{ℕ, zero, suc, ℤ, Option, Some, None}
use Rattle.c_tree.specs.declared.term.Term.{Term}
use Rattle.c_tree.specs.declared.term.Term.TheVariants as terms
use Rattle.c_tree.specs.declared.expr.Name.{Name}
use Rattle.c_tree.specs.declared.expr.Expr.{Expr, roll-Expr}
use Rattle.c_tree.specs.declared.expr.Conjunction.{Conjunction, roll-Conjunction}
use Rattle.c_tree.specs.declared.expr.Equality.{Equality, roll-Equality}
use Rattle.c_tree.specs.declared.expr.EqualityMark.{EqualityMark}
use Rattle.c_tree.specs.declared.expr.EqualityKind.TheVariants as equalities
use Rattle.c_tree.specs.declared.expr.Relation.{Relation, roll-Relation}
use Rattle.c_tree.specs.declared.expr.RelationMark.{RelationMark}
use Rattle.c_tree.specs.declared.expr.RelationKind.TheVariants as relations
use Rattle.c_tree.specs.declared.expr.Sum.{Sum, roll-Sum}
use Rattle.c_tree.specs.declared.expr.SumMark.{SumMark}
use Rattle.c_tree.specs.declared.expr.SumKind.TheVariants as sums
use Rattle.c_tree.specs.declared.expr.Product.{Product, roll-Product}
use Rattle.c_tree.specs.declared.expr.Unary.{Unary}
use Rattle.c_tree.specs.declared.expr.Unary.TheVariants as unaries
use Rattle.c_tree.specs.declared.expr.UnaryKind.{UnaryKind}
use Rattle.c_tree.specs.declared.expr.UnaryKind.TheVariants as signs
use Rattle.c_tree.specs.inside.Input.{Parser, ◌>>=◌, ◌>>◌, pure, refuse, refuse_deep, look, here, take_token, expect, bytes}
use Rattle.c_tree.specs.inside.Chain.{more_of}
pub use Rattle.c_tree.specs.Grammar.{number_value}

-- ---- marks, at their places

abbrev pub or_mark : Term → ℕ → Option ℕ
or_mark terms.Or from = Some from
or_mark _ from = None

abbrev pub and_mark : Term → ℕ → Option ℕ
and_mark terms.And from = Some from
and_mark _ from = None

abbrev pub equality_mark : Term → ℕ → Option EqualityMark
equality_mark terms.Equal from = Some (record { from = from; kind = equalities.Equal })
equality_mark terms.Unequal from = Some (record { from = from; kind = equalities.Unequal })
equality_mark _ from = None

abbrev pub relation_mark : Term → ℕ → Option RelationMark
relation_mark terms.Less from = Some (record { from = from; kind = relations.Less })
relation_mark terms.AtMost from = Some (record { from = from; kind = relations.AtMost })
relation_mark terms.Greater from = Some (record { from = from; kind = relations.Greater })
relation_mark terms.AtLeast from = Some (record { from = from; kind = relations.AtLeast })
relation_mark _ from = None

abbrev pub sum_mark : Term → ℕ → Option SumMark
sum_mark terms.Plus from = Some (record { from = from; kind = sums.Plus })
sum_mark terms.Minus from = Some (record { from = from; kind = sums.Minus })
sum_mark _ from = None

abbrev pub product_mark : Term → ℕ → Option ℕ
product_mark terms.Star from = Some from
product_mark _ from = None

-- ---- names and numbers

unfoldable pub name : Parser Name
name = λ i. (expect terms.Name >>= λ from. pure (record { from = from; text = bytes i })) i

abbrev pub number_of : Option ℤ → Parser ℤ
number_of None = refuse
number_of (Some value) = expect terms.Number >> pure value

unfoldable pub number : Parser ℤ
number = λ i. number_of (number_value (bytes i)) i

-- ---- each level over that of operands

module _ (unary : Parser Unary) where
  unfoldable pub product : Parser Product
  product = do
    from ← here
    first ← unary
    more ← more_of product_mark unary
    pure (roll-Product (record { from = from; first = first; more = more }))

  unfoldable pub sum : Parser Sum
  sum = do
    from ← here
    first ← product
    more ← more_of sum_mark product
    pure (roll-Sum (record { from = from; first = first; more = more }))

  unfoldable pub relation : Parser Relation
  relation = do
    from ← here
    first ← sum
    more ← more_of relation_mark sum
    pure (roll-Relation (record { from = from; first = first; more = more }))

  unfoldable pub equality : Parser Equality
  equality = do
    from ← here
    first ← relation
    more ← more_of equality_mark relation
    pure (roll-Equality (record { from = from; first = first; more = more }))

  unfoldable pub conjunction : Parser Conjunction
  conjunction = do
    from ← here
    first ← equality
    more ← more_of and_mark equality
    pure (roll-Conjunction (record { from = from; first = first; more = more }))

  unfoldable pub expr_over : Parser Expr
  expr_over = do
    from ← here
    first ← conjunction
    more ← more_of or_mark conjunction
    pure (roll-Expr (record { from = from; first = first; more = more }))

-- ---- operands, with a number of levels that are left

-- behind an operator or an opening parenthesis, if a level is left
abbrev pub operated : Option (Parser Unary) → UnaryKind → Parser Unary
operated None kind = refuse_deep
operated (Some unary) kind = do
  from ← take_token
  operand ← unary
  pure (unaries.Operator from kind operand)

abbrev pub parenthesized : Option (Parser Unary) → Parser Unary
parenthesized None = refuse_deep
parenthesized (Some unary) = do
  from ← take_token
  inner ← expr_over unary
  closed ← expect terms.RightParen
  pure (unaries.Paren from inner)

abbrev pub number_operand : Parser Unary
number_operand = do
  from ← here
  value ← number
  pure (unaries.Number from value)

abbrev pub name_operand : Parser Unary
name_operand = do
  called ← name
  pure (unaries.Name called)

abbrev pub unary_by : Option (Parser Unary) → Term → Parser Unary
unary_by deeper terms.Minus = operated deeper signs.Minus
unary_by deeper terms.Plus = operated deeper signs.Plus
unary_by deeper terms.Not = operated deeper signs.Not
unary_by deeper terms.LeftParen = parenthesized deeper
unary_by deeper terms.Number = number_operand
unary_by deeper terms.Name = name_operand
unary_by deeper _ = refuse

unfoldable pub unary_with : Option (Parser Unary) → Parser Unary
unary_with deeper = look >>= unary_by deeper

unfoldable pub unary : ℕ → Parser Unary
unary zero = unary_with None
unary (suc levels) = unary_with (Some (unary levels))

-- operands one level deeper, if a level is left
abbrev pub deeper : ℕ → Option (Parser Unary)
deeper zero = None
deeper (suc levels) = Some (unary levels)

abbrev pub expr : ℕ → Parser Expr
expr levels = expr_over (unary levels)
