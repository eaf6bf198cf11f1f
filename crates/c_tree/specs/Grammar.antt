-- The grammar of expressions: which tokens a tree stands for. Each relation is between a tree, tokens that begin with those
-- of the tree, and the tokens behind them.
use Rattle.std.specs.Prelude.{◌≡◌, ℕ, zero, suc, ◌^◌, ℤ, pos, not, ◌&&◌, ◌==◌, nat_lt, if◌then◌else◌, List, [], ◌∷◌, length, Option, Some, None}
use Rattle.std.specs.Char.{is_ascii_digit}
use Rattle.std.specs.List.{list_all}
use Rattle.std.specs.Str.Parse.{digits_value}
use Rattle.c_lex.specs.Tokens.{Lexeme}
use Rattle.c_tree.specs.declared.term.Term.{Term}
use Rattle.c_tree.specs.declared.term.Term.TheVariants as terms
use Rattle.c_tree.specs.declared.expr.Name.{Name}
use Rattle.c_tree.specs.declared.expr.Expr.{Expr, out-Expr}
use Rattle.c_tree.specs.declared.expr.Conjunction.{Conjunction, out-Conjunction}
use Rattle.c_tree.specs.declared.expr.Equality.{Equality, out-Equality}
use Rattle.c_tree.specs.declared.expr.EqualityMark.{EqualityMark}
use Rattle.c_tree.specs.declared.expr.EqualityKind.{EqualityKind}
use Rattle.c_tree.specs.declared.expr.EqualityKind.TheVariants as equalities
use Rattle.c_tree.specs.declared.expr.Relation.{Relation, out-Relation}
use Rattle.c_tree.specs.declared.expr.RelationMark.{RelationMark}
use Rattle.c_tree.specs.declared.expr.RelationKind.{RelationKind}
use Rattle.c_tree.specs.declared.expr.RelationKind.TheVariants as relations
use Rattle.c_tree.specs.declared.expr.Sum.{Sum, out-Sum}
use Rattle.c_tree.specs.declared.expr.SumMark.{SumMark}
use Rattle.c_tree.specs.declared.expr.SumKind.{SumKind}
use Rattle.c_tree.specs.declared.expr.SumKind.TheVariants as sums
use Rattle.c_tree.specs.declared.expr.Product.{Product, out-Product}
use Rattle.c_tree.specs.declared.expr.Unary.{Unary, out-Unary}
use Rattle.c_tree.specs.declared.expr.Unary.TheOpen.{Unary-F}
use Rattle.c_tree.specs.declared.expr.UnaryKind.{UnaryKind}
use Rattle.c_tree.specs.declared.expr.UnaryKind.TheVariants as signs
use Rattle.c_tree.specs.Term.{term_of}
use Rattle.c_tree.specs.Next.{bytes_at}

-- The first token is this one, at this place, and `rest` is behind it.
abbrev pub Is : Term → ℕ → List Lexeme → List Lexeme → Type 0
Is term from [] rest = ⊥
Is term from (t ∷ ts) rest = (term_of t ≡ term) × (t.from ≡ from) × (ts ≡ rest)

-- The first token is this one, wherever it stands.
abbrev pub Stands : Term → List Lexeme → List Lexeme → Type 0
Stands term ts rest = (from : ℕ) × Is term from ts rest

-- There is a first token, and it is at this place.
abbrev pub StartsAt : ℕ → List Lexeme → Type 0
StartsAt from [] = ⊥
StartsAt from (t ∷ ts) = t.from ≡ from

-- ---- the marks

abbrev pub equality_term : EqualityKind → Term
equality_term equalities.Equal = terms.Equal
equality_term equalities.Unequal = terms.Unequal

abbrev pub relation_term : RelationKind → Term
relation_term relations.Less = terms.Less
relation_term relations.AtMost = terms.AtMost
relation_term relations.Greater = terms.Greater
relation_term relations.AtLeast = terms.AtLeast

abbrev pub sum_term : SumKind → Term
sum_term sums.Plus = terms.Plus
sum_term sums.Minus = terms.Minus

abbrev pub sign_term : UnaryKind → Term
sign_term signs.Minus = terms.Minus
sign_term signs.Plus = terms.Plus
sign_term signs.Not = terms.Not

abbrev pub IsOrMark : ℕ → List Lexeme → List Lexeme → Type 0
IsOrMark = Is terms.Or

abbrev pub IsAndMark : ℕ → List Lexeme → List Lexeme → Type 0
IsAndMark = Is terms.And

abbrev pub IsEqualityMark : EqualityMark → List Lexeme → List Lexeme → Type 0
IsEqualityMark m = Is (equality_term m.kind) m.from

abbrev pub IsRelationMark : RelationMark → List Lexeme → List Lexeme → Type 0
IsRelationMark m = Is (relation_term m.kind) m.from

abbrev pub IsSumMark : SumMark → List Lexeme → List Lexeme → Type 0
IsSumMark m = Is (sum_term m.kind) m.from

abbrev pub IsProductMark : ℕ → List Lexeme → List Lexeme → Type 0
IsProductMark = Is terms.Star

-- how tightly a mark binds; what is no mark does not
abbrev pub binds : Term → ℕ
binds terms.Star = 6
binds terms.Plus = 5
binds terms.Minus = 5
binds terms.Less = 4
binds terms.AtMost = 4
binds terms.Greater = 4
binds terms.AtLeast = 4
binds terms.Equal = 3
binds terms.Unequal = 3
binds terms.And = 2
binds terms.Or = 1
binds _ = 0

-- ---- items with marks between them

-- marks, each with an item behind it
abbrev pub AreMore : {M A : Type 0} → (M → List Lexeme → List Lexeme → Type 0) → (A → List Lexeme → List Lexeme → Type 0)
    → List (M × A) → List Lexeme → List Lexeme → Type 0
AreMore IsMark IsItem [] ts rest = ts ≡ rest
AreMore IsMark IsItem ((m, x) ∷ more) ts rest =
    (behind : List Lexeme) × (after : List Lexeme) × IsMark m ts behind × IsItem x behind after × AreMore IsMark IsItem more after rest

-- an item, and then marks with items, from this place on
abbrev pub IsLevel : {M A : Type 0} → (M → List Lexeme → List Lexeme → Type 0) → (A → List Lexeme → List Lexeme → Type 0)
    → ℕ → A → List (M × A) → List Lexeme → List Lexeme → Type 0
IsLevel IsMark IsItem from first more ts rest =
    StartsAt from ts × (after : List Lexeme) × IsItem first ts after × AreMore IsMark IsItem more after rest

-- ---- each level over that of operands

module _ (IsOperand : Unary → List Lexeme → List Lexeme → Type 0) where
  abbrev pub IsProduct : Product → List Lexeme → List Lexeme → Type 0
  IsProduct p = IsLevel IsProductMark IsOperand (out-Product p).from (out-Product p).first (out-Product p).more

  abbrev pub IsSum : Sum → List Lexeme → List Lexeme → Type 0
  IsSum s = IsLevel IsSumMark IsProduct (out-Sum s).from (out-Sum s).first (out-Sum s).more

  abbrev pub IsRelation : Relation → List Lexeme → List Lexeme → Type 0
  IsRelation r = IsLevel IsRelationMark IsSum (out-Relation r).from (out-Relation r).first (out-Relation r).more

  abbrev pub IsEquality : Equality → List Lexeme → List Lexeme → Type 0
  IsEquality e = IsLevel IsEqualityMark IsRelation (out-Equality e).from (out-Equality e).first (out-Equality e).more

  abbrev pub IsConjunction : Conjunction → List Lexeme → List Lexeme → Type 0
  IsConjunction c = IsLevel IsAndMark IsEquality (out-Conjunction c).from (out-Conjunction c).first (out-Conjunction c).more

  abbrev pub IsExprOver : Expr → List Lexeme → List Lexeme → Type 0
  IsExprOver e = IsLevel IsOrMark IsConjunction (out-Expr e).from (out-Expr e).first (out-Expr e).more

-- ---- operands

-- the value of digits, where it is below 2^127
abbrev pub number_value : List ℕ → Option ℤ
number_value text =
    if not (length text == 0) && list_all is_ascii_digit text && nat_lt (digits_value 10 text) (2 ^ 127) then Some (pos (digits_value 10 text)) else None

abbrev pub IsName : Name → List Lexeme → List Lexeme → Type 0
IsName name ts rest = Is terms.Name name.from ts rest × (bytes_at ts ≡ name.text)

-- An operand, where those behind its operator or in its parentheses are Inner.
abbrev pub IsLayer : (Unary → List Lexeme → List Lexeme → Type 0) → Unary-F Unary Conjunction Equality Expr Product Relation Sum → List Lexeme → List Lexeme → Type 0
IsLayer Inner (Unary-F.Operator from kind operand) ts rest = (behind : List Lexeme) × Is (sign_term kind) from ts behind × Inner operand behind rest
IsLayer Inner (Unary-F.Paren from inner) ts rest =
    (behind : List Lexeme) × (last : List Lexeme) × Is terms.LeftParen from ts behind × IsExprOver Inner inner behind last × Stands terms.RightParen last rest
IsLayer Inner (Unary-F.Number from value) ts rest = Is terms.Number from ts rest × (number_value (bytes_at ts) ≡ Some value)
IsLayer Inner (Unary-F.Name name) ts rest = IsName name ts rest

-- An operand with at most so many levels of operators and parentheses.
abbrev pub IsUnary : ℕ → Unary → List Lexeme → List Lexeme → Type 0
IsUnary zero u = IsLayer (λ inner ts rest. ⊥) (out-Unary u)
IsUnary (suc levels) u = IsLayer (IsUnary levels) (out-Unary u)

abbrev pub IsExpr : ℕ → Expr → List Lexeme → List Lexeme → Type 0
IsExpr levels = IsExprOver (IsUnary levels)
