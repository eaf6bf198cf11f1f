-- Parts of a text, one behind another. A part is a relation between tokens that begin with those of the part and the
-- tokens behind them.
use Rattle.std.specs.Prelude.{◌≡◌, ℕ, List, [], ◌∷◌, Option, Some, None}
use Rattle.c_lex.specs.Tokens.{Lexeme}
use Rattle.c_tree.specs.declared.term.Term.{Term}
use Rattle.c_tree.specs.declared.term.Term.TheVariants as terms
use Rattle.c_tree.specs.Grammar.{Is, Stands, AreMore}

abbrev pub Part : Type 1
Part = List Lexeme → List Lexeme → Type 0

-- no token
abbrev pub NoToken : Part
NoToken ts rest = ts ≡ rest

-- one part, and the other behind it
infixr 30 ◌then◌
abbrev pub ◌then◌ : Part → Part → Part
P then Q = λ ts rest. (behind : List Lexeme) × P ts behind × Q behind rest

-- a token at a place, and a part behind it
abbrev pub Headed : Term → ℕ → Part → Part
Headed term from Behind = Is term from then Behind

-- a part, or nothing
abbrev pub Perhaps : {A : Type 0} → (A → Part) → Option A → Part
Perhaps IsItem None = NoToken
Perhaps IsItem (Some x) = IsItem x

-- parts one behind another
abbrev pub AreAll : {A : Type 0} → (A → Part) → List A → Part
AreAll IsItem [] = NoToken
AreAll IsItem (x ∷ xs) = IsItem x then AreAll IsItem xs

abbrev pub InParens : Part → Part
InParens Inner = Stands terms.LeftParen then Inner then Stands terms.RightParen

-- `()`
abbrev pub EmptyParens : Part
EmptyParens = Stands terms.LeftParen then Stands terms.RightParen

abbrev pub IsComma : ℕ → Part
IsComma = Is terms.Comma

-- items with commas between them, and a semicolon
abbrev pub IsList : {A : Type 0} → (A → Part) → A → List (ℕ × A) → Part
IsList IsItem first more = IsItem first then AreMore IsComma IsItem more then Stands terms.Semicolon
