-- What a parser reads from, and the steps that every rule is made of.
use Rattle.std.specs.Prelude.{◌≡◌, ℕ, Bool, List, drop, Result, Ok, Err, if◌then◌else◌}
use Rattle.thr_base.specs.declared.stops.Refusal.{Refusal}
use Rattle.thr_base.specs.declared.stops.Stop.{Stop}
use Rattle.thr_base.specs.declared.stops.Stop.TheVariants.{Refused, Memory}
use Rattle.thr_base.specs.Refusals.{too_many}
use Rattle.c_lex.specs.Tokens.{Lexeme}
use Rattle.c_tree.specs.declared.term.Term.{Term}
use Rattle.c_tree.specs.Term.{same_term}
pub use Rattle.c_tree.specs.Next.{term_at, place_at, bytes_at, refusal_code}

-- the tokens that are left, and the length of the text
pub record Input : Type 0 where
  pub tokens : List Lexeme
  pub end : ℕ

-- ---- the next token

unfoldable pub peek : Input → Term
peek i = term_at i.tokens

-- where the next token begins, or the text ends
unfoldable pub place : Input → ℕ
place i = place_at i.end i.tokens

unfoldable pub bytes : Input → List ℕ
bytes i = bytes_at i.tokens

unfoldable pub next : Input → Input
next i = record { tokens = drop 1 i.tokens; end = i.end }

-- ---- refusals

-- no text of the grammar has the next token there
unfoldable pub refusal : Input → Refusal
refusal i = record { code = refusal_code (peek i); place = place i }

-- the next token opens a level too many
unfoldable pub too_deep : Input → Refusal
too_deep i = record { code = too_many; place = place i }

-- ---- parsers

abbrev pub Outcome : Type 0 → Type 0
Outcome A = Result (A × Input) Refusal

abbrev pub Parser : Type 0 → Type 0
Parser A = Input → Outcome A

abbrev pub and_then : {A B : Type 0} → Outcome A → (A → Parser B) → Outcome B
and_then (Ok p) f = f p.0 p.1
and_then (Err e) f = Err e

infixl 10 ◌>>=◌
abbrev pub ◌>>=◌ : {A B : Type 0} → Parser A → (A → Parser B) → Parser B
p >>= f = λ i. and_then (p i) f

infixl 10 ◌>>◌
abbrev pub ◌>>◌ : {A B : Type 0} → Parser A → Parser B → Parser B
p >> q = p >>= (λ _. q)

abbrev pub pure : {A : Type 0} → A → Parser A
pure a = λ i. Ok (a, i)

abbrev pub refuse : {A : Type 0} → Parser A
refuse = λ i. Err (refusal i)

abbrev pub refuse_deep : {A : Type 0} → Parser A
refuse_deep = λ i. Err (too_deep i)

abbrev pub look : Parser Term
look = λ i. Ok (peek i, i)

-- where the next token begins
abbrev pub here : Parser ℕ
here = λ i. Ok (place i, i)

-- takes the next token, and answers where it begins
abbrev pub take_token : Parser ℕ
take_token = λ i. Ok (place i, next i)

unfoldable pub sees : Term → Input → Bool
sees k i = same_term (peek i) k

unfoldable pub after : Term → Input → Input
after k i = if sees k i then next i else i

-- takes a token of this term, if it comes next
abbrev pub eat : Term → Parser Bool
eat k = λ i. Ok (sees k i, after k i)

-- takes a token of this term, and answers where it begins
unfoldable pub expect : Term → Parser ℕ
expect k = λ i. if sees k i then Ok (place i, next i) else refuse i

-- ---- what a function that parses ensures: the parser's outcome, unless memory fails

abbrev pub Reads : {A : Type 0} → Outcome A → Result A Stop → Input → Type 0
Reads outcome (Ok a) new = outcome ≡ Ok (a, new)
Reads outcome (Err Memory) new = Unit {0}
Reads outcome (Err (Refused refusal)) new = outcome ≡ Err refusal
