-- The tokens of a text.
use Rattle.std.specs.Prelude.{◌≡◌, ℕ, zero, suc, ◌+◌, ◌<◌, ◌≤◌, Bool, true, false, ◌==◌, ◌&&◌, ◌||◌, List, [], ◌∷◌, ◌++◌, length, take, drop, map, slice_index, Option, Some, None, Result, Ok, Err}
use Rattle.std.specs.List.{AllByRecursion, list_all}
use Rattle.std.specs.Str.{all_ascii_digits}
use Rattle.thr_base.specs.declared.stops.Refusal.{Refusal}
use Rattle.c_lex.specs.declared.token.Kind.{Kind}
use Rattle.c_lex.specs.declared.token.Kind.TheVariants.{Word, Number, Mark, Foreign}
use Rattle.c_lex.specs.declared.token.Token.{Token}
use Rattle.c_lex.specs.Bytes.{is_space, is_letter, is_word_byte, is_mark, is_double_mark, is_foreign}
use Rattle.c_lex.specs.Piece.{is_number_text, piece_of}

-- a token: its kind, its bytes, and the place of the first
pub record Lexeme : Type 0 where
  pub kind : Kind
  pub bytes : List ℕ
  pub from : ℕ

abbrev pub view : Token → Lexeme
view t = record { kind = t.kind; bytes = t.text.now; from = t.from }

abbrev pub views : List Token → List Lexeme
views ts = map view ts

infixl 10 ◌>>=◌
abbrev pub ◌>>=◌ : {A B E : Type 0} → Result A E → (A → Result B E) → Result B E
(Ok x) >>= f = f x
(Err e) >>= f = Err e

-- a broken rule, at a place
abbrev pub at_place : {A : Type 0} → ℕ → Result A ℕ → Result A Refusal
at_place from (Ok x) = Ok x
at_place from (Err code) = Err (record { code = code; place = from })

-- A line that has only blanks and tabs so far, or not, after a further piece that begins with the byte b.
abbrev pub is_fresh_after : Bool → ℕ → Bool
is_fresh_after fresh b = b == 10 || (fresh && is_space b)

-- the token that a piece is, if it is one
abbrev pub lexemes_of : Option Kind → List ℕ → ℕ → List Lexeme
lexemes_of None bytes from = []
lexemes_of (Some kind) bytes from = record { kind = kind; bytes = bytes; from = from } ∷ []

-- The tokens of a text that stands at a place, in at most so many pieces.
unfoldable pub tokens_from : ℕ → ℕ → Bool → List ℕ → Result (List Lexeme) Refusal
tokens_from n from fresh [] = Ok []
tokens_from zero from fresh (b ∷ bs) = Ok []
tokens_from (suc n) from fresh (b ∷ bs) = do
  piece ← at_place from (piece_of fresh (b ∷ bs))
  others ← tokens_from n (from + piece.len) (is_fresh_after fresh b) (drop piece.len (b ∷ bs))
  Ok (lexemes_of piece.kind (take piece.len (b ∷ bs)) from ++ others)

-- The tokens of a text, or the first place where a rule is broken. No piece is empty, so there are at most as many
-- pieces as bytes.
abbrev pub lexed : List ℕ → Result (List Lexeme) Refusal
lexed text = tokens_from (length text) 0 true text

-- Each token has at least one byte, and is what the text has at its place, which is `at` or behind it; the next token
-- is behind its end.
abbrev pub StandIn : List ℕ → ℕ → List Lexeme → Type 0
StandIn text at [] = Unit {0}
StandIn text at (t ∷ ts) =
    (at ≤ t.from) × (0 < length t.bytes) × (take (length t.bytes) (drop t.from text) ≡ t.bytes)
    × StandIn text (t.from + length t.bytes) ts

-- the texts of marks
abbrev pub is_mark_text : List ℕ → Bool
is_mark_text [] = false
is_mark_text (b ∷ []) = is_mark b
is_mark_text (b ∷ c ∷ []) = is_double_mark b c
is_mark_text (b ∷ c ∷ d ∷ bs) = false

-- The bytes are a token of the kind, and the longest that stands there, where `next` follows (0 at the end).
abbrev pub IsToken : Kind → List ℕ → ℕ → Type 0
IsToken Word bytes next = (is_letter (slice_index bytes 0) ≡ true) × (list_all is_word_byte bytes ≡ true) × (is_word_byte next ≡ false)
IsToken Number bytes next = (all_ascii_digits bytes ≡ true) × (is_number_text bytes ≡ true) × (is_word_byte next ≡ false)
IsToken Mark bytes next = (is_mark_text bytes ≡ true) × (is_mark_text (bytes ++ next ∷ []) ≡ false)
IsToken Foreign bytes next = (length bytes ≡ 1) × (is_foreign (slice_index bytes 0) ≡ true)

-- Each token is one of its kind, and the longest.
abbrev pub AreTokens : List ℕ → List Lexeme → Type 0
AreTokens text ts = AllByRecursion (λ t. IsToken t.kind t.bytes (slice_index text (t.from + length t.bytes))) ts
