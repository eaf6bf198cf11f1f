-- Where a text is refused: at its first token that no tree goes on with, or that opens a level too many.
use Rattle.std.specs.Prelude.{◌≡◌, ◌⊎◌, ℕ, ◌<◌, List, [], ◌∷◌, ◌++◌, length, Result, Ok, Err}
use Rattle.std.specs.List.{AllByRecursion}
use Rattle.thr_base.specs.declared.stops.Refusal.{Refusal}
use Rattle.thr_base.specs.declared.stops.Stop.{Stop}
use Rattle.thr_base.specs.Limits.{most_levels}
use Rattle.thr_base.specs.Refusals.{MatchStop}
use Rattle.c_lex.specs.Tokens.{Lexeme, lexed}
use Rattle.c_tree.specs.declared.item.Item.{Item}
use Rattle.c_tree.specs.declared.item.Tree.{Tree}
use Rattle.c_tree.specs.Next.{refusal_at, too_deep_at}
use Rattle.c_tree.specs.GrammarItem.{IsTreeWithin}
use Rattle.c_tree.specs.Seen.{plain_items}
use Rattle.c_tree.specs.Beyond.{items_beyond}

-- ---- trees of any depth, as their items

-- Tokens are those of a tree, with however many levels.
abbrev pub IsAnyTree : List Item → List Lexeme → Type 0
IsAnyTree items tokens = (levels : ℕ) × IsTreeWithin levels items tokens

-- Some tree has tokens that begin with these.
abbrev pub BeginsATree : List Lexeme → Type 0
BeginsATree front = (more : List Lexeme) × (items : List Item) × IsAnyTree items (front ++ more)

-- the places of the tokens of a tree that open a level too many
abbrev pub too_many_in : List Item → List ℕ
too_many_in items = items_beyond (plain_items items) most_levels

-- ---- the refused token

-- The same token comes next in both, or none does.
abbrev pub SameNext : List Lexeme → List Lexeme → Type 0
SameNext [] [] = Unit {0}
SameNext [] (u ∷ us) = ⊥
SameNext (t ∷ ts) [] = ⊥
SameNext (t ∷ ts) (u ∷ us) = t ≡ u

-- No tree goes on with the next token, or ends where there is none.
abbrev pub NoTreeGoesOn : List Lexeme → List Lexeme → Type 0
NoTreeGoesOn front rest = (more : List Lexeme) (items : List Item) → SameNext rest more → IsAnyTree items (front ++ more) → ⊥

-- The first of places is this one.
abbrev pub IsFirstOf : ℕ → List ℕ → Type 0
IsFirstOf place [] = ⊥
IsFirstOf place (p ∷ places) = p ≡ place

-- Trees go on with the token, and in each the first that opens a level too many is at its place.
abbrev pub OpensTooMany : List Lexeme → List Lexeme → Type 0
OpensTooMany front [] = ⊥
OpensTooMany front (t ∷ rest) =
    BeginsATree (front ++ t ∷ []) × ((more : List Lexeme) (items : List Item) → IsAnyTree items (front ++ t ∷ more) → IsFirstOf t.from (too_many_in items))

-- ---- the tokens in front of it

-- The tokens stand behind all of these.
abbrev pub AreBehind : List Lexeme → List Lexeme → Type 0
AreBehind front more = AllByRecursion (λ u. AllByRecursion (λ t. t.from < u.from) front) more

-- The first of places, if there is one, is behind these tokens.
abbrev pub IsFirstBehind : List Lexeme → List ℕ → Type 0
IsFirstBehind front [] = Unit {0}
IsFirstBehind front (p ∷ places) = AllByRecursion (λ t. t.from < p) front

-- None of the tokens opens a level too many: in a tree that goes on behind them, the first that does is behind them.
abbrev pub NoneOpensTooMany : List Lexeme → Type 0
NoneOpensTooMany front = (more : List Lexeme) (items : List Item) → AreBehind front more → IsAnyTree items (front ++ more) → IsFirstBehind front (too_many_in items)

-- ---- refusals

-- The tokens of a text of so many bytes are refused at one of them, or at their end. Those in front begin a tree; and the
-- refused one opens a level too many, or no tree goes on with it and none in front opens a level too many.
abbrev pub IsRefusedWith : ℕ → List Lexeme → Refusal → Type 0
IsRefusedWith end tokens d =
    (front : List Lexeme) × (rest : List Lexeme) × (tokens ≡ front ++ rest) × BeginsATree front
    × (((d ≡ refusal_at end rest) × NoTreeGoesOn front rest × NoneOpensTooMany front) ⊎ ((d ≡ too_deep_at end rest) × OpensTooMany front rest))

-- A text of so many bytes is refused where it has no tokens, at the first place that is faulty; and else where they are.
abbrev pub IsRefusalOver : ℕ → Result (List Lexeme) Refusal → Refusal → Type 0
IsRefusalOver end (Err faulty) d = faulty ≡ d
IsRefusalOver end (Ok tokens) d = IsRefusedWith end tokens d

-- the refusal of a text
abbrev pub IsRefusalOf : List ℕ → Refusal → Type 0
IsRefusalOf text d = IsRefusalOver (length text) (lexed text) d

-- Where an answer refuses a text, the text has this refusal.
abbrev pub IsRefusedBy : List ℕ → Result Tree Stop → Type 0
IsRefusedBy text answer = MatchStop answer (λ tree. Unit {0}) (IsRefusalOf text)
