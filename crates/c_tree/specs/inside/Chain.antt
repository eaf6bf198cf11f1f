-- Items with marks between them.
use Rattle.std.specs.Prelude.{ℕ, zero, suc, List, [], ◌∷◌, length, Option, Some, None}
use Rattle.c_tree.specs.declared.term.Term.{Term}
use Rattle.c_tree.specs.inside.Input.{Input, Parser, ◌>>=◌, pure, peek, place, next}

-- the mark that comes next, if one does
abbrev pub mark_at : {M : Type 0} → (Term → ℕ → Option M) → Input → Option M
mark_at mark i = mark (peek i) (place i)

-- the input behind a mark, if there is one
abbrev pub past : {M : Type 0} → Option M → Input → Input
past None i = i
past (Some m) i = next i

-- A mark and what stands behind it, or nothing where there is no mark, and then what `others` gives.
abbrev pub one_more : {M A : Type 0} → Parser A → Parser (List (M × A)) → Option M → Parser (List (M × A))
one_more item others None = pure []
one_more item others (Some m) = do
  x ← item
  xs ← others
  pure ((m, x) ∷ xs)

-- marks with what stands behind each, as far as they go; the number bounds how many
unfoldable pub more_from : {M A : Type 0} → (Term → ℕ → Option M) → Parser A → ℕ → Parser (List (M × A))
more_from mark item zero = pure []
more_from mark item (suc n) = λ i. one_more item (more_from mark item n) (mark_at mark i) (past (mark_at mark i) i)

-- Each mark is a token, so there are no more than tokens.
unfoldable pub more_of : {M A : Type 0} → (Term → ℕ → Option M) → Parser A → Parser (List (M × A))
more_of mark item = λ i. more_from mark item (length i.tokens) i
