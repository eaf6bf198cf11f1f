-- Items up to a token that ends them.
use Rattle.std.specs.Prelude.{ℕ, zero, suc, Bool, true, false, List, [], ◌∷◌, length}
use Rattle.c_tree.specs.declared.term.Term.{Term}
use Rattle.c_tree.specs.inside.Input.{Parser, ◌>>=◌, pure, refuse, sees}

-- nothing where the end comes, and else an item and what `others` gives
abbrev pub one_or_end : {A : Type 0} → Parser A → Parser (List A) → Bool → Parser (List A)
one_or_end item others true = pure []
one_or_end item others false = do
  x ← item
  xs ← others
  pure (x ∷ xs)

-- items up to the end, which is not taken; the number bounds how many
unfoldable pub many_from : {A : Type 0} → Term → Parser A → ℕ → Parser (List A)
many_from end item zero = refuse
many_from end item (suc n) = λ i. one_or_end item (many_from end item n) (sees end i) i

-- Each item takes a token, so there are no more than tokens.
unfoldable pub many : {A : Type 0} → Term → Parser A → Parser (List A)
many end item = λ i. many_from end item (suc (length i.tokens)) i
