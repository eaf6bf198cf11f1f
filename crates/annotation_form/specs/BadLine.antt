-- Which line of a text is the first that cannot stand there. Which texts there are of a kind is given, so that this is said of any kind.
use Rattle.std.specs.Prelude.{◌≡◌, ℕ, ◌+◌, List, [], ◌∷◌, ◌++◌, length}
use Rattle.std.specs.List.{AllByRecursion}
use Rattle.annotation_form.specs.Lines.{IsLine, lines_text}

-- Some text of the kind begins with these lines.
pub record Begin (IsOfKind : List ℕ → Type 0) (lines : List (List ℕ)) : Type 0 where
  pub rest : List ℕ
  pub is_text : IsOfKind (lines_text lines ++ rest)

-- What stands behind these lines goes on with a line that cannot stand there.
pub data IsRefused (IsOfKind : List ℕ → Type 0) (lines : List (List ℕ)) (rest : List ℕ) : Type 0 where
  -- it has its line feed, and no text of the kind begins so
  Ended : (line more : List ℕ) → IsLine line → rest ≡ line ++ (10 ∷ more) → ¬ Begin IsOfKind (lines ++ line ∷ []) → IsRefused IsOfKind lines rest
  -- it has no line feed, and the whole is no text of the kind
  NotEnded : IsLine rest → ¬ IsOfKind (lines_text lines ++ rest) → IsRefused IsOfKind lines rest

-- Line n, from 1, is the first that cannot stand in the text: a text of the kind begins with the lines before it, and none
-- goes on with it. Where the text ends too early, the missing line is the one behind the last.
pub record IsBadLine (IsOfKind : List ℕ → Type 0) (text : List ℕ) (n : ℕ) : Type 0 where
  pub before : List (List ℕ)
  pub rest : List ℕ
  pub are_lines : AllByRecursion IsLine before
  pub text_is : text ≡ lines_text before ++ rest
  pub number : n ≡ length before + 1
  pub begin : Begin IsOfKind before
  pub refused : IsRefused IsOfKind before rest
