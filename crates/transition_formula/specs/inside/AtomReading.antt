-- What the parts of the reader of atoms say. No public clause cites this file.
use Rattle.std.specs.Prelude.{◌≡◌, ◌≢◌, ℕ, ◌<◌, ℤ, pos, negsuc, Bool, true, false, ◌||◌, ◌==◌, List, [], ◌∷◌, ◌++◌, length, codes}
use Rattle.std.specs.Char.{is_ascii_alphanumeric}
use Rattle.std.specs.List.{AllByRecursion, list_any}
use Rattle.transition_formula.specs.AtomText.{terms_text}

-- what stands in the texts of columns: letters, digits and _ . $ #
abbrev pub is_text_byte : ℕ → Bool
is_text_byte b = is_ascii_alphanumeric b || list_any (λ c. b == c) (codes "_.$#")

-- Neither a blank, a `*` nor a `-`.
pub record IsPlain (b : ℕ) : Type 0 where
  pub no_blank : b ≢ 32
  pub no_star : b ≢ 42
  pub no_minus : b ≢ 45

-- The text has plain bytes alone, at least one.
pub record IsWord (text : List ℕ) : Type 0 where
  pub some : 0 < length text
  pub bytes : AllByRecursion IsPlain text

-- the number is below 0
abbrev pub is_negative : ℤ → Bool
is_negative (pos n) = false
is_negative (negsuc n) = true

-- The text does not begin with a `-`.
abbrev pub HasNoMinus : List ℕ → Type 0
HasNoMinus [] = Unit {0}
HasNoMinus (b ∷ text) = b ≢ 45

-- The text has the terms with these coefficients, and then a bound.
pub record HasTerms (first : Bool) (coefficients : List ℤ) (texts : List (List ℕ)) (bound text : List ℕ) : Type 0 where
  pub text_is : text ≡ terms_text first coefficients texts ++ (codes " <= " ++ bound)
