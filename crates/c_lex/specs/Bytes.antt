-- Which part a byte plays in a text.
use Rattle.std.specs.Prelude.{ℕ, List, ◌∷◌, Bool, ◌==◌, ◌&&◌, ◌||◌, not, codes}
use Rattle.std.specs.Char.{is_ascii_alphabetic, is_ascii_digit}
use Rattle.std.specs.List.{list_any}

-- the byte is one of those of a text
abbrev pub is_one_of : List ℕ → ℕ → Bool
is_one_of bytes b = list_any (λ x. x == b) bytes

-- a blank or a tab
abbrev pub is_space : ℕ → Bool
is_space b = b == 32 || b == 9

-- what separates tokens: a blank, a tab, a line feed or a carriage return
abbrev pub is_separator : ℕ → Bool
is_separator b = is_space b || b == 10 || b == 13

-- what a word begins with
abbrev pub is_letter : ℕ → Bool
is_letter b = is_ascii_alphabetic b || b == 95

-- what a word goes on with
abbrev pub is_word_byte : ℕ → Bool
is_word_byte b = is_letter b || is_ascii_digit b

-- what a line goes on with
abbrev pub is_in_line : ℕ → Bool
is_in_line b = not (b == 10)

-- one byte that is a mark
abbrev pub is_mark : ℕ → Bool
is_mark b = is_one_of (codes "(){};,=<>+-*!&") b

-- two bytes that are one mark: `== != <= >= += -=` or `&& || ++ --`
abbrev pub is_double_mark : ℕ → ℕ → Bool
is_double_mark b c = (c == 61 && is_one_of (codes "=!<>+-") b) || (b == c && is_one_of (codes "&|+-") b)

-- one byte that is a token, and no mark: `/ % [ ] . ? : | ^ ~ " ' #`
abbrev pub is_foreign : ℕ → Bool
is_foreign b = is_one_of (34 ∷ codes "/%[].?:|^~'#") b
