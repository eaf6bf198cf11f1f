-- What stands at the front of a text that is not empty.
use Rattle.std.specs.Prelude.{ℕ, ◌+◌, ◌^◌, Bool, ◌==◌, ◌&&◌, ◌||◌, not, nat_lt, nat_eq, bytes_eq, codes, if◌then◌else◌, List, [], ◌∷◌, length, take, drop, slice_index, Option, Some, None, option_map, Result, Ok, Err}
use Rattle.std.specs.Char.{is_ascii_digit}
use Rattle.std.specs.List.{prefix_len, take_while, starts_with}
use Rattle.std.specs.Str.Parse.{digits_value}
use Rattle.thr_base.specs.Refusals.{bad_byte, bad_number}
use Rattle.c_lex.specs.declared.token.Kind.{Kind}
use Rattle.c_lex.specs.declared.token.Kind.TheVariants.{Word, Number, Mark, Foreign}
use Rattle.c_lex.specs.declared.piece.Piece.{Piece}
use Rattle.c_lex.specs.Bytes.{is_space, is_separator, is_letter, is_word_byte, is_in_line, is_mark, is_double_mark, is_foreign}

-- so many bytes that are skipped
abbrev pub skipped : ℕ → Result Piece ℕ
skipped n = Ok (record { kind = None; len = n })

-- a token of so many bytes
abbrev pub token_of : Kind → ℕ → Result Piece ℕ
token_of kind n = Ok (record { kind = Some kind; len = n })

-- how many bytes a text has through its first `*/`, where it has one
abbrev pub through_close : List ℕ → Option ℕ
through_close [] = None
through_close (b ∷ bs) = if starts_with nat_eq (b ∷ bs) (codes "*/") then Some 2 else option_map (λ n. 1 + n) (through_close bs)

-- The text goes on with `include` as a word of its own, perhaps behind blanks and tabs.
abbrev pub goes_on_include : List ℕ → Bool
goes_on_include bs = bytes_eq (take_while is_word_byte (drop (prefix_len is_space bs) bs)) (codes "include")

-- a comment, through the next `*/` behind its `/*`
abbrev pub comment_of : Option ℕ → Result Piece ℕ
comment_of None = Err bad_byte
comment_of (Some n) = skipped (2 + n)

-- Digits are the text of a number below 2^127: there is no needless zero.
abbrev pub is_number_text : List ℕ → Bool
is_number_text digits = (length digits == 1 || not (slice_index digits 0 == 48)) && nat_lt (digits_value 10 digits) (2 ^ 127)

-- a run of digits that is the text of a number, and with no letter behind it
abbrev pub number_of : List ℕ → Result Piece ℕ
number_of bs =
    let n = prefix_len is_ascii_digit bs in
    if is_number_text (take n bs) && not (is_letter (slice_index bs n)) then token_of Number n else Err bad_number

-- the longest mark, or a foreign byte
abbrev pub mark_of : List ℕ → Result Piece ℕ
mark_of bs =
    let b = slice_index bs 0 in
    if is_double_mark b (slice_index bs 1) then token_of Mark 2
    else (if is_mark b then token_of Mark 1
    else (if is_foreign b then token_of Foreign 1
    else Err bad_byte))

-- What stands at the front, on a line that has only blanks and tabs so far, or on another: what is skipped, a token,
-- or a broken rule.
unfoldable pub piece_of : Bool → List ℕ → Result Piece ℕ
piece_of fresh bs =
    let b = slice_index bs 0 in
    if is_separator b then skipped 1
    else (if starts_with nat_eq bs (codes "//") then skipped (prefix_len is_in_line bs)
    else (if starts_with nat_eq bs (codes "/*") then comment_of (through_close (drop 2 bs))
    else (if fresh && b == 35 && goes_on_include (drop 1 bs) then skipped (prefix_len is_in_line bs)
    else (if is_letter b then token_of Word (prefix_len is_word_byte bs)
    else (if is_ascii_digit b then number_of bs
    else mark_of bs)))))
