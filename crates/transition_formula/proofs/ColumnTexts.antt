-- The texts of columns are words that differ.
use Rattle.std.proofs.Common.{◌≡◌, ◌≢◌, ℕ, ◌+◌, ◌-◌, ◌<◌, ◌≤◌, Bool, true, false, ◌&&◌, ◌||◌, pos, codes, Option, Some, None, List, [], ◌∷◌, ◌++◌, length, get_or, map, refl, sym, ap, ◌∙◌, arith, inl, inr, ◌⊎◌, length-append}
use Rattle.std.specs.List.{AllByRecursion, AllPairs, list_all}
use Rattle.std.proofs.Math.ListN.{get_or-append}
use Rattle.std.specs.Char.{is_ascii_digit, IsAsciiDigit}
use Rattle.std.proofs.lemmas.Bool.Decides.{leb_tells, nat_tests}
use Rattle.std.proofs.lemmas.List.{length-map, get_or-map, get_or-append_right, append_cancel_right}
use Rattle.lin_rows.proofs.Lists.{AllByRecursion-append, AllByRecursion-map, AllByRecursion-at, AllByRecursion-weaken}
use Rattle.thr_base.specs.Number.{Fits, number_text}
use Rattle.thr_base.proofs.Numbers.{IsTextOf-number_text}
use Rattle.thr_base.specs.ColumnText.{is_name_start, is_c_name, IsSharedText, variable, started, done, IsOwnName, local, declared_again, temporary, counter, own_text, IsColumnText}
use Rattle.transition_formula.specs.Program.{Column, IsColumn, IsProgram, Program}
use Rattle.transition_formula.specs.AtomText.{column_texts}
use Rattle.transition_formula.specs.inside.AtomReading.{IsPlain, IsWord, is_text_byte}
use Rattle.transition_formula.proofs.Words.{each-from_digits}

-- ---- the bytes of texts

-- The first byte of a name is one of a text.
name_start-byte : (b : ℕ) → is_name_start b ≡ true → is_text_byte b ≡ true
name_start-byte b e = grind (arith, nat_tests)

-- A byte of a name is one of a text.
name-byte : (b : ℕ) → (is_name_start b || is_ascii_digit b) ≡ true → is_text_byte b ≡ true
name-byte b e = grind (arith, nat_tests)

-- A digit is a byte of a text.
digit-byte : (b : ℕ) → IsAsciiDigit b → is_text_byte b ≡ true
digit-byte b e = grind (arith, nat_tests)

-- The first part of a test that holds holds.
both_true-left : (a b : Bool) → (a && b) ≡ true → a ≡ true
both_true-left true b e = refl
both_true-left false b e = e

-- The second part of a test that holds holds.
both_true-right : (a b : Bool) → (a && b) ≡ true → b ≡ true
both_true-right true b e = e
both_true-right false b e = cc

-- What a test says of a byte holds of each byte of a list that passes it.
each-from_list_all : (p : ℕ → Bool) (P : ℕ → Type 0) → ((b : ℕ) → p b ≡ true → P b) → (xs : List ℕ) → list_all p xs ≡ true → AllByRecursion P xs
each-from_list_all p P gives [] all = tt
each-from_list_all p P gives (x ∷ xs) all = (gives x (both_true-left (p x) (list_all p xs) all), each-from_list_all p P gives xs (both_true-right (p x) (list_all p xs) all))

-- a letter, a digit, or one of _ . $ #
abbrev pub IsTextByte : ℕ → Type 0
IsTextByte b = is_text_byte b ≡ true

-- A name has bytes of texts alone.
name-bytes : (name : List ℕ) → is_c_name name ≡ true → AllByRecursion IsTextByte name
name-bytes [] e = cc
name-bytes (b ∷ bytes) e = (
  name_start-byte b (both_true-left (is_name_start b) _ e),
  each-from_list_all (λ c. is_name_start c || is_ascii_digit c) IsTextByte name-byte bytes (both_true-right (is_name_start b) _ e),
)

-- A name is not empty.
name-some : (name : List ℕ) → is_c_name name ≡ true → 0 < length name
name-some [] e = cc
name-some (b ∷ bytes) e = omega arith

-- The text of a number has bytes of texts alone.
number-bytes : (n : ℕ) → Fits (pos n) → AllByRecursion IsTextByte (number_text (pos n))
number-bytes n fits = each-from_digits IsTextByte digit-byte (number_text (pos n)) (IsTextOf-number_text (pos n) fits).digits

-- The text of a shared column has bytes of texts alone.
shared-bytes : (threads : ℕ) (text : List ℕ) → Fits (pos threads) → IsSharedText threads text → AllByRecursion IsTextByte text
shared-bytes threads text few (variable _ is) = name-bytes text is
shared-bytes threads _ few (started i at) =
    AllByRecursion-append IsTextByte (codes "$run") (number_text (pos i)) (refl, (refl, (refl, (refl, tt)))) (number-bytes i (omega (arith, few, at.1)))
shared-bytes threads _ few (done i at) =
    AllByRecursion-append IsTextByte (codes "$done") (number_text (pos i)) (refl, (refl, (refl, (refl, (refl, tt))))) (number-bytes i (omega (arith, few, at.1)))

-- The name of an own column has bytes of texts alone.
own-bytes : (name : List ℕ) → IsOwnName name → AllByRecursion IsTextByte name
own-bytes name (local _ is) = name-bytes name is
own-bytes _ (declared_again name n is many fits) =
    AllByRecursion-append IsTextByte name (codes "#" ++ number_text (pos n)) (name-bytes name is) (refl, number-bytes n fits)
own-bytes _ (temporary k some fits) = (refl, number-bytes k fits)
own-bytes _ counter = (refl, (refl, (refl, tt)))

-- The text of an own column has bytes of texts alone.
own_text-bytes : (i : ℕ) (name : List ℕ) → Fits (pos i) → AllByRecursion IsTextByte name → AllByRecursion IsTextByte (own_text i name)
own_text-bytes i name fits all = (refl, AllByRecursion-append IsTextByte (number_text (pos i)) (codes "." ++ name) (number-bytes i fits) (refl, all))

-- the text of a column has letters, digits and _ . $ # alone
pub text-bytes : (threads : ℕ) (owner : Option ℕ) (text : List ℕ) → Fits (pos threads) → IsColumnText threads owner text → AllByRecursion IsTextByte text
text-bytes threads None text few is = shared-bytes threads text few is
text-bytes threads (Some i) text few is =
    rw is.text_is (own_text-bytes i is.name (omega (arith, few, is.thread_is.1)) (own-bytes is.name is.name_is))

-- The text of a shared column is not empty.
shared-some : (threads : ℕ) (text : List ℕ) → IsSharedText threads text → 0 < length text
shared-some threads text (variable _ is) = name-some text is
shared-some threads _ (started i at) = omega arith
shared-some threads _ (done i at) = omega arith

-- and at least one of these
pub text-some : (threads : ℕ) (owner : Option ℕ) (text : List ℕ) → IsColumnText threads owner text → 0 < length text
text-some threads None text is = shared-some threads text is
text-some threads (Some i) text is = rw is.text_is (omega arith)

-- ---- words

-- A byte of texts differs from a byte that is none.
text_byte-is_not : (b c : ℕ) → is_text_byte b ≡ true → is_text_byte c ≡ false → b ≢ c
text_byte-is_not b c passes fails e = let wrong : is_text_byte c ≡ true = rw (← e) passes in cc

-- A byte of texts is none of the marks between the parts of an atom.
text_byte-plain : (b : ℕ) → IsTextByte b → IsPlain b
text_byte-plain b passes = record { no_blank = text_byte-is_not b 32 passes refl; no_star = text_byte-is_not b 42 passes refl; no_minus = text_byte-is_not b 45 passes refl }

-- The text of a column is a word.
IsWord-column : (threads : ℕ) (column : Column) → Fits (pos threads) → IsColumn threads column → IsWord column.text
IsWord-column threads column few is = record {
  some = text-some threads column.owner column.text is.text_is;
  bytes = AllByRecursion-weaken IsTextByte IsPlain text_byte-plain column.text (text-bytes threads column.owner column.text few is.text_is);
}

-- no quote
no_quotes : (threads : ℕ) (column : Column) → Fits (pos threads) → IsColumn threads column → AllByRecursion (λ b. b ≢ 39) column.text
no_quotes threads column few is =
    AllByRecursion-weaken IsTextByte (λ b. b ≢ 39) (λ b passes. text_byte-is_not b 39 passes refl) column.text (text-bytes threads column.owner column.text few is.text_is)

-- The number of a program's threads fits.
pub few-threads : (program : Program) → IsProgram program → Fits (pos (length program.threads))
few-threads program is = omega (arith, is.few_threads)

-- A word with the mark of what comes after a step is a word.
IsWord-after : (text : List ℕ) → IsWord text → IsWord (text ++ (39 ∷ []))
IsWord-after text is = record {
  some = omega (arith, is.some, length-append text (39 ∷ []));
  bytes = AllByRecursion-append IsPlain text (39 ∷ []) is.bytes (record { no_blank = λ e. omega arith; no_star = λ e. omega arith; no_minus = λ e. omega arith }, tt);
}

-- the texts of columns before a step
abbrev texts_of : List Column → List (List ℕ)
texts_of columns = map (λ column. column.text) columns

-- the texts of columns after a step
abbrev afters_of : List (List ℕ) → List (List ℕ)
afters_of texts = map (λ text. text ++ (39 ∷ [])) texts

-- The texts after a step are those before it with a mark.
afters-are : (columns : List Column) → map (λ column. column.text ++ (39 ∷ [])) columns ≡ afters_of (texts_of columns)
afters-are [] = refl
afters-are (column ∷ columns) = ap (λ rest. (column.text ++ (39 ∷ [])) ∷ rest) (afters-are columns)

-- The texts of columns are those before a step and then those after it.
column_texts-are : (columns : List Column) → column_texts columns ≡ texts_of columns ++ afters_of (texts_of columns)
column_texts-are columns = ap (λ rest. texts_of columns ++ rest) (afters-are columns)

-- All texts of a program's columns are words.
pub column_texts-words : (program : Program) → IsProgram program → AllByRecursion IsWord (column_texts program.columns)
column_texts-words program is =
    let texts = texts_of program.columns in
    let words : AllByRecursion IsWord texts = AllByRecursion-map (IsColumn (length program.threads)) IsWord (λ (column : Column). column.text) (λ column is_its. IsWord-column (length program.threads) column (few-threads program is) is_its) program.columns is.columns_are in
    rw (column_texts-are program.columns) (AllByRecursion-append IsWord texts (afters_of texts) words
    (AllByRecursion-map IsWord IsWord (λ (text : List ℕ). text ++ (39 ∷ [])) IsWord-after texts words))

-- a text with a quote at its end is none without
quote-at_end : (xs ys : List ℕ) → AllByRecursion (λ b. b ≢ 39) xs → xs ≢ ys ++ (39 ∷ [])
quote-at_end [] [] none e = cc
quote-at_end [] (y ∷ ys) none e = cc
quote-at_end (x ∷ xs) [] none e = let same : x ≡ 39 = cc in none.0 same
quote-at_end (x ∷ xs) (y ∷ ys) none e = let same : xs ≡ ys ++ (39 ∷ []) = cc in quote-at_end xs ys none.1 same

-- The text after a step, at a place, is the one before it with a mark.
after-at : (texts : List (List ℕ)) (k : ℕ) → k < length texts → get_or (afters_of texts) k [] ≡ get_or texts k [] ++ (39 ∷ [])
after-at texts k within = get_or-map (λ (text : List ℕ). text ++ (39 ∷ [])) texts k [] [] within

-- The first texts are those before a step.
text-at : (texts : List (List ℕ)) (k : ℕ) → k < length texts → get_or (texts ++ afters_of texts) k [] ≡ get_or texts k []
text-at texts k within = get_or-append texts (afters_of texts) [] k within

-- The others are those after a step.
text-at_after : (texts : List (List ℕ)) (k : ℕ) → length texts ≤ k → k < length texts + length texts → get_or (texts ++ afters_of texts) k [] ≡ get_or texts (k - length texts) [] ++ (39 ∷ [])
text-at_after texts k behind within = get_or-append_right texts (afters_of texts) (length texts) k [] refl behind ∙ after-at texts (k - length texts) (omega arith)

-- Texts before and after a step differ where those before it do and none has the mark.
texts-apart : (texts : List (List ℕ)) → AllPairs (λ a b. a ≢ b) texts → AllByRecursion (λ text. AllByRecursion (λ b. b ≢ 39) text) texts
    → (i j : ℕ) → i < j → j < length texts + length texts
    → get_or (texts ++ afters_of texts) j [] ≢ get_or (texts ++ afters_of texts) i []
texts-apart texts differ plain i j below within same = elim (lt_or_ge j (length texts)) [
  | inl j_in ↦ differ i j [] below j_in (sym (sym (text-at texts j j_in) ∙ same ∙ text-at texts i (omega arith)))
  | inr j_out ↦ elim (lt_or_ge i (length texts)) [
    | inl i_in ↦ quote-at_end (get_or texts i []) (get_or texts (j - length texts) []) (AllByRecursion-at (λ text. AllByRecursion (λ b. b ≢ 39) text) texts i [] plain i_in) (sym (text-at texts i i_in) ∙ sym same ∙ text-at_after texts j j_out within)
    | inr i_out ↦ differ (i - length texts) (j - length texts) [] (omega arith) (omega arith)
        (append_cancel_right (get_or texts (i - length texts) []) (get_or texts (j - length texts) []) (39 ∷ []) (sym (text-at_after texts i i_out (omega arith)) ∙ sym same ∙ text-at_after texts j j_out within))
  ]
]
  where
    lt_or_ge : (a b : ℕ) → (a < b) ⊎ (b ≤ a)
    lt_or_ge a b = elim (leb_tells b a) [ inl p ↦ inr p.1 | inr p ↦ inl p.1 ]

-- the text of a column is none of the later ones
pub column_texts-apart : (program : Program) → IsProgram program → (i j : ℕ) → i < j → j < length program.columns + length program.columns
    → get_or (column_texts program.columns) j [] ≢ get_or (column_texts program.columns) i []
column_texts-apart program is i j below within =
    let texts = texts_of program.columns in
    let plain : AllByRecursion (λ text. AllByRecursion (λ b. b ≢ 39) text) texts = AllByRecursion-map (IsColumn (length program.threads)) (λ text. AllByRecursion (λ b. b ≢ 39) text) (λ (column : Column). column.text) (λ column is_its. no_quotes (length program.threads) column (few-threads program is) is_its) program.columns is.columns_are in
    let length_is : length texts ≡ length program.columns = length-map program.columns (λ (column : Column). column.text) in
    rw (column_texts-are program.columns) (texts-apart texts is.texts_differ plain i j below (omega arith))
