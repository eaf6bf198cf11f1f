-- The texts of columns and atoms are printable.
use Rattle.std.proofs.Common.{◌≡◌, ◌≢◌, ◌==◌, ◌&&◌, ℕ, ◌≤◌, ℤ, pos, negsuc, Bool, true, false, List, [], ◌∷◌, ◌++◌, length, map, codes, unsigned_abs, refl, sym, subst, ◌∙◌, arith, Option}
use Rattle.std.specs.Prelude.{if◌then◌else◌}
use Rattle.std.specs.List.{AllByRecursion}
use Rattle.std.specs.Char.{IsAsciiDigit}
use Rattle.std.proofs.lemmas.Bool.Decides.{nat_tests}
use Rattle.thr_base.specs.Number.{Fits, number_text}
use Rattle.thr_base.proofs.Numbers.{IsTextOf-number_text}
use Rattle.lin_rows.proofs.Lists.{AllByRecursion-append, AllByRecursion-map, AllByRecursion-weaken}
use Rattle.lin_rows.proofs.Numbers.{Fits-unsigned_abs}
use Rattle.transition_formula.specs.Program.{Program, Column, IsColumn, IsProgram}
use Rattle.transition_formula.specs.AtomText.{column_texts, joint, factor, term_text, terms_text}
use Rattle.transition_formula.specs.TextLaws.{IsPrintable, IsOfName, ColumnTextsAreWords, AtomTextsArePrintable}
use Rattle.transition_formula.specs.inside.AtomReading.{is_text_byte}
use Rattle.transition_formula.proofs.ColumnTexts.{IsTextByte, text-bytes, text-some, few-threads}
use Rattle.transition_formula.proofs.Words.{each-from_digits}

-- ---- columns

-- A byte of texts differs from a byte that is none.
not-byte : (b c : ℕ) → IsTextByte b → is_text_byte c ≡ false → b ≢ c
not-byte b c passes fails e = let wrong : is_text_byte c ≡ true = subst IsTextByte e passes in (let both : true ≡ false = sym wrong ∙ fails in cc)

-- A byte of texts is from the blank on.
from-blank : (b : ℕ) → IsTextByte b → 32 ≤ b
from-blank b e = grind (arith, nat_tests)

-- A byte of texts is up to the tilde.
to-tilde : (b : ℕ) → IsTextByte b → b ≤ 126
to-tilde b e = grind (arith, nat_tests)

-- A byte of texts is one of a column's name.
of-name : (b : ℕ) → IsTextByte b → IsOfName b
of-name b e = record {
  printable = record { from = from-blank b e; to = to-tilde b e };
  no_blank = not-byte b 32 e refl;
  no_quote = not-byte b 39 e refl;
  no_star = not-byte b 42 e refl;
  no_minus = not-byte b 45 e refl;
}

-- The texts of columns have no byte that parts of atoms are joined by.
pub column-words : ColumnTextsAreWords
column-words threads owner text few is = record {
  some = text-some threads owner text is;
  bytes = AllByRecursion-weaken IsTextByte IsOfName of-name text (text-bytes threads owner text (omega (arith, few)) is);
}

-- ---- atoms

-- all bytes of a text are printable
abbrev ArePrintable : List ℕ → Type 0
ArePrintable text = AllByRecursion IsPrintable text

-- A byte from the blank to the tilde is printable.
byte : (b : ℕ) → 32 ≤ b → b ≤ 126 → IsPrintable b
byte b from to = record { from = from; to = to }

-- Two printable texts, one behind the other, are printable.
both : (xs ys : List ℕ) → ArePrintable xs → ArePrintable ys → ArePrintable (xs ++ ys)
both xs ys p q = AllByRecursion-append IsPrintable xs ys p q

-- A digit is printable.
digit-printable : (b : ℕ) → IsAsciiDigit b → IsPrintable b
digit-printable b digit = byte b (omega (arith, digit)) (omega (arith, digit))

-- The text of a number is printable.
number-printable : (z : ℤ) → Fits z → ArePrintable (number_text z)
number-printable (pos n) h = each-from_digits IsPrintable digit-printable (number_text (pos n)) (IsTextOf-number_text (pos n) h).digits
number-printable (negsuc n) h =
    let is = IsTextOf-number_text (negsuc n) h in
    subst ArePrintable (sym is.1) (byte 45 (omega arith) (omega arith), each-from_digits IsPrintable digit-printable is.0 is.2.digits)

-- The blank is printable.
blank : IsPrintable 32
blank = byte 32 (omega arith) (omega arith)

-- The plus is printable.
plus : IsPrintable 43
plus = byte 43 (omega arith) (omega arith)

-- The minus is printable.
minus : IsPrintable 45
minus = byte 45 (omega arith) (omega arith)

-- The joint in front of a term is printable.
joint-printable : (first : Bool) (k : ℤ) → ArePrintable (joint first k)
joint-printable true (pos n) = tt
joint-printable true (negsuc n) = (minus, tt)
joint-printable false (pos n) = (blank, (plus, (blank, tt)))
joint-printable false (negsuc n) = (blank, (minus, (blank, tt)))

-- The one or the other of two printable texts is printable.
either : (b : Bool) (xs ys : List ℕ) → ArePrintable xs → ArePrintable ys → ArePrintable (if b then xs else ys)
either true xs ys p q = p
either false xs ys p q = q

-- The factor of a term is printable.
factor-printable : (size : ℕ) → Fits (pos size) → ArePrintable (factor size)
factor-printable size h = either (size == 1) [] (number_text (pos size) ++ codes "*") tt (both (number_text (pos size)) (codes "*") (number-printable (pos size) h) (byte 42 (omega arith) (omega arith), tt))

-- A term is printable where its column's text is.
term-printable : (first : Bool) (k : ℤ) (text : List ℕ) → Fits k → ArePrintable text → ArePrintable (term_text first k text)
term-printable first k text h p =
    either (unsigned_abs k == 0) [] (joint first k ++ (factor (unsigned_abs k) ++ text)) tt
    (both (joint first k) (factor (unsigned_abs k) ++ text) (joint-printable first k) (both (factor (unsigned_abs k)) text (factor-printable (unsigned_abs k) (Fits-unsigned_abs k h)) p))

-- Terms are printable where the texts of their columns are.
terms-printable : (first : Bool) (ks : List ℤ) (texts : List (List ℕ)) → AllByRecursion Fits ks → AllByRecursion ArePrintable texts → ArePrintable (terms_text first ks texts)
terms-printable first [] texts fit all = tt
terms-printable first (k ∷ ks) [] fit all = tt
terms-printable first (k ∷ ks) (text ∷ texts) fit all =
    both (term_text first k text) (terms_text (first && (unsigned_abs k == 0)) ks texts) (term-printable first k text fit.0 all.0) (terms-printable (first && (unsigned_abs k == 0)) ks texts fit.1 all.1)

-- The text of a column is printable.
column-printable : (threads : ℕ) (column : Column) → Fits (pos threads) → IsColumn threads column → ArePrintable column.text
column-printable threads column few is =
    AllByRecursion-weaken IsTextByte IsPrintable (λ b e. (of-name b e).printable) column.text (text-bytes threads column.owner column.text few is.text_is)

-- All texts of a program's columns are printable.
columns-printable : (program : Program) → IsProgram program → AllByRecursion ArePrintable (column_texts program.columns)
columns-printable program is =
    let threads = length program.threads in
    let few = few-threads program is in
    AllByRecursion-append ArePrintable (map (λ (column : Column). column.text) program.columns) (map (λ (column : Column). column.text ++ codes "'") program.columns)
    (AllByRecursion-map (IsColumn threads) ArePrintable (λ (column : Column). column.text) (λ column its. column-printable threads column few its) program.columns is.columns_are)
    (AllByRecursion-map (IsColumn threads) ArePrintable (λ (column : Column). column.text ++ codes "'")
    (λ column its. both column.text (codes "'") (column-printable threads column few its) (byte 39 (omega arith) (omega arith), tt)) program.columns is.columns_are)

-- The text of an atom is printable.
pub atoms-printable : AtomTextsArePrintable
atoms-printable program env atom text is of =
    let fits = of.atom_is.fits in
    rw of.text_is (
    both (terms_text true atom.coefficients (column_texts program.columns)) (codes " <= " ++ number_text atom.bound)
    (terms-printable true atom.coefficients (column_texts program.columns) fits.coefficients (columns-printable program is))
    (blank, (byte 60 (omega arith) (omega arith), (byte 61 (omega arith) (omega arith), (blank, number-printable atom.bound fits.bound))))
    )
