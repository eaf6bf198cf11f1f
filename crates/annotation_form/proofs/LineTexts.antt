-- The lines of predicates: what is read of them, and that they are lines.
use Rattle.std.proofs.Common.{◌≡◌, ◌≢◌, ℕ, suc, ◌+◌, ◌<◌, ◌^◌, ℤ, pos, negsuc, List, [], ◌∷◌, ◌++◌, length, get_or, codes, Some, None, refl, sym, ap, ap₂, subst, ◌∙◌, arith}
use Rattle.std.specs.Prelude.{if◌then◌else◌}
use Rattle.std.specs.List.{AllByRecursion}
use Rattle.std.specs.Char.{IsAsciiDigit}
use Rattle.thr_base.specs.Number.{Fits, number_text}
use Rattle.thr_base.proofs.Numbers.{IsTextOf-number_text}
use Rattle.lin_rows.specs.Row.{Row}
use Rattle.lin_rows.proofs.Lists.{AllByRecursion-append, AllByRecursion-map, AllByRecursion-weaken}
use Rattle.transition_formula.specs.Program.{Program, Column, IsProgram}
use Rattle.transition_formula.specs.TextLaws.{IsPrintable}
use Rattle.transition_formula.proofs.PrintableTexts.{atoms-printable}
use Rattle.transition_formula.specs.AtomText.{atom_text, IsAtomText}
use Rattle.horn_rules.specs.Home.{Home, State, Env, home_width}
use Rattle.horn_rules.specs.HomeText.{home_text}
use Rattle.annotation_form.specs.Lines.{IsLine}
use Rattle.annotation_form.specs.Predicates.{Predicate, IsPredicateOf, predicate_text, predicate_texts}
use Rattle.annotation_form.specs.inside.Reading.{IsSmall, IsHead, IsLineOf, is_env}
use Rattle.annotation_form.proofs.HomeTexts.{head-same, small-fits}
use Rattle.annotation_form.proofs.Homes.{home-small}

-- ---- what is read of a line

-- The home and the text of the atom are those of the predicate.
pub record LineParts (program : Program) (other : Predicate) (home : Home) (text : List ℕ) : Type 0 where
  pub home_is : home ≡ other.home
  pub atom_is : IsAtomText program.columns (is_env home) other.atom text

width-is : (columns : List Column) (home : Home) (n : ℕ) → n ≡ home_width (length columns) home → n ≡ (if is_env home then length columns + length columns else length columns)
width-is columns (State i l) n e = e
width-is columns (Env i l) n e = e

pub line-parts : (program : Program) (other : Predicate) (home : Home) (text line : List ℕ) → IsProgram program → IsSmall home → IsHead line home text → IsLineOf program other line
    → LineParts program other home text
line-parts program other home text line is small head line_of =
    let same = head-same home other.home text (atom_text program.columns other.atom) line small (home-small program other.home is line_of.of_program.has_home) head line_of.line_is in
    let atom = line_of.of_program.is_atom in
    record {
      home_is = same.home_is;
      atom_is = record {
        atom_is = atom.is_atom;
        width = width-is program.columns home (length other.atom.coefficients) (atom.one_each ∙ ap (home_width (length program.columns)) (sym same.home_is));
        text_is = same.atom_is;
      };
    }

made : Home → Row → Predicate
made home atom = record { home = home; atom = atom }

pub same-predicate : (other : Predicate) (home : Home) (atom : Row) → home ≡ other.home → Some atom ≡ Some other.atom → other ≡ record { home = home; atom = atom }
unfolding made
same-predicate other home atom e f = let same : atom ≡ other.atom = cc in sym (ap₂ made e same)

pub not-none : (atom : Row) → None ≡ Some atom → ⊥
not-none atom e = cc

-- ---- there is no line feed in the line of a predicate

line-from_digits : (xs : List ℕ) → ((k : ℕ) → k < length xs → IsAsciiDigit (get_or xs k 0)) → IsLine xs
line-from_digits [] digits = tt
line-from_digits (x ∷ xs) digits =
    let first : IsAsciiDigit x = digits 0 (omega arith) in
    (λ e. omega (arith, first), line-from_digits xs (λ k h. digits (suc k) (omega arith)))

number-line : (z : ℤ) → Fits z → IsLine (number_text z)
number-line (pos n) h = line-from_digits (number_text (pos n)) (IsTextOf-number_text (pos n) h).digits
number-line (negsuc n) h = let is = IsTextOf-number_text (negsuc n) h in subst IsLine (sym is.1) (λ e. omega arith, line-from_digits is.0 is.2.digits)

line-append : (xs ys : List ℕ) → IsLine xs → IsLine ys → IsLine (xs ++ ys)
line-append xs ys p q = AllByRecursion-append (λ b. b ≢ 10) xs ys p q

-- the text of an atom is printable
atom-line : (program : Program) (p : Predicate) → IsProgram program → IsPredicateOf program p → IsLine (atom_text program.columns p.atom)
atom-line program p is of =
    AllByRecursion-weaken IsPrintable (λ b. b ≢ 10) (λ b printable e. omega (arith, printable.from)) (atom_text program.columns p.atom)
    (atoms-printable program (is_env p.home) p.atom (atom_text program.columns p.atom) is (record {
      atom_is = of.is_atom.is_atom;
      width = width-is program.columns p.home (length p.atom.coefficients) of.is_atom.one_each;
      text_is = refl;
    }))

words-line : (k : ℕ) (i l : ℕ) → k ≢ 10 → i < 2 ^ 32 → l < 2 ^ 32 → IsLine (k ∷ 32 ∷ (number_text (pos i) ++ (32 ∷ number_text (pos l))))
words-line k i l other h j = (
  other,
  (λ e. omega arith, line-append (number_text (pos i)) (32 ∷ number_text (pos l)) (number-line (pos i) (small-fits i h)) (λ e. omega arith, number-line (pos l) (small-fits l j))),
)

home-line : (home : Home) → IsSmall home → IsLine (home_text home)
home-line (State i l) small = words-line 115 i l (λ e. omega arith) small.0 small.1
home-line (Env i e) small = words-line 101 i e (λ e. omega arith) small.0 small.1

pub predicate-line : (program : Program) (p : Predicate) → IsProgram program → IsPredicateOf program p → IsLine (predicate_text program p)
predicate-line program p is of =
    line-append (home_text p.home) (codes " : " ++ atom_text program.columns p.atom) (home-line p.home (home-small program p.home is of.has_home)) (λ e. omega arith, (λ e. omega arith, (λ e. omega arith, atom-line program p is of)))

pub predicates-lines : (program : Program) (ps : List Predicate) → IsProgram program → AllByRecursion (IsPredicateOf program) ps → AllByRecursion IsLine (predicate_texts program ps)
predicates-lines program ps is of = AllByRecursion-map (IsPredicateOf program) IsLine (predicate_text program) (λ p one. predicate-line program p is one) ps of

-- ---- no predicate has the last line

pub predicate-no_end : (program : Program) (p : Predicate) → predicate_text program p ≢ codes "end"
predicate-no_end program p = by-home p.home (codes " : " ++ atom_text program.columns p.atom)
  where
    by-home : (home : Home) (rest : List ℕ) → home_text home ++ rest ≢ codes "end"
    by-home (State i l) rest e = omega (arith, ap (λ (t : List ℕ). get_or t 0 0) e)
    by-home (Env i l) rest e = omega (arith, ap (λ (t : List ℕ). get_or t 1 0) e)

pub predicates-no_end : (program : Program) (ps : List Predicate) → AllByRecursion (λ x. x ≢ codes "end") (predicate_texts program ps)
predicates-no_end program [] = tt
predicates-no_end program (p ∷ ps) = (predicate-no_end program p, predicates-no_end program ps)

pub end-line : IsLine (codes "end")
end-line = (λ e. omega arith, (λ e. omega arith, (λ e. omega arith, tt)))
