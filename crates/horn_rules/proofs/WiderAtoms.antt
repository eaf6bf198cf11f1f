-- An atom that is placed over more columns is an atom.
use Rattle.std.proofs.Common.{◌≡◌, ℕ, zero, suc, ℤ, List, ◌++◌, fold, unsigned_abs, refl, ◌∙◌, ap, arith}
use Rattle.std.proofs.Math.Nat.{zero-mod}
use Rattle.std.proofs.lemmas.List.Sums.{fold-append}
use Rattle.thr_base.specs.Number.{Fits}
use Rattle.lin_rows.specs.Row.{Row}
use Rattle.lin_rows.specs.Gcd.{gcd, gcd_of}
use Rattle.lin_rows.specs.Atom.{IsAtom}
use Rattle.lin_rows.proofs.Divisors.{gcd-step}
use Rattle.lin_rows.proofs.Lists.{AllByRecursion-append}
use Rattle.transition_formula.specs.Rows.{zeros}
use Rattle.horn_rules.specs.Case.{wider_row, moved_row}
use Rattle.transition_formula.proofs.Numbers.{zeros_fit}

-- ---- zeros change no greatest common divisor

gcd-of_zero : (g : ℕ) → gcd 0 g ≡ g
gcd-of_zero zero = refl
gcd-of_zero (suc b) = gcd-step 0 (suc b) (omega arith) ∙ ap (gcd (suc b)) (zero-mod (suc b))

fold-zeros : (n g : ℕ) → fold (λ h x. gcd (unsigned_abs x) h) g (zeros n) ≡ g
fold-zeros zero g = refl
fold-zeros (suc n) g = ap (λ h. fold (λ d x. gcd (unsigned_abs x) d) h (zeros n)) (gcd-of_zero g) ∙ fold-zeros n g

gcd_of-widened : (xs : List ℤ) (k : ℕ) → gcd_of (xs ++ zeros k) ≡ gcd_of xs
gcd_of-widened xs k = fold-append (λ h x. gcd (unsigned_abs x) h) 0 xs (zeros k) ∙ fold-zeros k (gcd_of xs)

gcd_of-moved : (n : ℕ) (xs : List ℤ) → gcd_of (zeros n ++ xs) ≡ gcd_of xs
gcd_of-moved n xs =
    fold-append (λ h x. gcd (unsigned_abs x) h) 0 (zeros n) xs ∙ ap (λ g. fold (λ h x. gcd (unsigned_abs x) h) g xs) (fold-zeros n 0)

-- ---- zeros fit

pub IsAtom-widened : (k : ℕ) (atom : Row) → IsAtom atom → IsAtom (wider_row k atom)
IsAtom-widened k atom is = record {
  no_equality = is.no_equality;
  reduced = gcd_of-widened atom.coefficients k ∙ is.reduced;
  fits = record { coefficients = AllByRecursion-append Fits atom.coefficients (zeros k) is.fits.coefficients (zeros_fit k); bound = is.fits.bound };
  has_room = is.has_room;
}

pub IsAtom-moved : (n m : ℕ) (atom : Row) → IsAtom atom → IsAtom (moved_row n m atom)
IsAtom-moved n m atom is =
    let wide = IsAtom-widened m atom is in
    record {
      no_equality = is.no_equality;
      reduced = gcd_of-moved n (atom.coefficients ++ zeros m) ∙ wide.reduced;
      fits = record {
        coefficients = AllByRecursion-append Fits (zeros n) (atom.coefficients ++ zeros m) (zeros_fit n) wide.fits.coefficients;
        bound = is.fits.bound;
      };
      has_room = is.has_room;
    }
