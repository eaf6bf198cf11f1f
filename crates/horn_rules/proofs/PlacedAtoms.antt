-- An atom that is placed is its own normal form.
use Rattle.std.proofs.Common.{◌≡◌, ℕ, ℤ, pos, List, [], ◌∷◌, map, fold, unsigned_abs, Result, Ok, Err, refl, sym, ap, ap₂, ◌∙◌, arith}
use Rattle.std.specs.List.{AllByRecursion}
use Rattle.std.specs.Int.{int_div_euclid}
use Rattle.lin_rows.specs.Row.{Row}
use Rattle.lin_rows.specs.Gcd.{gcd}
use Rattle.lin_rows.specs.Atom.{IsAtom, inequality}
use Rattle.lin_rows.specs.Normal.{reduced_row, IsConstant, IsNormalForm}
use Rattle.lin_rows.specs.declared.normal_form.NormalForm.{NormalForm}
use Rattle.lin_rows.specs.declared.normal_form.NormalForm.TheVariants.{Always, Never, Atom}
use Rattle.lin_rows.specs.declared.normal_form.NormalStop.{NormalStop}
use Rattle.lin_rows.specs.declared.normal_form.NormalStop.TheVariants.{Overflow, Memory}
use Rattle.horn_rules.proofs.WiderAtoms.{IsAtom-moved}
use Rattle.horn_rules.specs.Case.{placed_at}
use Rattle.lin_rows.proofs.Integers.{map-over_one, over_one}

pub reduced-atom : (row : Row) → IsAtom row → reduced_row row ≡ row
reduced-atom row is =
    ap (λ g. inequality (map (λ a. int_div_euclid a (pos g)) row.coefficients) (int_div_euclid row.bound (pos g))) is.reduced
    ∙ ap₂ (λ (xs : List ℤ) (b : ℤ). inequality xs b) (map-over_one row.coefficients) (over_one row.bound)
    ∙ ap (λ e. record { equal = e; coefficients = row.coefficients; bound = row.bound }) (sym is.no_equality)

-- zeros have the greatest common divisor 0
gcd-constant : (xs : List ℤ) → AllByRecursion (λ a. a ≡ pos 0) xs → fold (λ g x. gcd (unsigned_abs x) g) 0 xs ≡ 0
gcd-constant [] all = refl
gcd-constant (x ∷ xs) all = rw all.0 (gcd-constant xs all.1)

atom-no_constant : (row : Row) → IsAtom row → IsConstant row → ⊥
atom-no_constant row is constant = let none = gcd-constant row.coefficients constant in let some = is.reduced in omega arith

pub placed-is : (given : Row) (xs : List ℤ) (b : ℤ) (before columns : ℕ) → IsAtom given → xs ≡ (placed_at before columns given).coefficients → b ≡ given.bound
    → inequality xs b ≡ placed_at before columns given
placed-is given xs b before columns is same bound =
    ap₂ (λ (l : List ℤ) (k : ℤ). inequality l k) same bound
    ∙ ap (λ e. record { equal = e; coefficients = (placed_at before columns given).coefficients; bound = given.bound }) (sym is.no_equality)

pub IsAtom-placed : (given : Row) (xs : List ℤ) (b : ℤ) (before columns : ℕ) → IsAtom given → xs ≡ (placed_at before columns given).coefficients → b ≡ given.bound → IsAtom (inequality xs b)
IsAtom-placed given xs b before columns is same bound = rw (placed-is given xs b before columns is same bound) (IsAtom-moved before _ given is)

-- what else `normal` answers does not come of an atom
abbrev pub IsOther : Result NormalForm NormalStop → Type 0
IsOther (Ok (Atom atom)) = ⊥
IsOther (Err Memory) = ⊥
IsOther answer = Unit {0}

pub no-other-form : (row : Row) (answer : Result NormalForm NormalStop) → IsAtom row → IsNormalForm row answer → IsOther answer → ⊥
no-other-form row (Ok Always) is form other = atom-no_constant row is form.0
no-other-form row (Ok Never) is form other = atom-no_constant row is form.0
no-other-form row (Ok (Atom atom)) is form other = other
no-other-form row (Err Overflow) is form other = is.has_room (sym (ap (λ (r : Row). r.bound) (reduced-atom row is)) ∙ form.1)
no-other-form row (Err Memory) is form other = other
