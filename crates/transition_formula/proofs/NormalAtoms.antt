-- An atom is its own normal form.
use Rattle.std.proofs.Common.{◌≡◌, ℤ, pos, negsuc, List, [], ◌∷◌, map, refl, ap, ap₂, arith}
use Rattle.std.specs.Int.{int_div_euclid}
use Rattle.lin_rows.specs.Row.{Row}
use Rattle.lin_rows.specs.Atom.{IsAtom, inequality}
use Rattle.lin_rows.specs.Normal.{IsConstant, reduced_row}
use Rattle.lin_rows.proofs.Atoms.{gcd_of-positive}
use Rattle.lin_rows.proofs.Integers.{over_one, map-over_one}

-- An atom is reduced as it stands.
pub reduced-IsAtom : (xs : List ℤ) (b : ℤ) → IsAtom (inequality xs b) → reduced_row (inequality xs b) ≡ inequality xs b
reduced-IsAtom xs b atom = rw atom.reduced (ap₂ inequality (map-over_one xs) (over_one b))

-- An atom is not constant.
pub IsAtom-not_constant : (row : Row) → IsAtom row → ¬ IsConstant row
IsAtom-not_constant row atom = gcd_of-positive row (λ none. omega (arith, atom.reduced))
