use Rattle.std.proofs.Common.{◌≡◌, ◌≢◌, ◌↔◌, ℕ, zero, suc, ◌<◌, ◌^◌, ℤ, pos, List, sym, subst, ap, ap₂, map, ◌∙◌, to_z, of_z, to_z-of_z, arith}
use Rattle.std.specs.Int.{w128, int_div_euclid}
use lib.Signed.{mag}
use Rattle.lin_rows.specs.Row.{Row, RowFits, Meets}
use Rattle.lin_rows.specs.View.{row_of}
use Rattle.lin_rows.specs.Gcd.{gcd_of}
use Rattle.lin_rows.specs.Atom.{IsAtom, inequality, greatest}
use Rattle.lin_rows.specs.Normal.{reduced_row}
use Rattle.lin_rows.proofs.Numbers.{read_back}
use Rattle.lin_rows.proofs.Atoms.{IsAtom-reduced, Meets-reduced, reduced-parts, IsConstant-from_gcd_of, gcd_of-positive, HoldsAlike-constant, IsNormalForm-constant}
use Rattle.lin_rows.proofs.normal_form.normal.Goals as goal

-- what the divisor's bits say of the greatest common divisor
bits_are : (d : ℤ) (g : ℕ) → d ≡ pos g → of_z w128 d ≡ g
bits_are d g e = ap (of_z w128) e

positive : (d : ℤ) (g : ℕ) → d ≡ pos g → (of_z w128 d ≡ 0 → ⊥) → 0 < g
positive d zero e other = absurd (other (bits_are d 0 e))
positive d (suc g) e other = omega arith

back : (d : ℤ) (g : ℕ) → mag d < 2 ^ 127 → d ≡ pos g → to_z w128 (of_z w128 d) ≡ pos g
back d g fits e = to_z-of_z {w = w128} record { sfits = fits } ∙ e

floor_is : (row : Row) (d f : ℤ) → RowFits row → mag d < 2 ^ 127 → d ≡ pos (gcd_of row.coefficients)
    → f ≡ int_div_euclid (to_z w128 (of_z w128 row.bound)) (to_z w128 (of_z w128 d)) → f ≡ (reduced_row row).bound
floor_is row d f fits small e h = h ∙ ap₂ int_div_euclid (read_back row.bound fits.bound) (back d (gcd_of row.coefficients) small e)

floors_are : (row : Row) (d : ℤ) (xs : List ℤ) → mag d < 2 ^ 127 → d ≡ pos (gcd_of row.coefficients)
    → xs ≡ map (λ x. int_div_euclid x (to_z w128 (of_z w128 d))) row.coefficients → xs ≡ (reduced_row row).coefficients
floors_are row d xs small e h = h ∙ ap (λ g. map (λ x. int_div_euclid x g) row.coefficients) (back d (gcd_of row.coefficients) small e)

greatest_by_bits : (f : ℤ) → mag f < 2 ^ 127 → of_z w128 f ≡ 170141183460469231731687303715884105727 → f ≡ greatest
greatest_by_bits f small e = sym (to_z-of_z {w = w128} record { sfits = small }) ∙ ap (to_z w128) e

below_greatest : (f b : ℤ) → f ≡ b → (of_z w128 f ≡ 170141183460469231731687303715884105727 → ⊥) → b ≢ greatest
below_greatest f b e other g = other (ap (of_z w128) (e ∙ g))

pub returns-then-divisor-eq0-clause-form : goal.returns-then-divisor-eq0-clause-form
returns-then-divisor-eq0-clause-form c =
    let row = row_of c.args.row.now in
    let none : gcd_of row.coefficients ≡ 0 = sym (bits_are _ _ c.divisor_of-divisor.ensures) ∙ c.if-divisor-eq0.true in
    IsNormalForm-constant row c.constant_form.result (IsConstant-from_gcd_of row none) (rw (read_back row.bound c.requires.fits.bound) at c.constant_form.ensures)

pub returns-then-divisor-eq0-clause-meaning : goal.returns-then-divisor-eq0-clause-meaning
returns-then-divisor-eq0-clause-meaning c =
    let row = row_of c.args.row.now in
    let none : gcd_of row.coefficients ≡ 0 = sym (bits_are _ _ c.divisor_of-divisor.ensures) ∙ c.if-divisor-eq0.true in
    HoldsAlike-constant row c.constant_form.result c.requires.inequality (IsConstant-from_gcd_of row none) (rw (read_back row.bound c.requires.fits.bound) at c.constant_form.ensures)

pub returns-then-bound-eq170141183460469231731687303715884105727-clause-form :
    goal.returns-then-bound-eq170141183460469231731687303715884105727-clause-form
returns-then-bound-eq170141183460469231731687303715884105727-clause-form c =
    let row = row_of c.args.row.now in
    let some = positive _ _ c.divisor_of-divisor.ensures c.if-divisor-eq0.false in
    let floor = floor_is row _ _ c.requires.fits c.divisor_of-divisor.type_inv c.divisor_of-divisor.ensures c.floor_of-bound.ensures in
    (gcd_of-positive row (λ none. omega arith), sym floor ∙ greatest_by_bits _ c.floor_of-bound.type_inv c.if-bound-eq170141183460469231731687303715884105727.true)

parts : (row : Row) (xs : List ℤ) (f : ℤ) → xs ≡ (reduced_row row).coefficients → mag f < 2 ^ 127 → f ≡ (reduced_row row).bound → inequality xs (to_z w128 (of_z w128 f)) ≡ reduced_row row
parts row xs f p small e = reduced-parts row xs _ p (to_z-of_z {w = w128} record { sfits = small } ∙ e)

pub of-requires : goal.of-requires
of-requires c =
    let row = row_of c.args.row.now in
    let some = positive _ _ c.divisor_of-divisor.ensures c.if-divisor-eq0.false in
    let floor = floor_is row _ _ c.requires.fits c.divisor_of-divisor.type_inv c.divisor_of-divisor.ensures c.floor_of-bound.ensures in
    let floors = floors_are row _ _ c.divisor_of-divisor.type_inv c.divisor_of-divisor.ensures c.in-Ok.ensures in
    let room = below_greatest _ _ floor c.if-bound-eq170141183460469231731687303715884105727.false in
    subst IsAtom (sym (parts row _ _ floors c.floor_of-bound.type_inv floor)) (IsAtom-reduced row c.requires.fits some room)

is_reduced : (c : goal.After-of) → c.of.result ≡ reduced_row (row_of c.args.row.now)
is_reduced c =
    let row = row_of c.args.row.now in
    let floor = floor_is row _ _ c.requires.fits c.divisor_of-divisor.type_inv c.divisor_of-divisor.ensures c.floor_of-bound.ensures in
    let floors = floors_are row _ _ c.divisor_of-divisor.type_inv c.divisor_of-divisor.ensures c.in-Ok.ensures in
    c.of.ensures ∙ parts row _ _ floors c.floor_of-bound.type_inv floor

pub returns-in-Ok-clause-form : goal.returns-in-Ok-clause-form
returns-in-Ok-clause-form c =
    let row = row_of c.args.row.now in
    let some = positive _ _ c.divisor_of-divisor.ensures c.if-divisor-eq0.false in
    let floor = floor_is row _ _ c.requires.fits c.divisor_of-divisor.type_inv c.divisor_of-divisor.ensures c.floor_of-bound.ensures in
    let room = below_greatest _ _ floor c.if-bound-eq170141183460469231731687303715884105727.false in
    (gcd_of-positive row (λ none. omega arith), is_reduced c, subst IsAtom (sym (is_reduced c)) (IsAtom-reduced row c.requires.fits some room))

pub returns-in-Ok-clause-meaning : goal.returns-in-Ok-clause-meaning
returns-in-Ok-clause-meaning c = λ z.
    let row = row_of c.args.row.now in
    let some = positive _ _ c.divisor_of-divisor.ensures c.if-divisor-eq0.false in
    let P : Row → Type 0 = λ atom. Meets row z ↔ Meets atom z in
    subst P (sym (is_reduced c)) (Meets-reduced row z c.requires.inequality some)
