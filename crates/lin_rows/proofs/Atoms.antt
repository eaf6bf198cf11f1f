-- Inequalities, their normal forms and negations, at whole points.
use Rattle.std.proofs.Common.{◌≡◌, ◌≢◌, ◌↔◌, ℕ, ◌+◌, ◌<◌, ◌^◌, List, [], ◌∷◌, map, Bool, false, MatchBool, ℤ, pos, negsuc, ◌+ℤ◌, ◌-ℤ◌, ◌*ℤ◌, neg_ℤ, ◌≤ℤ◌, ◌<ℤ◌, Ok, refl, sym, ◌∙◌, ap, ap₂, subst, arith, mod-lt}
use Rattle.std.specs.Int.{int_div_euclid, int_rem_euclid}
use Rattle.std.proofs.lemmas.Int.{ints, by_lt_z}
use Rattle.thr_base.specs.Number.{Fits}
use Rattle.lin_rows.specs.Row.{Row, RowFits, Meets, product_of, multiple_of}
use Rattle.lin_rows.specs.Gcd.{gcd_of}
use Rattle.lin_rows.specs.Atom.{IsAtom, greatest, inequality, negation}
use Rattle.lin_rows.specs.Normal.{reduced_row, IsConstant, HoldsAlike, IsNormalForm}
use Rattle.lin_rows.specs.inside.Constant.{IsConstantForm}
use Rattle.lin_rows.specs.declared.normal_form.NormalForm.{NormalForm}
use Rattle.lin_rows.specs.declared.normal_form.NormalForm.TheVariants.{Always, Never, Atom}
use borrow.Author.Differences.{up, down}
use Rattle.lin_rows.proofs.Integers.{mul-le-mul_ℤ, quotient-remainder, mul-add_ℤ}
use Rattle.lin_rows.proofs.Divisors.{gcd_of-divides, gcd_of-quotients, gcd_of-neg, DividesAll, exact_quotient, quotients, AllZero-from_gcd_of, gcd_of-AllZero}
use Rattle.lin_rows.proofs.Numbers.{Fits-int_div_euclid, Fits-neg, Fits-in, Fits-out}
use Rattle.lin_rows.proofs.Lists.{AllByRecursion-map}
use Rattle.lin_rows.proofs.Points.{product_of-scaled, product_of-neg, product_of-AllZero}

-- an inequality at a point
pub Meets-inequality : (row : Row) (z : List ℤ) → row.equal ≡ false → Meets row z ↔ (product_of row.coefficients z ≤ℤ row.bound)
Meets-inequality row z e =
    let P : Bool → Type 0 = λ b. MatchBool b (product_of row.coefficients z ≡ row.bound) (product_of row.coefficients z ≤ℤ row.bound) in
    (λ h. subst P e h, λ h. subst P (sym e) h)

-- ---- floors
-- the remainder is from 0 to below the divisor
remainder-range : (b : ℤ) (g : ℕ) → 0 < g → (pos 0 ≤ℤ int_rem_euclid b (pos g)) × (int_rem_euclid b (pos g) <ℤ pos g)
remainder-range (pos n) g p = let h = mod-lt n p in (omega (arith, ints), omega (arith, ints))
remainder-range (negsuc n) g p = let h = mod-lt n p in (omega (arith, ints), omega (arith, ints))

-- a multiple of g is at most b exactly where its quotient is at most the floor of b over g
pub le-floor : (g : ℕ) (p b : ℤ) → 0 < g → ((pos g *ℤ p) ≤ℤ b) ↔ (p ≤ℤ int_div_euclid b (pos g))
le-floor g p b h =
    let q = int_div_euclid b (pos g) in
    let whole = quotient-remainder b g h in
    let rest = remainder-range b g h in
    let over : (q <ℤ p) → ((pos g *ℤ p) ≤ℤ b) → ⊥ = λ lt le.
    let step = mul-le-mul_ℤ (pos g) (q +ℤ pos 1) p (omega (arith, ints)) (omega (arith, ints)) in
    let parts = mul-add_ℤ (pos g) q (pos 1) in
    omega (arith, ints, whole, rest.0, rest.1, step, ap up parts, ap down parts, le) in (
      λ le. by_lt_z q p (λ lt. absurd (over lt le)) (λ le'. le'),
      λ le. let step = mul-le-mul_ℤ (pos g) p q (omega (arith, ints)) le in omega (arith, ints, whole, rest.0, step),
    )

-- ---- the normal form
-- The quotients by a common divisor, times it, are the numbers.
scaled-quotients : (g : ℕ) (xs : List ℤ) → 0 < g → DividesAll g xs → multiple_of (pos g) (quotients g xs) ≡ xs
scaled-quotients g [] p all = refl
scaled-quotients g (x ∷ xs) p all = ap₂ ◌∷◌ (sym (exact_quotient x g p all.0)) (scaled-quotients g xs p all.1)

-- the product is that of the reduced row, times the divisor
product_of-reduced : (row : Row) (z : List ℤ) → 0 < gcd_of row.coefficients → product_of row.coefficients z ≡ pos (gcd_of row.coefficients) *ℤ product_of (reduced_row row).coefficients z
product_of-reduced row z p =
    let g = gcd_of row.coefficients in
    ap (λ xs. product_of xs z) (sym (scaled-quotients g row.coefficients p (gcd_of-divides row.coefficients))) ∙ product_of-scaled (pos g) (quotients g row.coefficients) z

-- A point meets an inequality exactly where it meets the reduced one.
pub Meets-reduced : (row : Row) (z : List ℤ) → row.equal ≡ false → 0 < gcd_of row.coefficients → Meets row z ↔ Meets (reduced_row row) z
Meets-reduced row z e p =
    let g = gcd_of row.coefficients in
    let open_row = Meets-inequality row z e in
    let floor = le-floor g (product_of (reduced_row row).coefficients z) row.bound p in
    let P : ℤ → Type 0 = λ v. v ≤ℤ row.bound in
    let same = product_of-reduced row z p in
    (λ meets. floor.0 (subst P same (open_row.0 meets)), λ meets. open_row.1 (subst P (sym same) (floor.1 meets)))

-- A reduced inequality whose bound is not the greatest is an atom.
pub IsAtom-reduced : (row : Row) → RowFits row → 0 < gcd_of row.coefficients → (reduced_row row).bound ≢ greatest → IsAtom (reduced_row row)
IsAtom-reduced row fits p room =
    let g = gcd_of row.coefficients in
    record {
      no_equality = refl;
      reduced = gcd_of-quotients row.coefficients p;
      fits = record {
        coefficients = AllByRecursion-map Fits Fits (λ x. int_div_euclid x (pos g)) (λ x h. Fits-int_div_euclid x g h) row.coefficients fits.coefficients;
        bound = Fits-int_div_euclid row.bound g fits.bound;
      };
      has_room = room;
    }

-- ---- a row whose coefficients are all 0
-- A row whose coefficients have the greatest common divisor 0 is constant.
pub IsConstant-from_gcd_of : (row : Row) → gcd_of row.coefficients ≡ 0 → IsConstant row
IsConstant-from_gcd_of row e = AllZero-from_gcd_of row.coefficients e

-- A row of which that is not 0 is not constant.
pub gcd_of-positive : (row : Row) → (gcd_of row.coefficients ≡ 0 → ⊥) → ¬ IsConstant row
gcd_of-positive row positive all = positive (gcd_of-AllZero row.coefficients all)

-- A constant inequality holds where its form does.
pub HoldsAlike-constant : (row : Row) (form : NormalForm) → row.equal ≡ false → IsConstant row → IsConstantForm row.bound form → HoldsAlike row form
HoldsAlike-constant row Always e all h = λ z. (Meets-inequality row z e).1 (subst (λ v. v ≤ℤ row.bound) (sym (product_of-AllZero row.coefficients z all)) h)
HoldsAlike-constant row Never e all h = λ z meets.
    let le = subst (λ v. v ≤ℤ row.bound) (product_of-AllZero row.coefficients z all) ((Meets-inequality row z e).0 meets) in
    omega (arith, ints, le, h)
HoldsAlike-constant row (Atom atom) e all h = absurd h

-- A constant row has its form as normal form.
pub IsNormalForm-constant : (row : Row) (form : NormalForm) → IsConstant row → IsConstantForm row.bound form → IsNormalForm row (Ok form)
IsNormalForm-constant row Always all h = (all, h)
IsNormalForm-constant row Never all h = (all, h)
IsNormalForm-constant row (Atom atom) all h = absurd h

-- ---- negation
-- A bound that is not the greatest is none that is one below 2^127.
not_greatest : (b : ℤ) → b ≢ greatest → up b + 1 ≡ down b + 2 ^ 127 → ⊥
not_greatest (pos n) room e = room (ap pos (omega arith))
not_greatest (negsuc n) room e = omega arith

-- The bound of a negation fits.
Fits-bound_below : (b : ℤ) → Fits b → b ≢ greatest → Fits (neg_ℤ b -ℤ pos 1)
Fits-bound_below b fits room =
    let range = Fits-out b fits in
    Fits-in (neg_ℤ b -ℤ pos 1) (omega (arith, ints, range)) (omega (arith, ints, range, not_greatest b room))

-- The bound of a negation is not the greatest.
has_room-bound_below : (b : ℤ) → Fits b → (neg_ℤ b -ℤ pos 1) ≢ greatest
has_room-bound_below b fits e = omega (arith, ints, Fits-out b fits, e)

-- The negation of an atom is an atom.
pub IsAtom-negation : (row : Row) → IsAtom row → IsAtom (negation row)
IsAtom-negation row atom = record {
  no_equality = refl;
  reduced = gcd_of-neg row.coefficients ∙ atom.reduced;
  fits = record {
    coefficients = AllByRecursion-map Fits Fits neg_ℤ Fits-neg row.coefficients atom.fits.coefficients;
    bound = Fits-bound_below row.bound atom.fits.bound atom.has_room;
  };
  has_room = has_room-bound_below row.bound atom.fits.bound;
}

-- A point meets the negation of an inequality exactly where it does not meet the inequality.
pub Meets-negation : (row : Row) (z : List ℤ) → row.equal ≡ false → Meets (negation row) z ↔ (¬ Meets row z)
Meets-negation row z e =
    let open_row = Meets-inequality row z e in
    let p = product_of row.coefficients z in
    let same = product_of-neg row.coefficients z in
    let P : ℤ → Type 0 = λ v. v ≤ℤ (neg_ℤ row.bound -ℤ pos 1) in (
      λ meets holds. omega (arith, ints, subst P same meets, open_row.0 holds),
      λ fails. subst P (sym same) (by_lt_z row.bound p (λ lt. omega (arith, ints, lt)) (λ le. absurd (fails (open_row.1 le)))),
    )

-- an inequality with the parts of a negation
pub negation-parts : (row : Row) (xs : List ℤ) (b : ℤ) → xs ≡ map neg_ℤ row.coefficients → b ≡ neg_ℤ row.bound -ℤ pos 1 → inequality xs b ≡ negation row
negation-parts row xs b p q = ap₂ inequality p q

-- The inequality of the reduced parts is the reduced row.
pub reduced-parts : (row : Row) (xs : List ℤ) (b : ℤ) → xs ≡ quotients (gcd_of row.coefficients) row.coefficients → b ≡ int_div_euclid row.bound (pos (gcd_of row.coefficients)) → inequality xs b ≡ reduced_row row
reduced-parts row xs b p q = ap₂ inequality p q
