-- Each line of the elimination is the sum of the given rows by its multipliers, and refutes where it is false.
use Rattle.std.proofs.Common.{◌≡◌, ℕ, zero, suc, ◌*◌, ◌<◌, ◌≤◌, refl, sym, ap, ◌∙◌, arith, subst, List, [], ◌∷◌, map, take, drop, get_or, Bool, true, false, Some, ◌⊎◌, inl, inr}
use Rattle.std.specs.Prelude.{ℤ, pos, ◌+ℤ◌, ◌-ℤ◌, ◌*ℤ◌, ◌≤ℤ◌}
use Rattle.std.specs.Int.{◌∣◌}
use Rattle.std.proofs.lemmas.Int.{unsigned_abs-mul}
use Rattle.std.proofs.lemmas.Nat.{mul-le}
use Rattle.std.proofs.lemmas.Nat.Gcd.{le_of_dvd}
use Rattle.std.proofs.Math.Nat.{mul-dvd-mul_left}
use Rattle.lin_rows.specs.Row.{Row, product_of, multiple_of, sum_of}
use Rattle.lin_rows.specs.System.{System}
use Rattle.lin_rows.specs.Gcd.{gcd_of}
use Rattle.lin_rows.proofs.Booleans.{given_where_true}
use Rattle.farkas_cert.specs.Divided.{over, divided_numbers}
use Rattle.farkas_cert.specs.Line.{Line, bound_of, multipliers_of, combination, combination_fits, made_line}
use Rattle.lin_rows.proofs.Divisors.{DividesAll, AllZero, AllZero-from_gcd_of, gcd_of-greatest}
use Rattle.farkas_cert.proofs.Divisors.{divided-exact, divided-same}
use Rattle.lin_rows.proofs.Integers.{mul-zero_ℤ}
use Rattle.farkas_cert.proofs.Integers.{linear}
use Rattle.farkas_cert.proofs.Linear.{IsLinear, product-linear, get-linear, take-linear, drop-linear, difference-linear, of_combination, divided_vanishes, drop-sum, drop-scaled}
use Rattle.farkas_cert.proofs.Signs.{Signs, signs_scaled, signs_any, signs_weaker, signs_false, signs_sum, signs_over}
use Rattle.farkas_cert.proofs.Weighted.{values_at, bounds_of}

-- ---- what is made

-- A line that is made has the divided combination as its numbers.
pub made_is : (equal : Bool) (a : ℤ) (xs : List ℤ) (b : ℤ) (ys : List ℤ) (line : Line) → made_line equal a xs b ys ≡ Some line
    → record { equal = equal; numbers = divided_numbers (combination a xs b ys) } ≡ line
unfolding made_line
made_is equal a xs b ys line e = (given_where_true (combination_fits a xs b ys) (record { equal = equal; numbers = divided_numbers (combination a xs b ys) }) line e).1

-- ---- lists without a common divisor

-- No number above 1 divides all, unless all are 0.
abbrev pub IsPrimitive : List ℤ → Type 0
IsPrimitive xs = (g : ℕ) → DividesAll g xs → (g ≤ 1) ⊎ AllZero xs

-- A divisor of numbers, times g, divides them times g.
multiplied : (g d : ℕ) (xs : List ℤ) → DividesAll d xs → DividesAll (g * d) (map (λ x. pos g *ℤ x) xs)
multiplied g d [] h = tt
multiplied g d (x ∷ xs) h = (rw (unsigned_abs-mul (pos g) x) (mul-dvd-mul_left d g h.0), multiplied g d xs h.1)

-- A multiple of g that divides g is g at most.
at_most_one : (g d : ℕ) → 0 < g → g * d ∣ g → d ≤ 1
at_most_one g zero p h = omega arith
at_most_one g (suc zero) p h = omega arith
at_most_one g (suc (suc d)) p h = absurd (omega (arith, le_of_dvd p h, mul-le g 2 g (suc (suc d)) (omega arith) (omega arith)))

-- Divided numbers have no common divisor but 1, or are all 0.
primitive_by : (g d : ℕ) (xs : List ℤ) → g ≡ gcd_of xs → g * d ∣ g → (d ≤ 1) ⊎ AllZero (divided_numbers xs)
primitive_by zero d xs e h =
    inr (rw (divided-same xs (sym e)) (AllZero-from_gcd_of xs (sym e)))
primitive_by (suc g) d xs e h = inl (at_most_one (suc g) d (omega arith) h)

-- Divided numbers are primitive.
pub divided_primitive : (xs : List ℤ) → IsPrimitive (divided_numbers xs)
divided_primitive xs d h =
    primitive_by (gcd_of xs) d xs refl (gcd_of-greatest (gcd_of xs * d) xs (rw (divided-exact xs) at (multiplied (gcd_of xs) d (divided_numbers xs) h)))

-- ---- the invariant of a line

pub record IsDerived (system : System) (line : Line) : Type 0 where
  -- its coefficients and its bound are the sums of those of the rows, by the multipliers,
  pub coefficients : (y : List ℤ)
      → product_of (take system.columns line.numbers) y ≡ product_of (multipliers_of system.columns line) (values_at y system.rows)
  pub bound : bound_of system.columns line ≡ product_of (multipliers_of system.columns line) (bounds_of system.rows)
  -- which have the signs that rows allow
  pub signs : Signs line.equal system.rows (multipliers_of system.columns line)
  pub primitive : IsPrimitive line.numbers

-- what a sum by multipliers comes to where the two sides are equal, as a linear function
abbrev defect : System → List ℤ → List ℤ → ℤ
defect system y xs = product_of (take system.columns xs) y -ℤ product_of (drop (suc system.columns) xs) (values_at y system.rows)

-- how far the bound of multipliers is from the weighted bounds
abbrev bound_defect : System → List ℤ → ℤ
bound_defect system xs = get_or xs system.columns (pos 0) -ℤ product_of (drop (suc system.columns) xs) (bounds_of system.rows)

-- The defect at a point is linear in the numbers.
defect_linear : (system : System) (y : List ℤ) → IsLinear (defect system y)
defect_linear system y =
    difference-linear (λ xs. product_of (take system.columns xs) y) (λ xs. product_of (drop (suc system.columns) xs) (values_at y system.rows))
    (take-linear system.columns (λ xs. product_of xs y) (product-linear y))
    (drop-linear (suc system.columns) (λ xs. product_of xs (values_at y system.rows)) (product-linear (values_at y system.rows)))

-- The defect of the bound is linear in the numbers.
bound_defect_linear : (system : System) → IsLinear (bound_defect system)
bound_defect_linear system =
    difference-linear (λ xs. get_or xs system.columns (pos 0)) (λ xs. product_of (drop (suc system.columns) xs) (bounds_of system.rows))
    (get-linear system.columns)
    (drop-linear (suc system.columns) (λ xs. product_of xs (bounds_of system.rows)) (product-linear (bounds_of system.rows)))

-- what vanishes on two lists vanishes on what is made of them
pub made_vanishes : (f : List ℤ → ℤ) → IsLinear f → (a : ℤ) (xs : List ℤ) (b : ℤ) (ys : List ℤ) → f xs ≡ pos 0 → f ys ≡ pos 0
    → f (divided_numbers (combination a xs b ys)) ≡ pos 0
made_vanishes f h a xs b ys e k =
    divided_vanishes f h (combination a xs b ys)
    (of_combination f h a xs b ys ∙ ap (λ t. a *ℤ t +ℤ b *ℤ f ys) e ∙ ap (λ t. a *ℤ pos 0 +ℤ b *ℤ t) k ∙ omega (arith, linear, mul-zero_ℤ a, mul-zero_ℤ b))

-- What is left of images is the images of what is left.
drop-map : (n : ℕ) (f : ℤ → ℤ) (xs : List ℤ) → drop n (map f xs) ≡ map f (drop n xs)
drop-map zero f xs = refl
drop-map (suc n) f [] = refl
drop-map (suc n) f (x ∷ xs) = drop-map n f xs

-- What is left of a combination is the combination of what is left.
drop-combination : (n : ℕ) (a : ℤ) (xs : List ℤ) (b : ℤ) (ys : List ℤ) → drop n (combination a xs b ys) ≡ combination a (drop n xs) b (drop n ys)
drop-combination n a xs b ys =
    drop-sum n (multiple_of a xs) (multiple_of b ys) ∙ ap (λ t. sum_of t (drop n (multiple_of b ys))) (drop-scaled n a xs) ∙ ap (λ t. sum_of (multiple_of a (drop n xs)) t) (drop-scaled n b ys)

-- Divided multipliers have the signs of the multipliers.
signs_divided : (equal : Bool) (rows : List Row) (n : ℕ) (xs : List ℤ) → Signs equal rows (drop n xs) → Signs equal rows (drop n (divided_numbers xs))
unfolding divided_numbers
signs_divided equal rows n xs h = rw (drop-map n (over (gcd_of xs)) xs) (signs_over equal (gcd_of xs) rows (drop n xs) h)

-- A line that is made has the invariant, where its multipliers have the signs.
derived_made : (system : System) (equal : Bool) (a : ℤ) (left : Line) (b : ℤ) (right : Line) → IsDerived system left → IsDerived system right
    → Signs equal system.rows (combination a (multipliers_of system.columns left) b (multipliers_of system.columns right))
    → IsDerived system (record { equal = equal; numbers = divided_numbers (combination a left.numbers b right.numbers) })
derived_made system equal a left b right h k s = record {
  coefficients = λ y. let e = made_vanishes (defect system y) (defect_linear system y) a left.numbers b right.numbers
      (omega (arith, linear, h.coefficients y)) (omega (arith, linear, k.coefficients y)) in omega (arith, linear);
  bound = let e = made_vanishes (bound_defect system) (bound_defect_linear system) a left.numbers b right.numbers
      (omega (arith, linear, h.bound)) (omega (arith, linear, k.bound)) in omega (arith, linear);
  signs = signs_divided equal system.rows (suc system.columns) (combination a left.numbers b right.numbers)
      (rw (drop-combination (suc system.columns) a left.numbers b right.numbers) s);
  primitive = divided_primitive (combination a left.numbers b right.numbers);
}

-- a line, of which an equality is taken away
pub derived_by_equality : (system : System) (a : ℤ) (left : Line) (b : ℤ) (right result : Line) → pos 0 ≤ℤ a → right.equal ≡ true
    → IsDerived system left → IsDerived system right
    → made_line left.equal a left.numbers b right.numbers ≡ Some result → IsDerived system result
derived_by_equality system a left b right result n e h k m =
    let signs_right : Signs true system.rows (multipliers_of system.columns right) = rw e at k.signs in
    let signs : Signs left.equal system.rows (combination a (multipliers_of system.columns left) b (multipliers_of system.columns right)) =
    signs_sum left.equal system.rows (multiple_of a (multipliers_of system.columns left)) (multiple_of b (multipliers_of system.columns right))
    (signs_scaled left.equal a system.rows (multipliers_of system.columns left) n h.signs)
    (signs_weaker left.equal system.rows (multiple_of b (multipliers_of system.columns right)) (signs_any b system.rows (multipliers_of system.columns right) signs_right)) in
    subst (λ (l : Line). IsDerived system l) (made_is left.equal a left.numbers b right.numbers result m) (derived_made system left.equal a left b right h k signs)

-- two lines, added
pub derived_by_pair : (system : System) (a : ℤ) (left : Line) (b : ℤ) (right result : Line) → pos 0 ≤ℤ a → pos 0 ≤ℤ b → IsDerived system left
    → IsDerived system right
    → made_line false a left.numbers b right.numbers ≡ Some result → IsDerived system result
derived_by_pair system a left b right result n o h k m =
    let signs : Signs false system.rows (combination a (multipliers_of system.columns left) b (multipliers_of system.columns right)) =
    signs_sum false system.rows (multiple_of a (multipliers_of system.columns left)) (multiple_of b (multipliers_of system.columns right))
    (signs_scaled false a system.rows (multipliers_of system.columns left) n (signs_false left.equal system.rows (multipliers_of system.columns left) h.signs))
    (signs_scaled false b system.rows (multipliers_of system.columns right) o (signs_false right.equal system.rows (multipliers_of system.columns right) k.signs)) in
    subst (λ (l : Line). IsDerived system l) (made_is false a left.numbers b right.numbers result m) (derived_made system false a left b right h k signs)
