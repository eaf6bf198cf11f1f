-- The bounds that lines put on a column, step by step.
use Rattle.std.proofs.Common.{◌≡◌, ℕ, zero, suc, ◌<◌, ◌≤◌, refl, ap, ◌∙◌, arith, List, [], ◌∷◌, take, drop, length, get_or, Bool, true, false, cond, Option, Some, None}
use Rattle.std.specs.Prelude.{ℤ, pos, negsuc, neg_ℤ, ◌+ℤ◌, ◌-ℤ◌, ◌*ℤ◌, ◌<ℤ◌, slice_set, ◌&&◌}
use Rattle.std.specs.Option.{option_and_then}
use Rattle.std.proofs.lemmas.List.{length-set, length-take-le}
use Rattle.std.proofs.Math.ListN.{drop_of_length-le}
use Rattle.thr_base.specs.Number.{fits}
use Rattle.lin_rows.specs.Exact.{fitting}
use Rattle.farkas_cert.specs.Line.{Line, is_nonzero}
use Rattle.farkas_cert.specs.BackSubstitution.{RationalPoint, Bounds, minus_products, bounds_from}
use Rattle.lin_rows.proofs.Integers.{neg-mul_ℤ}
use Rattle.farkas_cert.proofs.Integers.{linear, mul-positive_ℤ}
use Rattle.plain_elim.specs.inside.PointParts.{minus_product, narrowed_by}

-- ---- a number less products
pub minus_product-some : (t a n p : ℤ) → Some p ≡ fitting (a *ℤ n) → fitting (t +ℤ neg_ℤ p) ≡ minus_product t a n
minus_product-some t a n p e = at (fits (a *ℤ n)) e where
  at : (b : Bool) → Some p ≡ cond b (Some (a *ℤ n)) None → fitting (t +ℤ neg_ℤ p) ≡ cond (b && fits (t -ℤ a *ℤ n)) (Some (t -ℤ a *ℤ n)) None
  at true e = let same : p ≡ a *ℤ n = cc in ap (λ q. fitting (t +ℤ neg_ℤ q)) same
  at false e = absurd cc

and_then_cond : (b : Bool) (f : ℤ → Option ℤ) (v : ℤ) → cond b (f v) None ≡ option_and_then f (cond b (Some v) None)
and_then_cond true f v = refl
and_then_cond false f v = refl

minus_products-step : (t : ℤ) (xs ns : List ℤ) (i : ℕ) → i < length xs → i < length ns
    → minus_products t (drop i xs) (drop i ns)
    ≡ option_and_then (λ u. minus_products u (drop (suc i) xs) (drop (suc i) ns)) (minus_product t (get_or xs i (pos 0)) (get_or ns i (pos 0)))
minus_products-step t [] ns i h k = absurd (omega arith)
minus_products-step t (x ∷ xs) [] i h k = absurd (omega arith)
minus_products-step t (x ∷ xs) (n ∷ ns) zero h k =
    and_then_cond (fits (x *ℤ n) && fits (t -ℤ x *ℤ n)) (λ u. minus_products u xs ns) (t -ℤ x *ℤ n)
minus_products-step t (x ∷ xs) (n ∷ ns) (suc i) h k = minus_products-step t xs ns i (omega arith) (omega arith)

pub minus_products-stops : (t : ℤ) (xs ns : List ℤ) (i : ℕ) → i < length xs → i < length ns
    → None ≡ minus_product t (get_or xs i (pos 0)) (get_or ns i (pos 0)) → minus_products t (drop i xs) (drop i ns) ≡ None
minus_products-stops t xs ns i h k e = minus_products-step t xs ns i h k ∙ rw (← e) refl

pub minus_products-goes : (t u : ℤ) (xs ns : List ℤ) (i : ℕ) → i < length xs → i < length ns
    → Some u ≡ minus_product t (get_or xs i (pos 0)) (get_or ns i (pos 0))
    → minus_products t (drop i xs) (drop i ns) ≡ minus_products u (drop (suc i) xs) (drop (suc i) ns)
minus_products-goes t u xs ns i h k e = minus_products-step t xs ns i h k ∙ rw (← e) refl

pub minus_products-end : (t : ℤ) (xs ns : List ℤ) (i : ℕ) → length ns ≤ i → minus_products t (drop i xs) (drop i ns) ≡ Some t
minus_products-end t xs ns i h = rw (drop_of_length-le ns h) (at (drop i xs)) where
  at : (ys : List ℤ) → minus_products t ys [] ≡ Some t
  at [] = refl
  at (y ∷ ys) = refl

-- the coefficients of the other columns
abbrev pub others : ℕ → ℕ → List ℤ → List ℤ
others n c numbers = slice_set (take n numbers) c (pos 0)

pub length-others : (n c : ℕ) (numbers : List ℤ) → n ≤ length numbers → length (others n c numbers) ≡ n
length-others n c numbers h = length-set (take n numbers) c (pos 0) ∙ length-take-le n numbers h

-- a coefficient other than 0 times a positive denominator
pub nonzero_product : (a d : ℤ) → is_nonzero a ≡ true → pos 0 <ℤ d → a *ℤ d ≡ pos 0 → ⊥
nonzero_product (pos zero) d h k e = absurd cc
nonzero_product (pos (suc a)) d h k e = omega (arith, linear, mul-positive_ℤ (pos (suc a)) d (omega (arith, linear)) k)
nonzero_product (negsuc a) d h k e = omega (arith, linear, mul-positive_ℤ (pos (suc a)) d (omega (arith, linear)) k, neg-mul_ℤ (pos (suc a)) d)

-- ---- the bounds of lines
bounds_from-step : (n c : ℕ) (point : RationalPoint) (bounds : Bounds) (lines : List Line) (i : ℕ) (line : Line) → i < length lines → line ≡ get_or lines i line
    → bounds_from n c point bounds (drop i lines) ≡ option_and_then (λ next. bounds_from n c point next (drop (suc i) lines)) (narrowed_by n c point line bounds)
unfolding bounds_from
bounds_from-step n c point bounds [] i line h e = absurd (omega arith)
bounds_from-step n c point bounds (y ∷ lines) zero line h e = rw e refl
bounds_from-step n c point bounds (y ∷ lines) (suc i) line h e = bounds_from-step n c point bounds lines i line (omega arith) e

pub bounds_from-stops : (n c : ℕ) (point : RationalPoint) (bounds : Bounds) (lines : List Line) (i : ℕ) (line : Line) → i < length lines → line ≡ get_or lines i line
    → None ≡ narrowed_by n c point line bounds → bounds_from n c point bounds (drop i lines) ≡ None
bounds_from-stops n c point bounds lines i line h e none = bounds_from-step n c point bounds lines i line h e ∙ rw (← none) refl

pub bounds_from-goes : (n c : ℕ) (point : RationalPoint) (bounds next : Bounds) (lines : List Line) (i : ℕ) (line : Line) → i < length lines → line ≡ get_or lines i line
    → Some next ≡ narrowed_by n c point line bounds → bounds_from n c point bounds (drop i lines) ≡ bounds_from n c point next (drop (suc i) lines)
bounds_from-goes n c point bounds next lines i line h e some = bounds_from-step n c point bounds lines i line h e ∙ rw (← some) refl

pub bounds_from-end : (n c : ℕ) (point : RationalPoint) (bounds : Bounds) (lines : List Line) (i : ℕ) → length lines ≤ i
    → bounds_from n c point bounds (drop i lines) ≡ Some bounds
unfolding bounds_from
bounds_from-end n c point bounds lines i h = rw (drop_of_length-le lines h) refl
