-- The numerators of a point while a column is set.
use Rattle.std.proofs.Common.{◌≡◌, ℕ, zero, suc, ◌<◌, refl, sym, ap, subst, ◌∙◌, arith, List, [], ◌∷◌, ◌++◌, take, drop, length, get_or, Bool, true, false, cond, Option, Some, None}
use Rattle.std.specs.Prelude.{ℤ, pos, ◌*ℤ◌, ◌<ℤ◌, slice_set, ◌&&◌}
use Rattle.std.specs.Option.{option_and_then}
use Rattle.thr_base.specs.Number.{Fits, fits}
use Rattle.lin_rows.specs.Exact.{fitting}
use Rattle.lin_rows.specs.Row.{multiple_of}
use Rattle.lin_rows.proofs.Integers.{mul-zero_ℤ}
use Rattle.std.specs.Bool.{OnTrue}
use Rattle.std.specs.List.{AllByRecursion}
use Rattle.lin_rows.proofs.Numbers.{true-fits}
use Rattle.farkas_cert.proofs.Integers.{mul-positive_ℤ}
use Rattle.farkas_cert.specs.Line.{all_fit}
use Rattle.plain_elim.specs.inside.PointParts.{IsPoint}
use Rattle.farkas_cert.specs.BackSubstitution.{RationalPoint, assigned_point_by}
use Rattle.farkas_cert.proofs.Reduced.{fitting_is}
use Rattle.farkas_cert.proofs.Combinations.{all_fit-true}

-- ---- a list of which the first i numbers are multiplied by k
abbrev pub scaled_to : ℤ → ℕ → List ℤ → List ℤ
scaled_to k i xs = multiple_of k (take i xs) ++ drop i xs

pub get-scaled_to : (k : ℤ) (xs : List ℤ) (i : ℕ) → i < length xs → get_or (scaled_to k i xs) i (pos 0) ≡ get_or xs i (pos 0)
get-scaled_to k [] i h = absurd (omega arith)
get-scaled_to k (x ∷ xs) zero h = refl
get-scaled_to k (x ∷ xs) (suc i) h = get-scaled_to k xs i (omega arith)

pub set-scaled_to : (k : ℤ) (xs : List ℤ) (i : ℕ) → i < length xs
    → slice_set (scaled_to k i xs) i (k *ℤ get_or xs i (pos 0)) ≡ scaled_to k (suc i) xs
set-scaled_to k [] i h = absurd (omega arith)
set-scaled_to k (x ∷ xs) zero h = refl
set-scaled_to k (x ∷ xs) (suc i) h = ap (λ ys. (k *ℤ x) ∷ ys) (set-scaled_to k xs i (omega arith))

pub fit-scaled_from : (k : ℤ) (xs : List ℤ) (i : ℕ) → i < length xs
    → all_fit (multiple_of k (drop i xs)) ≡ (fits (k *ℤ get_or xs i (pos 0)) && all_fit (multiple_of k (drop (suc i) xs)))
fit-scaled_from k [] i h = absurd (omega arith)
fit-scaled_from k (x ∷ xs) zero h = refl
fit-scaled_from k (x ∷ xs) (suc i) h = fit-scaled_from k xs i (omega arith)

-- ---- one number set among those that are multiplied
set_scaled : (k : ℤ) (xs : List ℤ) (c : ℕ) (w : ℤ) → slice_set (multiple_of k (slice_set xs c (pos 0))) c w ≡ slice_set (multiple_of k xs) c w
set_scaled k [] c w = refl
set_scaled k (x ∷ xs) zero w = refl
set_scaled k (x ∷ xs) (suc c) w = ap (λ ys. (k *ℤ x) ∷ ys) (set_scaled k xs c w)

and_left_comm : (a b c : Bool) → (a && (b && c)) ≡ (b && (a && c))
and_left_comm true true c = refl
and_left_comm true false c = refl
and_left_comm false true c = refl
and_left_comm false false c = refl

fit_set : (k : ℤ) (xs : List ℤ) (c : ℕ) (w : ℤ) → c < length xs
    → all_fit (slice_set (multiple_of k xs) c w) ≡ (fits w && all_fit (multiple_of k (slice_set xs c (pos 0))))
fit_set k [] c w h = absurd (omega arith)
fit_set k (x ∷ xs) zero w h = rw (mul-zero_ℤ k) refl
fit_set k (x ∷ xs) (suc c) w h =
    ap (λ b. fits (k *ℤ x) && b) (fit_set k xs c w (omega arith)) ∙ and_left_comm (fits (k *ℤ x)) (fits w) (all_fit (multiple_of k (slice_set xs c (pos 0))))

-- the same, where w fits
pub fit_among : (k : ℤ) (xs : List ℤ) (c : ℕ) (w : ℤ) → c < length xs → Fits w
    → all_fit (multiple_of k (slice_set xs c (pos 0))) ≡ all_fit (slice_set (multiple_of k xs) c w)
fit_among k xs c w h f = sym (fit_set k xs c w h ∙ ap (λ b. b && all_fit (multiple_of k (slice_set xs c (pos 0)))) (true-fits w f))

-- ---- the point with column c set to w, over d, where the numerators fit
abbrev pub set_point : ℕ → List ℤ → ℤ → ℤ → ℤ → Option RationalPoint
set_point c xs scale w d = cond (all_fit (slice_set (multiple_of scale xs) c w)) (Some (record { numerators = slice_set (multiple_of scale xs) c w; denominator = d })) None

by_parts : (c : ℕ) (xs : List ℤ) (scale w d : ℤ) (a b e : Bool) → all_fit (slice_set (multiple_of scale xs) c w) ≡ (a && b)
    → cond ((a && b) && e) (Some (record { numerators = slice_set (multiple_of scale xs) c w; denominator = d })) None
    ≡ option_and_then (λ v. option_and_then (set_point c xs scale v) (cond e (Some d) None)) (cond a (Some w) None)
by_parts c xs scale w d true true true t = rw t refl
by_parts c xs scale w d true true false t = refl
by_parts c xs scale w d true false true t = rw t refl
by_parts c xs scale w d true false false t = refl
by_parts c xs scale w d false b e t = refl

-- One after another: the number, the denominator, and the numerators.
pub assigned_point_by-steps : (c : ℕ) (point : RationalPoint) (v share scale : ℤ) → c < length point.numerators
    → assigned_point_by c point v share scale
    ≡ option_and_then (λ w. option_and_then (set_point c point.numerators scale w) (fitting (point.denominator *ℤ scale))) (fitting (v *ℤ share))
assigned_point_by-steps c point v share scale h =
    let fit = fit_set scale point.numerators c (v *ℤ share) h in
    rw fit
    (by_parts c point.numerators scale (v *ℤ share) (point.denominator *ℤ scale) (fits (v *ℤ share)) (all_fit (multiple_of scale (slice_set point.numerators c (pos 0)))) (fits (point.denominator *ℤ scale)) fit)

-- what the steps make
pub assigned_point_by-made : (c : ℕ) (point : RationalPoint) (v share scale w d : ℤ) (xs : List ℤ) → c < length point.numerators
    → Some w ≡ fitting (v *ℤ share) → Some d ≡ fitting (point.denominator *ℤ scale)
    → all_fit (slice_set (multiple_of scale point.numerators) c w) ≡ true → xs ≡ slice_set (multiple_of scale point.numerators) c w
    → Some (record { numerators = xs; denominator = d }) ≡ assigned_point_by c point v share scale
assigned_point_by-made c point v share scale w d xs h number denominator fit made =
    sym (assigned_point_by-steps c point v share scale h ∙ rw (← number, ← denominator) (rw (fit, made) refl))

-- what was set is a point
pub IsPoint-set : (xs ys : List ℤ) (d e scale : ℤ) → ys ≡ xs → all_fit xs ≡ true → pos 0 <ℤ e → pos 0 <ℤ scale → Some d ≡ fitting (e *ℤ scale) → IsPoint ys d
IsPoint-set xs ys d e scale same t h k f =
    let product = fitting_is (e *ℤ scale) d f in
    let positive : pos 0 <ℤ d = subst (λ (z : ℤ). pos 0 <ℤ z) (sym product.0) (mul-positive_ℤ e scale h k) in
    let fit : AllByRecursion Fits ys = subst (λ (zs : List ℤ). AllByRecursion Fits zs) (sym same) (all_fit-true xs t) in
    record { positive = positive; numerators_fit = fit; denominator_fits = product.1 }

pub OnTrue-set : (b : Bool) (k : ℤ) (xs ys : List ℤ) (c : ℕ) (w : ℤ) → OnTrue b (ys ≡ multiple_of k (slice_set xs c (pos 0)))
    → OnTrue b (slice_set ys c w ≡ slice_set (multiple_of k xs) c w)
OnTrue-set true k xs ys c w h = ap (λ zs. slice_set zs c w) h ∙ set_scaled k xs c w
OnTrue-set false k xs ys c w h = h
