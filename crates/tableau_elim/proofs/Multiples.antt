-- The common denominator, one value after the other, and sums that fit.
use Rattle.std.proofs.Common.{◌≡◌, ℕ, zero, suc, ◌+◌, ◌*◌, ◌/◌, ◌%◌, ◌^◌, ◌<◌, ◌≤◌, refl, sym, ◌∙◌, ap, ap₂, subst, arith, List, [], ◌∷◌, map, drop, length, get_or, Option, Some, None, Bool, true, false, cond}
use Rattle.std.specs.Prelude.{ℤ, pos, negsuc, ◌+ℤ◌, ◌*ℤ◌, ◌<ℤ◌, unsigned_abs, fold, ◌&&◌}
use Rattle.std.specs.List.{AllByRecursion}
use Rattle.std.specs.Option.{option_map, option_map_or}
use Rattle.std.proofs.Math.Nat.{div-add-mod, mul-le-mul_right}
use Rattle.std.proofs.lemmas.List.{drop_more, drop_all}
use Rattle.std.proofs.lemmas.Bool.{true≢false}
use Rattle.std.proofs.lemmas.Int.{ints}
use Rattle.std.proofs.lemmas.Nat.Gcd.{le_of_dvd, mod-eq-zero_of_dvd}
use Rattle.thr_base.specs.Number.{Fits, fits}
use Rattle.lin_rows.specs.Exact.{fitting}
use Rattle.lin_rows.specs.Gcd.{gcd, lcm}
use Rattle.lin_rows.specs.Row.{product_of}
use Rattle.lin_rows.specs.Sum.{sum_with_product, overflow_from}
use Rattle.lin_rows.proofs.Divisors.{IsGcd-gcd}
use Rattle.lin_rows.proofs.Numbers.{fits-true, true-fits, Fits-int_div_euclid, zero_fits}
use Rattle.lin_rows.proofs.Sums.{summed-some, sum_in_order-given}
use Rattle.farkas_cert.specs.BackSubstitution.{Fraction}
use Rattle.farkas_cert.specs.Divided.{over}
use Rattle.farkas_cert.proofs.Divisors.{over-exact}
use Rattle.farkas_cert.proofs.Eliminates.{positive_abs}
use Rattle.farkas_cert.proofs.Fractions.{positive_over}
use Rattle.tableau_elim.specs.Tableau.{Line, sum_of_line, value_at_place}
use Rattle.farkas_cert.specs.Elimination.{every}
use Rattle.farkas_cert.specs.Line.{all_fit}
use Rattle.farkas_cert.proofs.Reduced.{fitting_is, divisor_positive}
use Rattle.tableau_elim.specs.Rounds.{common_denominator, point_over, Point, GaveUp}
use Rattle.tableau_elim.specs.inside.Combined.{numerator_over}
use Rattle.tableau_elim.specs.declared.variable.Variable.{Variable}
use Rattle.tableau_elim.specs.declared.point.Value.{Value as HeldValue}
use Rattle.tableau_elim.specs.inside.Held.{fraction_in, IsValue}

-- ---- fractions

pub value_parts : (t s : ℤ) → Fits t → Fits s → pos 0 <ℤ s →
    let g = gcd (unsigned_abs t) (unsigned_abs s) in IsValue (record { numerator = over g t; denominator = over g s })
value_parts t s ht hs h =
    let g = gcd (unsigned_abs t) (unsigned_abs s) in
    let exact = over-exact g s (IsGcd-gcd (unsigned_abs t) (unsigned_abs s)).1 in
    record {
      positive = positive_over (pos g) (over g s) s (divisor_positive t s h) exact h;
      numerator_fits = Fits-int_div_euclid t g ht;
      denominator_fits = Fits-int_div_euclid s g hs;
    }

-- ---- what is given where it fits

pub fitting_none : (z : ℤ) → None ≡ fitting z → fits z ≡ false
fitting_none z e = by_test (fits z) refl e where
  by_test : (b : Bool) → fits z ≡ b → None ≡ cond b (Some z) None → fits z ≡ false
  by_test true t e = absurd cc
  by_test false t e = t

pub fitting_some : (z : ℤ) → Fits z → Some z ≡ fitting z
fitting_some z h = rw (true-fits z h) refl

pub not_fitting : (z : ℤ) → fits z ≡ false → None ≡ fitting z
not_fitting z e = rw e refl

-- ---- multiples

abbrev pub multiple_from : ℕ → List Fraction → ℕ
multiple_from d values = fold (λ d value. lcm d (unsigned_abs value.denominator)) d values

multiple_grows : (a b : ℕ) → 0 < b → a ≤ lcm a b
multiple_grows a b h =
    let g = gcd a b in
    let is = IsGcd-gcd a b in
    let exact = div-add-mod a g in
    let rest : a % g ≡ 0 = mod-eq-zero_of_dvd g is.0 in
    let below : g ≤ b = le_of_dvd h is.1 in
    let more : g * (a / g) ≤ b * (a / g) = mul-le-mul_right (a / g) below in
    omega arith

from_grows : (d : ℕ) (values : List Fraction) → AllByRecursion (λ value. 0 < unsigned_abs value.denominator) values → d ≤ multiple_from d values
from_grows d [] h = omega arith
from_grows d (value ∷ values) h =
    let one = multiple_grows d (unsigned_abs value.denominator) h.0 in
    let more = from_grows (lcm d (unsigned_abs value.denominator)) values h.1 in
    omega arith

pub multiple_begins : (values : List Fraction) → multiple_from 1 values ≡ common_denominator values
unfolding common_denominator
multiple_begins values = refl

none : HeldValue
none = record { numerator = pos 0; denominator = pos 1 }

multiple_step : (d : ℕ) (values : List HeldValue) (k : ℕ) (value : HeldValue) → k < length values → get_or values k value ≡ value
    → multiple_from d (map fraction_in (drop k values)) ≡ multiple_from (lcm d (unsigned_abs value.denominator)) (map fraction_in (drop (k + 1) values))
multiple_step d values k value h e =
    ap (λ vs. multiple_from d (map fraction_in vs)) (drop_more values k value h ∙ ap (λ v. v ∷ drop (k + 1) values) e)

denominators_positive : (values : List HeldValue) → AllByRecursion IsValue values → AllByRecursion (λ value. 0 < unsigned_abs value.denominator) (map fraction_in values)
denominators_positive [] h = tt
denominators_positive (value ∷ values) h = (positive_abs value.denominator h.0.positive, denominators_positive values h.1)

drop_values : (values : List HeldValue) (k : ℕ) → AllByRecursion IsValue values → AllByRecursion IsValue (drop k values)
drop_values values zero h = h
drop_values [] (suc k) h = tt
drop_values (value ∷ values) (suc k) h = drop_values values k h.1

-- so far
pub record IsMultiple (d : ℤ) (values : List HeldValue) (k : ℕ) : Type 0 where
  pub whole : multiple_from (unsigned_abs d) (map fraction_in (drop k values)) ≡ common_denominator (map fraction_in values)
  pub positive : pos 0 <ℤ d
  pub fits : Fits d

pub multiple_of_none : (values : List HeldValue) → IsMultiple (pos 1) values 0
multiple_of_none values = record { whole = multiple_begins (map fraction_in values); positive = omega (arith, ints); fits = omega arith }

pub multiple_goes_on : (d next : ℤ) (values : List HeldValue) (k : ℕ) (value : HeldValue) → k < length values → get_or values k value ≡ value → IsValue value
    → Some next ≡ fitting (pos (lcm (unsigned_abs d) (unsigned_abs value.denominator))) → IsMultiple d values k → IsMultiple next values (k + 1)
multiple_goes_on d next values k value h e v f i =
    let is = fitting_is (pos (lcm (unsigned_abs d) (unsigned_abs value.denominator))) next f in
    let grows = multiple_grows (unsigned_abs d) (unsigned_abs value.denominator) (positive_abs value.denominator v.positive) in
    let some = positive_abs d i.positive in
    let size = ap unsigned_abs is.0 in
    record {
      whole = ap (λ n. multiple_from n (map fraction_in (drop (k + 1) values))) size ∙ sym (multiple_step (unsigned_abs d) values k value h e) ∙ i.whole;
      positive = subst (λ (z : ℤ). pos 0 <ℤ z) (sym is.0) (omega (arith, ints));
      fits = is.1;
    }

below_fits : (m n : ℕ) → m ≤ n → fits (pos m) ≡ false → fits (pos n) ≡ false
below_fits m n h e = at (fits (pos n)) refl where
  at : (b : Bool) → fits (pos n) ≡ b → fits (pos n) ≡ false
  at true t = let f : n < 2 ^ 127 = fits-true (pos n) t in let g : m < 2 ^ 127 = omega arith in absurd (true≢false (sym (true-fits (pos m) g) ∙ e))
  at false t = t

pub multiple_stops : (d : ℤ) (values : List HeldValue) (k : ℕ) (value : HeldValue) → k < length values → get_or values k value ≡ value → AllByRecursion IsValue values
    → None ≡ fitting (pos (lcm (unsigned_abs d) (unsigned_abs value.denominator))) → IsMultiple d values k
    → None ≡ fitting (pos (common_denominator (map fraction_in values)))
multiple_stops d values k value h e all f i =
    let m = lcm (unsigned_abs d) (unsigned_abs value.denominator) in
    let grows = from_grows m (map fraction_in (drop (k + 1) values)) (denominators_positive (drop (k + 1) values) (drop_values values (k + 1) all)) in
    let whole = sym (multiple_step (unsigned_abs d) values k value h e) ∙ i.whole in
    not_fitting (pos (common_denominator (map fraction_in values))) (below_fits m (common_denominator (map fraction_in values)) (subst (λ n. m ≤ n) whole grows) (fitting_none (pos m) f))

pub multiple_ends : (d : ℤ) (values : List HeldValue) (k : ℕ) → length values ≤ k → IsMultiple d values k → Some d ≡ fitting (pos (common_denominator (map fraction_in values)))
multiple_ends d values k h i =
    let all : unsigned_abs d ≡ common_denominator (map fraction_in values) = ap (λ vs. multiple_from (unsigned_abs d) (map fraction_in vs)) (sym (drop_all k values h)) ∙ i.whole in
    let same : d ≡ pos (common_denominator (map fraction_in values)) = positive_is d i.positive ∙ ap pos all in
    ap Some same ∙ fitting_some (pos (common_denominator (map fraction_in values))) (subst Fits same i.fits)
  where
    positive_is : (d : ℤ) → pos 0 <ℤ d → d ≡ pos (unsigned_abs d)
    positive_is (pos n) h = refl
    positive_is (negsuc n) h = absurd (omega (arith, ints))

-- ---- sums that are given fit

sum_fits : (s : ℤ) (xs ys : List ℤ) → overflow_from s xs ys ≡ None → Fits s → Fits (s +ℤ product_of xs ys)
sum_fits s [] ys e h = subst Fits (omega (arith, ints)) h
sum_fits s (x ∷ xs) [] e h = subst Fits (omega (arith, ints)) h
sum_fits s (x ∷ xs) (y ∷ ys) e h = at (λ more. sum_fits more xs ys) (sum_with_product s (x *ℤ y)) refl e where
  later : (o : Option ℕ) → option_map suc o ≡ None → o ≡ None
  later None e = refl
  later (Some n) e = absurd cc

  at : ((more : ℤ) → overflow_from more xs ys ≡ None → Fits more → Fits (more +ℤ product_of xs ys)) → (o : Option ℤ) → sum_with_product s (x *ℤ y) ≡ o
      → option_map_or (λ more. option_map suc (overflow_from more xs ys)) o (Some 0) ≡ None → Fits (s +ℤ (x *ℤ y +ℤ product_of xs ys))
  at rest None is e = absurd cc
  at rest (Some more) is e =
      let made = summed-some s (x *ℤ y) more (sym is) in
      subst Fits (omega (arith, ints, made.0)) (rest more (later (overflow_from more xs ys) e) made.1)

pub line_sum_fits : (places : List Variable) (line : Line) (sum : ℤ) → Some sum ≡ sum_of_line places line → Fits sum
unfolding sum_of_line
line_sum_fits places line sum e =
    let is = sum_in_order-given (drop 1 line.numbers) (map value_at_place places) sum (sym e) in
    subst Fits (omega (arith, ints, is.1)) (sum_fits (pos 0) (drop 1 line.numbers) (map value_at_place places) is.0 zero_fits)

-- ---- numerators over a common denominator

every_fitting : (f : Fraction → ℤ) (values : List Fraction) → every (map (λ value. fitting (f value)) values) ≡ cond (all_fit (map f values)) (Some (map f values)) None
unfolding every
every_fitting f [] = refl
every_fitting f (value ∷ values) = at (fits (f value)) (all_fit (map f values)) refl (every_fitting f values) where
  at : (a b : Bool) → fits (f value) ≡ a → every (map (λ value. fitting (f value)) values) ≡ cond b (Some (map f values)) None
      → every (cond a (Some (f value)) None ∷ map (λ value. fitting (f value)) values) ≡ cond (a && b) (Some (f value ∷ map f values)) None
  at true true t e = ap (option_map (λ ys. f value ∷ ys)) e
  at true false t e = ap (option_map (λ ys. f value ∷ ys)) e
  at false b t e = refl

pub point_made : (values : List Fraction) (x xs : List ℤ) (d e : ℤ) → Some d ≡ fitting (pos (common_denominator values)) → e ≡ d → Some xs ≡ every (map (numerator_over d) values) → x ≡ xs
    → Point x e ≡ point_over values
unfolding point_over
point_made values x xs d e f same g is =
    let d_is = fitting_is (pos (common_denominator values)) d f in
    let c = common_denominator values in
    let fit = true-fits (pos c) (subst Fits d_is.0 d_is.1) in
    let all : Some xs ≡ cond (all_fit (map (λ value. value.numerator *ℤ over (unsigned_abs value.denominator) (pos c)) values)) (Some (map (λ value. value.numerator *ℤ over (unsigned_abs value.denominator) (pos c)) values)) None =
    g ∙ ap (λ d. every (map (numerator_over d) values)) d_is.0 ∙ every_fitting (λ value. value.numerator *ℤ over (unsigned_abs value.denominator) (pos c)) values in
    at (fits (pos c)) (all_fit (map (λ value. value.numerator *ℤ over (unsigned_abs value.denominator) (pos c)) values)) fit all
  where
    at : (a b : Bool) → a ≡ true → Some xs ≡ cond b (Some (map (λ value. value.numerator *ℤ over (unsigned_abs value.denominator) (pos (common_denominator values))) values)) None
        → Point x e ≡ cond (a && b) (Point (map (λ value. value.numerator *ℤ over (unsigned_abs value.denominator) (pos (common_denominator values))) values) (pos (common_denominator values))) GaveUp
    at true true t all =
        let xs_is : xs ≡ map (λ value. value.numerator *ℤ over (unsigned_abs value.denominator) (pos (common_denominator values))) values = cc in
        ap₂ (λ x e. Point x e) (is ∙ xs_is) (same ∙ (fitting_is (pos (common_denominator values)) d f).0)
    at true false t all = absurd cc
    at false b t all = absurd cc

pub point_none : (values : List Fraction) (d : ℤ) → Some d ≡ fitting (pos (common_denominator values)) → None ≡ every (map (numerator_over d) values) → GaveUp ≡ point_over values
unfolding point_over
point_none values d f g =
    let d_is = fitting_is (pos (common_denominator values)) d f in
    let c = common_denominator values in
    let all = g ∙ ap (λ d. every (map (numerator_over d) values)) d_is.0 ∙ every_fitting (λ value. value.numerator *ℤ over (unsigned_abs value.denominator) (pos c)) values in
    at (fits (pos c)) (all_fit (map (λ value. value.numerator *ℤ over (unsigned_abs value.denominator) (pos c)) values)) all
  where
    at : (a b : Bool) → None ≡ cond b (Some (map (λ value. value.numerator *ℤ over (unsigned_abs value.denominator) (pos (common_denominator values))) values)) None
        → GaveUp ≡ cond (a && b) (Point (map (λ value. value.numerator *ℤ over (unsigned_abs value.denominator) (pos (common_denominator values))) values) (pos (common_denominator values))) GaveUp
    at true true all = absurd cc
    at true false all = refl
    at false b all = refl

pub point_unfit : (values : List Fraction) → None ≡ fitting (pos (common_denominator values)) → GaveUp ≡ point_over values
unfolding point_over
point_unfit values f = rw (fitting_none (pos (common_denominator values)) f) refl

pub get_map : (values : List HeldValue) (k : ℕ) (d : HeldValue) → get_or (map fraction_in values) k (fraction_in d) ≡ fraction_in (get_or values k d)
get_map [] k d = refl
get_map (value ∷ values) zero d = refl
get_map (value ∷ values) (suc k) d = get_map values k d
