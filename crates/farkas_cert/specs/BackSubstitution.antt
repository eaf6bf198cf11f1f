-- The point that the elimination gives: the columns are set one after another, each between the bounds that the lines kept for it
-- put on it, to a whole number where there is one.
use Rattle.std.specs.Prelude.{ℕ, suc, ℤ, pos, negsuc, neg_ℤ, ◌-ℤ◌, ◌*ℤ◌, unsigned_abs, Bool, true, false, cond, ◌&&◌, int_lt, int_le, List, [], ◌∷◌, take, slice_set, Option, Some, None}
use Rattle.std.specs.Int.{int_div_euclid}
use Rattle.std.specs.Option.{option_map, option_and_then}
use Rattle.thr_base.specs.Number.{fits}
use Rattle.lin_rows.specs.Exact.{fitting}
use Rattle.lin_rows.specs.Row.{multiple_of}
use Rattle.lin_rows.specs.Gcd.{gcd}
use Rattle.farkas_cert.specs.Divided.{over}
use Rattle.farkas_cert.specs.Line.{Line, coefficient_at, bound_of, all_fit}

-- numerators, one for each column, over one denominator
pub record RationalPoint : Type 0 where
  pub numerators : List ℤ
  pub denominator : ℤ

-- a reduced fraction with a positive denominator
pub record Fraction : Type 0 where
  pub numerator : ℤ
  pub denominator : ℤ

abbrev pub whole : ℤ → Fraction
whole v = record { numerator = v; denominator = pos 1 }

abbrev pub reduced_fraction : ℤ → ℕ → Fraction
reduced_fraction t s = let g = gcd (unsigned_abs t) s in record { numerator = over g t; denominator = over g (pos s) }

-- t / s, for an s other than 0
unfoldable pub fraction : ℤ → ℤ → Fraction
fraction t (pos s) = reduced_fraction t s
fraction t (negsuc s) = reduced_fraction (neg_ℤ t) (suc s)

-- the greatest whole number not above a fraction, and the least not below it; where the fraction fits, they do
abbrev pub floor_of : Fraction → ℤ
floor_of f = int_div_euclid f.numerator f.denominator

abbrev pub ceiling_of : Fraction → ℤ
ceiling_of f = neg_ℤ (int_div_euclid (neg_ℤ f.numerator) f.denominator)

-- t minus the products of two lists, one after another; nothing where a product or a difference does not fit
abbrev pub minus_products : ℤ → List ℤ → List ℤ → Option ℤ
minus_products t [] ns = Some t
minus_products t (a ∷ coefficients) [] = Some t
minus_products t (a ∷ coefficients) (n ∷ ns) =
    cond (fits (a *ℤ n) && fits (t -ℤ a *ℤ n)) (minus_products (t -ℤ a *ℤ n) coefficients ns) None

-- the bound that a line puts on column c, where the other columns have their values: its bound times the denominator, less the
-- products of the other columns, over its coefficient times the denominator
unfoldable pub bound_on : ℕ → ℕ → RationalPoint → Line → Option Fraction
bound_on n c point line =
    let others = slice_set (take n line.numbers) c (pos 0) in
    option_and_then (λ t. option_map (fraction t) (fitting (coefficient_at c line *ℤ point.denominator)))
    (option_and_then (λ t. minus_products t others point.numerators) (fitting (bound_of n line *ℤ point.denominator)))

-- the greatest lower and the least upper bound of a column so far
pub record Bounds : Type 0 where
  pub lower : Option Fraction
  pub upper : Option Fraction

-- whether f is below g, by cross products that fit
abbrev pub is_below : Fraction → Fraction → Option Bool
is_below f g =
    let left = f.numerator *ℤ g.denominator in
    let right = g.numerator *ℤ f.denominator in
    cond (fits left && fits right) (Some (int_lt left right)) None

-- the greater, or the lesser, of what stood so far and f; the first is compared with nothing
abbrev pub greater_of : Option Fraction → Fraction → Option Fraction
greater_of None f = Some f
greater_of (Some best) f = option_map (λ less. cond less f best) (is_below best f)

abbrev pub lesser_of : Option Fraction → Fraction → Option Fraction
lesser_of None f = Some f
lesser_of (Some best) f = option_map (λ less. cond less f best) (is_below f best)

-- An inequality with a positive coefficient gives an upper bound, one with a negative a lower bound.
abbrev pub narrowed_bounds : Bool → Bounds → Fraction → Option Bounds
narrowed_bounds true bounds f = option_map (λ u. record bounds { upper = Some u }) (lesser_of bounds.upper f)
narrowed_bounds false bounds f = option_map (λ l. record bounds { lower = Some l }) (greater_of bounds.lower f)

-- the bounds that lines put on column c, in order
unfoldable pub bounds_from : ℕ → ℕ → RationalPoint → Bounds → List Line → Option Bounds
bounds_from n c point bounds [] = Some bounds
bounds_from n c point bounds (line ∷ lines) =
    option_and_then (λ next. bounds_from n c point next lines)
    (option_and_then (narrowed_bounds (int_lt (pos 0) (coefficient_at c line)) bounds) (bound_on n c point line))

-- the least whole number not below the lower bound, where it is not above the upper one, and else the lower bound;
-- without a lower bound the greatest whole number not above the upper one
abbrev pub chosen_value : Option Fraction → Option Fraction → Fraction
chosen_value (Some low) (Some high) = cond (int_le (ceiling_of low) (floor_of high)) (whole (ceiling_of low)) low
chosen_value (Some low) None = whole (ceiling_of low)
chosen_value None (Some high) = whole (floor_of high)
chosen_value None None = whole (pos 0)

-- Column c gets v times the share, and the others and the denominator are multiplied by the scale; nothing where a product does not fit.
abbrev pub assigned_point_by : ℕ → RationalPoint → ℤ → ℤ → ℤ → Option RationalPoint
assigned_point_by c point v share scale =
    let numerators = slice_set (multiple_of scale point.numerators) c (v *ℤ share) in
    let denominator = point.denominator *ℤ scale in
    cond (all_fit numerators && fits denominator) (Some (record { numerators = numerators; denominator = denominator })) None

-- Column c gets the value f, over the least denominator that it has in common with the point.
unfoldable pub assigned_point : ℕ → RationalPoint → Fraction → Option RationalPoint
assigned_point c point f =
    let g = gcd (unsigned_abs point.denominator) (unsigned_abs f.denominator) in
    assigned_point_by c point f.numerator (over g point.denominator) (over g f.denominator)

-- what a stage kept: an equality for its lowest column, or inequalities for the lowest column of all
pub data Kept : Type 0 where
  Solved : ℕ → Line → Kept
  Bounded : ℕ → List Line → Kept

-- The column of a stage is set: to an equality's bound, or between the bounds of inequalities.
unfoldable pub set_column : ℕ → RationalPoint → Kept → Option RationalPoint
set_column n point (Solved c line) = option_and_then (assigned_point c point) (bound_on n c point line)
set_column n point (Bounded c lines) =
    let none : Bounds = record { lower = None; upper = None } in
    option_and_then (λ b. assigned_point c point (chosen_value b.lower b.upper)) (bounds_from n c point none lines)
