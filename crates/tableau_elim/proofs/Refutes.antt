-- The certificate of a line that no place can mend refutes, and is reduced.
use Rattle.std.proofs.Common.{◌≡◌, ℕ, zero, suc, ◌+◌, ◌<◌, ◌≤◌, refl, sym, ◌∙◌, ap, subst, arith, List, [], ◌∷◌, map, length, drop, get_or, replicate, Bool, true, false, cond, Option, Some, None, inl, inr}
use Rattle.std.specs.Prelude.{ℤ, fold, pos, neg_ℤ, ◌+ℤ◌, ◌-ℤ◌, ◌*ℤ◌, ◌<ℤ◌, int_lt, ◌&&◌, slice_set, slice_get}
use Rattle.std.specs.List.{AllByRecursion, range_with_len}
use Rattle.std.specs.Option.{option_map}
use Rattle.std.proofs.lemmas.Bool.{false≢true}
use Rattle.std.proofs.lemmas.Int.{ints, by_lt_z}
use Rattle.std.proofs.lemmas.List.{drop-drop}
use Rattle.thr_base.specs.Number.{fits}
use Rattle.lin_rows.specs.Exact.{fitting}
use Rattle.lin_rows.specs.Gcd.{gcd_of}
use Rattle.lin_rows.specs.Row.{Row, product_of}
use Rattle.lin_rows.specs.Sum.{sum_in_order}
use Rattle.lin_rows.specs.System.{System, HasWidths}
use Rattle.lin_rows.proofs.Integers.{one-mul_ℤ, zero-mul_ℤ, mul-zero_ℤ, mul-le-mul_ℤ, mul-neg_ℤ, mul_comm_ℤ}
use Rattle.lin_rows.proofs.Points.{product_of-neg, product_of-nil, product_of-AllZero}
use Rattle.lin_rows.proofs.Sums.{sum_in_order-given}
use Rattle.farkas_cert.specs.Cert.{weighted_sum}
use Rattle.farkas_cert.specs.Divided.{divided_numbers}
use Rattle.farkas_cert.specs.Line.{nonzero_pairs}
use Rattle.farkas_cert.proofs.Derived.{divided_primitive}
use Rattle.farkas_cert.proofs.Integers.{linear}
use Rattle.farkas_cert.proofs.Linear.{product-linear, divided_vanishes, of_divided}
use Rattle.farkas_cert.proofs.Refuting.{IsProvedBy, zeros_product}
use Rattle.farkas_cert.proofs.Signs.{Signs, RowSign, signs_over, nonzero_pairs-in_order, split_at}
use Rattle.farkas_cert.proofs.Weighted.{values_at, bounds_of, weighted_coefficients, weighted_bound, zeros_from_products, divides_listed}
use Rattle.tableau_elim.specs.Tableau.{Line, Tableau, divisor_of, comes_before, value_at_place, given_tableau, given_lines, sum_of_line}
use Rattle.tableau_elim.specs.Rounds.{standing_of, standing_by_basic, standing_by, standing_to_limit, chosen_place, lower, suitable_from, with_places, with_multiplier, signed_multipliers, multipliers}
use Rattle.tableau_elim.specs.declared.variable.Variable.{Variable}
use Rattle.tableau_elim.specs.declared.variable.Variable.TheVariants.{Column, Slack}
use Rattle.tableau_elim.specs.declared.standing.Side.{Side}
use Rattle.tableau_elim.specs.declared.standing.Side.TheVariants.{High, Low}
use Rattle.tableau_elim.specs.declared.standing.Standing.TheVariants.{Within, Out}
use Rattle.tableau_elim.proofs.Identities.{Values, Holds}
use Rattle.tableau_elim.proofs.Kept.{NotAmong, Distinct, IsOf, IsSlackOf, IsKeptLine, IsKept}
use Rattle.tableau_elim.proofs.Weights.{slack_value, slack_or, IsFree, free_after, none_suitable, only_slacks, places_product, signed_number, set_signs, places_signs, zeros_signs, set_left}

-- ---- values by a point: a slack has the value of its row's left side

abbrev column_at : List ℤ → Variable → ℤ
column_at z (Column c) = get_or z c (pos 0)
column_at z (Slack s) = pos 0

abbrev pub point_values : System → List ℤ → Values
point_values system z = slack_or (column_at z) (values_at z system.rows)

head_and_rest : (x : ℤ) (xs ys : List ℤ) → product_of (x ∷ xs) ys ≡ x *ℤ get_or ys 0 (pos 0) +ℤ product_of xs (drop 1 ys)
head_and_rest x xs [] = omega (arith, linear, mul-zero_ℤ x, product_of-nil xs)
head_and_rest x xs (y ∷ ys) = refl

pub get_drop : (a : ℕ) (z : List ℤ) → get_or (drop a z) 0 (pos 0) ≡ get_or z a (pos 0)
get_drop zero z = refl
get_drop (suc a) [] = refl
get_drop (suc a) (x ∷ z) = get_drop a z

columns_product : (v : Values) (z xs : List ℤ) (a n : ℕ) → ((c : ℕ) → v (Column c) ≡ get_or z c (pos 0)) → length xs ≤ n
    → product_of xs (map v (map Column (range_with_len a n))) ≡ product_of xs (drop a z)
columns_product v z [] a n e h = refl
columns_product v z (x ∷ xs) a zero e h = absurd (omega arith)
columns_product v z (x ∷ xs) a (suc n) e h =
    let rest = columns_product v z xs (a + 1) n e (omega arith) in
    let split = head_and_rest x xs (drop a z) in
    let first = ap (λ y. x *ℤ y) (e a ∙ sym (get_drop a z)) in
    let later = ap (product_of xs) (drop-drop 1 a z) in
    omega (arith, linear)

get_values : (z : List ℤ) (rows : List Row) (k : ℕ) (row : Row) → slice_get rows k ≡ Some row → get_or (values_at z rows) k (pos 0) ≡ product_of row.coefficients z
get_values z [] k row e = absurd cc
get_values z (r ∷ rows) zero row e = let same : r ≡ row = cc in ap (λ (q : Row). product_of q.coefficients z) same
get_values z (r ∷ rows) (suc k) row e = get_values z rows k row e

pub get_bounds : (rows : List Row) (k : ℕ) (row : Row) → slice_get rows k ≡ Some row → get_or (bounds_of rows) k (pos 0) ≡ row.bound
get_bounds [] k row e = absurd cc
get_bounds (r ∷ rows) zero row e = let same : r ≡ row = cc in ap (λ (q : Row). q.bound) same
get_bounds (r ∷ rows) (suc k) row e = get_bounds rows k row e

-- the given lines say what the rows say
pub given_hold : (system : System) (v : Values) (z : List ℤ) (k : ℕ) (rows : List Row) → drop k system.rows ≡ rows
    → ((c : ℕ) → v (Column c) ≡ get_or z c (pos 0)) → ((row : Row) (r : ℕ) (equal : Bool) (bound : ℤ) → slice_get system.rows r ≡ Some row → v (Slack (record { row = r; equal = equal; bound = bound })) ≡ product_of row.coefficients z)
    → AllByRecursion (λ row. length row.coefficients ≡ system.columns) rows → AllByRecursion (Holds v (given_tableau system).places) (given_lines k rows)
unfolding given_lines
given_hold system v z k [] e f g w = tt
given_hold system v z k (row ∷ rows) e f g w =
    let at = split_at system.rows rows k row e in
    let slack = g row k row.equal row.bound at.0 in
    let columns = columns_product v z row.coefficients 0 system.columns f (omega (arith, w.0)) in
    (omega (arith, linear, one-mul_ℤ (neg_ℤ (v (Slack (record { row = k; equal = row.equal; bound = row.bound }))))), given_hold system v z (suc k) rows at.1 f g w.1)

-- ---- a line that is out

pub record IsOut (side : Side) (places : List Variable) (line : Line) (r : ℕ) (equal : Bool) (bound : ℤ) : Type 0 where
  pub basic : line.basic ≡ Slack (record { row = r; equal = equal; bound = bound })
  pub high : side ≡ High → (bound *ℤ divisor_of line) <ℤ product_of (drop 1 line.numbers) (map value_at_place places)
  pub low : side ≡ Low → (equal ≡ true) × (product_of (drop 1 line.numbers) (map value_at_place places) <ℤ (bound *ℤ divisor_of line))

abbrev is_high : Side → Bool
is_high High = true
is_high Low = false

out_by : (equal : Bool) (sum limit : ℤ) (side : Side) → standing_to_limit equal sum limit ≡ Out side
    → (side ≡ High → limit <ℤ sum) × (side ≡ Low → (equal ≡ true) × (sum <ℤ limit))
out_by equal sum limit side e = at (int_lt limit sum) equal (int_lt sum limit) refl refl refl e where
  at : (a b d : Bool) → int_lt limit sum ≡ a → equal ≡ b → int_lt sum limit ≡ d → cond a (Out High) (cond (b && d) (Out Low) Within) ≡ Out side
      → (side ≡ High → limit <ℤ sum) × (side ≡ Low → (equal ≡ true) × (sum <ℤ limit))
  at true b d p q r e = let same : High ≡ side = cc in ((λ h. omega (arith, ints)), (λ h. absurd cc))
  at false true true p q r e = let same : Low ≡ side = cc in ((λ h. absurd cc), (λ h. (q, omega (arith, ints))))
  at false true false p q r e = absurd cc
  at false false d p q r e = absurd cc

fitting_is : (z x : ℤ) → fitting z ≡ Some x → x ≡ z
fitting_is z x e = at (fits z) e where
  at : (b : Bool) → cond b (Some z) None ≡ Some x → x ≡ z
  at true e = cc
  at false e = absurd cc

pub line_out : (places : List Variable) (line : Line) (side : Side) → standing_of places line ≡ Out side
    → (r : ℕ) × (equal : Bool) × (bound : ℤ) × IsOut side places line r equal bound
unfolding standing_of sum_of_line
line_out places line side e = at line.basic refl e where
  by_sums : (r : ℕ) (equal : Bool) (bound : ℤ) (o p : Option ℤ) → line.basic ≡ Slack (record { row = r; equal = equal; bound = bound })
      → sum_in_order (drop 1 line.numbers) (map value_at_place places) ≡ o → fitting (bound *ℤ divisor_of line) ≡ p → standing_by equal o p ≡ Out side
      → IsOut side places line r equal bound
  by_sums r equal bound None p b s l e = absurd cc
  by_sums r equal bound (Some sum) None b s l e = absurd cc
  by_sums r equal bound (Some sum) (Some limit) b s l e =
      let out = out_by equal sum limit side e in
      let sum_is = (sum_in_order-given (drop 1 line.numbers) (map value_at_place places) sum s).1 in
      let limit_is = fitting_is (bound *ℤ divisor_of line) limit l in
      record {
        basic = b;
        high = λ h. rw (← sum_is, ← limit_is) (out.0 h);
        low = λ h. let both = out.1 h in (both.0, rw (← sum_is, ← limit_is) both.1);
      }

  at : (x : Variable) → line.basic ≡ x → standing_by_basic places line x ≡ Out side → (r : ℕ) × (equal : Bool) × (bound : ℤ) × IsOut side places line r equal bound
  at (Column c) b e = absurd cc
  at (Slack s) b e = (s.row, s.equal, s.bound, by_sums s.row s.equal s.bound (sum_in_order (drop 1 line.numbers) (map value_at_place places)) (fitting (s.bound *ℤ divisor_of line)) b refl refl e)

-- ---- what the multipliers weigh

get_zeros : (n i : ℕ) → get_or (replicate n (pos 0)) i (pos 0) ≡ pos 0
get_zeros zero i = refl
get_zeros (suc n) zero = refl
get_zeros (suc n) (suc i) = get_zeros n i

long_zeros : (n : ℕ) → length (replicate n (pos 0)) ≡ n
long_zeros zero = refl
long_zeros (suc n) = ap suc (long_zeros n)

within_rows : (rows : List Row) (k : ℕ) (row : Row) → slice_get rows k ≡ Some row → k < length rows
within_rows [] k row e = absurd cc
within_rows (r ∷ rows) zero row e = omega arith
within_rows (r ∷ rows) (suc k) row e = omega (arith, within_rows rows k row e)

-- no place's row is that of the line, so each is free
all_free : (system : System) (r : ℕ) (equal : Bool) (bound d : ℤ) (places : List Variable) → r < length system.rows
    → NotAmong (Slack (record { row = r; equal = equal; bound = bound })) places → AllByRecursion (IsOf system) places
    → AllByRecursion (IsFree (slice_set (replicate (length system.rows) (pos 0)) r d)) places
all_free system r equal bound d places h n k = free_after (replicate (length system.rows) (pos 0)) r d equal bound places n (free_zeros places k) where
  free_zeros : (places : List Variable) → AllByRecursion (IsOf system) places → AllByRecursion (IsFree (replicate (length system.rows) (pos 0))) places
  free_zeros [] k = tt
  free_zeros (Column c ∷ places) k = (tt, free_zeros places k.1)
  free_zeros (Slack s ∷ places) k = (
    (get_zeros (length system.rows) s.row, subst (λ (n : ℕ). s.row < n) (sym (long_zeros (length system.rows))) (within_rows system.rows s.row k.0.there k.0.at)),
    free_zeros places k.1,
  )

-- the divisor times the number of the line's own row, less the sum over the places
weighed_by : (system : System) (places : List Variable) (ts ys : List ℤ) (r : ℕ) (equal : Bool) (bound d : ℤ) → r < length system.rows → Distinct places
    → NotAmong (Slack (record { row = r; equal = equal; bound = bound })) places → AllByRecursion (IsOf system) places
    → product_of (with_places places ts (slice_set (replicate (length system.rows) (pos 0)) r d)) ys
    ≡ d *ℤ get_or ys r (pos 0) -ℤ product_of ts (map (slack_value ys) places)
weighed_by system places ts ys r equal bound d h dis n k =
    let n0 = length system.rows in
    let all = places_product ys places ts (slice_set (replicate n0 (pos 0)) r d) dis (all_free system r equal bound d places h n k) in
    let own = set_left (replicate n0 (pos 0)) ys r d (omega (arith, long_zeros n0)) in
    let none = zeros_product n0 ys in
    let first = ap (λ t. t *ℤ get_or ys r (pos 0)) (get_zeros n0 r) in
    omega (arith, linear, zero-mul_ℤ (get_or ys r (pos 0)))

signed_product : (side : Side) (ms ys : List ℤ) → product_of (signed_multipliers side ms) ys ≡ signed_number side (product_of ms ys)
signed_product High ms ys = refl
signed_product Low ms ys = product_of-neg ms ys

bound_values : (system : System) (places : List Variable) → AllByRecursion (IsOf system) places → map (slack_value (bounds_of system.rows)) places ≡ map value_at_place places
bound_values system [] k = refl
bound_values system (Column c ∷ places) k = ap (λ zs. pos 0 ∷ zs) (bound_values system places k.1)
bound_values system (Slack s ∷ places) k =
    let here = get_bounds system.rows s.row k.0.there k.0.at ∙ k.0.bound_is in
    let rest = bound_values system places k.1 in
    rw (here, rest) refl

-- ---- what is divided

negative_over : (g : ℕ) (x y : ℤ) → pos g *ℤ y ≡ x → x <ℤ pos 0 → y <ℤ pos 0
negative_over g x y e h = by_lt_z y (pos 0) (λ l. l) (λ l. absurd (omega (arith, linear, mul-le-mul_ℤ (pos g) (pos 0) y (omega (arith, linear)) l, mul-zero_ℤ (pos g))))

signs_divided : (rows : List Row) (ms : List ℤ) → Signs false rows ms → Signs false rows (divided_numbers ms)
unfolding divided_numbers
signs_divided rows ms h = signs_over false (gcd_of ms) rows ms h

-- Multipliers of the right signs that cancel the coefficients and leave a negative bound refute, once they are divided.
pub proved_by : (system : System) (ms : List ℤ) → Signs false system.rows ms → ((z : List ℤ) → product_of ms (values_at z system.rows) ≡ pos 0)
    → product_of ms (bounds_of system.rows) <ℤ pos 0 → IsProvedBy system (divided_numbers ms)
proved_by system ms s c b =
    let signs = signs_divided system.rows ms s in
    let cancels = λ (z : List ℤ). divided_vanishes (λ xs. product_of xs (values_at z system.rows)) (product-linear (values_at z system.rows)) ms (c z) in
    let bound : product_of (divided_numbers ms) (bounds_of system.rows) <ℤ pos 0 =
    negative_over (gcd_of ms) (product_of ms (bounds_of system.rows)) (product_of (divided_numbers ms) (bounds_of system.rows)) (of_divided (λ xs. product_of xs (bounds_of system.rows)) (product-linear (bounds_of system.rows)) ms) b in (
      record {
        in_order = nonzero_pairs-in_order system.rows system.rows 0 0 false (divided_numbers ms) (omega arith) refl signs;
        contradicts = record {
          cancels = zeros_from_products (weighted_sum system.rows (nonzero_pairs 1 (divided_numbers ms))).coefficients (λ z. weighted_coefficients system.rows system.rows 0 false (divided_numbers ms) z refl signs ∙ cancels z);
          negative = rw (weighted_bound system.rows system.rows 0 false (divided_numbers ms) refl signs) bound;
        };
      },
      λ g d. elim (divided_primitive ms g (divides_listed g 1 (divided_numbers ms) d)) [
        | inl l ↦ l
        | inr all ↦ absurd (omega (arith, linear, product_of-AllZero (divided_numbers ms) (bounds_of system.rows) all))
      ],
    )

-- ---- the line

none_chosen : (side : Side) (places : List Variable) (ts : List ℤ) → chosen_place side places ts ≡ None → suitable_from side 0 places ts ≡ []
unfolding chosen_place
none_chosen side places ts e = at (suitable_from side 0 places ts) e where
  some : (best : ℕ × Variable) (xs : List (ℕ × Variable)) → option_map (λ (place : ℕ × Variable). place.0) (fold lower (Some best) xs) ≡ None → ⊥
  some best [] e = absurd cc
  some best (x ∷ xs) e = some (cond (comes_before x.1 best.1) x best) xs e

  at : (xs : List (ℕ × Variable)) → option_map (λ (place : ℕ × Variable). place.0) (fold lower None xs) ≡ None → xs ≡ []
  at [] e = refl
  at (x ∷ xs) e = absurd (some x xs e)

split_numbers : (xs : List ℤ) (n : ℕ) → length xs ≡ suc n → xs ≡ get_or xs 0 (pos 1) ∷ drop 1 xs
split_numbers [] n e = absurd (omega arith)
split_numbers (x ∷ xs) n e = refl

holds_split : (v : Values) (places : List Variable) (line : Line) (x : Variable) (n : ℕ) → length line.numbers ≡ suc n → line.basic ≡ x → Holds v places line
    → product_of (divisor_of line ∷ drop 1 line.numbers) (neg_ℤ (v x) ∷ map v places) ≡ pos 0
holds_split v places line x n w b h =
    let by_basic : product_of line.numbers (neg_ℤ (v x) ∷ map v places) ≡ pos 0 = subst (λ (y : Variable). product_of line.numbers (neg_ℤ (v y) ∷ map v places) ≡ pos 0) b h in
    subst (λ (xs : List ℤ). product_of xs (neg_ℤ (v x) ∷ map v places) ≡ pos 0) (split_numbers line.numbers n w) by_basic

cancelled : (side : Side) (x : ℤ) → x ≡ pos 0 → signed_number side x ≡ pos 0
cancelled High x e = e
cancelled Low x e = ap neg_ℤ e

below : (side : Side) (d b sum x : ℤ) → x ≡ d *ℤ b -ℤ sum → (side ≡ High → (b *ℤ d) <ℤ sum) → (side ≡ Low → sum <ℤ (b *ℤ d)) → signed_number side x <ℤ pos 0
below High d b sum x e h l = let k = h refl in omega (arith, linear, mul_comm_ℤ d b)
below Low d b sum x e h l = let k = l refl in omega (arith, linear, mul_comm_ℤ d b)

own_sign : (side : Side) (equal : Bool) (d : ℤ) → pos 0 <ℤ d → (side ≡ Low → equal ≡ true) → RowSign equal false (signed_number side d)
own_sign side true d h e = tt
own_sign High false d h e = omega (arith, linear)
own_sign Low false d h e = absurd (false≢true (e refl))

pub line_refutes : (system : System) (tableau : Tableau) (line : Line) (side : Side) → HasWidths system → IsKept system tableau → IsKeptLine system tableau.places line
    → ((v : Values) → AllByRecursion (Holds v tableau.places) tableau.lines → Holds v tableau.places line)
    → standing_of tableau.places line ≡ Out side → chosen_place side tableau.places (drop 1 line.numbers) ≡ None
    → IsProvedBy system (divided_numbers (multipliers side (length system.rows) tableau.places line))
unfolding multipliers
line_refutes system tableau line side w k kl among out none =
    let o = line_out tableau.places line side out in
    let r = o.0 in
    let equal = o.1 in
    let bound = o.2 in
    let is = o.3 in
    let places = tableau.places in
    let ts = drop 1 line.numbers in
    let d = divisor_of line in
    let n = length system.rows in
    let start = slice_set (replicate n (pos 0)) r d in
    let known : IsSlackOf system r equal bound = subst (IsOf system) is.basic kl.known in
    let apart = subst (λ (x : Variable). NotAmong x places) is.basic kl.apart in
    let within = within_rows system.rows r known.there known.at in
    let unsuitable = none_suitable side 0 places ts (none_chosen side places ts none) in
    let same : signed_multipliers side (with_places places ts (with_multiplier line.basic d (replicate n (pos 0)))) ≡ signed_multipliers side (with_places places ts start) =
    ap (λ x. signed_multipliers side (with_places places ts (with_multiplier x d (replicate n (pos 0))))) is.basic in
    let signs : Signs false system.rows (signed_multipliers side (with_places places ts start)) =
    places_signs system side places ts start k.known unsuitable
    (set_signs system side r equal bound d (replicate n (pos 0)) known (own_sign side equal d kl.positive (λ l. (is.low l).0)) (zeros_signs side system.rows)) in
    let cancels : (z : List ℤ) → product_of (signed_multipliers side (with_places places ts start)) (values_at z system.rows) ≡ pos 0 = λ z.
    let v = point_values system z in
    let holds = among v (k.says v (given_hold system v z 0 system.rows refl (λ c. refl) (λ row r equal bound at. get_values z system.rows r row at) w)) in
    let says : product_of (d ∷ ts) (neg_ℤ (v (Slack (record { row = r; equal = equal; bound = bound }))) ∷ map v places) ≡ pos 0 =
    holds_split v places line (Slack (record { row = r; equal = equal; bound = bound })) (length places) kl.wide is.basic holds in
    let slacks = only_slacks side (column_at z) (values_at z system.rows) places ts unsuitable in
    signed_product side (with_places places ts start) (values_at z system.rows)
    ∙ cancelled side (product_of (with_places places ts start) (values_at z system.rows))
    (weighed_by system places ts (values_at z system.rows) r equal bound d within k.distinct apart k.known
    ∙ omega (arith, linear, mul-neg_ℤ d (get_or (values_at z system.rows) r (pos 0)))) in
    let weight = weighed_by system places ts (bounds_of system.rows) r equal bound d within k.distinct apart k.known in
    let own = get_bounds system.rows r known.there known.at ∙ known.bound_is in
    let sums = ap (product_of ts) (bound_values system places k.known) in
    let negative : product_of (signed_multipliers side (with_places places ts start)) (bounds_of system.rows) <ℤ pos 0 =
    subst (λ (x : ℤ). x <ℤ pos 0) (sym (signed_product side (with_places places ts start) (bounds_of system.rows)))
    (below side d bound (product_of ts (map value_at_place places)) (product_of (with_places places ts start) (bounds_of system.rows))
    (weight ∙ ap (λ b. d *ℤ b -ℤ product_of ts (map (slack_value (bounds_of system.rows)) places)) own ∙ ap (λ s. d *ℤ bound -ℤ s) sums) is.high (λ l. (is.low l).1)) in
    rw same (proved_by system (signed_multipliers side (with_places places ts start)) signs cancels negative)
