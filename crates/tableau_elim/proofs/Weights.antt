-- The multipliers of a line that no place can mend: what they weigh, and their signs.
use Rattle.std.proofs.Common.{◌≡◌, ℕ, zero, suc, ◌<◌, refl, sym, ◌∙◌, ap, subst, arith, List, [], ◌∷◌, map, length, get_or, replicate, Bool, true, false, cond, Some}
use Rattle.std.specs.Prelude.{ℤ, pos, neg_ℤ, ◌+ℤ◌, ◌-ℤ◌, ◌*ℤ◌, slice_set, slice_get}
use Rattle.std.specs.List.{AllByRecursion}
use Rattle.std.proofs.lemmas.Bool.{eqb-false}
use Rattle.std.proofs.lemmas.Int.{ints}
use Rattle.std.proofs.lemmas.List.{map-set}
use Rattle.lin_rows.specs.Row.{Row, product_of}
use Rattle.lin_rows.specs.System.{System}
use Rattle.lin_rows.proofs.Integers.{mul-zero_ℤ, zero-mul_ℤ, neg-mul_ℤ}
use Rattle.lin_rows.proofs.Points.{product_of-nil}
use Rattle.farkas_cert.specs.Line.{is_nonzero}
use Rattle.farkas_cert.proofs.Integers.{linear}
use Rattle.farkas_cert.proofs.Signs.{Signs, RowSign}
use Rattle.farkas_cert.proofs.OpenColumns.{zero_by_test}
use Rattle.tableau_elim.specs.Rounds.{is_suitable, suitable_from, with_places, signed_multipliers}
use Rattle.tableau_elim.specs.declared.variable.Variable.{Variable}
use Rattle.tableau_elim.specs.declared.variable.Variable.TheVariants.{Column, Slack}
use Rattle.tableau_elim.specs.declared.standing.Side.{Side}
use Rattle.tableau_elim.specs.declared.standing.Side.TheVariants.{High, Low}
use Rattle.tableau_elim.proofs.Kept.{NotAmong, Distinct, IsOf, IsSlackOf}

-- ---- products

pub set_left : (xs ys : List ℤ) (i : ℕ) (a : ℤ) → i < length xs
    → product_of (slice_set xs i a) ys ≡ product_of xs ys -ℤ get_or xs i (pos 0) *ℤ get_or ys i (pos 0) +ℤ a *ℤ get_or ys i (pos 0)
set_left [] ys i a h = absurd (omega arith)
set_left (x ∷ xs) [] i a h =
    omega (arith, linear, mul-zero_ℤ (get_or (x ∷ xs) i (pos 0)), mul-zero_ℤ a, product_of-nil (slice_set (x ∷ xs) i a))
set_left (x ∷ xs) (y ∷ ys) zero a h = omega (arith, linear)
set_left (x ∷ xs) (y ∷ ys) (suc i) a h = omega (arith, linear, set_left xs ys i a (omega arith))

-- the number of a list for the row of a slack
abbrev pub slack_value : List ℤ → Variable → ℤ
slack_value ys (Column c) = pos 0
slack_value ys (Slack s) = get_or ys s.row (pos 0)

-- No multiplier is set for the slack's row yet, and there is one.
abbrev pub IsFree : List ℤ → Variable → Type 0
IsFree ms (Column c) = Unit {0}
IsFree ms (Slack s) = (get_or ms s.row (pos 0) ≡ pos 0) × (s.row < length ms)

get_set_other : (xs : List ℤ) (i j : ℕ) (a : ℤ) → (i ≡ j → ⊥) → get_or (slice_set xs i a) j (pos 0) ≡ get_or xs j (pos 0)
get_set_other [] i j a h = refl
get_set_other (x ∷ xs) zero zero a h = absurd (h refl)
get_set_other (x ∷ xs) zero (suc j) a h = refl
get_set_other (x ∷ xs) (suc i) zero a h = refl
get_set_other (x ∷ xs) (suc i) (suc j) a h = get_set_other xs i j a (λ e. h (ap suc e))

long_set : (xs : List ℤ) (i : ℕ) (a : ℤ) → length (slice_set xs i a) ≡ length xs
long_set [] i a = refl
long_set (x ∷ xs) zero a = refl
long_set (x ∷ xs) (suc i) a = ap suc (long_set xs i a)

pub free_after : (ms : List ℤ) (r : ℕ) (m : ℤ) (equal : Bool) (bound : ℤ) (places : List Variable)
    → NotAmong (Slack (record { row = r; equal = equal; bound = bound })) places → AllByRecursion (IsFree ms) places → AllByRecursion (IsFree (slice_set ms r m)) places
free_after ms r m equal bound [] n h = tt
free_after ms r m equal bound (Column c ∷ places) n h = (tt, free_after ms r m equal bound places n.1 h.1)
free_after ms r m equal bound (Slack s ∷ places) n h = (
  (get_set_other ms r s.row m (eqb-false r s.row n.0) ∙ h.0.0, subst (λ (k : ℕ). s.row < k) (sym (long_set ms r m)) h.0.1),
  free_after ms r m equal bound places n.1 h.1,
)

pub places_product : (ys : List ℤ) (places : List Variable) (ts ms : List ℤ) → Distinct places → AllByRecursion (IsFree ms) places
    → product_of (with_places places ts ms) ys ≡ product_of ms ys -ℤ product_of ts (map (slack_value ys) places)
unfolding with_places
places_product ys [] ts ms d h = omega (arith, linear, product_of-nil ts)
places_product ys (x ∷ places) [] ms d h = omega (arith, linear)
places_product ys (Column c ∷ places) (t ∷ ts) ms d h = omega (arith, linear, places_product ys places ts ms d.1 h.1, mul-zero_ℤ t)
places_product ys (Slack s ∷ places) (t ∷ ts) ms d h =
    let y = get_or ys s.row (pos 0) in
    let rest = places_product ys places ts (slice_set ms s.row (neg_ℤ t)) d.1 (free_after ms s.row (neg_ℤ t) s.equal s.bound places d.0 h.1) in
    let here = set_left ms ys s.row (neg_ℤ t) h.0.1 in
    let none = ap (λ m. m *ℤ y) h.0.0 ∙ zero-mul_ℤ y in
    omega (arith, linear, neg-mul_ℤ t y)

-- ---- the places that cannot mend

abbrev pub Unsuitable : Side → List Variable → List ℤ → Type 0
Unsuitable side [] ts = Unit {0}
Unsuitable side (x ∷ places) [] = Unit {0}
Unsuitable side (x ∷ places) (t ∷ ts) = (is_suitable side x t ≡ false) × Unsuitable side places ts

pub none_suitable : (side : Side) (j : ℕ) (places : List Variable) (ts : List ℤ) → suitable_from side j places ts ≡ [] → Unsuitable side places ts
unfolding suitable_from
none_suitable side j [] ts e = tt
none_suitable side j (x ∷ places) [] e = tt
none_suitable side j (x ∷ places) (t ∷ ts) e = at (none_suitable side (suc j) places ts) (is_suitable side x t) refl e where
  at : (suitable_from side (suc j) places ts ≡ [] → Unsuitable side places ts) → (b : Bool) → is_suitable side x t ≡ b
      → cond b ((j, x) ∷ suitable_from side (suc j) places ts) (suitable_from side (suc j) places ts) ≡ [] → (is_suitable side x t ≡ false) × Unsuitable side places ts
  at rest true s e = absurd cc
  at rest false s e = (s, rest e)

column_unsuitable : (side : Side) (c : ℕ) (t : ℤ) → is_suitable side (Column c) t ≡ false → is_nonzero t ≡ false
column_unsuitable High c t e = e
column_unsuitable Low c t e = e

-- values of columns, and those of slacks by a list
abbrev pub slack_or : (Variable → ℤ) → List ℤ → Variable → ℤ
slack_or v ys (Column c) = v (Column c)
slack_or v ys (Slack s) = get_or ys s.row (pos 0)

-- columns have no number, so only slacks count
pub only_slacks : (side : Side) (v : Variable → ℤ) (ys : List ℤ) (places : List Variable) (ts : List ℤ) → Unsuitable side places ts
    → product_of ts (map (slack_or v ys) places) ≡ product_of ts (map (slack_value ys) places)
only_slacks side v ys [] ts u = refl
only_slacks side v ys (x ∷ places) [] u = refl
only_slacks side v ys (Column c ∷ places) (t ∷ ts) u =
    let none = zero_by_test t (column_unsuitable side c t u.0) in
    let left = ap (λ t. t *ℤ v (Column c)) none ∙ zero-mul_ℤ (v (Column c)) in
    omega (arith, linear, only_slacks side v ys places ts u.1, mul-zero_ℤ t)
only_slacks side v ys (Slack s ∷ places) (t ∷ ts) u = ap (λ z. t *ℤ get_or ys s.row (pos 0) +ℤ z) (only_slacks side v ys places ts u.1)

-- ---- signs

abbrev pub signed_number : Side → ℤ → ℤ
signed_number High m = m
signed_number Low m = neg_ℤ m

signed_set : (side : Side) (ms : List ℤ) (i : ℕ) (m : ℤ) → signed_multipliers side (slice_set ms i m) ≡ slice_set (signed_multipliers side ms) i (signed_number side m)
signed_set High ms i m = refl
signed_set Low ms i m = map-set neg_ℤ ms i m

signs_set : (rows : List Row) (ms : List ℤ) (i : ℕ) (row : Row) (m : ℤ) → Signs false rows ms → slice_get rows i ≡ Some row → RowSign row.equal false m
    → Signs false rows (slice_set ms i m)
signs_set rows [] i row m h e s = tt
signs_set [] (k ∷ ms) i row m h e s = absurd h
signs_set (r ∷ rows) (k ∷ ms) zero row m h e s = let same : r ≡ row = cc in (subst (λ (q : Row). RowSign q.equal false m) (sym same) s, h.1)
signs_set (r ∷ rows) (k ∷ ms) (suc i) row m h e s = (h.0, signs_set rows ms i row m h.1 e s)

-- A slack's row takes the multiplier.
pub set_signs : (system : System) (side : Side) (r : ℕ) (equal : Bool) (bound m : ℤ) (ms : List ℤ) → IsSlackOf system r equal bound
    → RowSign equal false (signed_number side m) → Signs false system.rows (signed_multipliers side ms) → Signs false system.rows (signed_multipliers side (slice_set ms r m))
set_signs system side r equal bound m ms known s h =
    subst (Signs false system.rows) (sym (signed_set side ms r m))
    (signs_set system.rows (signed_multipliers side ms) r known.there (signed_number side m) h known.at
    (subst (λ (b : Bool). RowSign b false (signed_number side m)) (sym known.equal_is) s))

slack_sign : (side : Side) (r : ℕ) (equal : Bool) (bound t : ℤ) → is_suitable side (Slack (record { row = r; equal = equal; bound = bound })) t ≡ false
    → RowSign equal false (signed_number side (neg_ℤ t))
slack_sign side r true bound t e = tt
slack_sign High r false bound t e = omega (arith, ints)
slack_sign Low r false bound t e = omega (arith, ints)

pub places_signs : (system : System) (side : Side) (places : List Variable) (ts ms : List ℤ) → AllByRecursion (IsOf system) places → Unsuitable side places ts
    → Signs false system.rows (signed_multipliers side ms) → Signs false system.rows (signed_multipliers side (with_places places ts ms))
unfolding with_places
places_signs system side [] ts ms k u h = h
places_signs system side (x ∷ places) [] ms k u h = h
places_signs system side (Column c ∷ places) (t ∷ ts) ms k u h = places_signs system side places ts ms k.1 u.1 h
places_signs system side (Slack s ∷ places) (t ∷ ts) ms k u h =
    places_signs system side places ts (slice_set ms s.row (neg_ℤ t)) k.1 u.1
    (set_signs system side s.row s.equal s.bound (neg_ℤ t) ms k.0 (slack_sign side s.row s.equal s.bound t u.0) h)

pub zeros_signs : (side : Side) (rows : List Row) → Signs false rows (signed_multipliers side (replicate (length rows) (pos 0)))
zeros_signs High [] = tt
zeros_signs High (row ∷ rows) = (none row.equal, zeros_signs High rows) where
  none : (equal : Bool) → RowSign equal false (pos 0)
  none true = tt
  none false = omega (arith, ints)
zeros_signs Low [] = tt
zeros_signs Low (row ∷ rows) = (none row.equal, zeros_signs Low rows) where
  none : (equal : Bool) → RowSign equal false (neg_ℤ (pos 0))
  none true = tt
  none false = omega (arith, ints)
