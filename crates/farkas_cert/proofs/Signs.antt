-- The signs of multipliers: an inequality has none that is negative, and a line that combines equalities alone has 0 there.
use Rattle.std.proofs.Common.{◌≡◌, ℕ, zero, suc, ◌≤◌, sym, ap, ◌∙◌, arith, subst, List, [], ◌∷◌, map, drop, Bool, true, false, Some, Option}
use Rattle.std.specs.Prelude.{ℤ, pos, negsuc, neg_ℤ, ◌+ℤ◌, ◌*ℤ◌, ◌≤ℤ◌, MatchBool, ⊤, slice_get}
use Rattle.std.proofs.Math.Nat.{zero-div}
use Rattle.lin_rows.specs.Row.{Row, multiple_of, sum_of}
use Rattle.farkas_cert.specs.Cert.{InOrder, AllowsAt, Allows, row_numbered}
use Rattle.farkas_cert.specs.Divided.{over}
use Rattle.farkas_cert.specs.Line.{nonzero_pairs}
use Rattle.lin_rows.proofs.Integers.{mul-zero_ℤ}
use Rattle.farkas_cert.proofs.Integers.{linear, mul-not_negative_ℤ}

-- what the multiplier of a row may be in a line that is an equality or not
abbrev pub RowSign : Bool → Bool → ℤ → Type 0
RowSign true equal m = ⊤
RowSign false true m = m ≡ pos 0
RowSign false false m = pos 0 ≤ℤ m

-- the same of all rows; there are no more multipliers than rows
abbrev pub Signs : Bool → List Row → List ℤ → Type 0
Signs equal rows [] = ⊤
Signs equal [] (m ∷ ms) = ⊥
Signs equal (row ∷ rows) (m ∷ ms) = RowSign row.equal equal m × Signs equal rows ms

-- A factor from 0 on keeps the sign.
row_scaled : (r equal : Bool) (a m : ℤ) → pos 0 ≤ℤ a → RowSign r equal m → RowSign r equal (a *ℤ m)
row_scaled true equal a m n h = tt
row_scaled false true a m n h = ap (λ t. a *ℤ t) h ∙ mul-zero_ℤ a
row_scaled false false a m n h = mul-not_negative_ℤ a m n h

-- The sum of numbers with the sign has it.
row_sum : (r equal : Bool) (m k : ℤ) → RowSign r equal m → RowSign r equal k → RowSign r equal (m +ℤ k)
row_sum true equal m k h i = tt
row_sum false true m k h i = omega (arith, linear)
row_sum false false m k h i = omega (arith, linear)

-- Any multiple of what equalities ask for has the sign.
row_any : (r : Bool) (b m : ℤ) → RowSign r true m → RowSign r true (b *ℤ m)
row_any true b m h = tt
row_any false b m h = ap (λ t. b *ℤ t) h ∙ mul-zero_ℤ b

-- What equalities ask for has each sign.
row_weaker : (r equal : Bool) (m : ℤ) → RowSign r true m → RowSign r equal m
row_weaker true equal m h = tt
row_weaker false true m h = h
row_weaker false false m h = omega (arith, linear)

-- Each sign is one that inequalities allow.
row_false : (r equal : Bool) (m : ℤ) → RowSign r equal m → RowSign r false m
row_false true equal m h = tt
row_false false true m h = omega (arith, linear)
row_false false false m h = h

-- A quotient has the sign.
row_over : (r equal : Bool) (g : ℕ) (m : ℤ) → RowSign r equal m → RowSign r equal (over g m)
row_over true equal g m h = tt
row_over false true g m h = rw h (ap pos (zero-div g))
row_over false false g (pos n) h = omega (arith, linear)
row_over false false g (negsuc n) h = absurd (omega (arith, linear))

-- A factor from 0 on keeps the signs.
pub signs_scaled : (equal : Bool) (a : ℤ) (rows : List Row) (ms : List ℤ) → pos 0 ≤ℤ a → Signs equal rows ms → Signs equal rows (multiple_of a ms)
signs_scaled equal a rows [] n h = tt
signs_scaled equal a [] (m ∷ ms) n h = h
signs_scaled equal a (row ∷ rows) (m ∷ ms) n h = (row_scaled row.equal equal a m n h.0, signs_scaled equal a rows ms n h.1)

-- Any multiple of multipliers of equalities has the signs.
pub signs_any : (b : ℤ) (rows : List Row) (ms : List ℤ) → Signs true rows ms → Signs true rows (multiple_of b ms)
signs_any b rows [] h = tt
signs_any b [] (m ∷ ms) h = h
signs_any b (row ∷ rows) (m ∷ ms) h = (row_any row.equal b m h.0, signs_any b rows ms h.1)

-- Multipliers of equalities have each sign.
pub signs_weaker : (equal : Bool) (rows : List Row) (ms : List ℤ) → Signs true rows ms → Signs equal rows ms
signs_weaker equal rows [] h = tt
signs_weaker equal [] (m ∷ ms) h = h
signs_weaker equal (row ∷ rows) (m ∷ ms) h = (row_weaker row.equal equal m h.0, signs_weaker equal rows ms h.1)

-- Multipliers with signs are ones that inequalities allow.
pub signs_false : (equal : Bool) (rows : List Row) (ms : List ℤ) → Signs equal rows ms → Signs false rows ms
signs_false equal rows [] h = tt
signs_false equal [] (m ∷ ms) h = h
signs_false equal (row ∷ rows) (m ∷ ms) h = (row_false row.equal equal m h.0, signs_false equal rows ms h.1)

-- Sums of multipliers with the signs have them.
pub signs_sum : (equal : Bool) (rows : List Row) (ms ks : List ℤ) → Signs equal rows ms → Signs equal rows ks → Signs equal rows (sum_of ms ks)
signs_sum equal rows [] ks h i = i
signs_sum equal [] (m ∷ ms) ks h i = absurd h
signs_sum equal (row ∷ rows) (m ∷ ms) [] h i = h
signs_sum equal (row ∷ rows) (m ∷ ms) (k ∷ ks) h i = (row_sum row.equal equal m k h.0 i.0, signs_sum equal rows ms ks h.1 i.1)

-- Quotients of multipliers have the signs.
pub signs_over : (equal : Bool) (g : ℕ) (rows : List Row) (ms : List ℤ) → Signs equal rows ms → Signs equal rows (map (over g) ms)
signs_over equal g rows [] h = tt
signs_over equal g [] (m ∷ ms) h = h
signs_over equal g (row ∷ rows) (m ∷ ms) h = (row_over row.equal equal g m h.0, signs_over equal g rows ms h.1)

-- The negated multiplier of an equality has the sign.
row_neg : (r : Bool) (m : ℤ) → RowSign r true m → RowSign r true (neg_ℤ m)
row_neg true m h = tt
row_neg false m h = ap neg_ℤ h

-- Negated multipliers of equalities have the signs.
pub signs_neg : (rows : List Row) (ms : List ℤ) → Signs true rows ms → Signs true rows (map neg_ℤ ms)
signs_neg rows [] h = tt
signs_neg [] (m ∷ ms) h = h
signs_neg (row ∷ rows) (m ∷ ms) h = (row_neg row.equal m h.0, signs_neg rows ms h.1)

-- ---- the listed multipliers

-- Where a row stands first of what is left, it is at the place.
pub split_at : (all rows : List Row) (k : ℕ) (row : Row) → drop k all ≡ row ∷ rows → (slice_get all k ≡ Some row) × (drop (suc k) all ≡ rows)
split_at [] rows zero row e = absurd cc
split_at [] rows (suc k) row e = absurd cc
split_at (x ∷ all) rows zero row e = (cc, cc)
split_at (x ∷ all) rows (suc k) row e = split_at all rows k row e

-- A multiplier with the sign is one that the row allows.
allows : (r equal : Bool) (m : ℤ) → RowSign r equal m → MatchBool r ⊤ (pos 0 ≤ℤ m)
allows true equal m h = tt
allows false true m h = omega (arith, linear)
allows false false m h = h

-- A row allows a multiplier with its sign.
row_allows : (row : Row) (equal : Bool) (m : ℤ) → RowSign row.equal equal m → Allows row m
row_allows row equal m h = allows row.equal equal m h

-- The row with a number allows a multiplier with its sign.
allowed_at : (all rows : List Row) (k : ℕ) (row : Row) (equal : Bool) (m : ℤ) → drop k all ≡ row ∷ rows → RowSign row.equal equal m
    → AllowsAt (row_numbered all (suc k)) m
allowed_at all rows k row equal m e h = subst (λ (o : Option Row). AllowsAt o m) (sym (split_at all rows k row e).0) (row_allows row equal m h)

-- Listed multipliers with the signs are in order.
pub nonzero_pairs-in_order : (all rows : List Row) (last k : ℕ) (equal : Bool) (ms : List ℤ) → last ≤ k → drop k all ≡ rows → Signs equal rows ms
    → InOrder all last (nonzero_pairs (suc k) ms)
unfolding nonzero_pairs
nonzero_pairs-in_order all rows last k equal [] l e h = tt
nonzero_pairs-in_order all [] last k equal (m ∷ ms) l e h = absurd h
nonzero_pairs-in_order all (row ∷ rows) last k equal (pos zero ∷ ms) l e h =
    nonzero_pairs-in_order all rows last (suc k) equal ms (omega arith) (split_at all rows k row e).1 h.1
nonzero_pairs-in_order all (row ∷ rows) last k equal (pos (suc m) ∷ ms) l e h = (
  omega arith,
  allowed_at all rows k row equal (pos (suc m)) e h.0,
  nonzero_pairs-in_order all rows (suc k) (suc k) equal ms (omega arith) (split_at all rows k row e).1 h.1,
)
nonzero_pairs-in_order all (row ∷ rows) last k equal (negsuc m ∷ ms) l e h = (
  omega arith,
  allowed_at all rows k row equal (negsuc m) e h.0,
  nonzero_pairs-in_order all rows (suc k) (suc k) equal ms (omega arith) (split_at all rows k row e).1 h.1,
)
