-- What a refutation says of points.
use Rattle.std.proofs.Common.{◌≡◌, ℕ, zero, suc, List, [], ◌∷◌, Option, Some, None, Bool, true, false, MatchBool, ℤ, pos, ◌+ℤ◌, ◌*ℤ◌, ◌≤ℤ◌, ◌<ℤ◌, refl, sym, ◌∙◌, ap, subst, arith}
use Rattle.std.proofs.lemmas.Int.{ints, by_lt_z}
use Rattle.std.specs.List.{AllByRecursion}
use Rattle.lin_rows.specs.Row.{Row, Meets, MeetsOver, product_of, multiple_of, sum_of}
use Rattle.lin_rows.specs.Atom.{negation}
use Rattle.lin_rows.proofs.Integers.{mul-le-mul_ℤ, mul-lt-mul_ℤ, mul_assoc_ℤ, add-mul_ℤ, mul_comm_ℤ, mul-zero_ℤ}
use Rattle.lin_rows.proofs.Lists.{AllByRecursion-append, AllByRecursion-weaken}
use Rattle.lin_rows.proofs.Points.{product_of-scaled, product_of-sum_of, product_of-AllZero, MeetsOver-one}
use Rattle.lin_rows.proofs.Atoms.{Meets-inequality, Meets-negation}
use Rattle.farkas_cert.specs.Cert.{Pairs, InOrder, Allows, AllowsAt, row_numbered, add_weighted, weighted_sum}
use Rattle.farkas_cert.specs.Proof.{RefutedHasNoPoint, RefutedHasNoWholePoint, PointsMeetWeightedSums, PointsMeetEntailed, with_denial}

-- what is known of the row that a pair names
record IsWeighed (x : List ℤ) (d m : ℤ) (row : Row) : Type 0 where
  allows : Allows row m
  meets : MeetsOver row x d

-- The row of a listed pair is there, and weighed at the point.
named : (x : List ℤ) (d : ℤ) (rows : List Row) (k : ℕ) (m : ℤ) → AllByRecursion (λ row. MeetsOver row x d) rows → AllowsAt (row_numbered rows k) m → (row : Row) × (row_numbered rows k ≡ Some row) × IsWeighed x d m row
named x d rows zero m all h = absurd h
named x d [] (suc k) m all h = absurd h
named x d (row ∷ rows) (suc zero) m all h = (row, refl, record { allows = h; meets = all.0 })
named x d (row ∷ rows) (suc (suc k)) m all h = named x d rows (suc k) m all.1 h

-- a weighted row, at a point that meets it
weighted-row : (m p q : ℤ) (equal : Bool) → MatchBool equal (p ≡ q) (p ≤ℤ q) → MatchBool equal (Unit {0}) (pos 0 ≤ℤ m) → (m *ℤ p) ≤ℤ (m *ℤ q)
weighted-row m p q true meets allows = subst (λ v. (m *ℤ p) ≤ℤ (m *ℤ v)) meets (omega (arith, ints))
weighted-row m p q false meets allows = mul-le-mul_ℤ m p q allows meets

-- A weighed row added to a sum that is met is met.
weighted-more : (x : List ℤ) (d m : ℤ) (row ws : Row) → IsWeighed x d m row → (product_of ws.coefficients x ≤ℤ (ws.bound *ℤ d))
    → product_of (add_weighted (Some row) m ws).coefficients x ≤ℤ ((add_weighted (Some row) m ws).bound *ℤ d)
weighted-more x d m row ws is rest =
    let p = product_of row.coefficients x in
    let here = weighted-row m p (row.bound *ℤ d) row.equal is.meets is.allows in
    let left : product_of (sum_of (multiple_of m row.coefficients) ws.coefficients) x ≡ m *ℤ p +ℤ product_of ws.coefficients x =
    product_of-sum_of (multiple_of m row.coefficients) ws.coefficients x ∙ ap (λ v. v +ℤ product_of ws.coefficients x) (product_of-scaled m row.coefficients x) in
    let right : (m *ℤ row.bound +ℤ ws.bound) *ℤ d ≡ m *ℤ (row.bound *ℤ d) +ℤ ws.bound *ℤ d =
    add-mul_ℤ (m *ℤ row.bound) ws.bound d ∙ ap (λ v. v +ℤ ws.bound *ℤ d) (mul_assoc_ℤ m row.bound d) in
    at_most (product_of (sum_of (multiple_of m row.coefficients) ws.coefficients) x) ((m *ℤ row.bound +ℤ ws.bound) *ℤ d) (m *ℤ p) (m *ℤ (row.bound *ℤ d)) (product_of ws.coefficients x) (ws.bound *ℤ d) left right here rest
  where
    at_most : (l r a b c e : ℤ) → l ≡ a +ℤ c → r ≡ b +ℤ e → a ≤ℤ b → c ≤ℤ e → l ≤ℤ r
    at_most l r a b c e p q h i = omega (arith, ints)

-- The weighted sum holds at each rational point of the rows.
pub weighted_sum-meets : (x : List ℤ) (d : ℤ) (rows : List Row) (last : ℕ) (pairs : Pairs) → AllByRecursion (λ row. MeetsOver row x d) rows → InOrder rows last pairs
    → product_of (weighted_sum rows pairs).coefficients x ≤ℤ ((weighted_sum rows pairs).bound *ℤ d)
weighted_sum-meets x d rows last [] all h = omega (arith, ints)
weighted_sum-meets x d rows last ((k, m) ∷ pairs) all h =
    let row = named x d rows k m all h.1 in
    let ws = weighted_sum rows pairs in
    let P : Option Row → Type 0 = λ r. product_of (add_weighted r m ws).coefficients x ≤ℤ ((add_weighted r m ws).bound *ℤ d) in
    subst P (sym row.1) (weighted-more x d m row.0 ws row.2 (weighted_sum-meets x d rows k pairs all h.2))

-- a negative number times a positive one
negative-times : (c d : ℤ) → c <ℤ pos 0 → pos 0 <ℤ d → (c *ℤ d) <ℤ pos 0
negative-times c d p q =
    let h = mul-lt-mul_ℤ d c (pos 0) q p in
    subst (λ v. v <ℤ pos 0) (mul_comm_ℤ d c) (subst (λ v. (d *ℤ c) <ℤ v) (mul-zero_ℤ d) h)

-- What is refuted has no point.
pub refuted-has-no-point : RefutedHasNoPoint
refuted-has-no-point system x d refuted point =
    let ws = weighted_sum system.rows refuted.0 in
    let holds = weighted_sum-meets x d system.rows 0 refuted.0 point.meets refuted.1.in_order in
    let none = product_of-AllZero ws.coefficients x refuted.1.contradicts.cancels in
    let below = negative-times ws.bound d refuted.1.contradicts.negative point.positive in
    omega (arith, ints)

-- a whole point is one over 1
pub refuted-has-no-whole-point : RefutedHasNoWholePoint
refuted-has-no-whole-point system z refuted point =
    refuted-has-no-point system z (pos 1) refuted record {
      whole = point.whole;
      positive = omega (arith, ints);
      meets = AllByRecursion-weaken (λ row. Meets row z) (λ row. MeetsOver row z (pos 1)) (λ row h. MeetsOver-one row z h) system.rows point.meets;
    }

-- a weighted sum is an inequality
add_weighted-equal : (row : Option Row) (m : ℤ) (total : Row) → total.equal ≡ false → (add_weighted row m total).equal ≡ false
add_weighted-equal None m total e = e
add_weighted-equal (Some row) m total e = refl

-- A weighted sum is an inequality.
weighted_sum-equal : (rows : List Row) (pairs : Pairs) → (weighted_sum rows pairs).equal ≡ false
weighted_sum-equal rows [] = refl
weighted_sum-equal rows ((k, m) ∷ pairs) = add_weighted-equal (row_numbered rows k) m (weighted_sum rows pairs) (weighted_sum-equal rows pairs)

-- Points of the rows meet their weighted sums.
pub weighted_sum-over : PointsMeetWeightedSums
weighted_sum-over rows pairs x d in_order all =
    let ws = weighted_sum rows pairs in
    let holds = weighted_sum-meets x d rows 0 pairs all in_order in
    let P : Bool → Type 0 = λ b. MatchBool b (product_of ws.coefficients x ≡ ws.bound *ℤ d) (product_of ws.coefficients x ≤ℤ (ws.bound *ℤ d)) in
    subst P (sym (weighted_sum-equal rows pairs)) holds

-- Points of a system meet what it entails.
pub points-meet-entailed : PointsMeetEntailed
points-meet-entailed system atom z is_atom entails point =
    let at_atom = Meets-inequality atom z is_atom.no_equality in
    let denied : (Meets atom z → ⊥) → ⊥ = λ fails.
    let negated = MeetsOver-one (negation atom) z ((Meets-negation atom z is_atom.no_equality).1 fails) in
    let rows = AllByRecursion-weaken (λ row. Meets row z) (λ row. MeetsOver row z (pos 1)) (λ row h. MeetsOver-one row z h) system.rows point.meets in
    refuted-has-no-point (with_denial system atom) z (pos 1) entails record {
      whole = point.whole;
      positive = omega (arith, ints);
      meets = AllByRecursion-append (λ row. MeetsOver row z (pos 1)) system.rows (negation atom ∷ []) rows (negated, tt);
    } in
    by_lt_z atom.bound (product_of atom.coefficients z)
    (λ above. absurd (denied (λ meets. let low = at_atom.0 meets in omega (arith, ints))))
    (λ low. at_atom.1 low)
