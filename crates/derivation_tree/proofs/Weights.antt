-- The weighted sum of rows over variables, at values of these: whole, and over the rows of one part.
use Rattle.std.proofs.Common.{◌≡◌, ℕ, zero, suc, ◌+◌, ◌-◌, ◌<◌, ◌≤◌, List, [], ◌∷◌, ◌++◌, map, filter, length, Bool, true, false, cond, Option, Some, None, ℤ, pos, ◌+ℤ◌, ◌*ℤ◌, ◌≤ℤ◌, MatchBool, refl, sym, ◌∙◌, ap, ap₂, subst, arith, inl, inr, nat_lt}
use Rattle.std.specs.Prelude.{◌&&◌, nat_le, option_map, slice_get, ⊤}
use Rattle.std.specs.List.{AllByRecursion}
use Rattle.std.proofs.lemmas.Int.{ints}
use Rattle.std.proofs.lemmas.Bool.{lt-ltb, le-leb, ltb-true, leb-true}
use Rattle.std.proofs.lemmas.Bool.Decides.{leb_tells}
use Rattle.std.proofs.lemmas.Option.{slice_get-map}
use Rattle.lin_rows.specs.Row.{Row, product_of, multiple_of}
use Rattle.lin_rows.proofs.Integers.{mul-zero_ℤ, zero-mul_ℤ, mul-add_ℤ, add-mul_ℤ, mul_assoc_ℤ, mul_comm_ℤ, mul-le-mul_ℤ}
use Rattle.lin_rows.proofs.Points.{product_of-scaled, product_of-sum_of}
use Rattle.farkas_cert.specs.Cert.{Pairs, AllowsAt, InOrder, row_numbered, add_weighted, weighted_sum}
use Rattle.transition_formula.specs.Program.{at_number}
use Rattle.transition_formula.proofs.Lookups.{AllByRecursion-numbered}
use Rattle.derivation_tree.specs.Variable.{Variable, Term, NamedRow, coefficient_in, row_over}
use Rattle.derivation_tree.specs.Sums.{pairs_within}
use Rattle.derivation_tree.proofs.Values.{worth, MeetsAt, AreApart, AreNamed, product-worth}
use Rattle.derivation_tree.proofs.Numbering.{AllNamed}

-- ---- what rows give

abbrev pub row_worth : (Variable → ℤ) → Option NamedRow → ℤ
row_worth v None = pos 0
row_worth v (Some row) = worth v row.terms

abbrev pub row_bound : Option NamedRow → ℤ
row_bound None = pos 0
row_bound (Some row) = row.bound

-- the weighted sum of what the listed rows give
abbrev pub total : (Option NamedRow → ℤ) → List NamedRow → Pairs → ℤ
total give rows [] = pos 0
total give rows ((k, m) ∷ pairs) = m *ℤ give (at_number rows k) +ℤ total give rows pairs

named-row : (variables : List Variable) (rows : List NamedRow) (k : ℕ) → row_numbered (map (row_over variables) rows) k ≡ option_map (row_over variables) (at_number rows k)
named-row variables rows zero = refl
named-row variables rows (suc k) = slice_get-map (row_over variables) rows k

none_more : (m t : ℤ) → t ≡ m *ℤ pos 0 +ℤ t
none_more m t = omega (arith, ints, mul-zero_ℤ m)

added-product : (v : Variable → ℤ) (variables : List Variable) (m : ℤ) (sum : Row) (o : Option NamedRow) → AreApart variables → ((row : NamedRow) → o ≡ Some row → AreNamed variables row.terms)
    → product_of (add_weighted (option_map (row_over variables) o) m sum).coefficients (map v variables) ≡ m *ℤ row_worth v o +ℤ product_of sum.coefficients (map v variables)
added-product v variables m sum None apart named = none_more m (product_of sum.coefficients (map v variables))
added-product v variables m sum (Some row) apart named =
    let y = map v variables in
    let coefficients = map (coefficient_in row.terms) variables in
    product_of-sum_of (multiple_of m coefficients) sum.coefficients y
    ∙ ap (λ t. t +ℤ product_of sum.coefficients y) (product_of-scaled m coefficients y ∙ ap (λ t. m *ℤ t) (product-worth v variables row.terms apart (named row refl)))

pub total-product : (v : Variable → ℤ) (variables : List Variable) (rows : List NamedRow) (pairs : Pairs) → AreApart variables → AllNamed variables rows
    → product_of (weighted_sum (map (row_over variables) rows) pairs).coefficients (map v variables) ≡ total (row_worth v) rows pairs
total-product v variables rows [] apart named = refl
total-product v variables rows ((k, m) ∷ pairs) apart named =
    let sum = weighted_sum (map (row_over variables) rows) pairs in
    ap (λ o. product_of (add_weighted o m sum).coefficients (map v variables)) (named-row variables rows k)
    ∙ added-product v variables m sum (at_number rows k) apart (λ row is. AllByRecursion-numbered (λ (row : NamedRow). AreNamed variables row.terms) rows k row named is)
    ∙ ap (λ t. m *ℤ row_worth v (at_number rows k) +ℤ t) (total-product v variables rows pairs apart named)

added-bound : (variables : List Variable) (m : ℤ) (sum : Row) (o : Option NamedRow) → (add_weighted (option_map (row_over variables) o) m sum).bound ≡ m *ℤ row_bound o +ℤ sum.bound
added-bound variables m sum None = none_more m sum.bound
added-bound variables m sum (Some row) = refl

pub total-bound : (variables : List Variable) (rows : List NamedRow) (pairs : Pairs) → (weighted_sum (map (row_over variables) rows) pairs).bound ≡ total row_bound rows pairs
total-bound variables rows [] = refl
total-bound variables rows ((k, m) ∷ pairs) =
    let sum = weighted_sum (map (row_over variables) rows) pairs in
    ap (λ o. (add_weighted o m sum).bound) (named-row variables rows k)
    ∙ added-bound variables m sum (at_number rows k)
    ∙ ap (λ t. m *ℤ row_bound (at_number rows k) +ℤ t) (total-bound variables rows pairs)

-- ---- sums of values

spread_product : (c k x y : ℤ) → c *ℤ (k *ℤ x +ℤ y) ≡ k *ℤ (c *ℤ x) +ℤ c *ℤ y
spread_product c k x y =
    mul-add_ℤ c (k *ℤ x) y ∙ ap (λ t. t +ℤ c *ℤ y) (sym (mul_assoc_ℤ c k x) ∙ ap (λ t. t *ℤ x) (mul_comm_ℤ c k) ∙ mul_assoc_ℤ k c x)

regroup : (k a b p q : ℤ) → (k *ℤ a +ℤ b) +ℤ (k *ℤ p +ℤ q) ≡ k *ℤ (a +ℤ p) +ℤ (b +ℤ q)
regroup k a b p q = omega (arith, ints, mul-add_ℤ k a p)

worth-linear : (k : ℤ) (x y : Variable → ℤ) (terms : List Term) → worth (λ w. k *ℤ x w +ℤ y w) terms ≡ k *ℤ worth x terms +ℤ worth y terms
worth-linear k x y [] = none_more k (pos 0)
worth-linear k x y (term ∷ terms) =
    ap₂ (λ a b. a +ℤ b) (spread_product term.coefficient k (x term.variable) (y term.variable)) (worth-linear k x y terms)
    ∙ regroup k (term.coefficient *ℤ x term.variable) (term.coefficient *ℤ y term.variable) (worth x terms) (worth y terms)

row_worth-linear : (k : ℤ) (x y : Variable → ℤ) (o : Option NamedRow) → row_worth (λ w. k *ℤ x w +ℤ y w) o ≡ k *ℤ row_worth x o +ℤ row_worth y o
row_worth-linear k x y None = none_more k (pos 0)
row_worth-linear k x y (Some row) = worth-linear k x y row.terms

pub total-linear : (k : ℤ) (x y : Variable → ℤ) (rows : List NamedRow) (pairs : Pairs) → total (row_worth (λ w. k *ℤ x w +ℤ y w)) rows pairs ≡ k *ℤ total (row_worth x) rows pairs +ℤ total (row_worth y) rows pairs
total-linear k x y rows [] = none_more k (pos 0)
total-linear k x y rows ((j, m) ∷ pairs) =
    ap₂ (λ a b. a +ℤ b) (ap (λ t. m *ℤ t) (row_worth-linear k x y (at_number rows j)) ∙ spread_product m k (row_worth x (at_number rows j)) (row_worth y (at_number rows j))) (total-linear k x y rows pairs)
    ∙ regroup k (m *ℤ row_worth x (at_number rows j)) (m *ℤ row_worth y (at_number rows j)) (total (row_worth x) rows pairs) (total (row_worth y) rows pairs)

worth-none : (terms : List Term) → worth (λ w. pos 0) terms ≡ pos 0
worth-none [] = refl
worth-none (term ∷ terms) = ap₂ (λ a b. a +ℤ b) (mul-zero_ℤ term.coefficient) (worth-none terms)

row_worth-none : (o : Option NamedRow) → row_worth (λ w. pos 0) o ≡ pos 0
row_worth-none None = refl
row_worth-none (Some row) = worth-none row.terms

pub total-none : (rows : List NamedRow) (pairs : Pairs) → total (row_worth (λ w. pos 0)) rows pairs ≡ pos 0
total-none rows [] = refl
total-none rows ((k, m) ∷ pairs) = ap₂ (λ a b. a +ℤ b) (ap (λ t. m *ℤ t) (row_worth-none (at_number rows k)) ∙ mul-zero_ℤ m) (total-none rows pairs)

-- ---- parts

abbrev pub inside : ℕ → ℕ → ℕ → Bool
inside from to k = nat_lt from k && nat_le k to

pub inside-true : (from to k : ℕ) → from < k → k ≤ to → inside from to k ≡ true
inside-true from to k p q = ap₂ (λ a b. a && b) (lt-ltb from k p) (le-leb k to q)

both : (a b : Bool) → (a && b) ≡ true → (a ≡ true) × (b ≡ true)
both true true e = (refl, refl)
both true false e = cc
both false b e = cc

pub true-inside : (from to k : ℕ) → inside from to k ≡ true → (from < k) × (k ≤ to)
true-inside from to k e = let (p, q) = both (nat_lt from k) (nat_le k to) e in (ltb-true from k p, leb-true k to q)

not_true : (b : Bool) → (b ≡ true → ⊥) → b ≡ false
not_true false h = refl
not_true true h = absurd (h refl)

pub inside-false : (from to k : ℕ) → ((from < k) → (k ≤ to) → ⊥) → inside from to k ≡ false
inside-false from to k h = not_true (inside from to k) (λ e. let (p, q) = true-inside from to k e in h p q)

filter-true : (p : ℕ × ℤ → Bool) (x : ℕ × ℤ) (xs : Pairs) → p x ≡ true → filter p (x ∷ xs) ≡ x ∷ filter p xs
filter-true p x xs e = ap (λ b. cond b (x ∷ filter p xs) (filter p xs)) e

filter-false : (p : ℕ × ℤ → Bool) (x : ℕ × ℤ) (xs : Pairs) → p x ≡ false → filter p (x ∷ xs) ≡ filter p xs
filter-false p x xs e = ap (λ b. cond b (x ∷ filter p xs) (filter p xs)) e

-- one pair more
pub within-true : (give : Option NamedRow → ℤ) (rows : List NamedRow) (from to k : ℕ) (m : ℤ) (pairs : Pairs) → inside from to k ≡ true
    → total give rows (pairs_within from to ((k, m) ∷ pairs)) ≡ m *ℤ give (at_number rows k) +ℤ total give rows (pairs_within from to pairs)
within-true give rows from to k m pairs e = ap (total give rows) (filter-true (λ pair. nat_lt from pair.0 && nat_le pair.0 to) (k, m) pairs e)

within-false : (give : Option NamedRow → ℤ) (rows : List NamedRow) (from to k : ℕ) (m : ℤ) (pairs : Pairs) → inside from to k ≡ false
    → total give rows (pairs_within from to ((k, m) ∷ pairs)) ≡ total give rows (pairs_within from to pairs)
within-false give rows from to k m pairs e = ap (total give rows) (filter-false (λ pair. nat_lt from pair.0 && nat_le pair.0 to) (k, m) pairs e)

left_more : (x p q r : ℤ) → p ≡ q +ℤ r → x +ℤ p ≡ (x +ℤ q) +ℤ r
left_more x p q r e = omega (arith, ints)

right_more : (x p q r : ℤ) → p ≡ q +ℤ r → x +ℤ p ≡ q +ℤ (x +ℤ r)
right_more x p q r e = omega (arith, ints)

-- a part is its two parts
pub within-split : (give : Option NamedRow → ℤ) (rows : List NamedRow) (a b c : ℕ) (pairs : Pairs) → a ≤ b → b ≤ c
    → total give rows (pairs_within a c pairs) ≡ total give rows (pairs_within a b pairs) +ℤ total give rows (pairs_within b c pairs)
within-split give rows a b c [] p q = refl
within-split give rows a b c ((k, m) ∷ pairs) p q =
    let x = m *ℤ give (at_number rows k) in
    let rest = within-split give rows a b c pairs p q in
    elim (leb_tells k a) [
      | inl (hit, low) ↦
          within-false give rows a c k m pairs (inside-false a c k (λ g h. omega arith)) ∙ rest
          ∙ ap₂ (λ s t. s +ℤ t) (sym (within-false give rows a b k m pairs (inside-false a b k (λ g h. omega arith)))) (sym (within-false give rows b c k m pairs (inside-false b c k (λ g h. omega arith))))
      | inr (miss, over) ↦ elim (leb_tells k b) [
        | inl (hit, low) ↦
            within-true give rows a c k m pairs (inside-true a c k over (omega arith)) ∙ left_more x _ _ _ rest
            ∙ ap₂ (λ s t. s +ℤ t) (sym (within-true give rows a b k m pairs (inside-true a b k over low))) (sym (within-false give rows b c k m pairs (inside-false b c k (λ g h. omega arith))))
        | inr (miss, more) ↦ elim (leb_tells k c) [
          | inl (hit, low) ↦
              within-true give rows a c k m pairs (inside-true a c k over low) ∙ right_more x _ _ _ rest
              ∙ ap₂ (λ s t. s +ℤ t) (sym (within-false give rows a b k m pairs (inside-false a b k (λ g h. omega arith)))) (sym (within-true give rows b c k m pairs (inside-true b c k more low)))
          | inr (miss, most) ↦
              within-false give rows a c k m pairs (inside-false a c k (λ g h. omega arith)) ∙ rest
              ∙ ap₂ (λ s t. s +ℤ t) (sym (within-false give rows a b k m pairs (inside-false a b k (λ g h. omega arith)))) (sym (within-false give rows b c k m pairs (inside-false b c k (λ g h. omega arith))))
        ]
      ]
    ]

exchange : (p q t u w x : ℤ) → t +ℤ x ≡ u +ℤ w → (p +ℤ t) +ℤ (q +ℤ x) ≡ (q +ℤ u) +ℤ (p +ℤ w)
exchange p q t u w x e = omega (arith, ints)

one_more : (p t u w x : ℤ) → t +ℤ x ≡ u +ℤ w → (p +ℤ t) +ℤ x ≡ (p +ℤ u) +ℤ w
one_more p t u w x e = omega (arith, ints)

-- what differs in a part alone differs there by as much
pub frame : (give other : Option NamedRow → ℤ) (rows : List NamedRow) (a b : ℕ) (pairs : Pairs) → ((k : ℕ) → inside a b k ≡ false → give (at_number rows k) ≡ other (at_number rows k))
    → total give rows pairs +ℤ total other rows (pairs_within a b pairs) ≡ total other rows pairs +ℤ total give rows (pairs_within a b pairs)
frame give other rows a b [] h = refl
frame give other rows a b ((k, m) ∷ pairs) h = at (frame give other rows a b pairs h) (inside a b k) refl
  where
    at : total give rows pairs +ℤ total other rows (pairs_within a b pairs) ≡ total other rows pairs +ℤ total give rows (pairs_within a b pairs) → (x : Bool) → inside a b k ≡ x
        → (m *ℤ give (at_number rows k) +ℤ total give rows pairs) +ℤ total other rows (pairs_within a b ((k, m) ∷ pairs))
        ≡ (m *ℤ other (at_number rows k) +ℤ total other rows pairs) +ℤ total give rows (pairs_within a b ((k, m) ∷ pairs))
    at rest true e =
        ap (λ t. (m *ℤ give (at_number rows k) +ℤ total give rows pairs) +ℤ t) (within-true other rows a b k m pairs e)
        ∙ exchange (m *ℤ give (at_number rows k)) (m *ℤ other (at_number rows k)) _ _ _ _ rest
        ∙ ap (λ t. (m *ℤ other (at_number rows k) +ℤ total other rows pairs) +ℤ t) (sym (within-true give rows a b k m pairs e))
    at rest false e =
        ap₂ (λ s t. (m *ℤ s +ℤ total give rows pairs) +ℤ t) (h k e) (within-false other rows a b k m pairs e)
        ∙ one_more (m *ℤ other (at_number rows k)) _ _ _ _ rest
        ∙ ap (λ t. (m *ℤ other (at_number rows k) +ℤ total other rows pairs) +ℤ t) (sym (within-false give rows a b k m pairs e))

-- what is alike in a part
pub within-alike : (give other : Option NamedRow → ℤ) (rows : List NamedRow) (a b : ℕ) (pairs : Pairs) → ((k : ℕ) → inside a b k ≡ true → give (at_number rows k) ≡ other (at_number rows k))
    → total give rows (pairs_within a b pairs) ≡ total other rows (pairs_within a b pairs)
within-alike give other rows a b [] h = refl
within-alike give other rows a b ((k, m) ∷ pairs) h = at (within-alike give other rows a b pairs h) (inside a b k) refl
  where
    at : total give rows (pairs_within a b pairs) ≡ total other rows (pairs_within a b pairs) → (x : Bool) → inside a b k ≡ x
        → total give rows (pairs_within a b ((k, m) ∷ pairs)) ≡ total other rows (pairs_within a b ((k, m) ∷ pairs))
    at rest true e =
        within-true give rows a b k m pairs e ∙ ap₂ (λ s t. m *ℤ s +ℤ t) (h k e) rest ∙ sym (within-true other rows a b k m pairs e)
    at rest false e = within-false give rows a b k m pairs e ∙ rest ∙ sym (within-false other rows a b k m pairs e)

-- ---- values that meet rows

-- each pair's row allows its multiplier
abbrev pub SignsFit : List NamedRow → Pairs → Type 0
SignsFit rows pairs = AllByRecursion (λ (pair : ℕ × ℤ). (row : NamedRow) → at_number rows pair.0 ≡ Some row → MatchBool row.equal ⊤ (pos 0 ≤ℤ pair.1)) pairs

pub order-signs : (variables : List Variable) (rows : List NamedRow) (last : ℕ) (pairs : Pairs) → InOrder (map (row_over variables) rows) last pairs → SignsFit rows pairs
order-signs variables rows last [] h = tt
order-signs variables rows last ((k, m) ∷ pairs) h = (
  λ row is. subst (λ o. AllowsAt o m) (named-row variables rows k ∙ ap (option_map (row_over variables)) is) h.1,
  order-signs variables rows k pairs h.2,
)

weighed-row : (m p q : ℤ) (equal : Bool) → MatchBool equal (p ≡ q) (p ≤ℤ q) → MatchBool equal ⊤ (pos 0 ≤ℤ m) → (m *ℤ p) ≤ℤ (m *ℤ q)
weighed-row m p q true meets allows = subst (λ v. (m *ℤ p) ≤ℤ (m *ℤ v)) meets (omega (arith, ints))
weighed-row m p q false meets allows = mul-le-mul_ℤ m p q allows meets

weighed-option : (v : Variable → ℤ) (d m : ℤ) (o : Option NamedRow) → ((row : NamedRow) → o ≡ Some row → MeetsAt v d row × MatchBool row.equal ⊤ (pos 0 ≤ℤ m)) → (m *ℤ row_worth v o) ≤ℤ ((m *ℤ row_bound o) *ℤ d)
weighed-option v d m None h =
    let left : m *ℤ row_worth v None ≡ pos 0 = mul-zero_ℤ m in
    let right : (m *ℤ row_bound None) *ℤ d ≡ pos 0 = ap (λ t. t *ℤ d) (mul-zero_ℤ m) ∙ zero-mul_ℤ d in
    omega (arith, ints, left, right)
weighed-option v d m (Some row) h =
    let (meets, allows) = h row refl in
    let here = weighed-row m (worth v row.terms) (row.bound *ℤ d) row.equal meets allows in
    subst (λ t. (m *ℤ worth v row.terms) ≤ℤ t) (sym (mul_assoc_ℤ m row.bound d)) here

more-at-most : (a b p q d : ℤ) → a ≤ℤ (b *ℤ d) → p ≤ℤ (q *ℤ d) → (a +ℤ p) ≤ℤ ((b +ℤ q) *ℤ d)
more-at-most a b p q d h k = omega (arith, ints, add-mul_ℤ b q d)

-- where values meet the rows of a part, its sum holds
pub within-at-most : (v : Variable → ℤ) (d : ℤ) (rows : List NamedRow) (a b : ℕ) (pairs : Pairs) → ((k : ℕ) (row : NamedRow) → inside a b k ≡ true → at_number rows k ≡ Some row → MeetsAt v d row) → SignsFit rows pairs
    → total (row_worth v) rows (pairs_within a b pairs) ≤ℤ (total row_bound rows (pairs_within a b pairs) *ℤ d)
within-at-most v d rows a b [] met signs = omega (arith, ints)
within-at-most v d rows a b ((k, m) ∷ pairs) met signs = at (within-at-most v d rows a b pairs met signs.1) (inside a b k) refl
  where
    at : total (row_worth v) rows (pairs_within a b pairs) ≤ℤ (total row_bound rows (pairs_within a b pairs) *ℤ d) → (x : Bool) → inside a b k ≡ x
        → total (row_worth v) rows (pairs_within a b ((k, m) ∷ pairs)) ≤ℤ (total row_bound rows (pairs_within a b ((k, m) ∷ pairs)) *ℤ d)
    at rest true e =
        let here = weighed-option v d m (at_number rows k) (λ row is. (met k row e is, signs.0 row is)) in
        subst (λ s. s ≤ℤ (total row_bound rows (pairs_within a b ((k, m) ∷ pairs)) *ℤ d)) (sym (within-true (row_worth v) rows a b k m pairs e))
        (subst (λ t. (m *ℤ row_worth v (at_number rows k) +ℤ total (row_worth v) rows (pairs_within a b pairs)) ≤ℤ (t *ℤ d)) (sym (within-true row_bound rows a b k m pairs e))
        (more-at-most _ _ _ _ d here rest))
    at rest false e =
        subst (λ s. s ≤ℤ (total row_bound rows (pairs_within a b ((k, m) ∷ pairs)) *ℤ d)) (sym (within-false (row_worth v) rows a b k m pairs e))
        (subst (λ t. total (row_worth v) rows (pairs_within a b pairs) ≤ℤ (t *ℤ d)) (sym (within-false row_bound rows a b k m pairs e)) rest)

-- ---- the rows of three parts

in-left : {A : Type 0} (P : A → Type 0) (xs ys : List A) (j : ℕ) (x : A) → slice_get (xs ++ ys) j ≡ Some x → j < length xs → AllByRecursion P xs → P x
in-left P [] ys j x e h all = absurd (omega arith)
in-left P (z ∷ xs) ys zero x e h all = let same : z ≡ x = cc in subst P same all.0
in-left P (z ∷ xs) ys (suc j) x e h all = in-left P xs ys j x e (omega arith) all.1

in-right : {A : Type 0} (P : A → Type 0) (xs ys : List A) (j : ℕ) → length xs ≤ j → slice_get (xs ++ ys) j ≡ slice_get ys (j - length xs)
in-right P [] ys j h = let same : j ≡ j - 0 = omega arith in ap (slice_get ys) same
in-right P (z ∷ xs) ys zero h = absurd (omega arith)
in-right P (z ∷ xs) ys (suc j) h = in-right P xs ys j (omega arith) ∙ (let same : j - length xs ≡ suc j - suc (length xs) = omega arith in ap (slice_get ys) same)

pub part-inside : (P : NamedRow → Type 0) (front part back : List NamedRow) (k : ℕ) (row : NamedRow) → inside (length front) (length front + length part) k ≡ true
    → at_number (front ++ (part ++ back)) k ≡ Some row → AllByRecursion P part → P row
part-inside P front part back zero row e is all = cc
part-inside P front part back (suc j) row e is all =
    let (low, high) = true-inside (length front) (length front + length part) (suc j) e in
    in-left P part back (j - length front) row (sym (in-right P front (part ++ back) j (omega arith)) ∙ is) (omega arith) all

pub part-outside : (P : NamedRow → Type 0) (front part back : List NamedRow) (k : ℕ) (row : NamedRow) → inside (length front) (length front + length part) k ≡ false
    → at_number (front ++ (part ++ back)) k ≡ Some row → AllByRecursion P front → AllByRecursion P back → P row
part-outside P front part back zero row e is one other = cc
part-outside P front part back (suc j) row e is one other = elim (leb_tells (length front) j) [
  | inr (miss, low) ↦ in-left P front (part ++ back) j row is low one
  | inl (hit, over) ↦ elim (leb_tells (length part) (j - length front)) [
    | inr (miss, low) ↦ let yes_inside = inside-true (length front) (length front + length part) (suc j) (omega arith) (omega arith) in let wrong : true ≡ false = sym yes_inside ∙ e in cc
    | inl (hit, behind) ↦
        in-left P back [] (j - length front - length part) row
        (more back (j - length front - length part) ∙ sym (in-right P part back (j - length front) behind) ∙ sym (in-right P front (part ++ back) j over) ∙ is)
        (there back (j - length front - length part) row (sym (in-right P part back (j - length front) behind) ∙ sym (in-right P front (part ++ back) j over) ∙ is)) other
  ]
]
  where
    more : (xs : List NamedRow) (i : ℕ) → slice_get (xs ++ []) i ≡ slice_get xs i
    more [] i = refl
    more (x ∷ xs) zero = refl
    more (x ∷ xs) (suc i) = more xs i

    there : (xs : List NamedRow) (i : ℕ) (x : NamedRow) → slice_get xs i ≡ Some x → i < length xs
    there [] zero x e = cc
    there [] (suc i) x e = cc
    there (y ∷ xs) zero x e = omega arith
    there (y ∷ xs) (suc i) x e = let h = there xs i x e in omega arith
