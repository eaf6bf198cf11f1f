-- What the lines of a tableau say of values of its variables, and that a pivot leaves it as it is.
use Rattle.std.proofs.Common.{◌≡◌, ℕ, zero, suc, ◌<◌, refl, ◌∙◌, ap, subst, arith, List, [], ◌∷◌, map, length, get_or, false, Some}
use Rattle.std.specs.Prelude.{ℤ, pos, negsuc, neg_ℤ, ◌+ℤ◌, ◌-ℤ◌, ◌*ℤ◌, ◌≢◌, slice_set, unsigned_abs}
use Rattle.std.specs.Int.{int_signum}
use Rattle.std.proofs.lemmas.Int.{ints}
use Rattle.std.proofs.lemmas.List.{map-set}
use Rattle.lin_rows.specs.Row.{product_of, multiple_of}
use Rattle.lin_rows.proofs.Integers.{mul-add_ℤ, mul-neg_ℤ, neg-mul_ℤ, mul-zero_ℤ, zero-mul_ℤ, one-mul_ℤ}
use Rattle.lin_rows.proofs.Points.{product_of-scaled}
use Rattle.farkas_cert.specs.Line.{combination, is_nonzero}
use Rattle.farkas_cert.proofs.Integers.{linear, factors}
use Rattle.farkas_cert.proofs.Linear.{product-linear, of_combination, divided_vanishes}
use Rattle.farkas_cert.proofs.Slack.{set_product, without_product}
use Rattle.farkas_cert.proofs.Eliminates.{sign_self}
use Rattle.farkas_cert.proofs.OpenColumns.{zero_by_test}
use Rattle.tableau_elim.specs.Tableau.{Line, Tableau, divisor_of, number_at, pivot_at, solved_line, combined_line, line_after_pivot}
use Rattle.tableau_elim.proofs.Changed.{substituted_is, by_change}
use Rattle.tableau_elim.specs.declared.variable.Variable.{Variable}
use Rattle.tableau_elim.specs.declared.variable.Variable.TheVariants.{Column}

-- ---- values of the variables

abbrev pub Values : Type 0
Values = Variable → ℤ

-- the values that a line weighs: minus that of its basic by the divisor, and those at the places
abbrev pub weighed : Values → List Variable → Variable → List ℤ
weighed v places x = neg_ℤ (v x) ∷ map v places

-- by how much a line fails
abbrev pub defect : Values → List Variable → Line → ℤ
defect v places line = product_of line.numbers (weighed v places line.basic)

-- What the line says is so of the values.
abbrev pub Holds : Values → List Variable → Line → Type 0
Holds v places line = defect v places line ≡ pos 0

-- ---- products where a number and a value at a place change

get-map : (v : Values) (places : List Variable) (j : ℕ) → j < length places → get_or (map v places) j (pos 0) ≡ v (get_or places j (Column 0))
get-map v [] j h = absurd (omega arith)
get-map v (x ∷ places) zero h = refl
get-map v (x ∷ places) (suc j) h = get-map v places j (omega arith)

length-map : (v : Values) (places : List Variable) → length (map v places) ≡ length places
length-map v [] = refl
length-map v (x ∷ places) = ap suc (length-map v places)

set_twice : (xs : List ℤ) (j : ℕ) (a b : ℤ) → slice_set (slice_set xs j a) j b ≡ slice_set xs j b
set_twice [] j a b = refl
set_twice (x ∷ xs) zero a b = refl
set_twice (x ∷ xs) (suc j) a b = ap (λ ys. x ∷ ys) (set_twice xs j a b)

get_set : (xs : List ℤ) (j : ℕ) (a : ℤ) → j < length xs → get_or (slice_set xs j a) j (pos 0) ≡ a
get_set [] j a h = absurd (omega arith)
get_set (x ∷ xs) zero a h = refl
get_set (x ∷ xs) (suc j) a h = get_set xs j a (omega arith)

-- a number a in the place of one, and a value y in the place of one
exchanged : (xs ns : List ℤ) (j : ℕ) (a y : ℤ) → j < length xs → j < length ns
    → product_of (slice_set xs j a) (slice_set ns j y) ≡ product_of xs ns -ℤ get_or xs j (pos 0) *ℤ get_or ns j (pos 0) +ℤ a *ℤ y
exchanged xs ns j a y h k =
    let left = set_product (slice_set xs j a) ns j y k in
    let twice = ap (λ zs. product_of zs ns) (set_twice xs j a (pos 0)) in
    let there = ap (λ z. z *ℤ y) (get_set xs j a h) in
    let right = without_product xs ns j in
    omega (arith, linear)

-- ---- signs

pub sign_twice : (p : ℤ) → p ≢ pos 0 → int_signum p *ℤ int_signum p ≡ pos 1
sign_twice (pos zero) h = absurd (h refl)
sign_twice (pos (suc n)) h = let sign : int_signum (pos (suc n)) ≡ pos 1 = omega (arith, ints) in ap (λ s. s *ℤ s) sign ∙ one-mul_ℤ (pos 1)
sign_twice (negsuc n) h = refl

-- ---- the pivot's line

-- its numbers with the basic at the place
abbrev pub moved_numbers : ℕ → Line → List ℤ
moved_numbers j line = slice_set (slice_set line.numbers (suc j) (neg_ℤ (divisor_of line))) 0 (pos 0)

-- what the moved numbers come to: the defect of the line, less p times the value of what was at the place
moved_product : (v : Values) (places : List Variable) (j : ℕ) (line : Line) (z : ℤ) → j < length places → length line.numbers ≡ suc (length places)
    → product_of (moved_numbers j line) (z ∷ slice_set (map v places) j (v line.basic))
    ≡ defect v places line -ℤ number_at j line *ℤ v (get_or places j (Column 0))
moved_product v places j line z h w = at line.numbers w where
  at : (numbers : List ℤ) → length numbers ≡ suc (length places)
      → product_of (slice_set (slice_set numbers (suc j) (neg_ℤ (get_or numbers 0 (pos 1)))) 0 (pos 0)) (z ∷ slice_set (map v places) j (v line.basic))
      ≡ product_of numbers (neg_ℤ (v line.basic) ∷ map v places) -ℤ get_or numbers (suc j) (pos 0) *ℤ v (get_or places j (Column 0))
  at [] w = absurd (omega arith)
  at (d ∷ ts) w =
      let e = exchanged ts (map v places) j (neg_ℤ d) (v line.basic) (omega arith) (omega (arith, length-map v places)) in
      let there = ap (λ y. get_or ts j (pos 0) *ℤ y) (get-map v places j h) in
      omega (arith, linear, zero-mul_ℤ z, mul-neg_ℤ d (v line.basic), neg-mul_ℤ d (v line.basic))

-- ---- another line

other_algebra : (s p u at own y : ℤ)
    → (s *ℤ p) *ℤ (at -ℤ u *ℤ y) +ℤ (neg_ℤ s *ℤ u) *ℤ (own -ℤ p *ℤ y) ≡ (s *ℤ p) *ℤ at -ℤ (s *ℤ u) *ℤ own
other_algebra s p u at own y =
    let same : (s *ℤ p) *ℤ (u *ℤ y) ≡ (s *ℤ u) *ℤ (p *ℤ y) = simp factors in
    let sign = neg-mul_ℤ s u in
    let turned = ap (λ t. t *ℤ (own -ℤ p *ℤ y)) sign in
    omega (arith, linear, turned, neg-mul_ℤ (s *ℤ u) (own -ℤ p *ℤ y), mul-add_ℤ (s *ℤ p) at (neg_ℤ (u *ℤ y)), mul-neg_ℤ (s *ℤ p) (u *ℤ y), mul-add_ℤ (s *ℤ u) own (neg_ℤ (p *ℤ y)), mul-neg_ℤ (s *ℤ u) (p *ℤ y))

-- the line's numbers without that at the place
rest_product : (v : Values) (places : List Variable) (j : ℕ) (line : Line) (y : ℤ) → j < length places → length line.numbers ≡ suc (length places)
    → product_of (slice_set line.numbers (suc j) (pos 0)) (neg_ℤ (v line.basic) ∷ slice_set (map v places) j y)
    ≡ defect v places line -ℤ number_at j line *ℤ v (get_or places j (Column 0))
rest_product v places j line y h w =
    let e = exchanged line.numbers (weighed v places line.basic) (suc j) (pos 0) y (omega arith) (omega (arith, length-map v places)) in
    let there = ap (λ y. get_or line.numbers (suc j) (pos 0) *ℤ y) (get-map v places j h) in
    omega (arith, linear, zero-mul_ℤ y)

-- ---- what a pivot makes of the defects

abbrev pub places_after : ℕ → Line → List Variable → List Variable
places_after j own places = slice_set places j own.basic

weighed_after : (v : Values) (places : List Variable) (j : ℕ) (own : Line) (x : Variable)
    → weighed v (places_after j own places) x ≡ neg_ℤ (v x) ∷ slice_set (map v places) j (v own.basic)
weighed_after v places j own x = ap (λ ys. neg_ℤ (v x) ∷ ys) (map-set v places j own.basic)

-- the combination of which another line is made
pub other_defect : (v : Values) (places : List Variable) (j : ℕ) (own line : Line) → j < length places → length own.numbers ≡ suc (length places)
    → length line.numbers ≡ suc (length places) →
    let p = number_at j own in
    let u = number_at j line in
    product_of (combination (pos (unsigned_abs p)) (slice_set line.numbers (suc j) (pos 0)) (neg_ℤ (int_signum p) *ℤ u) (moved_numbers j own)) (weighed v (places_after j own places) line.basic)
    ≡ pos (unsigned_abs p) *ℤ defect v places line -ℤ (int_signum p *ℤ u) *ℤ defect v places own
other_defect v places j own line h wo wl =
    let p = number_at j own in
    let u = number_at j line in
    let a = pos (unsigned_abs p) in
    let b = neg_ℤ (int_signum p) *ℤ u in
    let y = v (get_or places j (Column 0)) in
    let rest = slice_set line.numbers (suc j) (pos 0) in
    let ws = neg_ℤ (v line.basic) ∷ slice_set (map v places) j (v own.basic) in
    let sum = of_combination (λ xs. product_of xs ws) (product-linear ws) a rest b (moved_numbers j own) in
    let left = ap (λ t. a *ℤ t) (rest_product v places j line (v own.basic) h wl) in
    let right = ap (λ t. b *ℤ t) (moved_product v places j own (neg_ℤ (v line.basic)) h wo) in
    let size = sign_self p in
    let all = other_algebra (int_signum p) p u (defect v places line) (defect v places own) y in
    let all' : a *ℤ (defect v places line -ℤ u *ℤ y) +ℤ b *ℤ (defect v places own -ℤ p *ℤ y) ≡ a *ℤ defect v places line -ℤ (int_signum p *ℤ u) *ℤ defect v places own =
    subst (λ (a : ℤ). a *ℤ (defect v places line -ℤ u *ℤ y) +ℤ b *ℤ (defect v places own -ℤ p *ℤ y) ≡ a *ℤ defect v places line -ℤ (int_signum p *ℤ u) *ℤ defect v places own) size all in
    rw weighed_after (sum ∙ omega (arith, linear))

front_product : (xs ns : List ℤ) (k p z : ℤ) → 0 < length xs
    → product_of (slice_set (multiple_of k (slice_set xs 0 (pos 0))) 0 p) (z ∷ ns) ≡ p *ℤ z +ℤ k *ℤ product_of (slice_set xs 0 (pos 0)) (z ∷ ns)
front_product [] ns k p z h = absurd (omega arith)
front_product (x ∷ xs) ns k p z h =
    let more = product_of-scaled k xs ns in
    let inner : pos 0 *ℤ z +ℤ product_of xs ns ≡ product_of xs ns = omega (arith, linear, zero-mul_ℤ z) in
    omega (arith, linear, ap (λ t. k *ℤ t) inner)

own_algebra : (s p y own : ℤ) → (s *ℤ p) *ℤ neg_ℤ y +ℤ neg_ℤ s *ℤ (own -ℤ p *ℤ y) ≡ neg_ℤ (s *ℤ own)
own_algebra s p y own =
    let same : (s *ℤ p) *ℤ y ≡ s *ℤ (p *ℤ y) = simp factors in
    omega (arith, linear, mul-neg_ℤ (s *ℤ p) y, neg-mul_ℤ s (own -ℤ p *ℤ y), mul-add_ℤ s own (neg_ℤ (p *ℤ y)), mul-neg_ℤ s (p *ℤ y))

pub long_set : (xs : List ℤ) (i : ℕ) (y : ℤ) → length (slice_set xs i y) ≡ length xs
long_set [] i y = refl
long_set (x ∷ xs) zero y = refl
long_set (x ∷ xs) (suc i) y = ap suc (long_set xs i y)

-- the numbers of which the solved line is made
pub own_defect : (v : Values) (places : List Variable) (j : ℕ) (own : Line) → j < length places → length own.numbers ≡ suc (length places) →
    let p = number_at j own in
    product_of (slice_set (multiple_of (neg_ℤ (int_signum p)) (moved_numbers j own)) 0 (pos (unsigned_abs p))) (weighed v (places_after j own places) (get_or places j (Column 0)))
    ≡ neg_ℤ (int_signum p *ℤ defect v places own)
own_defect v places j own h w =
    let p = number_at j own in
    let y = v (get_or places j (Column 0)) in
    let xs = slice_set own.numbers (suc j) (neg_ℤ (divisor_of own)) in
    let ns = slice_set (map v places) j (v own.basic) in
    let sum = front_product xs ns (neg_ℤ (int_signum p)) (pos (unsigned_abs p)) (neg_ℤ y) (omega (arith, long_set own.numbers (suc j) (neg_ℤ (divisor_of own)))) in
    let moved = ap (λ t. neg_ℤ (int_signum p) *ℤ t) (moved_product v places j own (neg_ℤ y) h w) in
    let size = ap (λ t. t *ℤ neg_ℤ y) (sign_self p) in
    let all = own_algebra (int_signum p) p y (defect v places own) in
    rw weighed_after (sum ∙ omega (arith, linear))

-- ---- a pivot leaves what the lines say

pub solved_holds : (v : Values) (tableau : Tableau) (j : ℕ) (own : Line) → j < length tableau.places → length own.numbers ≡ suc (length tableau.places)
    → Holds v tableau.places own → Holds v (places_after j own tableau.places) (solved_line (pivot_at j own tableau))
unfolding solved_line pivot_at
solved_holds v tableau j own h w e =
    let p = number_at j own in
    let numbers = slice_set (multiple_of (neg_ℤ (int_signum p)) (moved_numbers j own)) 0 (pos (unsigned_abs p)) in
    let ws = weighed v (places_after j own tableau.places) (get_or tableau.places j (Column 0)) in
    divided_vanishes (λ xs. product_of xs ws) (product-linear ws) numbers
    (own_defect v tableau.places j own h w ∙ ap (λ t. neg_ℤ (int_signum p *ℤ t)) e ∙ ap neg_ℤ (mul-zero_ℤ (int_signum p)))

pub substituted_holds : (v : Values) (tableau : Tableau) (j : ℕ) (own line new : Line) → j < length tableau.places → length own.numbers ≡ suc (length tableau.places)
    → length line.numbers ≡ suc (length tableau.places) → Holds v tableau.places own → Holds v tableau.places line
    → combined_line (pivot_at j own tableau) line ≡ Some new → Holds v (places_after j own tableau.places) new
unfolding pivot_at
substituted_holds v tableau j own line new h wo wl eo el e =
    let p = number_at j own in
    let u = number_at j line in
    let a = pos (unsigned_abs p) in
    let b = neg_ℤ (int_signum p) *ℤ u in
    let rest = slice_set line.numbers (suc j) (pos 0) in
    let ws = weighed v (places_after j own tableau.places) line.basic in
    let none : product_of (combination a rest b (moved_numbers j own)) ws ≡ pos 0 =
    other_defect v tableau.places j own line h wo wl
    ∙ ap (λ t. a *ℤ t -ℤ (int_signum p *ℤ u) *ℤ defect v tableau.places own) el
    ∙ ap (λ t. a *ℤ pos 0 -ℤ (int_signum p *ℤ u) *ℤ t) eo
    ∙ omega (arith, linear, mul-zero_ℤ a, mul-zero_ℤ (int_signum p *ℤ u)) in
    subst (λ (made : Line). Holds v (places_after j own tableau.places) made) (substituted_is (pivot_at j own tableau) line new e).1
    (divided_vanishes (λ xs. product_of xs ws) (product-linear ws) (combination a rest b (moved_numbers j own)) none)

pub same_defect : (v : Values) (places : List Variable) (j : ℕ) (own line : Line) → j < length places → is_nonzero (number_at j line) ≡ false
    → defect v (places_after j own places) line ≡ defect v places line
same_defect v places j own line h e =
    let none = zero_by_test (number_at j line) e in
    let after = set_product line.numbers (weighed v places line.basic) (suc j) (v own.basic) (omega (arith, length-map v places)) in
    let before = without_product line.numbers (weighed v places line.basic) (suc j) in
    let left = ap (λ t. t *ℤ v own.basic) none ∙ zero-mul_ℤ (v own.basic) in
    let right = ap (λ t. t *ℤ get_or (weighed v places line.basic) (suc j) (pos 0)) none ∙ zero-mul_ℤ (get_or (weighed v places line.basic) (suc j) (pos 0)) in
    rw weighed_after (omega (arith, linear))

pub changed_holds : (v : Values) (tableau : Tableau) (j : ℕ) (own line new : Line) → j < length tableau.places → length own.numbers ≡ suc (length tableau.places)
    → length line.numbers ≡ suc (length tableau.places) → Holds v tableau.places own → Holds v tableau.places line
    → line_after_pivot (pivot_at j own tableau) line ≡ Some new → Holds v (places_after j own tableau.places) new
unfolding pivot_at
changed_holds v tableau j own line new h wo wl eo el e =
    by_change (Holds v (places_after j own tableau.places)) (pivot_at j own tableau) line new e
    (λ s. solved_holds v tableau j own h wo eo)
    (λ s t m. substituted_holds v tableau j own line new h wo wl eo el m)
    (λ s t. same_defect v tableau.places j own line h t ∙ el)
