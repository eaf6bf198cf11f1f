-- Rows over variables at values of these, and the points of their systems.
use Rattle.std.proofs.Common.{◌≡◌, ℕ, zero, suc, List, [], ◌∷◌, map, length, Bool, true, false, ℤ, pos, negsuc, ◌+ℤ◌, ◌*ℤ◌, ◌≤ℤ◌, MatchBool, refl, sym, ◌∙◌, ap, ap₂, subst, arith, inl, inr}
use Rattle.std.specs.Prelude.{◌==◌, ◌&&◌, ◌||◌, if◌then◌else◌}
use Rattle.std.specs.List.{AllByRecursion, list_any}
use Rattle.std.proofs.lemmas.Int.{ints}
use Rattle.std.proofs.lemmas.Bool.Decides.{eqb_tells}
use Rattle.lin_rows.specs.Row.{Row, product_of, MeetsOver}
use Rattle.lin_rows.proofs.Integers.{zero-mul_ℤ, add-mul_ℤ, add_assoc_ℤ}
use Rattle.derivation_tree.specs.Variable.{Variable, After, Before, Input, same_variable, Term, NamedRow, with_term, terms_over, row_named, coefficient_in}
use Rattle.derivation_tree.specs.Sums.{coefficient_at}

-- ---- values

-- the sum of terms, where variables have these values
abbrev pub worth : (Variable → ℤ) → List Term → ℤ
worth v [] = pos 0
worth v (term ∷ terms) = term.coefficient *ℤ v term.variable +ℤ worth v terms

-- The values over d meet the row.
abbrev pub MeetsAt : (Variable → ℤ) → ℤ → NamedRow → Type 0
MeetsAt v d row = MatchBool row.equal (worth v row.terms ≡ row.bound *ℤ d) (worth v row.terms ≤ℤ (row.bound *ℤ d))

abbrev pub AllMeetAt : (Variable → ℤ) → ℤ → List NamedRow → Type 0
AllMeetAt v d rows = AllByRecursion (MeetsAt v d) rows

-- ---- rows that are named

pub worth-with_term : (v : Variable → ℤ) (u : Variable) (a : ℤ) (terms : List Term) → worth v (with_term u a terms) ≡ a *ℤ v u +ℤ worth v terms
worth-with_term v u (pos zero) terms = omega (arith, ints, zero-mul_ℤ (v u))
worth-with_term v u (pos (suc n)) terms = refl
worth-with_term v u (negsuc n) terms = refl

pub worth-terms_over : (v : Variable → ℤ) (variables : List Variable) (xs : List ℤ) → worth v (terms_over variables xs) ≡ product_of xs (map v variables)
worth-terms_over v [] [] = refl
worth-terms_over v [] (x ∷ xs) = refl
worth-terms_over v (u ∷ variables) [] = refl
worth-terms_over v (u ∷ variables) (x ∷ xs) = worth-with_term v u x (terms_over variables xs) ∙ ap (λ t. x *ℤ v u +ℤ t) (worth-terms_over v variables xs)

pub named-meets : (v : Variable → ℤ) (d : ℤ) (variables : List Variable) (row : Row) → MeetsOver row (map v variables) d → MeetsAt v d (row_named variables row)
named-meets v d variables row h =
    subst (λ p. MatchBool row.equal (p ≡ row.bound *ℤ d) (p ≤ℤ (row.bound *ℤ d))) (sym (worth-terms_over v variables row.coefficients)) h

pub meets-named : (v : Variable → ℤ) (d : ℤ) (variables : List Variable) (row : Row) → MeetsAt v d (row_named variables row) → MeetsOver row (map v variables) d
meets-named v d variables row h =
    subst (λ p. MatchBool row.equal (p ≡ row.bound *ℤ d) (p ≤ℤ (row.bound *ℤ d))) (worth-terms_over v variables row.coefficients) h

pub all-named : (v : Variable → ℤ) (d : ℤ) (variables : List Variable) (rows : List Row) → AllByRecursion (λ row. MeetsOver row (map v variables) d) rows → AllMeetAt v d (map (row_named variables) rows)
all-named v d variables [] all = tt
all-named v d variables (row ∷ rows) all = (named-meets v d variables row all.0, all-named v d variables rows all.1)

pub named-all : (v : Variable → ℤ) (d : ℤ) (variables : List Variable) (rows : List Row) → AllMeetAt v d (map (row_named variables) rows) → AllByRecursion (λ row. MeetsOver row (map v variables) d) rows
named-all v d variables [] all = tt
named-all v d variables (row ∷ rows) all = (meets-named v d variables row all.0, named-all v d variables rows all.1)

-- ---- variables

pub eq-is : (a b : ℕ) → (a == b) ≡ true → a ≡ b
eq-is a b e = elim (eqb_tells a b) [
  | inl (hit, same) ↦ same
  | inr (miss, apart) ↦ let wrong : false ≡ true = sym miss ∙ e in cc
]

pub eq-refl : (n : ℕ) → (n == n) ≡ true
eq-refl n = elim (eqb_tells n n) [
  | inl (hit, same) ↦ hit
  | inr (miss, apart) ↦ absurd (apart refl)
]

both : (a b : Bool) → (a && b) ≡ true → (a ≡ true) × (b ≡ true)
both true true e = (refl, refl)
both true false e = cc
both false b e = cc

pub same-refl : (u : Variable) → same_variable u u ≡ true
same-refl (After n c) = ap₂ (λ a b. a && b) (eq-refl n) (eq-refl c)
same-refl (Before n c) = ap₂ (λ a b. a && b) (eq-refl n) (eq-refl c)
same-refl (Input n c) = ap₂ (λ a b. a && b) (eq-refl n) (eq-refl c)

pub same-is : (u w : Variable) → same_variable u w ≡ true → u ≡ w
same-is (After n c) (After m d) e = let (p, q) = both (n == m) (c == d) e in ap₂ After (eq-is n m p) (eq-is c d q)
same-is (Before n c) (Before m d) e = let (p, q) = both (n == m) (c == d) e in ap₂ Before (eq-is n m p) (eq-is c d q)
same-is (Input n c) (Input m d) e = let (p, q) = both (n == m) (c == d) e in ap₂ Input (eq-is n m p) (eq-is c d q)
same-is (After n c) (Before m d) e = cc
same-is (After n c) (Input m d) e = cc
same-is (Before n c) (After m d) e = cc
same-is (Before n c) (Input m d) e = cc
same-is (Input n c) (After m d) e = cc
same-is (Input n c) (Before m d) e = cc

-- a variable stands in a list
abbrev pub IsNamed : List Variable → Variable → Type 0
IsNamed variables u = list_any (same_variable u) variables ≡ true

-- none stands twice
abbrev pub AreApart : List Variable → Type 0
AreApart [] = Unit {0}
AreApart (u ∷ variables) = (list_any (same_variable u) variables ≡ false) × AreApart variables

neither : (a b : Bool) → (a || b) ≡ false → (a ≡ false) × (b ≡ false)
neither false false e = (refl, refl)
neither false true e = cc
neither true b e = cc

-- ---- sums over variables

-- one more term of a variable that does not stand there
without_one : (v : Variable → ℤ) (u : Variable) (a : ℤ) (f : Variable → ℤ) (variables : List Variable) (xs : List ℤ) → list_any (same_variable u) variables ≡ false
    → product_of (map (λ w. if same_variable u w then a +ℤ f w else f w) variables) xs ≡ product_of (map f variables) xs
without_one v u a f [] xs none = refl
without_one v u a f (w ∷ variables) [] none = refl
without_one v u a f (w ∷ variables) (x ∷ xs) none =
    let (here, later) = neither (same_variable u w) (list_any (same_variable u) variables) none in
    ap₂ (λ b t. (if b then a +ℤ f w else f w) *ℤ x +ℤ t) here (without_one v u a f variables xs later)

turn : (a b c : ℤ) → b +ℤ (a +ℤ c) ≡ a +ℤ (b +ℤ c)
turn a b c = omega (arith, ints)

-- one more term of a variable that stands there once
with_one : (v : Variable → ℤ) (u : Variable) (a : ℤ) (f : Variable → ℤ) (variables : List Variable) → AreApart variables → IsNamed variables u
    → product_of (map (λ w. if same_variable u w then a +ℤ f w else f w) variables) (map v variables) ≡ a *ℤ v u +ℤ product_of (map f variables) (map v variables)
with_one v u a f [] apart named = cc
with_one v u a f (w ∷ variables) apart named = by_first (λ later. with_one v u a f variables apart.1 later) (same_variable u w) refl named
  where
    by_first : (IsNamed variables u → product_of (map (λ w. if same_variable u w then a +ℤ f w else f w) variables) (map v variables) ≡ a *ℤ v u +ℤ product_of (map f variables) (map v variables))
        → (b : Bool) → same_variable u w ≡ b → (b || list_any (same_variable u) variables) ≡ true
        → (if same_variable u w then a +ℤ f w else f w) *ℤ v w +ℤ product_of (map (λ w. if same_variable u w then a +ℤ f w else f w) variables) (map v variables) ≡ a *ℤ v u +ℤ (f w *ℤ v w +ℤ product_of (map f variables) (map v variables))
    by_first more true is there =
        let same = same-is u w is in
        let later : list_any (same_variable u) variables ≡ false = ap (λ x. list_any (same_variable x) variables) same ∙ apart.0 in
        ap₂ (λ b t. (if b then a +ℤ f w else f w) *ℤ v w +ℤ t) is (without_one v u a f variables (map v variables) later)
        ∙ ap (λ t. t +ℤ product_of (map f variables) (map v variables)) (add-mul_ℤ a (f w) (v w))
        ∙ add_assoc_ℤ (a *ℤ v w) (f w *ℤ v w) (product_of (map f variables) (map v variables))
        ∙ ap (λ x. a *ℤ v x +ℤ (f w *ℤ v w +ℤ product_of (map f variables) (map v variables))) (sym same)
    by_first more false is there =
        ap₂ (λ b t. (if b then a +ℤ f w else f w) *ℤ v w +ℤ t) is (more there)
        ∙ turn (a *ℤ v u) (f w *ℤ v w) (product_of (map f variables) (map v variables))

none_there : (v : Variable → ℤ) (variables : List Variable) (xs : List ℤ) → product_of (map (coefficient_in []) variables) xs ≡ pos 0
none_there v [] xs = refl
none_there v (w ∷ variables) [] = refl
none_there v (w ∷ variables) (x ∷ xs) = ap₂ (λ a b. a +ℤ b) (zero-mul_ℤ x) (none_there v variables xs)

-- each term's variable stands there
abbrev pub AreNamed : List Variable → List Term → Type 0
AreNamed variables terms = AllByRecursion (λ term. IsNamed variables term.variable) terms

-- The row over variables, at their values, is the terms' sum.
pub product-worth : (v : Variable → ℤ) (variables : List Variable) (terms : List Term) → AreApart variables → AreNamed variables terms
    → product_of (map (coefficient_in terms) variables) (map v variables) ≡ worth v terms
product-worth v variables [] apart named = none_there v variables (map v variables)
product-worth v variables (term ∷ terms) apart named =
    with_one v term.variable term.coefficient (coefficient_in terms) variables apart named.0
    ∙ ap (λ t. term.coefficient *ℤ v term.variable +ℤ t) (product-worth v variables terms apart named.1)

-- ---- numbers by variables

skipped : (u : Variable) (a : ℤ) (variables : List Variable) (xs : List ℤ) (others : List Variable) → list_any (same_variable u) others ≡ false
    → map (coefficient_at (u ∷ variables) (a ∷ xs)) others ≡ map (coefficient_at variables xs) others
skipped u a variables xs [] none = refl
skipped u a variables xs (w ∷ others) none =
    let (here, later) = neither (same_variable u w) (list_any (same_variable u) others) none in
    ap₂ (λ (b : Bool) t. (if b then a else coefficient_at variables xs w) ∷ t) here (skipped u a variables xs others later)

-- what each variable has of a list is that list
pub values-list : (variables : List Variable) (xs : List ℤ) → AreApart variables → length xs ≡ length variables → map (coefficient_at variables xs) variables ≡ xs
values-list [] [] apart one = refl
values-list [] (x ∷ xs) apart one = absurd (omega arith)
values-list (u ∷ variables) [] apart one = absurd (omega arith)
values-list (u ∷ variables) (x ∷ xs) apart one =
    ap₂ (λ (b : Bool) t. (if b then x else coefficient_at variables xs u) ∷ t) (same-refl u)
    (skipped u x variables xs variables apart.0 ∙ values-list variables xs apart.1 (omega arith))
