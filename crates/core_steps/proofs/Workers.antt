-- Lists in which each worker stands once at most.
use Rattle.std.proofs.Common.{◌≡◌, ◌≢◌, ◌⊎◌, ◌<◌, ◌≤◌, ◌+◌, ℕ, zero, suc, true, false, not, List, [], ◌∷◌, length, Option, Some, None, refl, sym, ap, subst, ◌∙◌, inl, inr, arith}
use Rattle.std.specs.Prelude.{◌==◌, if◌then◌else◌}
use Rattle.std.specs.List.{AllByRecursion, Contains, filter}
use Rattle.horn_rules.proofs.Lists.{Contains-first, Contains-later, first-or-later, contains-nothing, all-contained}
use Rattle.horn_rules.proofs.InstanceLists.{eq-is, is-eq}
use Rattle.core_steps.specs.State.{Hold, Claimed, held_by, claimed_by, holds_without, claims_without}
use Rattle.core_steps.proofs.Tests.{tells}

-- what stands first with this number
abbrev pub by_worker : {A V : Type 0} → (A → ℕ) → (A → V) → List A → ℕ → Option V
by_worker number what [] w = None
by_worker number what (x ∷ xs) w = if number x == w then Some (what x) else by_worker number what xs w

abbrev pub without : {A : Type 0} → (A → ℕ) → ℕ → List A → List A
without number w xs = filter (λ x. not (number x == w)) xs

-- No two have the same number.
abbrev pub AreApart : {A : Type 0} → (A → ℕ) → List A → Type 0
AreApart number [] = Unit {0}
AreApart number (x ∷ xs) = AllByRecursion (λ y. number y ≢ number x) xs × AreApart number xs

-- The number is from 1 to n.
abbrev pub IsUpTo : ℕ → ℕ → Type 0
IsUpTo n w = (1 ≤ w) × (w ≤ n)

pub not-eq : (m n : ℕ) → m ≢ n → (m == n) ≡ false
not-eq m n apart = elim (tells (m == n)) [
  | inl hit ↦ absurd (apart (eq-is m n hit))
  | inr miss ↦ miss
]

pub held_by-is : (holds : List Hold) (w : ℕ) → held_by holds w ≡ by_worker (λ hold. Hold.worker hold) (λ hold. Hold.task hold) holds w
held_by-is [] w = refl
held_by-is (hold ∷ holds) w = ap (λ o. if hold.worker == w then Some hold.task else o) (held_by-is holds w)

pub claimed_by-is : (claims : List Claimed) (w : ℕ) → claimed_by claims w ≡ by_worker (λ claim. Claimed.worker claim) (λ claim. Claimed.root claim) claims w
claimed_by-is [] w = refl
claimed_by-is (claim ∷ claims) w = ap (λ o. if claim.worker == w then Some claim.root else o) (claimed_by-is claims w)

-- ---- what is found

pub by_worker-first : {A V : Type 0} (number : A → ℕ) (what : A → V) (x : A) (xs : List A) (w : ℕ) → number x ≡ w → by_worker number what (x ∷ xs) w ≡ Some (what x)
by_worker-first number what x xs w e = let hit = is-eq (number x) w e in rw hit refl

pub by_worker-behind : {A V : Type 0} (number : A → ℕ) (what : A → V) (x : A) (xs : List A) (w : ℕ) → number x ≢ w → by_worker number what (x ∷ xs) w ≡ by_worker number what xs w
by_worker-behind number what x xs w apart = let miss = not-eq (number x) w apart in rw miss refl

pub by_worker-found : {A V : Type 0} (number : A → ℕ) (what : A → V) (xs : List A) (w : ℕ) (v : V) → by_worker number what xs w ≡ Some v
    → (x : A) × Contains xs x × (number x ≡ w) × (what x ≡ v)
by_worker-found number what [] w v e = cc
by_worker-found number what (x ∷ xs) w v e = elim (tells (number x == w)) [
  | inl hit ↦
      let at = by_worker-first number what x xs w (eq-is (number x) w hit) in
      let both : Some (what x) ≡ Some v = sym at ∙ e in
      let same : what x ≡ v = cc in
      (x, Contains-first x xs, eq-is (number x) w hit, same)
  | inr miss ↦
      let at : by_worker number what (x ∷ xs) w ≡ by_worker number what xs w = rw miss refl in
      let (y, there, is, same) = by_worker-found number what xs w v (sym at ∙ e) in
      (y, Contains-later x y xs there, is, same)
]

pub found-by_worker : {A V : Type 0} (number : A → ℕ) (what : A → V) (xs : List A) (x : A) → AreApart number xs → Contains xs x → by_worker number what xs (number x) ≡ Some (what x)
found-by_worker number what [] x apart c = absurd (contains-nothing x c)
found-by_worker number what (y ∷ ys) x apart c = elim (first-or-later y x ys c) [
  | inl same ↦ by_worker-first number what y ys (number x) (ap number same) ∙ ap (λ z. Some (what z)) same
  | inr later ↦
      by_worker-behind number what y ys (number x) (λ e. all-contained (λ z. number z ≢ number y) ys x apart.0 later (sym e))
      ∙ found-by_worker number what ys x apart.1 later
]

-- where nothing is found, nothing has the number
pub none-apart : {A V : Type 0} (number : A → ℕ) (what : A → V) (xs : List A) (w : ℕ) → by_worker number what xs w ≡ None → AllByRecursion (λ y. number y ≢ w) xs
none-apart number what [] w e = tt
none-apart number what (x ∷ xs) w e = elim (tells (number x == w)) [
  | inl hit ↦ let at = by_worker-first number what x xs w (eq-is (number x) w hit) in let wrong : Some (what x) ≡ None = sym at ∙ e in absurd cc
  | inr miss ↦
      let at : by_worker number what (x ∷ xs) w ≡ by_worker number what xs w = rw miss refl in
      ((λ same. let hit = is-eq (number x) w same in let wrong : true ≡ false = sym hit ∙ miss in absurd cc), none-apart number what xs w (sym at ∙ e))
]

pub apart-none : {A V : Type 0} (number : A → ℕ) (what : A → V) (xs : List A) (w : ℕ) → AllByRecursion (λ y. number y ≢ w) xs → by_worker number what xs w ≡ None
apart-none number what [] w all = refl
apart-none number what (x ∷ xs) w all = by_worker-behind number what x xs w all.0 ∙ apart-none number what xs w all.1

-- ---- without one

without-first : {A : Type 0} (number : A → ℕ) (x : A) (xs : List A) (w : ℕ) → number x ≡ w → without number w (x ∷ xs) ≡ without number w xs
without-first number x xs w e = let hit = is-eq (number x) w e in rw hit refl

without-behind : {A : Type 0} (number : A → ℕ) (x : A) (xs : List A) (w : ℕ) → number x ≢ w → without number w (x ∷ xs) ≡ x ∷ without number w xs
without-behind number x xs w apart = let miss = not-eq (number x) w apart in rw miss refl

pub is-or-not : (m n : ℕ) → (m ≡ n) ⊎ (m ≢ n)
is-or-not m n = elim (tells (m == n)) [
  | inl hit ↦ inl (eq-is m n hit)
  | inr miss ↦ inr (λ same. let hit = is-eq m n same in let wrong : true ≡ false = sym hit ∙ miss in absurd cc)
]

pub without-all : {A : Type 0} (P : A → Type 0) (number : A → ℕ) (w : ℕ) (xs : List A) → AllByRecursion P xs → AllByRecursion P (without number w xs)
without-all P number w [] all = tt
without-all P number w (x ∷ xs) all = elim (is-or-not (number x) w) [
  | inl same ↦ subst (AllByRecursion P) (sym (without-first number x xs w same)) (without-all P number w xs all.1)
  | inr apart ↦ subst (AllByRecursion P) (sym (without-behind number x xs w apart)) (all.0, without-all P number w xs all.1)
]

pub without-apart : {A : Type 0} (number : A → ℕ) (w : ℕ) (xs : List A) → AreApart number xs → AreApart number (without number w xs)
without-apart number w [] apart = tt
without-apart number w (x ∷ xs) apart = elim (is-or-not (number x) w) [
  | inl same ↦ subst (AreApart number) (sym (without-first number x xs w same)) (without-apart number w xs apart.1)
  | inr other ↦ subst (AreApart number) (sym (without-behind number x xs w other)) (without-all (λ y. number y ≢ number x) number w xs apart.0, without-apart number w xs apart.1)
]

without-same : {A : Type 0} (number : A → ℕ) (w : ℕ) (xs : List A) → AllByRecursion (λ y. number y ≢ w) xs → without number w xs ≡ xs
without-same number w [] all = refl
without-same number w (x ∷ xs) all = without-behind number x xs w all.0 ∙ ap (λ ys. x ∷ ys) (without-same number w xs all.1)

-- it is gone, and all others stand as before
pub by_worker-gone : {A V : Type 0} (number : A → ℕ) (what : A → V) (xs : List A) (w : ℕ) → by_worker number what (without number w xs) w ≡ None
by_worker-gone number what [] w = refl
by_worker-gone number what (x ∷ xs) w = elim (is-or-not (number x) w) [
  | inl same ↦ ap (λ ys. by_worker number what ys w) (without-first number x xs w same) ∙ by_worker-gone number what xs w
  | inr apart ↦ ap (λ ys. by_worker number what ys w) (without-behind number x xs w apart) ∙ by_worker-behind number what x (without number w xs) w apart ∙ by_worker-gone number what xs w
]

pub by_worker-other : {A V : Type 0} (number : A → ℕ) (what : A → V) (xs : List A) (w v : ℕ) → v ≢ w → by_worker number what (without number w xs) v ≡ by_worker number what xs v
by_worker-other number what [] w v other = refl
by_worker-other number what (x ∷ xs) w v other = elim (is-or-not (number x) w) [
  | inl same ↦
      ap (λ ys. by_worker number what ys v) (without-first number x xs w same) ∙ by_worker-other number what xs w v other
      ∙ sym (by_worker-behind number what x xs v (λ e. other (sym e ∙ same)))
  | inr apart ↦
      ap (λ ys. by_worker number what ys v) (without-behind number x xs w apart)
      ∙ ap (λ o. if number x == v then Some (what x) else o) (by_worker-other number what xs w v other)
]

-- ---- counts

pub length-without : {A : Type 0} (number : A → ℕ) (w : ℕ) (xs : List A) → length (without number w xs) ≤ length xs
length-without number w [] = omega arith
length-without number w (x ∷ xs) = elim (is-or-not (number x) w) [
  | inl same ↦ let less = length-without number w xs in let e = ap length (without-first number x xs w same) in omega (arith, less, e)
  | inr apart ↦ let less = length-without number w xs in let e = ap length (without-behind number x xs w apart) in omega (arith, less, e)
]

pub length-gone : {A V : Type 0} (number : A → ℕ) (what : A → V) (w : ℕ) (xs : List A) (v : V) → by_worker number what xs w ≡ Some v → length (without number w xs) < length xs
length-gone number what w [] v is = absurd cc
length-gone number what w (x ∷ xs) v is = elim (is-or-not (number x) w) [
  | inl same ↦ let less = length-without number w xs in let e = ap length (without-first number x xs w same) in omega (arith, less, e)
  | inr apart ↦
      let less = length-gone number what w xs v (sym (by_worker-behind number what x xs w apart) ∙ is) in
      let e = ap length (without-behind number x xs w apart) in omega (arith, less, e)
]

pub length-but-one : {A : Type 0} (number : A → ℕ) (w : ℕ) (xs : List A) → AreApart number xs → length xs ≤ length (without number w xs) + 1
length-but-one number w [] apart = omega arith
length-but-one number w (x ∷ xs) apart = elim (is-or-not (number x) w) [
  | inl same ↦
      let rest = without-same number w xs (subst (λ n. AllByRecursion (λ y. number y ≢ n) xs) same apart.0) in
      let e = ap length (without-first number x xs w same ∙ rest) in omega (arith, e)
  | inr other ↦ let less = length-but-one number w xs apart.1 in let e = ap length (without-behind number x xs w other) in omega (arith, less, e)
]

-- no more than there are numbers
below-next : (m n : ℕ) → m ≤ suc n → m ≢ suc n → m ≤ n
below-next m n le other = omega (arith, le, other)

without-last : {A : Type 0} (number : A → ℕ) (n : ℕ) (xs : List A) → AllByRecursion (λ x. IsUpTo (suc n) (number x)) xs → AllByRecursion (λ x. IsUpTo n (number x)) (without number (suc n) xs)
without-last number n [] all = tt
without-last number n (x ∷ xs) all = elim (is-or-not (number x) (suc n)) [
  | inl same ↦ subst (AllByRecursion (λ y. IsUpTo n (number y))) (sym (without-first number x xs (suc n) same)) (without-last number n xs all.1)
  | inr other ↦
      subst (AllByRecursion (λ y. IsUpTo n (number y))) (sym (without-behind number x xs (suc n) other))
      ((all.0.0, below-next (number x) n all.0.1 other), without-last number n xs all.1)
]

pub few-apart : {A : Type 0} (number : A → ℕ) (n : ℕ) (xs : List A) → AreApart number xs → AllByRecursion (λ x. IsUpTo n (number x)) xs → length xs ≤ n
few-apart number zero [] apart all = omega arith
few-apart number zero (x ∷ xs) apart all = absurd (omega (arith, all.0.0, all.0.1))
few-apart number (suc n) xs apart all =
    let rest = few-apart number n (without number (suc n) xs) (without-apart number (suc n) xs apart) (without-last number n xs all) in
    let one = length-but-one number (suc n) xs apart in
    omega (arith, rest, one)

-- ---- jobs and claims

pub held-first : (hold : Hold) (holds : List Hold) (w : ℕ) → hold.worker ≡ w → held_by (hold ∷ holds) w ≡ Some hold.task
held-first hold holds w e = let hit = is-eq hold.worker w e in rw hit refl

pub held-behind : (hold : Hold) (holds : List Hold) (w : ℕ) → hold.worker ≢ w → held_by (hold ∷ holds) w ≡ held_by holds w
held-behind hold holds w apart = let miss = not-eq hold.worker w apart in rw miss refl

pub held-gone : (holds : List Hold) (w : ℕ) → held_by (holds_without w holds) w ≡ None
held-gone holds w = held_by-is (holds_without w holds) w ∙ by_worker-gone (λ hold. Hold.worker hold) (λ hold. Hold.task hold) holds w

pub held-other : (holds : List Hold) (w v : ℕ) → v ≢ w → held_by (holds_without w holds) v ≡ held_by holds v
held-other holds w v other = held_by-is (holds_without w holds) v ∙ by_worker-other (λ hold. Hold.worker hold) (λ hold. Hold.task hold) holds w v other ∙ sym (held_by-is holds v)

pub claimed-first : (claim : Claimed) (claims : List Claimed) (w : ℕ) → claim.worker ≡ w → claimed_by (claim ∷ claims) w ≡ Some claim.root
claimed-first claim claims w e = let hit = is-eq claim.worker w e in rw hit refl

pub claimed-behind : (claim : Claimed) (claims : List Claimed) (w : ℕ) → claim.worker ≢ w → claimed_by (claim ∷ claims) w ≡ claimed_by claims w
claimed-behind claim claims w apart = let miss = not-eq claim.worker w apart in rw miss refl

pub claimed-gone : (claims : List Claimed) (w : ℕ) → claimed_by (claims_without w claims) w ≡ None
claimed-gone claims w = claimed_by-is (claims_without w claims) w ∙ by_worker-gone (λ claim. Claimed.worker claim) (λ claim. Claimed.root claim) claims w

pub claimed-other : (claims : List Claimed) (w v : ℕ) → v ≢ w → claimed_by (claims_without w claims) v ≡ claimed_by claims v
claimed-other claims w v other = claimed_by-is (claims_without w claims) v ∙ by_worker-other (λ claim. Claimed.worker claim) (λ claim. Claimed.root claim) claims w v other ∙ sym (claimed_by-is claims v)
