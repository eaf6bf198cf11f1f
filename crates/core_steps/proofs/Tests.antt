-- What tests tell.
use Rattle.std.proofs.Common.{◌≡◌, ◌⊎◌, ℕ, Bool, true, false, not, ◌&&◌, ◌||◌, List, [], ◌∷◌, refl, sym, ap, ap₂, subst, ◌∙◌, inl, inr}
use Rattle.std.specs.Prelude.{◌==◌}
use Rattle.std.specs.List.{AllByRecursion, Contains, list_any, list_all, filter}
use Rattle.horn_rules.specs.Home.{Home, State, Env}
use Rattle.horn_rules.specs.Instance.{Instance, Init, Own, Guar, Env as Environment, Inter}
use Rattle.horn_rules.specs.Stored.{same_home}
use Rattle.horn_rules.proofs.Lists.{Contains-first, Contains-later, first-or-later, contains-nothing}
use Rattle.horn_rules.proofs.InstanceLists.{eq-is, is-eq}
use Rattle.core_steps.specs.State.{Task}
use Rattle.core_steps.specs.Pending.{same_instance, same_task}

-- a test passes or fails
pub tells : (b : Bool) → (b ≡ true) ⊎ (b ≡ false)
tells true = inl refl
tells false = inr refl

pub true-false : {A : Type 0} (b : Bool) → b ≡ true → b ≡ false → A
true-false b p q = let wrong : true ≡ false = sym p ∙ q in absurd cc

pub both : (a b : Bool) → (a && b) ≡ true → (a ≡ true) × (b ≡ true)
both true b e = (refl, e)
both false b e = absurd cc

pub with-both : (a b : Bool) → a ≡ true → b ≡ true → (a && b) ≡ true
with-both a b p q = rw (p, q) refl

pub either : (a b : Bool) → (a || b) ≡ true → (a ≡ true) ⊎ (b ≡ true)
either true b e = inl refl
either false b e = inr e

pub neither : (a b : Bool) → (a || b) ≡ false → (a ≡ false) × (b ≡ false)
neither true b e = absurd cc
neither false b e = (refl, e)

pub not-true : (b : Bool) → not b ≡ true → b ≡ false
not-true true e = absurd cc
not-true false e = refl

pub not-false : (b : Bool) → not b ≡ false → b ≡ true
not-false true e = refl
not-false false e = absurd cc

-- ---- lists

pub any-from : {A : Type 0} (p : A → Bool) (xs : List A) → list_any p xs ≡ true → (x : A) × Contains xs x × (p x ≡ true)
any-from p [] e = absurd cc
any-from p (x ∷ xs) e = elim (either (p x) (list_any p xs) e) [
  | inl hit ↦ (x, Contains-first x xs, hit)
  | inr rest ↦ let (found, there, is) = any-from p xs rest in (found, Contains-later x found xs there, is)
]

pub any-at : {A : Type 0} (p : A → Bool) (xs : List A) (x : A) → Contains xs x → p x ≡ true → list_any p xs ≡ true
any-at p [] x c e = absurd (contains-nothing x c)
any-at p (y ∷ ys) x c e = elim (first-or-later y x ys c) [
  | inl same ↦ let hit : p y ≡ true = ap p same ∙ e in rw hit refl
  | inr later ↦ elim (tells (p y)) [
    | inl hit ↦ rw hit refl
    | inr miss ↦ rw miss (any-at p ys x later e)
  ]
]

pub none-at : {A : Type 0} (p : A → Bool) (xs : List A) (x : A) → list_any p xs ≡ false → Contains xs x → p x ≡ false
none-at p xs x e c = elim (tells (p x)) [
  | inl hit ↦ true-false (list_any p xs) (any-at p xs x c hit) e
  | inr miss ↦ miss
]

pub all-at : {A : Type 0} (p : A → Bool) (xs : List A) → list_all p xs ≡ true → AllByRecursion (λ x. p x ≡ true) xs
all-at p [] e = tt
all-at p (x ∷ xs) e = let (hit, rest) = both (p x) (list_all p xs) e in (hit, all-at p xs rest)

-- what a filter keeps
pub filter-from : {A : Type 0} (p : A → Bool) (xs : List A) (x : A) → Contains (filter p xs) x → Contains xs x × (p x ≡ true)
filter-from p [] x c = absurd (contains-nothing x c)
filter-from p (y ∷ ys) x c = elim (tells (p y)) [
  | inl hit ↦
      let kept : filter p (y ∷ ys) ≡ y ∷ filter p ys = rw hit refl in
      elim (first-or-later y x (filter p ys) (subst (λ l. Contains l x) kept c)) [
        | inl same ↦ (subst (Contains (y ∷ ys)) same (Contains-first y ys), subst (λ z. p z ≡ true) same hit)
        | inr later ↦ let (there, is) = filter-from p ys x later in (Contains-later y x ys there, is)
      ]
  | inr miss ↦
      let kept : filter p (y ∷ ys) ≡ filter p ys = rw miss refl in
      let (there, is) = filter-from p ys x (subst (λ l. Contains l x) kept c) in
      (Contains-later y x ys there, is)
]

-- ---- homes, instances and tasks

pub same_home-is : (one other : Home) → same_home one other ≡ true → one ≡ other
same_home-is (State i l) (State j m) e = let (a, b) = both (i == j) (l == m) e in ap₂ State (eq-is i j a) (eq-is l m b)
same_home-is (Env i l) (Env j m) e = let (a, b) = both (i == j) (l == m) e in ap₂ Env (eq-is i j a) (eq-is l m b)
same_home-is (State i l) (Env j m) e = absurd cc
same_home-is (Env i l) (State j m) e = absurd cc

pub is-same_home : (home : Home) → same_home home home ≡ true
is-same_home (State i l) = with-both (i == i) (l == l) (is-eq i i refl) (is-eq l l refl)
is-same_home (Env i l) = with-both (i == i) (l == l) (is-eq i i refl) (is-eq l l refl)

pub same_instance-is : (one other : Instance ℕ) → same_instance one other ≡ true → one ≡ other
same_instance-is (Init i) (Init j) e = ap Init (eq-is i j e)
same_instance-is (Own f e) (Own g k) s = let (a, b) = both (f == g) (e == k) s in ap₂ (λ x y. Own x y) (eq-is f g a) (eq-is e k b)
same_instance-is (Guar f e) (Guar g k) s = let (a, b) = both (f == g) (e == k) s in ap₂ (λ x y. Guar x y) (eq-is f g a) (eq-is e k b)
same_instance-is (Environment f t) (Environment g u) s = let (a, b) = both (f == g) (t == u) s in ap₂ (λ x y. Environment x y) (eq-is f g a) (eq-is t u b)
same_instance-is (Inter f g e) (Inter h i k) s =
    let (a, rest) = both (f == h) (g == i && e == k) s in
    let (b, c) = both (g == i) (e == k) rest in
    ap₂ (λ x y. Inter x y e) (eq-is f h a) (eq-is g i b) ∙ ap (λ z. Inter h i z) (eq-is e k c)
same_instance-is one other e = absurd cc

pub is-same_instance : (instance : Instance ℕ) → same_instance instance instance ≡ true
is-same_instance (Init i) = is-eq i i refl
is-same_instance (Own f e) = with-both (f == f) (e == e) (is-eq f f refl) (is-eq e e refl)
is-same_instance (Guar f e) = with-both (f == f) (e == e) (is-eq f f refl) (is-eq e e refl)
is-same_instance (Environment f t) = with-both (f == f) (t == t) (is-eq f f refl) (is-eq t t refl)
is-same_instance (Inter f g e) = with-both (f == f) (g == g && e == e) (is-eq f f refl) (with-both (g == g) (e == e) (is-eq g g refl) (is-eq e e refl))

task-of : (one other : Task) → one.instance ≡ other.instance → one.home ≡ other.home → one.epoch ≡ other.epoch → one ≡ other
task-of one other p q r =
    ap (λ i. record one { instance = i }) p ∙ ap (λ h. record other { home = h; epoch = one.epoch }) q ∙ ap (λ n. record other { epoch = n }) r

pub same_task-is : (one other : Task) → same_task one other ≡ true → one ≡ other
same_task-is one other e =
    let (a, rest) = both (same_instance one.instance other.instance) (same_home one.home other.home && one.epoch == other.epoch) e in
    let (b, c) = both (same_home one.home other.home) (one.epoch == other.epoch) rest in
    task-of one other (same_instance-is one.instance other.instance a) (same_home-is one.home other.home b) (eq-is one.epoch other.epoch c)

pub is-same_task : (task : Task) → same_task task task ≡ true
is-same_task task =
    with-both (same_instance task.instance task.instance) (same_home task.home task.home && task.epoch == task.epoch) (is-same_instance task.instance)
    (with-both (same_home task.home task.home) (task.epoch == task.epoch) (is-same_home task.home) (is-eq task.epoch task.epoch refl))
