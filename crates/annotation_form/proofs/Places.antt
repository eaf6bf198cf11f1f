-- Certificates in one buffer.
use Rattle.std.proofs.Common.{◌≡◌, ℕ, zero, suc, ◌+◌, ◌-◌, ◌<◌, ◌≤◌, ℤ, List, [], ◌∷◌, ◌++◌, length, take, drop, Some, refl, sym, ap, ap₂, subst, ◌∙◌, arith, inl, inr, length-append, Bool, true, false}
use Rattle.std.specs.List.{AllByRecursion, Contains, slice_get, slice_range}
use Rattle.std.specs.Bool.{Decides}
use Rattle.std.specs.Prelude.{◌&&◌, ◌⊎◌, nat_le}
use Rattle.std.proofs.lemmas.Bool.Decides.{leb_tells}
use Rattle.std.proofs.lemmas.List.{take-append-le, drop-append-le, map-append, length-drop}
use Rattle.std.proofs.lemmas.Option.{slice_get_within}
use Rattle.lin_rows.proofs.Lists.{AllByRecursion-append}
use Rattle.horn_rules.proofs.ByNumber.{Contains-append}
use Rattle.horn_rules.proofs.Lists.{Contains-first, first-or-later, contains-nothing, slice_get-Contains}
use Rattle.farkas_cert.specs.Cert.{Pairs}
use Rattle.annotation_form.specs.Certificates.{AreListed, NoneTwice}
use Rattle.annotation_form.specs.inside.Places.{at_place, kept_at, IsPlace, AreKept}
use Rattle.annotation_form.specs.declared.certificates.Place.{Place}

-- ---- parts of a longer buffer

range-front : (xs ys : Pairs) (from to : ℕ) → from ≤ to → to ≤ length xs → slice_range (xs ++ ys) from to ≡ slice_range xs from to
range-front xs ys from to order within =
    ap (take (to - from)) (drop-append-le from xs ys (omega arith)) ∙ take-append-le (to - from) (drop from xs) ys (omega (arith, length-drop from xs))

range-last : (xs ys : Pairs) (from to : ℕ) → from ≡ length xs → to ≡ length xs + length ys → slice_range (xs ++ ys) from to ≡ ys
range-last xs ys from to first last =
    ap₂ (λ (n : ℕ) (rest : Pairs). take n rest) (let n : to - from ≡ length ys = omega arith in n) (rest-is xs from first)
    ∙ take-whole ys
  where
    rest-is : (zs : Pairs) (k : ℕ) → k ≡ length zs → drop k (zs ++ ys) ≡ ys
    rest-is [] zero e = refl
    rest-is [] (suc k) e = absurd (omega arith)
    rest-is (z ∷ zs) zero e = absurd (omega arith)
    rest-is (z ∷ zs) (suc k) e = rest-is zs k (omega arith)

    take-whole : (zs : Pairs) → take (length zs) zs ≡ zs
    take-whole [] = refl
    take-whole (z ∷ zs) = ap (λ rest. z ∷ rest) (take-whole zs)

kept-longer : (xs ys : Pairs) (places : List Place) → AllByRecursion (IsPlace xs) places → kept_at (xs ++ ys) places ≡ kept_at xs places
kept-longer xs ys [] are = refl
kept-longer xs ys (place ∷ places) are =
    ap₂ (λ (one : Pairs) (rest : List Pairs). one ∷ rest) (range-front xs ys place.from place.to are.0.in_order are.0.within) (kept-longer xs ys places are.1)

places-longer : (xs ys : Pairs) (places : List Place) → AllByRecursion (IsPlace xs) places → AllByRecursion (IsPlace (xs ++ ys)) places
places-longer xs ys [] are = tt
places-longer xs ys (place ∷ places) are = (
  record { in_order = are.0.in_order; within = omega (arith, are.0.within, length-append xs ys) },
  places-longer xs ys places are.1,
)

-- ---- one more

none-twice-more : (xs : List Pairs) (y : Pairs) → NoneTwice xs → (¬ Contains xs y) → NoneTwice (xs ++ y ∷ [])
none-twice-more [] y once new = ((λ c. contains-nothing y c), tt)
none-twice-more (x ∷ xs) y once new = (
  (λ c. elim (Contains-append xs (y ∷ []) x c) [
    | inl there ↦ once.0 there
    | inr last ↦ elim (first-or-later y x [] last) [
      | inl same ↦ new (subst (λ z. Contains (x ∷ xs) z) (sym same) (Contains-first x xs))
      | inr none ↦ contains-nothing x none
    ]
  ]),
  none-twice-more xs y once.1 (λ (k, h, e). new (suc k, omega arith, e)),
)

-- a longer buffer has the same certificates
pub buffer-longer : (xs ys zs : Pairs) (places : List Place) → zs ≡ xs ++ ys → AreKept xs places → (AreKept zs places) × (kept_at zs places ≡ kept_at xs places)
buffer-longer xs ys zs places e are =
    let same = kept-longer xs ys places are.places_are in (
      subst (λ b. AreKept b places) (sym e) (record {
        places_are = places-longer xs ys places are.places_are;
        none_twice = subst NoneTwice (sym same) are.none_twice;
        listed = subst (AllByRecursion (AreListed 0)) (sym same) are.listed;
      }),
      ap (λ b. kept_at b places) e ∙ same,
    )

-- and so has one with a further place, and what stands there
pub place-more : (xs ys zs : Pairs) (places more : List Place) (place : Place) → zs ≡ xs ++ ys → more ≡ places ++ place ∷ [] → place.from ≡ length xs → place.to ≡ length xs + length ys
    → AreKept xs places → (¬ Contains (kept_at xs places) ys) → AreListed 0 ys → (AreKept zs more) × (kept_at zs more ≡ kept_at xs places ++ ys ∷ [])
place-more xs ys zs places more place e last first to are new listed =
    let longer = buffer-longer xs ys zs places e are in
    let one : at_place zs place ≡ ys = ap (λ (b : Pairs). at_place b place) e ∙ range-last xs ys place.from place.to first to in
    let all : kept_at zs more ≡ kept_at xs places ++ ys ∷ [] =
    ap (kept_at zs) last ∙ map-append (at_place zs) places (place ∷ []) ∙ ap₂ (λ (front : List Pairs) (x : Pairs). front ++ x ∷ []) longer.1 one in
    let here : IsPlace zs place = record { in_order = omega arith; within = omega (arith, ap length e, length-append xs ys) } in (
      record {
        places_are = subst (AllByRecursion (IsPlace zs)) (sym last) (AllByRecursion-append (IsPlace zs) places (place ∷ []) longer.0.places_are (here, tt));
        none_twice = subst NoneTwice (sym all) (none-twice-more (kept_at xs places) ys are.none_twice new);
        listed = subst (AllByRecursion (AreListed 0)) (sym all) (AllByRecursion-append (AreListed 0) (kept_at xs places) (ys ∷ []) are.listed (listed, tt));
      },
      all,
    )

-- ---- looking for one

-- None of the first so many is this one.
abbrev pub NoneBelow : List Pairs → Pairs → ℕ → Type 0
NoneBelow xs x n = (k : ℕ) → k < n → slice_get xs k ≡ Some x → ⊥

pub none-start : (xs : List Pairs) (x : Pairs) → NoneBelow xs x 0
none-start xs x k h e = absurd (omega arith)

pub none-next : (xs : List Pairs) (x y : Pairs) (n : ℕ) → NoneBelow xs x n → slice_get xs n ≡ Some y → (y ≡ x → ⊥) → NoneBelow xs x (n + 1)
none-next xs x y n none at other k h e = below (leb_tells (suc k) n)
  where
    below : ((nat_le (suc k) n ≡ true) × (suc k ≤ n)) ⊎ ((nat_le (suc k) n ≡ false) × (n < suc k)) → ⊥
    below (inl p) = none k (omega (arith, p.1)) e
    below (inr p) =
        let same : k ≡ n = omega (arith, p.1) in
        let both : Some y ≡ Some x = sym at ∙ ap (slice_get xs) (sym same) ∙ e in
        other cc

pub none-all : (xs : List Pairs) (x : Pairs) (n : ℕ) → length xs ≤ n → NoneBelow xs x n → ¬ Contains xs x
none-all xs x n many none there =
    let (k, at) = slice_get-Contains xs x there in
    none k (omega (arith, slice_get_within xs k x at)) at

-- ---- the test for the same

pub pair-decides : (E : ℕ → ℕ → Bool) (F : ℤ → ℤ → Bool) → ((a b : ℕ) → Decides (E a b) (a ≡ b)) → ((a b : ℤ) → Decides (F a b) (a ≡ b)) → (a b : ℕ × ℤ) → Decides (E a.0 b.0 && F a.1 b.1) (a ≡ b)
pair-decides E F first second (k, m) (l, n) = both (E k l) (F m n) (first k l) (second m n)
  where
    both : (p q : Bool) → Decides p (k ≡ l) → Decides q (m ≡ n) → Decides (p && q) (◌≡◌ {A = ℕ × ℤ} (k, m) (l, n))
    both true true one other = ((λ e. ap₂ (λ (a : ℕ) (b : ℤ). (a, b)) (one.0 refl) (other.0 refl)), (λ e. refl))
    both true false one other = ((λ e. cc), (λ e. other.1 (ap (λ (p : ℕ × ℤ). p.1) e)))
    both false q one other = ((λ e. cc), (λ e. one.1 (ap (λ (p : ℕ × ℤ). p.0) e)))
