-- What remains where homes change is exactly what is not withdrawn.
use Rattle.std.proofs.Common.{◌≡◌, ℕ, Bool, true, false, not, List, [], ◌∷◌, refl, sym, subst, inl, inr}
use Rattle.std.specs.List.{AllByRecursion, Contains, list_all}
use Rattle.lin_rows.proofs.Lists.{AllByRecursion-weaken}
use Rattle.thr_base.specs.declared.names.RuleName.{RuleName}
use Rattle.transition_formula.specs.Program.{Program}
use Rattle.horn_rules.specs.Home.{Home}
use Rattle.horn_rules.specs.Fact.{Sets}
use Rattle.horn_rules.specs.Instance.{Instance, Init, Own, Guar, Env, Inter, premises_of, map_instance}
use Rattle.horn_rules.proofs.Lists.{Contains-first, Contains-later, first-or-later, contains-nothing, all-contained}
use Rattle.derivation_tree.specs.Facts.{KeptFact}
use Rattle.core_steps.specs.Withdrawn.{IsWithdrawn, at_home, rests, has_id, stays, remaining}
use Rattle.core_steps.specs.After.{after}
use Rattle.core_steps.specs.Laws.{WhatRemainsIsNotWithdrawn}
use Rattle.core_steps.proofs.Tests.{tells, true-false, both, with-both, all-at}
use Rattle.core_steps.proofs.Live.{Falls, one-id, has_id-from, has_id-at, remaining-from, remaining-home}
use Rattle.core_steps.proofs.Derived.{AreDerived}
use Rattle.core_steps.proofs.Refines.{keeps-legal}

-- each premise is one of the facts
abbrev Names : List KeptFact → ℕ → Type 0
Names facts id = (f : KeptFact) × Contains facts f × (f.id ≡ id)

abbrev HavePremises : List KeptFact → Type 0
HavePremises [] = Unit {0}
HavePremises (f ∷ earlier) = AllByRecursion (Names earlier) (premises_of f.kept) × HavePremises earlier

all-ids : (P : ℕ → Type 0) (premises : Instance KeptFact) → AllByRecursion (λ (f : KeptFact). P f.id) (premises_of premises)
    → AllByRecursion P (premises_of (map_instance (λ (f : KeptFact). f.id) premises))
all-ids P (Init i) all = tt
all-ids P (Own f e) all = (all.0, tt)
all-ids P (Guar f e) all = (all.0, tt)
all-ids P (Env f t) all = (all.0, (all.1.0, tt))
all-ids P (Inter f g e) all = (all.0, (all.1.0, tt))

derived-premises : (program : Program) (rule : RuleName) (sets : Sets) (live : List KeptFact) → AreDerived program rule sets live → HavePremises live
derived-premises program rule sets [] all = tt
derived-premises program rule sets (f ∷ earlier) all =
    let over = all.0.is_over in (
      subst (λ i. AllByRecursion (Names earlier) (premises_of i)) over.ids_are
          (all-ids (Names earlier) over.premises (AllByRecursion-weaken (Contains earlier) (λ (g : KeptFact). Names earlier g.id) (λ g there. (g, there, refl)) (premises_of over.premises) over.are_live)),
      derived-premises program rule sets earlier all.1,
    )

all-from : (p : ℕ → Bool) (xs : List ℕ) → AllByRecursion (λ x. p x ≡ true) xs → list_all p xs ≡ true
all-from p [] all = refl
all-from p (x ∷ xs) all = with-both (p x) (list_all p xs) all.0 (all-from p xs all.1)

-- the premises of what remains remain
remaining-premises : (changed : Home → Bool) (live : List KeptFact) (f : KeptFact) → Contains (remaining changed live) f
    → AllByRecursion (λ id. has_id (remaining changed live) id ≡ true) (premises_of f.kept)
remaining-premises changed [] f c = absurd (contains-nothing f c)
remaining-premises changed (x ∷ xs) f c = elim (tells (stays changed (remaining changed xs) x)) [
  | inl hit ↦
      let at : remaining changed (x ∷ xs) ≡ x ∷ remaining changed xs = rw hit refl in
      subst (λ l. AllByRecursion (λ id. has_id l id ≡ true) (premises_of f.kept)) (sym at) (elim (first-or-later x f (remaining changed xs) (subst (λ l. Contains l f) at c)) [
        | inl same ↦
            let (kept, rest) = both (not (changed x.fact.home)) (list_all (has_id (remaining changed xs)) (premises_of x.kept)) hit in
            subst (λ g. AllByRecursion (λ id. has_id (x ∷ remaining changed xs) id ≡ true) (premises_of (KeptFact.kept g))) same
            (more x (remaining changed xs) (premises_of x.kept) (all-at (has_id (remaining changed xs)) (premises_of x.kept) rest))
        | inr later ↦ more x (remaining changed xs) (premises_of f.kept) (remaining-premises changed xs f later)
      ])
  | inr miss ↦
      let at : remaining changed (x ∷ xs) ≡ remaining changed xs = rw miss refl in
      subst (λ l. AllByRecursion (λ id. has_id l id ≡ true) (premises_of f.kept)) (sym at) (remaining-premises changed xs f (subst (λ l. Contains l f) at c))
]
  where
    more : (y : KeptFact) (kept : List KeptFact) (ids : List ℕ) → AllByRecursion (λ id. has_id kept id ≡ true) ids → AllByRecursion (λ id. has_id (y ∷ kept) id ≡ true) ids
    more y kept ids all = AllByRecursion-weaken (λ id. has_id kept id ≡ true) (λ id. has_id (y ∷ kept) id ≡ true)
        (λ id has. let (g, there, same) = has_id-from kept id has in subst (λ n. has_id (y ∷ kept) n ≡ true) same (has_id-at (y ∷ kept) g (Contains-later y g kept there))) ids all

-- what is withdrawn is gone
withdrawn-gone : (live : List KeptFact) (changed : Home → Bool) → Falls live → (id : ℕ) → IsWithdrawn live changed id → (f : KeptFact) → Contains (remaining changed live) f → f.id ≡ id → ⊥
withdrawn-gone live changed falls _ (at_home g there hit) f kept same =
    let is : f ≡ g = one-id live f g falls (remaining-from changed live f kept) there same in
    true-false (changed g.fact.home) hit (subst (λ h. changed (KeptFact.fact h).home ≡ false) is (remaining-home changed live f kept))
withdrawn-gone live changed falls _ (rests g premise there names gone) f kept same =
    let is : f ≡ g = one-id live f g falls (remaining-from changed live f kept) there same in
    let all = subst (λ h. AllByRecursion (λ id. has_id (remaining changed live) id ≡ true) (premises_of (KeptFact.kept h))) is (remaining-premises changed live f kept) in
    let (h, kept_h, same_h) = has_id-from (remaining changed live) premise (all-contained (λ id. has_id (remaining changed live) id ≡ true) (premises_of g.kept) premise all names) in
    withdrawn-gone live changed falls premise gone h kept_h same_h

all-each : (P : ℕ → Type 0) (xs : List ℕ) → ((x : ℕ) → Contains xs x → P x) → AllByRecursion P xs
all-each P [] each = tt
all-each P (x ∷ xs) each = (each x (Contains-first x xs), all-each P xs (λ y c. each y (Contains-later x y xs c)))

-- a fact stays where it is not withdrawn, and the facts behind it remain where they are not
not-withdrawn-stays : (whole : List KeptFact) (changed : Home → Bool) (x : KeptFact) (xs : List KeptFact) → Contains whole x → AllByRecursion (Names xs) (premises_of x.kept)
    → ((g : KeptFact) → Contains xs g → (¬ IsWithdrawn whole changed g.id) → Contains (remaining changed xs) g)
    → (¬ IsWithdrawn whole changed x.id) → stays changed (remaining changed xs) x ≡ true
not-withdrawn-stays whole changed x xs there names earlier kept =
    with-both (not (changed x.fact.home)) (list_all (has_id (remaining changed xs)) (premises_of x.kept)) unchanged
    (all-from (has_id (remaining changed xs)) (premises_of x.kept) (all-each (λ id. has_id (remaining changed xs) id ≡ true) (premises_of x.kept) has))
  where
    unchanged : not (changed x.fact.home) ≡ true
    unchanged = elim (tells (changed x.fact.home)) [
      | inl hit ↦ absurd (kept (at_home x there hit))
      | inr miss ↦ rw miss refl
    ]

    has : (id : ℕ) → Contains (premises_of x.kept) id → has_id (remaining changed xs) id ≡ true
    has id c =
        let (g, behind, same) = all-contained (Names xs) (premises_of x.kept) id names c in
        let remains = earlier g behind (λ gone. kept (rests x id there c (subst (IsWithdrawn whole changed) same gone))) in
        subst (λ n. has_id (remaining changed xs) n ≡ true) same (has_id-at (remaining changed xs) g remains)

-- so what is not withdrawn remains
not-withdrawn-remains : (whole : List KeptFact) (changed : Home → Bool) (live : List KeptFact) → ((f : KeptFact) → Contains live f → Contains whole f) → HavePremises live
    → (f : KeptFact) → Contains live f → (¬ IsWithdrawn whole changed f.id) → Contains (remaining changed live) f
not-withdrawn-remains whole changed [] within have f c kept = absurd (contains-nothing f c)
not-withdrawn-remains whole changed (x ∷ xs) within have f c kept =
    let earlier : (g : KeptFact) → Contains xs g → (¬ IsWithdrawn whole changed g.id) → Contains (remaining changed xs) g
    = λ g there kept_g. not-withdrawn-remains whole changed xs (λ h d. within h (Contains-later x h xs d)) have.1 g there kept_g in
    elim (tells (stays changed (remaining changed xs) x)) [
      | inl hit ↦
          let at : remaining changed (x ∷ xs) ≡ x ∷ remaining changed xs = rw hit refl in
          subst (λ l. Contains l f) (sym at) (elim (first-or-later x f xs c) [
            | inl same ↦ subst (Contains (x ∷ remaining changed xs)) same (Contains-first x (remaining changed xs))
            | inr later ↦ Contains-later x f (remaining changed xs) (earlier f later kept)
          ])
      | inr miss ↦
          let at : remaining changed (x ∷ xs) ≡ remaining changed xs = rw miss refl in
          subst (λ l. Contains l f) (sym at) (elim (first-or-later x f xs c) [
            | inl same ↦
                let kept_x : ¬ IsWithdrawn whole changed x.id = subst (λ g. ¬ IsWithdrawn whole changed (KeptFact.id g)) (sym same) kept in
                true-false (stays changed (remaining changed xs) x)
                (not-withdrawn-stays whole changed x xs (within x (Contains-first x xs)) have.0 earlier kept_x) miss
            | inr later ↦ earlier f later kept
          ])
    ]

pub remaining-withdrawn : WhatRemainsIsNotWithdrawn
remaining-withdrawn opening history changed f legal there =
    let keeps = keeps-legal opening history legal in
    let live = (after opening history).live in
    let have = derived-premises opening.program opening.rule (after opening history).sets live keeps.derived in (
      λ kept gone. withdrawn-gone live changed keeps.falls f.id gone f kept refl,
      λ kept. not-withdrawn-remains live changed live (λ g c. c) have f there kept,
    )
