-- Live facts are derived, and what remains of them still is where homes that are not changed keep their predicates.
use Rattle.std.proofs.Common.{◌≡◌, ℕ, Bool, true, false, not, List, [], ◌∷◌, map, refl, sym, ap, subst, ◌∙◌, inl, inr}
use Rattle.std.specs.List.{AllByRecursion, Contains, list_all}
use Rattle.thr_base.specs.declared.names.RuleName.{RuleName}
use Rattle.lin_rows.proofs.Lists.{AllByRecursion-weaken}
use Rattle.transition_formula.specs.Program.{Program}
use Rattle.horn_rules.specs.Home.{Home}
use Rattle.horn_rules.specs.Fact.{Sets, Fact, Statement, statement_of, atoms_at}
use Rattle.horn_rules.specs.Instance.{Instance, HasKind, premises_of, map_instance}
use Rattle.horn_rules.specs.Case.{Case, IsCaseOf}
use Rattle.horn_rules.specs.Post.{AreEntailed, IsFactOf}
use Rattle.horn_rules.specs.Least.{IsDerivation, Least}
use Rattle.horn_rules.proofs.Lists.{Contains-map}
use Rattle.derivation_tree.specs.Facts.{KeptFact}
use Rattle.core_steps.specs.Withdrawn.{has_id, stays, remaining}
use Rattle.core_steps.specs.Allowed.{IsOver}
use Rattle.core_steps.proofs.Tests.{tells, both, all-at, not-true}
use Rattle.core_steps.proofs.Live.{Falls, remaining-home, remaining-at, all-unmap, all-mapped, map-map, map-same, kind-other}

-- ---- lists

pub all-both : {A : Type 0} (P Q : A → Type 0) (xs : List A) → AllByRecursion P xs → AllByRecursion Q xs → AllByRecursion (λ x. P x × Q x) xs
all-both P Q [] p q = tt
all-both P Q (x ∷ xs) p q = ((p.0, q.0), all-both P Q xs p.1 q.1)

-- ---- changes

-- the same instance over other facts, where its premises are there and their homes have the same predicates
pub over-change : (program : Program) (sets other : Sets) (live facts : List KeptFact) (instance : Instance ℕ) (given : Case) (over : IsOver program sets live instance given)
    → AllByRecursion (λ (f : KeptFact). Contains facts f × (other f.fact.home ≡ sets f.fact.home)) (premises_of over.premises) → IsOver program other facts instance given
over-change program sets other live facts instance given over all = record {
  premises = over.premises;
  ids_are = over.ids_are;
  are_live = AllByRecursion-weaken (λ (f : KeptFact). Contains facts f × (other f.fact.home ≡ sets f.fact.home)) (Contains facts) (λ f both. both.0) (premises_of over.premises) all;
  is_case =
      let same = map-same (λ (f : KeptFact). statement_of sets f.fact) (λ (f : KeptFact). statement_of other f.fact) over.premises
      (AllByRecursion-weaken (λ (f : KeptFact). Contains facts f × (other f.fact.home ≡ sets f.fact.home)) (λ (f : KeptFact). statement_of sets f.fact ≡ statement_of other f.fact)
      (λ f both. says-same sets other f.fact both.1) (premises_of over.premises) all) in
      subst (λ i. IsCaseOf program i given) same over.is_case;
}
  where
    says-same : (sets other : Sets) (fact : Fact) → other fact.home ≡ sets fact.home → statement_of sets fact ≡ statement_of other fact
    says-same sets other fact e = ap (λ atoms. let s : Statement = record { home = fact.home; atoms = atoms_at atoms fact.held } in s) (sym e)

-- the same fact, where its home has the same predicates
pub fact-change : (sets other : Sets) (given : Case) (fact : Fact) → other given.target ≡ sets given.target → IsFactOf sets given fact → IsFactOf other given fact
fact-change sets other given fact e is = record {
  at_target = is.at_target;
  entailed = subst (λ atoms. AreEntailed given atoms fact.held) (sym e) is.entailed;
}

-- ---- derived facts

pub record IsDerived (program : Program) (rule : RuleName) (sets : Sets) (earlier : List KeptFact) (f : KeptFact) : Type 0 where
  pub has_kind : HasKind rule f.kept
  pub given : Case
  pub is_over : IsOver program sets earlier f.kept given
  pub is_fact : IsFactOf sets given f.fact

abbrev pub AreDerived : Program → RuleName → Sets → List KeptFact → Type 0
AreDerived program rule sets [] = Unit {0}
AreDerived program rule sets (f ∷ earlier) = IsDerived program rule sets earlier f × AreDerived program rule sets earlier

-- what remains is derived
pub remaining-derived : (program : Program) (rule : RuleName) (sets other : Sets) (changed : Home → Bool) (live : List KeptFact)
    → ((home : Home) → changed home ≡ false → other home ≡ sets home) → Falls live → AreDerived program rule sets live → AreDerived program rule other (remaining changed live)
remaining-derived program rule sets other changed [] same falls all = tt
remaining-derived program rule sets other changed (x ∷ xs) same falls all = elim (tells (stays changed (remaining changed xs) x)) [
  | inl hit ↦
      let at : remaining changed (x ∷ xs) ≡ x ∷ remaining changed xs = rw hit refl in
      let (kept, rest) = both (not (changed x.fact.home)) (list_all (has_id (remaining changed xs)) (premises_of x.kept)) hit in
      subst (AreDerived program rule other) (sym at) (
        still program rule sets other changed xs x same falls.1 (not-true (changed x.fact.home) kept) (all-at (has_id (remaining changed xs)) (premises_of x.kept) rest) all.0,
        remaining-derived program rule sets other changed xs same falls.1 all.1,
      )
  | inr miss ↦
      let at : remaining changed (x ∷ xs) ≡ remaining changed xs = rw miss refl in
      subst (AreDerived program rule other) (sym at) (remaining-derived program rule sets other changed xs same falls.1 all.1)
]
  where
    still : (program : Program) (rule : RuleName) (sets other : Sets) (changed : Home → Bool) (xs : List KeptFact) (x : KeptFact)
        → ((home : Home) → changed home ≡ false → other home ≡ sets home) → Falls xs → changed x.fact.home ≡ false
        → AllByRecursion (λ id. has_id (remaining changed xs) id ≡ true) (premises_of x.kept)
        → IsDerived program rule sets xs x → IsDerived program rule other (remaining changed xs) x
    still program rule sets other changed xs x same falls unchanged ids derived =
        let over = derived.is_over in
        let have = all-mapped (λ id. has_id (remaining changed xs) id ≡ true) (λ (f : KeptFact). f.id) over.premises
        (subst (λ i. AllByRecursion (λ id. has_id (remaining changed xs) id ≡ true) (premises_of i)) (sym over.ids_are) ids) in
        let all = AllByRecursion-weaken (λ (f : KeptFact). Contains xs f × (has_id (remaining changed xs) f.id ≡ true))
        (λ (f : KeptFact). Contains (remaining changed xs) f × (other f.fact.home ≡ sets f.fact.home))
        (λ f pair.
        let there = remaining-at changed xs f falls pair.0 pair.1 in
        (there, same f.fact.home (remaining-home changed xs f there)))
        (premises_of over.premises)
        (all-both (Contains xs) (λ (f : KeptFact). has_id (remaining changed xs) f.id ≡ true) (premises_of over.premises) over.are_live have) in
        record {
          has_kind = derived.has_kind;
          given = derived.given;
          is_over = over-change program sets other xs (remaining changed xs) x.kept derived.given over all;
          is_fact = fact-change sets other derived.given x.fact (ap other (sym derived.is_fact.at_target) ∙ same x.fact.home unchanged ∙ ap sets derived.is_fact.at_target) derived.is_fact;
        }

-- derived facts are a derivation
pub derived-derivation : (program : Program) (rule : RuleName) (sets : Sets) (live : List KeptFact) → AreDerived program rule sets live
    → IsDerivation program rule sets (map (λ (f : KeptFact). f.fact) live)
derived-derivation program rule sets [] all = tt
derived-derivation program rule sets (f ∷ earlier) all =
    let derived = all.0 in
    let over = derived.is_over in
    let instance = map_instance (λ (g : KeptFact). g.fact) over.premises in (
      record {
        instance = instance;
        given = derived.given;
        has_kind = kind-other rule (λ (g : KeptFact). g.id) (λ (g : KeptFact). g.fact) over.premises (subst (HasKind rule) (sym over.ids_are) derived.has_kind);
        is_case = subst (λ i. IsCaseOf program i derived.given) (sym (map-map (λ (g : KeptFact). g.fact) (statement_of sets) over.premises)) over.is_case;
        stand_earlier = all-unmap (Contains (map (λ (g : KeptFact). g.fact) earlier)) (λ (g : KeptFact). g.fact) over.premises
            (AllByRecursion-weaken (Contains earlier) (λ (g : KeptFact). Contains (map (λ (h : KeptFact). h.fact) earlier) g.fact)
            (λ g there. Contains-map (λ (h : KeptFact). h.fact) earlier g there) (premises_of over.premises) over.are_live);
        is_fact = derived.is_fact;
      },
      derived-derivation program rule sets earlier all.1,
    )

-- so each is in the least set
pub derived-least : (program : Program) (rule : RuleName) (sets : Sets) (live : List KeptFact) (fact : Fact) → AreDerived program rule sets live
    → Contains (map (λ (f : KeptFact). f.fact) live) fact → Least program rule sets fact
derived-least program rule sets live fact all there = (map (λ (f : KeptFact). f.fact) live, derived-derivation program rule sets live all, there)
