-- The checks of an annotation, in order.
use Rattle.std.proofs.Common.{◌≡◌, ◌≢◌, ◌≤◌, ◌+◌, ℕ, zero, suc, List, [], ◌∷◌, ◌++◌, length, take, drop, map, Option, Some, None, refl, sym, ap, ap₂, subst, ◌∙◌, arith, append_assoc, Bool, true, false, IsTrue, ◌↔◌, get_or}
use Rattle.std.specs.List.{AllByRecursion, slice_get}
use Rattle.std.proofs.lemmas.Option.{slice_get_within}
use Rattle.std.proofs.lemmas.List.{length-map}
use Rattle.lin_rows.proofs.Lists.{AllByRecursion-append}
use Rattle.thr_base.specs.declared.names.Fact.{Fact as StoredFact}
use Rattle.transition_formula.specs.Program.{Program}
use Rattle.horn_rules.specs.Home.{Home, State, Env}
use Rattle.horn_rules.specs.Instance.{Instance}
use Rattle.horn_rules.specs.Stored.{home_numbered, fact_of, sets_of, instance_of}
use Rattle.thr_base.specs.declared.names.Instance.{Instance as StoredInstance}
use Rattle.annotation_form.specs.declared.annotation.Group.{Group as StoredGroup}
use Rattle.horn_rules.specs.Fact.{statement_of}
use Rattle.annotation_form.specs.Annotation.{Annotation, Group, group_of, instances_of}
use Rattle.annotation_form.specs.Passes.{ProvesCheck, AllProve, NoneFails, Passes}
use Rattle.annotation_check.specs.declared.answer.CheckRule.{CheckRule}
use Rattle.annotation_check.specs.declared.answer.CheckRule.TheVariants.{Assertion}
use Rattle.annotation_check.specs.declared.answer.CheckAnswer.TheVariants.{Accepted, Rejected}
use Rattle.annotation_check.specs.Checks.{OfInstance, OfFacts, instance_checks, IsProved, instance_rule, IsFirstUnproved}
use Rattle.annotation_check.specs.inside.Proving.{IsFirst, IsFirstPlace, IsFailure}
use Rattle.annotation_check.proofs.Lists.{all-middle, not-proved}
use Rattle.annotation_check.proofs.Groups.{instance-at}

-- ---- the first so many

module _ (program : Program) (annotation : Annotation) where
  pub proved-more : (instances : List (Instance ℕ)) (groups : List Group) (k : ℕ) (numbers : Instance ℕ) (group : Group) → slice_get instances k ≡ Some numbers → slice_get groups k ≡ Some group
      → AllProve program annotation (take k instances) (take k groups) → ProvesCheck program annotation numbers group
      → AllProve program annotation (take (suc k) instances) (take (suc k) groups)
  proved-more [] groups k numbers group at there all one = cc
  proved-more (x ∷ instances) [] k numbers group at there all one = cc
  proved-more (x ∷ instances) (y ∷ groups) zero numbers group at there all one =
      let same : numbers ≡ x = cc in
      let alike : group ≡ y = cc in
      (subst (λ n. ProvesCheck program annotation n y) same (subst (λ g. ProvesCheck program annotation numbers g) alike one), tt)
  proved-more (x ∷ instances) (y ∷ groups) (suc k) numbers group at there all one = (all.0, proved-more instances groups k numbers group at there all.1 one)

  pub proved-all : (instances : List (Instance ℕ)) (groups : List Group) (k : ℕ) → length instances ≤ k → length groups ≡ length instances
      → AllProve program annotation (take k instances) (take k groups) → AllProve program annotation instances groups
  proved-all [] [] k many same all = tt
  proved-all [] (y ∷ groups) k many same all = absurd (omega arith)
  proved-all (x ∷ instances) [] k many same all = absurd (omega arith)
  proved-all (x ∷ instances) (y ∷ groups) zero many same all = absurd (omega arith)
  proved-all (x ∷ instances) (y ∷ groups) (suc k) many same all = (all.0, proved-all instances groups k (omega arith) (omega arith) all.1)

  -- ---- as checks

  each-proved : (instances : List (Instance ℕ)) (groups : List Group) → AllProve program annotation instances groups → AllByRecursion (IsProved program annotation) (instance_checks instances groups)
  each-proved [] groups all = tt
  each-proved (x ∷ instances) [] all = absurd all
  each-proved (x ∷ instances) (y ∷ groups) all = (all.0, each-proved instances groups all.1)

checks-at : (instances : List (Instance ℕ)) (groups : List Group) (k : ℕ) (numbers : Instance ℕ) (group : Group) → slice_get instances k ≡ Some numbers → slice_get groups k ≡ Some group
    → instance_checks instances groups ≡ instance_checks (take k instances) (take k groups) ++ OfInstance numbers group ∷ instance_checks (drop (suc k) instances) (drop (suc k) groups)
checks-at [] groups k numbers group at there = cc
checks-at (x ∷ instances) [] k numbers group at there = cc
checks-at (x ∷ instances) (y ∷ groups) zero numbers group at there =
    let same : x ≡ numbers = cc in
    let alike : y ≡ group = cc in
    ap₂ (λ n g. OfInstance n g ∷ instance_checks instances groups) same alike
checks-at (x ∷ instances) (y ∷ groups) (suc k) numbers group at there = ap (λ rest. OfInstance x y ∷ rest) (checks-at instances groups k numbers group at there)

length-checks : (instances : List (Instance ℕ)) (groups : List Group) (k : ℕ) → k ≤ length instances → k ≤ length groups → length (instance_checks (take k instances) (take k groups)) ≡ k
length-checks instances groups zero h j = refl
length-checks [] groups (suc k) h j = absurd (omega arith)
length-checks (x ∷ instances) [] (suc k) h j = absurd (omega arith)
length-checks (x ∷ instances) (y ∷ groups) (suc k) h j = let more = length-checks instances groups k (omega arith) (omega arith) in omega (arith, more)

length-proved : (program : Program) (annotation : Annotation) (instances : List (Instance ℕ)) (groups : List Group) → AllProve program annotation instances groups
    → length (instance_checks instances groups) ≡ length groups
length-proved program annotation [] [] all = refl
length-proved program annotation [] (y ∷ groups) all = absurd all
length-proved program annotation (x ∷ instances) [] all = absurd all
length-proved program annotation (x ∷ instances) (y ∷ groups) all = let more = length-proved program annotation instances groups all.1 in omega (arith, more)

-- the first check that is not proved is one of an instance
pub unproved-instance : (program : Program) (annotation : Annotation) (place : ℕ) (n : ℕ) (first : IsFirstPlace program annotation place) → n ≡ place + 1
    → IsFirstUnproved program annotation (instance_rule first.numbers) n
unproved-instance program annotation place n first number =
    let instances = instances_of program annotation in
    let groups = annotation.groups in
    let before = instance_checks (take place instances) (take place groups) in
    let rest = instance_checks (drop (suc place) instances) (drop (suc place) groups) in
    let h = slice_get_within instances place first.numbers first.numbers_are in
    let j = slice_get_within groups place first.group first.group_is in
    let count = length-checks instances groups place (omega (arith, h)) (omega (arith, j)) in
    record {
      before = before;
      check = OfInstance first.numbers first.group;
      rest = rest ++ OfFacts ∷ [];
      checks_are = ap (λ checks. checks ++ OfFacts ∷ []) (checks-at instances groups place first.numbers first.group first.numbers_are first.group_is)
          ∙ append_assoc before (OfInstance first.numbers first.group ∷ rest) (OfFacts ∷ []);
      proved = each-proved program annotation (take place instances) (take place groups) first.proved;
      unproved = first.unproved;
      rule_is = refl;
      number_is = omega (arith, count, number);
    }

-- or the last one
pub unproved-facts : (program : Program) (annotation : Annotation) (n : ℕ) → AllProve program annotation (instances_of program annotation) annotation.groups → (¬ NoneFails program annotation)
    → n ≡ length annotation.groups + 1 → IsFirstUnproved program annotation Assertion n
unproved-facts program annotation n all fails number =
    let count = length-proved program annotation (instances_of program annotation) annotation.groups all in
    record {
      before = instance_checks (instances_of program annotation) annotation.groups;
      check = OfFacts;
      rest = [];
      checks_are = refl;
      proved = each-proved program annotation (instances_of program annotation) annotation.groups all;
      unproved = fails;
      rule_is = refl;
      number_is = omega (arith, count, number);
    }

-- where one is not proved, the annotation does not pass
pub not-passing : (program : Program) (annotation : Annotation) (rule : CheckRule) (n : ℕ) → IsFirstUnproved program annotation rule n → ¬ Passes program annotation
not-passing program annotation rule n first passes =
    let instances = each-proved program annotation (instances_of program annotation) annotation.groups passes.checks in
    let all = AllByRecursion-append (IsProved program annotation) (instance_checks (instances_of program annotation) annotation.groups) (OfFacts ∷ []) instances (passes.none_fails, tt) in
    first.unproved (all-middle (IsProved program annotation) first.before first.rest first.check (subst (AllByRecursion (IsProved program annotation)) first.checks_are all))

-- ---- facts at location 0

no-failure : (home : Home) → (¬ IsFailure home) → (i : ℕ) → home ≢ State i 0
no-failure home none i same = none (subst IsFailure (sym same) refl)

failure : (home : Home) → ((i : ℕ) → home ≢ State i 0) → ¬ IsFailure home
failure (State i l) none is = none i (ap (State i) is)
failure (Env i e) none is = is

pub none-failing : (program : Program) (annotation : Annotation) (facts : List StoredFact) → AllByRecursion (λ fact. ¬ IsFailure (home_numbered program fact.home.0)) facts
    → AllByRecursion (λ statement. (i : ℕ) → statement.home ≢ State i 0) (map (λ fact. statement_of (sets_of program annotation.sets) (fact_of program fact)) facts)
none-failing program annotation [] all = tt
none-failing program annotation (fact ∷ facts) all = (no-failure (home_numbered program fact.home.0) all.0, none-failing program annotation facts all.1)

pub failing-none : (program : Program) (annotation : Annotation) (facts : List StoredFact)
    → AllByRecursion (λ statement. (i : ℕ) → statement.home ≢ State i 0) (map (λ fact. statement_of (sets_of program annotation.sets) (fact_of program fact)) facts)
    → AllByRecursion (λ fact. ¬ IsFailure (home_numbered program fact.home.0)) facts
failing-none program annotation [] all = tt
failing-none program annotation (fact ∷ facts) all = (failure (home_numbered program fact.home.0) all.0, failing-none program annotation facts all.1)

-- ---- what the code answers

pub next-proved : (program : Program) (annotation : Annotation) (k : ℕ) (numbers : Instance ℕ) (group : Group) → ProvesCheck program annotation numbers group
    → slice_get (instances_of program annotation) k ≡ Some numbers → slice_get annotation.groups k ≡ Some group
    → AllProve program annotation (take k (instances_of program annotation)) (take k annotation.groups)
    → AllProve program annotation (take (k + 1) (instances_of program annotation)) (take (k + 1) annotation.groups)
next-proved program annotation k numbers group one at there all =
    let next : suc k ≡ k + 1 = omega arith in
    subst (λ n. AllProve program annotation (take n (instances_of program annotation)) (take n annotation.groups)) next
    (proved-more program annotation (instances_of program annotation) annotation.groups k numbers group at there all one)

pub first-place : (program : Program) (annotation : Annotation) (k : ℕ) (numbers : Instance ℕ) (group : Group) → (¬ ProvesCheck program annotation numbers group)
    → slice_get (instances_of program annotation) k ≡ Some numbers → slice_get annotation.groups k ≡ Some group
    → AllProve program annotation (take k (instances_of program annotation)) (take k annotation.groups) → IsFirstPlace program annotation k
first-place program annotation k numbers group not at there all = record { numbers = numbers; group = group; numbers_are = at; group_is = there; proved = all; unproved = not }

pub rejected-instance : (program : Program) (annotation : Annotation) (instances : List StoredInstance) (place : ℕ) (x : StoredInstance) (rule : CheckRule) (found : Option ℕ) → IsFirst program annotation found
    → found ≡ Some place → map instance_of instances ≡ instances_of program annotation → x ≡ get_or instances place x → rule ≡ instance_rule (instance_of x) → IsFirstUnproved program annotation rule (place + 1)
rejected-instance program annotation instances place x rule found is at same here rule_is =
    let first : IsFirstPlace program annotation place = subst (IsFirst program annotation) at is in
    let within = slice_get_within (instances_of program annotation) place first.numbers first.numbers_are in
    let there = instance-at instances (instances_of program annotation) place x same (omega (arith, within, ap length same, length-map instances instance_of)) in
    let both : Some first.numbers ≡ Some (instance_of (get_or instances place x)) = sym first.numbers_are ∙ there in
    let one : first.numbers ≡ instance_of (get_or instances place x) = cc in
    let rules : instance_rule first.numbers ≡ rule = ap instance_rule one ∙ sym (ap (λ i. instance_rule (instance_of i)) here) ∙ sym rule_is in
    subst (λ r. IsFirstUnproved program annotation r (place + 1)) rules (unproved-instance program annotation place (place + 1) first refl)

pub none-places : (program : Program) (annotation : Annotation) (found : Option ℕ) → IsFirst program annotation found → found ≡ None → AllProve program annotation (instances_of program annotation) annotation.groups
none-places program annotation found is none = subst (IsFirst program annotation) none is

pub passing : (program : Program) (annotation : Annotation) (facts : List StoredFact) (b : Bool) → AllProve program annotation (instances_of program annotation) annotation.groups → facts ≡ annotation.facts
    → b ≡ true → (IsTrue b ↔ AllByRecursion (λ fact. ¬ IsFailure (home_numbered program fact.home.0)) facts) → Passes program annotation
passing program annotation facts b all same holds is = record {
  checks = all;
  none_fails = none-failing program annotation annotation.facts (subst (AllByRecursion (λ (fact : StoredFact). ¬ IsFailure (home_numbered program fact.home.0))) same (is.0 holds));
}

pub rejected-facts : (program : Program) (annotation : Annotation) (facts : List StoredFact) (groups : List StoredGroup) (b : Bool) → AllProve program annotation (instances_of program annotation) annotation.groups
    → facts ≡ annotation.facts → map group_of groups ≡ annotation.groups → b ≡ false → (IsTrue b ↔ AllByRecursion (λ fact. ¬ IsFailure (home_numbered program fact.home.0)) facts)
    → IsFirstUnproved program annotation Assertion (length groups + 1)
rejected-facts program annotation facts groups b all same stored fails is =
    unproved-facts program annotation (length groups + 1) all
    (λ none. not-proved b fails is (subst (AllByRecursion (λ (fact : StoredFact). ¬ IsFailure (home_numbered program fact.home.0))) (sym same) (failing-none program annotation annotation.facts none)))
    (let count = ap length stored in omega (arith, count, length-map groups group_of))

pub not-accepted : (rule : CheckRule) (n : ℕ) → Rejected rule n ≡ Accepted → ⊥
not-accepted rule n e = cc
