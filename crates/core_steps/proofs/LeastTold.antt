-- What facts and instances there are at least, where a run stopped and no predicate was added.
use Rattle.std.proofs.Common.{◌≡◌, ◌≢◌, ◌<◌, ◌≤◌, ◌+◌, ℕ, zero, suc, List, [], ◌∷◌, length, map, Option, Some, None, refl, sym, ap, ap₂, subst, ◌∙◌, inl, inr, arith}
use Rattle.std.proofs.lemmas.List.{length-map}
use Rattle.std.specs.Prelude.{unwrap_or, AllPairs}
use Rattle.std.specs.List.{AllByRecursion, Contains}
use Rattle.lin_rows.proofs.Lists.{AllByRecursion-weaken}
use Rattle.transition_formula.specs.Program.{Program, IsProgram}
use Rattle.horn_rules.specs.Home.{Home, State as AtLocation, IsHomeOf}
use Rattle.horn_rules.specs.Fact.{Sets, Fact, Statement, statement_of}
use Rattle.horn_rules.specs.Instance.{Instance, Init, Own, Guar, Env, Inter, HasKind, premises_of, map_instance}
use Rattle.horn_rules.specs.Case.{Case, IsCaseOf}
use Rattle.horn_rules.specs.Post.{IsFactOf}
use Rattle.horn_rules.specs.Least.{Least}
use Rattle.horn_rules.specs.Target.{target_of}
use Rattle.horn_rules.proofs.ByNumber.{IsOnce, once-pairs}
use Rattle.horn_rules.proofs.Derivations.{given-least}
use Rattle.horn_rules.proofs.Lists.{Contains-first, Contains-later, first-or-later, contains-nothing, Contains-map, Contains-unmap, all-contained}
use Rattle.horn_rules.proofs.Targets.{targets-have-cases}
use Rattle.derivation_tree.specs.Facts.{KeptFact, fact_at, target_among}
use Rattle.derivation_tree.proofs.Derivations.{target-there}
use Rattle.core_steps.specs.State.{Opening, State, Task}
use Rattle.core_steps.specs.Allowed.{IsOver, IsLiveFact}
use Rattle.core_steps.specs.Bounds.{IsLeast, AreMoreThan, IsLeastInstance}
use Rattle.core_steps.proofs.Live.{Falls, found-fact_at, map-map, map-same, all-unmap, kind-other, target_among-premises}
use Rattle.core_steps.proofs.Derived.{IsDerived, AreDerived}
use Rattle.core_steps.proofs.Keeps.{Keeps}
use Rattle.core_steps.proofs.Events.{leads-found}
use Rattle.core_steps.proofs.LeastStops.{Leads, Unrefined}

-- ---- instances by their premises

-- an instance with its premises left out, and one with these premises
abbrev shape : {A : Type 0} → Instance A → Instance ℕ
shape instance = map_instance (λ x. 0) instance

abbrev with_premises : {A : Type 0} → Instance ℕ → List A → Option (Instance A)
with_premises (Init i) [] = Some (Init i)
with_premises (Own n e) (f ∷ []) = Some (Own f e)
with_premises (Guar n e) (f ∷ []) = Some (Guar f e)
with_premises (Env n m) (f ∷ t ∷ []) = Some (Env f t)
with_premises (Inter n m e) (f ∷ g ∷ []) = Some (Inter f g e)
with_premises instance premises = None

by-premises : {A : Type 0} (instance : Instance A) → with_premises (shape instance) (premises_of instance) ≡ Some instance
by-premises (Init i) = refl
by-premises (Own f e) = refl
by-premises (Guar f e) = refl
by-premises (Env f t) = refl
by-premises (Inter f g e) = refl

premises-map : {A B : Type 0} (g : A → B) (instance : Instance A) → premises_of (map_instance g instance) ≡ map g (premises_of instance)
premises-map g (Init i) = refl
premises-map g (Own f e) = refl
premises-map g (Guar f e) = refl
premises-map g (Env f t) = refl
premises-map g (Inter f h e) = refl

-- Elements that a function tells apart stand in the same order where what it gives does.
lists-same : {A B : Type 0} (g : A → B) (IsOne : A → Type 0) → ((a b : A) → IsOne a → IsOne b → g a ≡ g b → a ≡ b)
    → (xs ys : List A) → AllByRecursion IsOne xs → AllByRecursion IsOne ys → map g xs ≡ map g ys → xs ≡ ys
lists-same g IsOne apart [] [] all also e = refl
lists-same g IsOne apart [] (y ∷ ys) all also e = absurd cc
lists-same g IsOne apart (x ∷ xs) [] all also e = absurd cc
lists-same g IsOne apart (x ∷ xs) (y ∷ ys) all also e =
    let first : g x ≡ g y = cc in
    let rest : map g xs ≡ map g ys = cc in
    ap₂ (λ a bs. a ∷ bs) (apart x y all.0 also.0 first) (lists-same g IsOne apart xs ys all.1 also.1 rest)

-- So do instances.
instances-same : {A B : Type 0} (g : A → B) (IsOne : A → Type 0) → ((a b : A) → IsOne a → IsOne b → g a ≡ g b → a ≡ b)
    → (one other : Instance A) → AllByRecursion IsOne (premises_of one) → AllByRecursion IsOne (premises_of other) → map_instance g one ≡ map_instance g other → one ≡ other
instances-same g IsOne apart one other all also e =
    let shapes : shape one ≡ shape other = sym (map-map g (λ x. 0) one) ∙ ap shape e ∙ map-map g (λ x. 0) other in
    let premises = lists-same g IsOne apart (premises_of one) (premises_of other) all also (sym (premises-map g one) ∙ ap premises_of e ∙ premises-map g other) in
    let both : Some one ≡ Some other = sym (by-premises one) ∙ ap₂ with_premises shapes premises ∙ by-premises other in
    cc

-- ---- the facts of ids

abbrev no_fact : Fact
no_fact = record { home = AtLocation 0 0; held = [] }

abbrev fact_or : List KeptFact → ℕ → Fact
fact_or live id = unwrap_or (fact_at live id) no_fact

-- the instance over facts that a task's instance over ids is
abbrev facts_of : List KeptFact → Task → Instance Fact
facts_of live task = map_instance (fact_or live) task.instance

pub record Behind (opening : Opening) (live : List KeptFact) (task : Task) : Type 0 where
  pub premises : Instance KeptFact
  pub ids : map_instance (λ (f : KeptFact). f.id) premises ≡ task.instance
  pub are_live : AllByRecursion (Contains live) (premises_of premises)
  pub facts : facts_of live task ≡ map_instance (λ (f : KeptFact). f.fact) premises

behind : (opening : Opening) (live : List KeptFact) (task : Task) → Falls live → Leads opening live task → Behind opening live task
behind opening live task falls leads =
    let found = leads-found opening.program live task.instance task.home leads.leads in
    record {
      premises = found.premises;
      ids = found.ids;
      are_live = found.are_live;
      facts =
          ap (map_instance (fact_or live)) (sym found.ids) ∙ map-map (λ (f : KeptFact). f.id) (fact_or live) found.premises
          ∙ map-same (λ (f : KeptFact). fact_or live f.id) (λ (f : KeptFact). f.fact) found.premises
          (AllByRecursion-weaken (Contains live) (λ (f : KeptFact). fact_or live f.id ≡ f.fact) (λ f there. ap (λ o. unwrap_or o no_fact) (found-fact_at live f falls there)) (premises_of found.premises) found.are_live);
    }

-- Two tasks over the same facts are one.
tasks-same : (opening : Opening) (state : State) (one other : Task) → Falls state.live → Unrefined opening state → Leads opening state.live one → Leads opening state.live other
    → facts_of state.live one ≡ facts_of state.live other → one ≡ other
tasks-same opening state one other falls is leads also e =
    let a = behind opening state.live one falls leads in
    let b = behind opening state.live other falls also in
    let same = instances-same (λ (f : KeptFact). f.fact) (Contains state.live) is.apart a.premises b.premises a.are_live b.are_live (sym a.facts ∙ e ∙ b.facts) in
    let instance : one.instance ≡ other.instance = sym a.ids ∙ ap (map_instance (λ (f : KeptFact). f.id)) same ∙ b.ids in
    let homes : Some one.home ≡ Some other.home = sym leads.leads ∙ ap (target_among opening.program state.live) instance ∙ also.leads in
    let home : one.home ≡ other.home = cc in
    ap (λ i. made i one.home one.epoch) instance ∙ ap (λ h. made other.instance h one.epoch) home ∙ ap (made other.instance other.home) (leads.first ∙ sym also.first)
  where
    made : Instance ℕ → Home → ℕ → Task
    made i h n = record { instance = i; home = h; epoch = n }

-- ---- each once

pairs-once : {A : Type 0} (xs : List A) → AllPairs (λ a b. a ≢ b) xs → IsOnce xs
pairs-once [] pairs = tt
pairs-once (x ∷ xs) pairs = (λ there. first there, pairs-once xs (λ i j d below within. pairs (suc i) (suc j) d (omega arith) (omega arith)))
  where
    first : Contains xs x → ⊥
    first (k, within, at) = pairs 0 (suc k) x (omega arith) (omega arith) (sym at)

once-mapped : {A B : Type 0} (g : A → B) (IsOne : A → Type 0) → ((a b : A) → IsOne a → IsOne b → g a ≡ g b → a ≡ b)
    → (xs : List A) → AllByRecursion IsOne xs → IsOnce xs → IsOnce (map g xs)
once-mapped g IsOne apart [] all once = tt
once-mapped g IsOne apart (x ∷ xs) all once = (
  λ there.
      let (y, among, e) = Contains-unmap g xs (g x) there in
      once.0 (subst (Contains xs) (apart y x (all-contained IsOne xs y all.1 among) all.0 e) among),
  once-mapped g IsOne apart xs all.1 once.1,
)

live-once : (live : List KeptFact) → Falls live → IsOnce live
live-once [] falls = tt
live-once (f ∷ live) falls = (
  λ there. let below : f.id < f.id = all-contained (λ (g : KeptFact). g.id < f.id) live f falls.0 there in omega (arith, below),
  live-once live falls.1,
)

-- what all that stands in a list is
all-there : {A : Type 0} (IsOne : A → Type 0) (xs : List A) → ((x : A) → Contains xs x → IsOne x) → AllByRecursion IsOne xs
all-there IsOne [] each = tt
all-there IsOne (x ∷ xs) each = (each x (Contains-first x xs), all-there IsOne xs (λ y there. each y (Contains-later x y xs there)))

-- ---- more facts than so many

pub more-facts : (opening : Opening) (state : State) (fact : Fact) (n : ℕ) → Falls state.live → Unrefined opening state → ((f : KeptFact) → Contains state.live f → IsLeast opening f.fact)
    → IsLeast opening fact → (¬ IsLiveFact state fact) → n ≤ length state.live → AreMoreThan n (IsLeast opening)
more-facts opening state fact n falls is least also new full =
    let facts = map (λ (f : KeptFact). f.fact) state.live in
    let count : length facts ≡ length state.live = length-map state.live (λ (f : KeptFact). f.fact) in
    record {
      elements = fact ∷ facts;
      none_twice = once-pairs (fact ∷ facts) (new, once-mapped (λ (f : KeptFact). f.fact) (Contains state.live) is.apart state.live (all-there (Contains state.live) state.live (λ f there. there)) (live-once state.live falls));
      are = (also, all-there (IsLeast opening) facts (λ other there. let (f, among, e) = Contains-unmap (λ (f : KeptFact). f.fact) state.live other there in subst (IsLeast opening) e (least f among)));
      more = omega (arith, full, count);
    }

-- ---- more instances than so many

-- an instance that leads comes to a case, over facts of the least set
pub leads-case : (opening : Opening) (state : State) (task : Task) → IsProgram opening.program → Falls state.live → HasKind opening.rule task.instance → Leads opening state.live task
    → ((f : KeptFact) → Contains state.live f → IsLeast opening f.fact × IsHomeOf opening.program f.fact.home) → IsLeastInstance opening (facts_of state.live task)
leads-case opening state task is_program falls kind leads are =
    let found = behind opening state.live task falls leads in
    let says = map_instance (λ (f : KeptFact). statement_of opening.sets f.fact) found.premises in
    let there : AllByRecursion (λ (s : Statement). IsHomeOf opening.program s.home) (premises_of says) =
    all-unmap (λ (s : Statement). IsHomeOf opening.program s.home) (λ (f : KeptFact). statement_of opening.sets f.fact) found.premises
    (AllByRecursion-weaken (Contains state.live) (λ (f : KeptFact). IsHomeOf opening.program f.fact.home) (λ f among. (are f among).1) (premises_of found.premises) found.are_live) in
    let aims : target_of opening.program (map_instance (λ (s : Statement). s.home) says) ≡ Some task.home =
    ap (target_of opening.program) (map-map (λ (f : KeptFact). statement_of opening.sets f.fact) (λ (s : Statement). s.home) found.premises)
    ∙ sym (target_among-premises opening.program state.live found.premises falls found.are_live) ∙ ap (target_among opening.program state.live) found.ids ∙ leads.leads in
    let (given, is_case, at) = targets-have-cases opening.program says task.home there aims in
    record {
      given = given;
      has_kind = subst (HasKind opening.rule) (sym found.facts) (kind-other opening.rule (λ (f : KeptFact). f.id) (λ (f : KeptFact). f.fact) found.premises (subst (HasKind opening.rule) (sym found.ids) kind));
      is_case =
          subst (λ i. IsCaseOf opening.program i given)
          (sym (map-map (λ (f : KeptFact). f.fact) (statement_of opening.sets) found.premises) ∙ ap (map_instance (statement_of opening.sets)) (sym found.facts)) is_case;
      stand =
          subst (λ i. AllByRecursion (IsLeast opening) (premises_of i)) (sym found.facts)
          (all-unmap (IsLeast opening) (λ (f : KeptFact). f.fact) found.premises
          (AllByRecursion-weaken (Contains state.live) (λ (f : KeptFact). IsLeast opening f.fact) (λ f among. (are f among).0) (premises_of found.premises) found.are_live));
    }

pub more-instances : (opening : Opening) (state : State) (task : Task) (n : ℕ) → IsProgram opening.program → Keeps opening state → Unrefined opening state
    → ((f : KeptFact) → Contains state.live f → IsLeast opening f.fact × IsHomeOf opening.program f.fact.home) → HasKind opening.rule task.instance → Leads opening state.live task
    → (¬ Contains state.published task) → n ≤ length state.published → AreMoreThan n (IsLeastInstance opening)
more-instances opening state task n is_program keeps is are kind leads new full =
    let tasks = task ∷ state.published in
    let count : length (map (facts_of state.live) tasks) ≡ suc (length state.published) = length-map tasks (facts_of state.live) in
    let all : AllByRecursion (Leads opening state.live) tasks = (leads, all-there (Leads opening state.live) state.published is.published) in
    record {
      elements = map (facts_of state.live) tasks;
      none_twice = once-pairs (map (facts_of state.live) tasks)
          (once-mapped (facts_of state.live) (Leads opening state.live) (λ a b one other e. tasks-same opening state a b keeps.falls is one other e) tasks all (new, pairs-once state.published keeps.once));
      are = all-there (IsLeastInstance opening) (map (facts_of state.live) tasks) (λ instance there.
          let (other, among, e) = Contains-unmap (facts_of state.live) tasks instance there in
          subst (IsLeastInstance opening) e (leads-case opening state other is_program keeps.falls (kind-of other among) (all-contained (Leads opening state.live) tasks other all among) are));
      more = omega (arith, full, count);
    }
  where
    kind-of : (other : Task) → Contains (task ∷ state.published) other → HasKind opening.rule other.instance
    kind-of other among = elim (first-or-later task other state.published among) [
      | inl same ↦ subst (λ t. HasKind opening.rule (Task.instance t)) same kind
      | inr later ↦ (keeps.published_taken other later).has_kind
    ]
