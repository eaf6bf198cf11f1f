-- What holds after every legal history.
use Rattle.std.proofs.Common.{◌≡◌, ◌<◌, ℕ, true, false, List, [], ◌∷◌, map, Some, refl, sym, ap, ap₂, subst, ◌∙◌, inl, inr}
use Rattle.std.specs.List.{AllByRecursion, Contains, list_any}
use Rattle.lin_rows.proofs.Lists.{AllByRecursion-weaken}
use Rattle.thr_base.specs.declared.names.RuleName.{RuleName}
use Rattle.transition_formula.specs.Program.{Program}
use Rattle.horn_rules.specs.Fact.{Sets, Fact, Statement, statement_of}
use Rattle.horn_rules.specs.Instance.{Instance, Init, Own, Guar, Env, Inter, HasKind, premises_of, map_instance}
use Rattle.horn_rules.specs.Case.{Case, IsCaseOf}
use Rattle.horn_rules.specs.Post.{IsFactOf}
use Rattle.horn_rules.specs.Laws.{HasWhatItGives}
use Rattle.horn_rules.specs.Target.{target_of}
use Rattle.horn_rules.proofs.Posts.{facts-same}
use Rattle.horn_rules.proofs.Derivations.{least-smallest}
use Rattle.horn_rules.proofs.Targets.{cases-have-their-target}
use Rattle.horn_rules.proofs.Lists.{Contains-later, first-or-later, contains-nothing, all-contained, Contains-unmap}
use Rattle.derivation_tree.specs.Facts.{KeptFact, target_among}
use Rattle.core_steps.specs.State.{Opening, State, Task, Hold}
use Rattle.core_steps.specs.Pending.{same_task, is_done, is_held, IsQuiet}
use Rattle.core_steps.specs.After.{after}
use Rattle.core_steps.specs.Allowed.{IsOver}
use Rattle.core_steps.specs.Laws.{LiveFactsArePosts, LiveFactsAreLeast, IsPosted, DoneInstancesArePosted, QuietStatesHaveTheLeastSet, NoJobIsPublishedTwice}
use Rattle.core_steps.proofs.Tests.{tells, any-from, same_task-is}
use Rattle.core_steps.proofs.Live.{Falls, target_among-premises, map-map, kind-other}
use Rattle.core_steps.proofs.Derived.{over-change, IsDerived, AreDerived, derived-least}
use Rattle.core_steps.proofs.Keeps.{Keeps}
use Rattle.core_steps.proofs.Refines.{keeps-legal}

-- ---- live facts

-- a derived fact over all facts
record IsFound (program : Program) (sets : Sets) (live : List KeptFact) (f : KeptFact) : Type 0 where
  given : Case
  is_over : IsOver program sets live f.kept given
  lower : AllByRecursion (λ id. id < f.id) (premises_of f.kept)
  is_fact : IsFactOf sets given f.fact

wider : (program : Program) (sets : Sets) (x : KeptFact) (xs : List KeptFact) (instance : Instance ℕ) (given : Case) → IsOver program sets xs instance given → IsOver program sets (x ∷ xs) instance given
wider program sets x xs instance given over =
    over-change program sets sets xs (x ∷ xs) instance given over
    (AllByRecursion-weaken (Contains xs) (λ (f : KeptFact). Contains (x ∷ xs) f × (sets f.fact.home ≡ sets f.fact.home))
    (λ f there. (Contains-later x f xs there, refl)) (premises_of over.premises) over.are_live)

all-ids : (P : ℕ → Type 0) (premises : Instance KeptFact) → AllByRecursion (λ (f : KeptFact). P f.id) (premises_of premises)
    → AllByRecursion P (premises_of (map_instance (λ (f : KeptFact). f.id) premises))
all-ids P (Init i) all = tt
all-ids P (Own f e) all = (all.0, tt)
all-ids P (Guar f e) all = (all.0, tt)
all-ids P (Env f t) all = (all.0, (all.1.0, tt))
all-ids P (Inter f g e) all = (all.0, (all.1.0, tt))

found-at : (program : Program) (rule : RuleName) (sets : Sets) (live : List KeptFact) (f : KeptFact) → Falls live → AreDerived program rule sets live → Contains live f
    → HasKind rule f.kept × IsFound program sets live f
found-at program rule sets [] f falls all c = absurd (contains-nothing f c)
found-at program rule sets (x ∷ xs) f falls all c = elim (first-or-later x f xs c) [
  | inl same ↦ subst (λ g. HasKind rule (KeptFact.kept g) × IsFound program sets (x ∷ xs) g) same (head all.0)
  | inr later ↦
      let (kind, found) = found-at program rule sets xs f falls.1 all.1 later in
      (kind, record { given = found.given; is_over = wider program sets x xs f.kept found.given found.is_over; lower = found.lower; is_fact = found.is_fact })
]
  where
    head : IsDerived program rule sets xs x → HasKind rule x.kept × IsFound program sets (x ∷ xs) x
    head derived =
        let over = derived.is_over in (
          derived.has_kind,
          record {
            given = derived.given;
            is_over = wider program sets x xs x.kept derived.given over;
            lower = subst (λ i. AllByRecursion (λ id. id < x.id) (premises_of i)) over.ids_are
                (all-ids (λ id. id < x.id) over.premises
                (AllByRecursion-weaken (Contains xs) (λ (g : KeptFact). g.id < x.id) (λ g there. all-contained (λ (h : KeptFact). h.id < x.id) xs g falls.0 there) (premises_of over.premises) over.are_live));
            is_fact = derived.is_fact;
          },
        )

pub live-posts : LiveFactsArePosts
live-posts opening history f legal there =
    let keeps = keeps-legal opening history legal in
    let (kind, found) = found-at opening.program opening.rule (after opening history).sets (after opening history).live f keeps.falls keeps.derived there in
    record { has_kind = kind; given = found.given; is_over = found.is_over; lower = found.lower; is_fact = found.is_fact }

pub live-least : LiveFactsAreLeast
live-least opening history fact legal there =
    derived-least opening.program opening.rule (after opening history).sets (after opening history).live fact (keeps-legal opening history legal).derived there

-- ---- instances

done-posted : (opening : Opening) (state : State) (task : Task) (given : Case) → Keeps opening state → task.epoch ≡ state.epochs task.home → is_done state task ≡ true
    → IsOver opening.program state.sets state.live task.instance given → IsPosted state given
done-posted opening state task given keeps present done over =
    let (other, there, same) = any-from (same_task task) state.published done in
    keeps.posted task (subst (Contains state.published) (sym (same_task-is task other same)) there) present given over

pub instances-posted : DoneInstancesArePosted
instances-posted opening history task given legal present done over = done-posted opening (after opening history) task given (keeps-legal opening history legal) present done over

-- ---- quiet states

-- the live facts behind facts that are live
record IsBehind (live : List KeptFact) (facts : Instance Fact) : Type 0 where
  premises : Instance KeptFact
  facts_are : map_instance (λ (f : KeptFact). f.fact) premises ≡ facts
  are_live : AllByRecursion (Contains live) (premises_of premises)

behind : (live : List KeptFact) (facts : Instance Fact) → AllByRecursion (Contains (map (λ (f : KeptFact). f.fact) live)) (premises_of facts) → IsBehind live facts
behind live (Init i) all = record { premises = Init i; facts_are = refl; are_live = tt }
behind live (Own f e) all =
    let (one, there, same) = Contains-unmap (λ (f : KeptFact). f.fact) live f all.0 in
    record { premises = Own one e; facts_are = ap (λ x. Own x e) same; are_live = (there, tt) }
behind live (Guar f e) all =
    let (one, there, same) = Contains-unmap (λ (f : KeptFact). f.fact) live f all.0 in
    record { premises = Guar one e; facts_are = ap (λ x. Guar x e) same; are_live = (there, tt) }
behind live (Env f t) all =
    let (one, there, same) = Contains-unmap (λ (f : KeptFact). f.fact) live f all.0 in
    let (other, there_other, same_other) = Contains-unmap (λ (f : KeptFact). f.fact) live t all.1.0 in
    record { premises = Env one other; facts_are = ap₂ (λ x y. Env x y) same same_other; are_live = (there, (there_other, tt)) }
behind live (Inter f g e) all =
    let (one, there, same) = Contains-unmap (λ (f : KeptFact). f.fact) live f all.0 in
    let (other, there_other, same_other) = Contains-unmap (λ (f : KeptFact). f.fact) live g all.1.0 in
    record { premises = Inter one other e; facts_are = ap₂ (λ x y. Inter x y e) same same_other; are_live = (there, (there_other, tt)) }

-- in a quiet state each instance over live facts is posted
pub quiet-posted : (opening : Opening) (state : State) (instance : Instance Fact) (given : Case) → Keeps opening state → IsQuiet opening state → HasKind opening.rule instance
    → IsCaseOf opening.program (map_instance (statement_of state.sets) instance) given
    → AllByRecursion (Contains (map (λ (f : KeptFact). f.fact) state.live)) (premises_of instance) → IsPosted state given
quiet-posted opening state instance given keeps quiet has is all =
    let found = behind state.live instance all in
    let ids = map_instance (λ (f : KeptFact). f.id) found.premises in
    let is_case : IsCaseOf opening.program (map_instance (λ (f : KeptFact). statement_of state.sets f.fact) found.premises) given =
    subst (λ i. IsCaseOf opening.program i given) (ap (map_instance (statement_of state.sets)) (sym found.facts_are) ∙ map-map (λ (f : KeptFact). f.fact) (statement_of state.sets) found.premises) is in
    let over : IsOver opening.program state.sets state.live ids given = record { premises = found.premises; ids_are = refl; are_live = found.are_live; is_case = is_case } in
    let led = cases-have-their-target opening.program (map_instance (λ (f : KeptFact). statement_of state.sets f.fact) found.premises) given is_case in
    let leads : target_among opening.program state.live ids ≡ Some given.target =
    target_among-premises opening.program state.live found.premises keeps.falls found.are_live
    ∙ ap (target_of opening.program) (sym (map-map (λ (f : KeptFact). statement_of state.sets f.fact) (λ statement. Statement.home statement) found.premises)) ∙ led in
    let task : Task = record { instance = ids; home = given.target; epoch = state.epochs given.target } in
    let kind = kind-other opening.rule (λ (f : KeptFact). f.fact) (λ (f : KeptFact). f.id) found.premises (subst (HasKind opening.rule) (sym found.facts_are) has) in
    let none : is_held state task ≡ false = ap (λ holds. list_any (λ hold. same_task task (Hold.task hold)) holds) quiet.none_held in
    elim (tells (is_done state task)) [
      | inl done ↦ done-posted opening state task given keeps refl done over
      | inr not_done ↦ absurd (quiet.none_pending task (record { has_kind = kind; leads = leads; present = refl; not_done = not_done; not_held = none }))
    ]

quiet-gives : (opening : Opening) (state : State) → Keeps opening state → IsQuiet opening state
    → HasWhatItGives opening.program opening.rule state.sets (map (λ (f : KeptFact). f.fact) state.live)
quiet-gives opening state keeps quiet instance given fact has is all posted = elim (quiet-posted opening state instance given keeps quiet has is all) [
  | inl refuted ↦ absurd (posted.entailed.open_system refuted)
  | inr (other, is_other, there) ↦ subst (Contains (map (λ (f : KeptFact). f.fact) state.live)) (facts-same state.sets given other fact is_other posted) there
]

pub quiet-least : QuietStatesHaveTheLeastSet
quiet-least opening history fact legal quiet =
    let keeps = keeps-legal opening history legal in
    let state = after opening history in (
      λ live. derived-least opening.program opening.rule state.sets state.live fact keeps.derived live,
      λ least. least-smallest opening.program opening.rule state.sets (map (λ (f : KeptFact). f.fact) state.live) fact (quiet-gives opening state keeps quiet) least,
    )

-- ---- counts

pub published-once : NoJobIsPublishedTwice
published-once opening history legal = (keeps-legal opening history legal).once
