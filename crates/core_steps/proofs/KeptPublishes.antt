-- What a core keeps, after a publish.
use Rattle.std.proofs.Common.{◌≡◌, ◌≤◌, ◌+◌, ◌-◌, ℕ, false, [], ◌∷◌, ◌++◌, map, Some, None, refl, sym, ap, ap₂, subst, ◌∙◌, inl, inr, arith}
use Rattle.std.specs.Prelude.{slice_set}
use Rattle.std.specs.Vec.{vec_capacity}
use Rattle.std.specs.List.{AllByRecursion, Contains}
use Rattle.thr_base.specs.declared.names.FactId.{FactId}
use Rattle.thr_base.specs.declared.names.Fact.{Fact as StoredFact}
use Rattle.thr_base.specs.declared.names.Instance.{Instance as StoredInstance}
use Rattle.thr_base.specs.declared.names.Instance.TheVariants as stored
use Rattle.lin_rows.proofs.Lists.{AllByRecursion-append}
use Rattle.fact_table.specs.declared.live_fact.LiveFact.{LiveFact}
use Rattle.fact_table.specs.declared.table.Inserted.TheVariants as inserted
use Rattle.fact_table.specs.Live.{ArePremisesLive, NoneIsMarked, premises_of as stored_premises}
use Rattle.fact_table.specs.Table.{FactTable, IsTable, new_fact, IsInsertAnswer}
use Rattle.withdraw.proofs.Insertions.{insertions_rest}
use Rattle.transition_formula.specs.Program.{Program}
use Rattle.horn_rules.specs.Home.{Home}
use Rattle.horn_rules.specs.Instance.{Instance, HasKind, premises_of}
use Rattle.horn_rules.specs.Laws.{IsWord}
use Rattle.horn_rules.specs.Stored.{fact_of, instance_of}
use Rattle.horn_rules.proofs.Lists.{Contains-map, Contains-unmap}
use Rattle.derivation_tree.specs.Facts.{KeptFact, target_among}
use Rattle.pending_instances.specs.Calls.{Waiting, Opens}
use Rattle.pending_instances.specs.Open.{Leads, target_in}
use Rattle.core_steps.specs.declared.stored_core.Core.TheInside.{Inside}
use Rattle.core_steps.specs.declared.event.Event.{Event as StoredEvent}
use Rattle.core_steps.specs.declared.event.Event.TheVariants as stored_event
use Rattle.core_steps.specs.State.{Opening, State, Task, IsWorker, held_by, holds_without}
use Rattle.core_steps.specs.Event.{New, StalePublish}
use Rattle.core_steps.specs.Pending.{IsPending, is_present}
use Rattle.core_steps.specs.After.{effect, with_published, with_fact, without_job}
use Rattle.core_steps.specs.Allowed.{Allows}
use Rattle.core_steps.specs.Stored.{event_of}
use Rattle.core_steps.specs.Course.{opening_of, state_of}
use Rattle.core_steps.specs.Readers.{newest}
use Rattle.core_steps.specs.inside.Parts.{AreHolds, IsFullTable, IsStopAt, IsPendingOf}
use Rattle.core_steps.specs.inside.Kept.{seen, Holds, IsKept}
use Rattle.core_steps.proofs.Refines.{keeps-legal}
use Rattle.core_steps.proofs.Workers.{held-gone, held-other}
use Rattle.core_steps.proofs.Counts.{counts-legal}
use Rattle.core_steps.proofs.Waits.{Names, pending-published, pending-dropped, pending-more}
use Rattle.core_steps.proofs.TableFacts.{newest-more}
use Rattle.core_steps.proofs.PartsKept.{holds-set, stop-still}
use Rattle.core_steps.proofs.KeptEvents.{kept-event, table-same}
use Rattle.core_steps.proofs.Choices.{led-alike}

-- what is pending of an instance, where each task is
pub pending-of : (opening : Opening) (one other : State) (instance : Instance ℕ) → ((task : Task) → IsPending opening one task → IsPending opening other task) → IsPendingOf opening one instance → IsPendingOf opening other instance
pending-of opening one other instance each (task, is, pending) = (task, is, each task pending)

-- the holds without that of a worker
pub fewer-holds : (opening : Opening) (state later : State) (inside : Inside) (w : ℕ) → Holds opening state inside → IsWorker opening w → later.holds ≡ holds_without w state.holds
    → AreHolds opening.program opening.workers later (slice_set inside.holds.items (w - 1) None)
fewer-holds opening state later inside w holds worker are =
    holds-set opening.program opening.workers state later inside.holds.items w None holds.holds worker.from_1 worker.within
    (ap (λ hs. held_by hs w) are ∙ held-gone state.holds w) (λ v other. ap (λ hs. held_by hs v) are ∙ held-other state.holds w v other) (λ h is. cc)

-- ---- a job is dropped

pub kept-dropped : (inside later : Inside) (w : ℕ) → IsKept inside → Allows (opening_of (seen inside)) (state_of (seen inside)) (StalePublish w)
    → later.holds.items ≡ slice_set inside.holds.items (w - 1) None → later.journal.items ≡ inside.journal.items ++ stored_event.StalePublish w ∷ []
    → vec_capacity inside.journal ≤ vec_capacity later.journal → later ≡ record inside { holds = later.holds; journal = later.journal } → IsKept later
kept-dropped inside later w kept allowed holds_are journal capacity same =
    let o = opening_of (seen inside) in
    let state = state_of (seen inside) in
    let dropped : State = without_job w state in
    let mid : Inside = record inside { holds = later.holds; journal = later.journal } in
    let holds = kept.holds in
    let counts = counts-legal o (seen inside).history kept.legal in
    let drop = allowed.suits in
    let made : Holds o dropped mid = record {
      lists = record { one_each = holds.lists.one_each; each = holds.lists.each };
      shared = holds.shared;
      epochs = record { one_each = holds.epochs.one_each; each = holds.epochs.each };
      table = table-same o.program o.limits.facts state dropped inside.table refl refl holds.table;
      waiting = record {
        is_for = holds.waiting.is_for;
        rule_is = holds.waiting.rule_is;
        room_is = holds.waiting.room_is;
        given_is = holds.waiting.given_is;
        live_is = holds.waiting.live_is;
        opens = λ none j.
            let stale : (task : Task) → held_by state.holds w ≡ Some task → is_present state task ≡ false =
            λ task held. let both : Some task ≡ Some drop.task = sym held ∙ drop.held in let one : task ≡ drop.task = cc in ap (is_present state) one ∙ drop.stale none in
            let each = λ (task : Task). pending-dropped o state w task counts.holds_apart stale in (
              λ is_open. pending-of o state dropped (instance_of j) (λ task p. (each task).1 p) ((holds.waiting.opens none j).0 is_open),
              λ waits. (holds.waiting.opens none j).1 (pending-of o dropped state (instance_of j) (λ task p. (each task).0 p) waits),
            );
      };
      holds = subst (AreHolds o.program o.workers dropped) (sym holds_are) (fewer-holds o state dropped inside w holds allowed.worker refl);
      claims = record { one_each = holds.claims.one_each; each = holds.claims.each };
      published = holds.published;
      refined = holds.refined;
      stop = subst (λ items. IsStopAt dropped items inside.stopped) (sym journal) (stop-still state dropped inside.journal.items (stored_event.StalePublish w) inside.stopped refl holds.stop);
    } in
    kept-event inside later (stored_event.StalePublish w) kept (ap (λ x. (Inside.program x).now) same) (ap (λ x. opening_of (seen x)) same) (ap (λ x. Inside.limits x) same) (ap (λ x. Inside.workers x) same)
    journal capacity allowed (subst (Holds o dropped) (sym same) made)

-- ---- a job is published, and no fact comes

pub kept-published : (inside later : Inside) (w : ℕ) (task : Task) (event : StoredEvent) → IsKept inside → Allows (opening_of (seen inside)) (state_of (seen inside)) (event_of inside.program.now event)
    → IsWorker (opening_of (seen inside)) w → (state_of (seen inside)).stop ≡ None → held_by (state_of (seen inside)).holds w ≡ Some task
    → effect (opening_of (seen inside)) (state_of (seen inside)) (event_of inside.program.now event)
    ≡ without_job w (with_published (state_of (seen inside)) (held_by (state_of (seen inside)).holds w))
    → later.holds.items ≡ slice_set inside.holds.items (w - 1) None → later.published ≡ inside.published + 1 → later.journal.items ≡ inside.journal.items ++ event ∷ []
    → vec_capacity inside.journal ≤ vec_capacity later.journal → later ≡ record inside { holds = later.holds; published = later.published; journal = later.journal } → IsKept later
kept-published inside later w task event kept allowed worker none held does holds_are more journal capacity same =
    let o = opening_of (seen inside) in
    let state = state_of (seen inside) in
    let done : State = record state { published = task ∷ state.published; holds = holds_without w state.holds } in
    let mid : Inside = record inside { holds = later.holds; published = later.published; journal = later.journal } in
    let holds = kept.holds in
    let counts = counts-legal o (seen inside).history kept.legal in
    let made : Holds o done mid = record {
      lists = record { one_each = holds.lists.one_each; each = holds.lists.each };
      shared = holds.shared;
      epochs = record { one_each = holds.epochs.one_each; each = holds.epochs.each };
      table = table-same o.program o.limits.facts state done inside.table refl refl holds.table;
      waiting = record {
        is_for = holds.waiting.is_for;
        rule_is = holds.waiting.rule_is;
        room_is = holds.waiting.room_is;
        given_is = holds.waiting.given_is;
        live_is = holds.waiting.live_is;
        opens = λ _ j.
            let each = λ (other : Task). pending-published o state w task other counts.holds_apart held in (
              λ is_open. pending-of o state done (instance_of j) (λ other p. (each other).1 p) ((holds.waiting.opens none j).0 is_open),
              λ waits. (holds.waiting.opens none j).1 (pending-of o done state (instance_of j) (λ other p. (each other).0 p) waits),
            );
      };
      holds = subst (AreHolds o.program o.workers done) (sym holds_are) (fewer-holds o state done inside w holds worker refl);
      claims = record { one_each = holds.claims.one_each; each = holds.claims.each };
      published = let before = holds.published in omega (arith, before, more);
      refined = holds.refined;
      stop = subst (λ items. IsStopAt done items inside.stopped) (sym journal) (stop-still state done inside.journal.items event inside.stopped refl holds.stop);
    } in
    let follows : effect o state (event_of inside.program.now event) ≡ done = does ∙ ap (λ x. without_job w (with_published state x)) held in
    kept-event inside later event kept (ap (λ x. (Inside.program x).now) same) (ap (λ x. opening_of (seen x)) same) (ap (λ x. Inside.limits x) same) (ap (λ x. Inside.workers x) same)
    journal capacity allowed (subst (λ s. Holds o s later) (sym follows) (subst (Holds o done) (sym same) made))

-- ---- a new fact

-- the ids that an instance names
named-ids : (instance : StoredInstance) → premises_of (instance_of instance) ≡ map (λ id. FactId.0 id) (stored_premises instance)
named-ids (stored.Init i) = refl
named-ids (stored.Own f e) = refl
named-ids (stored.Guar f e) = refl
named-ids (stored.Env f t) = refl
named-ids (stored.Inter f g e) = refl

pub names-from : (instance : StoredInstance) (id : FactId) → Contains (stored_premises instance) id → Names (instance_of instance) id.0
names-from instance id there = subst (λ ids. Contains ids id.0) (sym (named-ids instance)) (Contains-map (λ (x : FactId). x.0) (stored_premises instance) id there)

pub names-to : (instance : StoredInstance) (id : FactId) → Names (instance_of instance) id.0 → Contains (stored_premises instance) id
names-to instance id named =
    let (other, there, same) = Contains-unmap (λ (x : FactId). x.0) (stored_premises instance) id.0 (subst (λ ids. Contains ids id.0) (named-ids instance) named) in
    let made : ℕ → FactId = λ n. record { 0 = n } in
    subst (Contains (stored_premises instance)) (ap made same) there

-- the table has one more fact
full-more : (program : Program) (limit : ℕ) (state later : State) (table new : FactTable) (id : FactId) (fact : StoredFact) (instance : StoredInstance)
    → IsFullTable program limit state table → ArePremisesLive table.live instance → IsInsertAnswer table fact instance (inserted.New id) new → IsTable new → NoneIsMarked new.live → IsWord fact
    → later.given ≡ id.0 → later.live ≡ record { id = id.0; fact = fact_of program fact; kept = instance_of instance } ∷ state.live → IsFullTable program limit later new
full-more program limit state later table new id fact instance is premises answer is_table unmarked word given live =
    let f : LiveFact = new_fact table fact instance in
    let next : id.0 ≡ table.given + 1 = answer.2 in
    let whole : new ≡ record table { given = table.given + 1; live = table.live ++ f ∷ [] } = answer.3 in
    record {
      limit_is = ap (λ t. FactTable.limit t) whole ∙ is.limit_is;
      table_is = record {
        homes_are = ap (λ t. FactTable.homes t) whole ∙ is.table_is.homes_are;
        given_is = given ∙ next ∙ sym (ap (λ t. FactTable.given t) whole);
        live_is = live ∙ ap₂ (λ n xs. record { id = n; fact = fact_of program fact; kept = instance_of instance } ∷ xs) next is.table_is.live_is
            ∙ sym (newest-more program table.live f) ∙ ap (λ t. newest program (FactTable.live t)) (sym whole);
        is_table = is_table;
      };
      unmarked = unmarked;
      rest = insertions_rest table new fact instance (inserted.New id) is.table_is.is_table premises answer is.rest;
      words = subst (λ t. AllByRecursion (λ (g : LiveFact). IsWord g.fact) (FactTable.live t)) (sym whole) (AllByRecursion-append (λ (g : LiveFact). IsWord g.fact) table.live (f ∷ []) is.words (word, tt));
    }

-- what leads, by the table and by the state
pub leads-from : (opening : Opening) (state : State) (table : FactTable) (waiting : Waiting) (j : StoredInstance) → IsFullTable opening.program opening.limits.facts state table
    → waiting.layout.rule ≡ opening.rule → waiting.live ≡ table.live → Leads opening.program waiting.layout.rule waiting.live j
    → HasKind opening.rule (instance_of j) × ((home : Home) × (target_among opening.program state.live (instance_of j) ≡ Some home))
leads-from opening state table waiting j is rule live leads = (
  subst (λ r. HasKind r (instance_of j)) rule leads.has_kind,
  (leads.target, sym (led-alike opening.program opening.limits.facts state table j is) ∙ ap (λ xs. target_in opening.program xs j) (sym live) ∙ leads.target_is),
)

pub leads-to : (opening : Opening) (state : State) (table : FactTable) (waiting : Waiting) (j : StoredInstance) → IsFullTable opening.program opening.limits.facts state table
    → waiting.layout.rule ≡ opening.rule → waiting.live ≡ table.live → HasKind opening.rule (instance_of j)
    → (home : Home) → target_among opening.program state.live (instance_of j) ≡ Some home → Leads opening.program waiting.layout.rule waiting.live j
leads-to opening state table waiting j is rule live kind home leads = record {
  has_kind = subst (λ r. HasKind r (instance_of j)) (sym rule) kind;
  target = home;
  target_is = ap (λ xs. target_in opening.program xs j) live ∙ led-alike opening.program opening.limits.facts state table j is ∙ leads;
}

pub kept-new : (inside later : Inside) (w : ℕ) (task : Task) (id : FactId) (fact : StoredFact) (instance : StoredInstance) → IsKept inside
    → Allows (opening_of (seen inside)) (state_of (seen inside)) (New w id.0 (fact_of inside.program.now fact))
    → held_by (state_of (seen inside)).holds w ≡ Some task → task.instance ≡ instance_of instance
    → ArePremisesLive inside.table.live instance → IsInsertAnswer inside.table fact instance (inserted.New id) later.table → IsTable later.table → NoneIsMarked later.table.live → IsWord fact
    → Opens inside.program.now inside.waiting later.table later.waiting
    → later.holds.items ≡ slice_set inside.holds.items (w - 1) None → later.published ≡ inside.published + 1 → later.journal.items ≡ inside.journal.items ++ stored_event.New w id fact ∷ []
    → vec_capacity inside.journal ≤ vec_capacity later.journal
    → later ≡ record inside { table = later.table; waiting = later.waiting; holds = later.holds; published = later.published; journal = later.journal } → IsKept later
kept-new inside later w task id fact instance kept allowed held named premises answer is_table unmarked word opens holds_are more journal capacity same =
    let o = opening_of (seen inside) in
    let program = o.program in
    let state = state_of (seen inside) in
    let new : KeptFact = record { id = id.0; fact = fact_of program fact; kept = task.instance } in
    let grown : State = record state { live = new ∷ state.live; given = id.0 } in
    let done : State = record grown { published = task ∷ state.published; holds = holds_without w state.holds } in
    let mid : Inside = record inside { table = later.table; waiting = later.waiting; holds = later.holds; published = later.published; journal = later.journal } in
    let holds = kept.holds in
    let none = allowed.suits.0 in
    let counts = counts-legal o (seen inside).history kept.legal in
    let keeps = keeps-legal o (seen inside).history kept.legal in
    let full = full-more program o.limits.facts state done inside.table later.table id fact instance holds.table premises answer is_table unmarked word refl
    (ap (λ i. record { id = id.0; fact = fact_of program fact; kept = i } ∷ state.live) named) in
    let rule : later.waiting.layout.rule ≡ o.rule = opens.rule_is ∙ holds.waiting.rule_is in
    let given : later.table.given ≡ id.0 = ap (λ t. FactTable.given t) answer.3 ∙ sym answer.2 in
    let next : id.0 ≡ state.given + 1 = answer.2 ∙ ap (λ n. n + 1) (sym holds.table.table_is.given_is) in
    let stored_id : later.table.given ≡ id.0 = given in
    let made : Holds o done mid = record {
      lists = record { one_each = holds.lists.one_each; each = holds.lists.each };
      shared = holds.shared;
      epochs = record { one_each = holds.epochs.one_each; each = holds.epochs.each };
      table = full;
      waiting = record {
        is_for = opens.is_for;
        rule_is = rule;
        room_is = opens.room_is ∙ holds.waiting.room_is;
        given_is = opens.given_is;
        live_is = opens.live_is;
        opens = λ _ j.
            let each = λ (other : Task). pending-published o grown w task other counts.holds_apart held in
            let one = pending-more o state new (instance_of j) keeps next in (
              λ is_open. pending-of o grown done (instance_of j) (λ other p. (each other).1 p) (one.1 (elim ((opens.opens j).0 is_open) [
                | inl before ↦ inl ((holds.waiting.opens none j).0 before)
                | inr (leads, names) ↦
                    let (kind, led) = leads-from o done later.table later.waiting j full rule opens.live_is leads in
                    inr (kind, led, subst (Names (instance_of j)) given (names-from j (record { 0 = later.table.given }) names))
              ])),
              λ waits. (opens.opens j).1 (elim (one.0 (pending-of o done grown (instance_of j) (λ other p. (each other).0 p) waits)) [
                | inl before ↦ inl ((holds.waiting.opens none j).1 before)
                | inr (kind, (home, led), names) ↦
                    inr (leads-to o done later.table later.waiting j full rule opens.live_is kind home led, names-to j (record { 0 = later.table.given }) (subst (Names (instance_of j)) (sym given) names))
              ]),
            );
      };
      holds = subst (AreHolds program o.workers done) (sym holds_are) (fewer-holds o state done inside w holds allowed.worker refl);
      claims = record { one_each = holds.claims.one_each; each = holds.claims.each };
      published = let before = holds.published in omega (arith, before, more);
      refined = holds.refined;
      stop = subst (λ items. IsStopAt done items inside.stopped) (sym journal) (stop-still state done inside.journal.items (stored_event.New w id fact) inside.stopped refl holds.stop);
    } in
    kept-event inside later (stored_event.New w id fact) kept (ap (λ x. (Inside.program x).now) same) (ap (λ x. opening_of (seen x)) same) (ap (λ x. Inside.limits x) same) (ap (λ x. Inside.workers x) same)
    journal capacity allowed
    (subst (λ h. Holds o (without_job w (with_fact id.0 (fact_of program fact) (with_published state h) h)) later) (sym held) (subst (Holds o done) (sym same) made))
