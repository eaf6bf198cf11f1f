-- What a core keeps, after an event.
use Rattle.std.proofs.Common.{◌≡◌, ◌<◌, ◌≤◌, ◌-◌, ℕ, List, [], ◌∷◌, ◌++◌, map, length, Option, Some, None, refl, sym, ap, ap₂, subst, ◌∙◌, arith}
use Rattle.std.specs.Prelude.{slice_set, slice_get, slice_index_or, IsSome, unwrap_or}
use Rattle.std.specs.Vec.{vec_capacity}
use Rattle.std.proofs.lemmas.List.{length-map, length-reverse}
use Rattle.thr_base.specs.declared.names.Instance.{Instance as StoredInstance}
use Rattle.thr_base.specs.declared.names.Instance.TheVariants as stored
use Rattle.transition_formula.specs.Program.{Program, at_number}
use Rattle.horn_rules.specs.Home.{Home, State as AtLocation, homes}
use Rattle.horn_rules.specs.Instance.{Instance, Init, Own, Guar, Env, Inter}
use Rattle.horn_rules.specs.Stored.{home_numbered, instance_of}
use Rattle.derivation_tree.specs.Facts.{target_among}
use Rattle.fact_table.specs.Table.{FactTable}
use Rattle.instance_cursors.specs.declared.choosing.Next.{Next}
use Rattle.pending_instances.specs.Calls.{Closes}
use Rattle.core_steps.specs.declared.stored_core.Core.TheInside.{Inside}
use Rattle.core_steps.specs.declared.held.Held.{Held}
use Rattle.core_steps.specs.declared.event.Event.{Event as StoredEvent}
use Rattle.core_steps.specs.declared.event.Event.TheVariants as stored_event
use Rattle.core_steps.specs.declared.event.Reason.{Reason as StoredReason}
use Rattle.core_steps.specs.State.{Opening, State, Task, IsOpening, IsWorker}
use Rattle.core_steps.specs.Event.{Event, Take, Stop}
use Rattle.core_steps.specs.After.{after, effect, with_job}
use Rattle.core_steps.specs.Allowed.{Allows}
use Rattle.core_steps.specs.Legal.{IsLegal}
use Rattle.core_steps.specs.Laws.{most_events}
use Rattle.core_steps.specs.Stored.{event_of, history_of, reason_of}
use Rattle.core_steps.specs.Course.{Course, opening_of, state_of}
use Rattle.core_steps.specs.inside.Parts.{IsFullTable, AreHolds, AreClaims, IsStopAt, task_of}
use Rattle.core_steps.specs.inside.Kept.{seen, Holds, IsKept}
use Rattle.core_steps.specs.inside.Taking.{IsNextOf}
use Rattle.core_steps.proofs.Reserve.{histories-short}
use Rattle.core_steps.proofs.Workers.{held-first, held-behind, held-gone, held-other, claimed-gone, claimed-other}
use Rattle.core_steps.proofs.Waits.{pending-taken}
use Rattle.core_steps.proofs.PartsKept.{history-more, holds-set, claims-set, stop-still, slice_get-end}

-- ---- one more event

pub kept-event : (inside later : Inside) (event : StoredEvent) → IsKept inside → later.program.now ≡ inside.program.now
    → opening_of (seen later) ≡ opening_of (seen inside) → later.limits ≡ inside.limits → later.workers ≡ inside.workers
    → later.journal.items ≡ inside.journal.items ++ event ∷ [] → vec_capacity inside.journal ≤ vec_capacity later.journal
    → Allows (opening_of (seen inside)) (state_of (seen inside)) (event_of inside.program.now event)
    → Holds (opening_of (seen inside)) (effect (opening_of (seen inside)) (state_of (seen inside)) (event_of inside.program.now event)) later → IsKept later
kept-event inside later event kept program opening limits workers journal capacity allowed holds =
    let o = opening_of (seen inside) in
    let history : (seen later).history ≡ event_of inside.program.now event ∷ (seen inside).history =
    ap₂ history_of program journal ∙ history-more inside.program.now inside.journal.items event in
    let legal : IsLegal o (event_of inside.program.now event ∷ (seen inside).history) = (allowed, kept.legal) in
    record {
      opening = subst IsOpening (sym opening) kept.opening;
      legal = subst (λ p. IsLegal p (seen later).history) (sym opening) (subst (IsLegal o) (sym history) legal);
      holds = subst (λ p. Holds p (after p (seen later).history) later) (sym opening) (subst (λ h. Holds o (after o h) later) (sym history) holds);
      room = let room = kept.room in let e = ap₂ most_events limits workers in omega (arith, room, capacity, e);
    }

length-history : (program : Program) (journal : List StoredEvent) → length (history_of program journal) ≡ length journal
length-history program journal = length-reverse (map (event_of program) journal) ∙ length-map journal (event_of program)

-- there is room for one more
pub has-room : (inside : Inside) (event : Event) → IsKept inside → Allows (opening_of (seen inside)) (state_of (seen inside)) event
    → length inside.journal.items < vec_capacity inside.journal
has-room inside event kept allowed =
    let short = histories-short (opening_of (seen inside)) (event ∷ (seen inside).history) (allowed, kept.legal) in
    let long = length-history inside.program.now inside.journal.items in
    let room = kept.room in
    omega (arith, short, long, room)

-- the course has one more event
pub seen-event : (inside later : Inside) (event : StoredEvent) → record (seen later) { history = (seen inside).history } ≡ seen inside → later.program.now ≡ inside.program.now
    → later.journal.items ≡ inside.journal.items ++ event ∷ [] → seen later ≡ record (seen inside) { history = event_of inside.program.now event ∷ (seen inside).history }
seen-event inside later event same program journal =
    let history : (seen later).history ≡ event_of inside.program.now event ∷ (seen inside).history =
    ap₂ history_of program journal ∙ history-more inside.program.now inside.journal.items event in
    ap (λ h. record (seen later) { history = h }) history ∙ ap (λ (s : Course). record s { history = event_of inside.program.now event ∷ (seen inside).history }) same

-- ---- instances

abbrev pub stored_of : Instance ℕ → StoredInstance
stored_of (Init i) = stored.Init (record { 0 = i })
stored_of (Own f e) = stored.Own (record { 0 = f }) (record { 0 = e })
stored_of (Guar f e) = stored.Guar (record { 0 = f }) (record { 0 = e })
stored_of (Env f t) = stored.Env (record { 0 = f }) (record { 0 = t })
stored_of (Inter f g e) = stored.Inter (record { 0 = f }) (record { 0 = g }) (record { 0 = e })

stored-same : (instance : StoredInstance) → stored_of (instance_of instance) ≡ instance
stored-same (stored.Init i) = refl
stored-same (stored.Own f e) = refl
stored-same (stored.Guar f e) = refl
stored-same (stored.Env f t) = refl
stored-same (stored.Inter f g e) = refl

pub one-instance : (one other : StoredInstance) → instance_of one ≡ instance_of other → one ≡ other
one-instance one other same = sym (stored-same one) ∙ ap stored_of same ∙ stored-same other

-- ---- a take

-- the parts that stay
pub table-same : (program : Program) (limit : ℕ) (state later : State) (table : FactTable) → later.given ≡ state.given → later.live ≡ state.live → IsFullTable program limit state table → IsFullTable program limit later table
table-same program limit state later table given live is = record {
  limit_is = is.limit_is;
  table_is = record { homes_are = is.table_is.homes_are; given_is = given ∙ is.table_is.given_is; live_is = live ∙ is.table_is.live_is; is_table = is.table_is.is_table };
  unmarked = is.unmarked;
  rest = is.rest;
  words = is.words;
}

number-of : (program : Program) (n : ℕ) (home : Home) → at_number (homes program) n ≡ Some home → home_numbered program n ≡ home
number-of program n home is = ap (λ o. unwrap_or o (AtLocation 0 0)) is

is-some : {A : Type 0} (o : Option A) (x : A) → o ≡ Some x → IsSome o
is-some None x e = cc
is-some (Some y) x e = refl

holds-take : (opening : Opening) (state : State) (inside later : Inside) (w : ℕ) (next : Next) (task : Task) (held : Held) (event : StoredEvent) → Holds opening state inside
    → IsWorker opening w → state.stop ≡ None → IsNextOf opening state next task → Closes opening.program inside.waiting next.instance later.waiting
    → held ≡ record { instance = next.instance; home = next.home; epoch = record { 0 = slice_index_or inside.epochs.items (next.home.0 - 1) 0 } }
    → later.holds.items ≡ slice_set inside.holds.items (w - 1) (Some held) → later.journal.items ≡ inside.journal.items ++ event ∷ []
    → later ≡ record inside { waiting = later.waiting; holds = later.holds; journal = later.journal }
    → Holds opening (record state { holds = record { worker = w; task = task } ∷ state.holds }) later
holds-take opening state inside later w next task held event holds worker none of closes held_is holds_are journal same =
    let program = opening.program in
    let after_take : State = record state { holds = record { worker = w; task = task } ∷ state.holds } in
    let mid : Inside = record inside { waiting = later.waiting; holds = later.holds; journal = later.journal } in
    let old = holds.waiting in
    let epoch : task.epoch ≡ slice_index_or inside.epochs.items (next.home.0 - 1) 0 = of.pending.present ∙ holds.epochs.each next.home.0 task.home of.home_is in
    let told : task_of program held ≡ task =
    ap (task_of program) held_is ∙ same-task (instance_of next.instance) (home_numbered program next.home.0) (slice_index_or inside.epochs.items (next.home.0 - 1) 0) task
    (sym of.instance_is) (number-of program next.home.0 task.home of.home_is) (sym epoch) in
    let set = holds-set program opening.workers state after_take inside.holds.items w (Some held) holds.holds worker.from_1 worker.within
    (held-first (record { worker = w; task = task }) state.holds w refl ∙ ap (λ t. Some t) (sym told))
    (λ v other. held-behind (record { worker = w; task = task }) state.holds v (λ e. other (sym e)))
    (λ h is. let both : held ≡ h = cc in is-some (at_number (homes program) h.home.0) task.home
    (ap (λ x. at_number (homes program) (Held.home x).0) (sym both ∙ held_is) ∙ of.home_is)) in
    let made : Holds opening after_take mid = record {
      lists = record { one_each = holds.lists.one_each; each = holds.lists.each };
      shared = holds.shared;
      epochs = record { one_each = holds.epochs.one_each; each = holds.epochs.each };
      table = table-same program opening.limits.facts state after_take inside.table refl refl holds.table;
      waiting = record {
        is_for = closes.stays.is_for;
        rule_is = closes.stays.rule_is ∙ old.rule_is;
        room_is = closes.stays.room_is ∙ old.room_is;
        given_is = closes.stays.given_is ∙ old.given_is;
        live_is = closes.stays.live_is ∙ old.live_is;
        opens = λ _ j.
            let pending = pending-taken opening state w task (instance_of j) of.pending in (
              λ is_open.
                  let (before, apart) = (closes.opens j).0 is_open in
                  pending.1 ((old.opens none j).0 before) (λ e. apart (one-instance j next.instance (e ∙ of.instance_is))),
              λ waits.
                  let (before, apart) = pending.0 waits in
                  (closes.opens j).1 ((old.opens none j).1 before, λ e. apart (ap instance_of e ∙ sym of.instance_is)),
            );
      };
      holds = subst (AreHolds program opening.workers after_take) (sym holds_are) set;
      claims = record { one_each = holds.claims.one_each; each = holds.claims.each };
      published = holds.published;
      refined = holds.refined;
      stop = subst (λ items. IsStopAt after_take items inside.stopped) (sym journal) (stop-still state after_take inside.journal.items event inside.stopped refl holds.stop);
    } in
    subst (Holds opening after_take) (sym same) made
  where
    same-task : (i : Instance ℕ) (h : Home) (n : ℕ) (t : Task) → i ≡ t.instance → h ≡ t.home → n ≡ t.epoch → record { instance = i; home = h; epoch = n } ≡ t
    same-task i h n t p q r = let made : Task = record { instance = i; home = h; epoch = n } in
        ap (λ x. record made { instance = x }) p ∙ ap (λ x. record t { home = x; epoch = n }) q ∙ ap (λ x. record t { epoch = x }) r

pub kept-take : (inside later : Inside) (w : ℕ) (next : Next) (task : Task) (held : Held) → IsKept inside
    → Allows (opening_of (seen inside)) (state_of (seen inside)) (Take w (instance_of next.instance)) → IsNextOf (opening_of (seen inside)) (state_of (seen inside)) next task
    → Closes inside.program.now inside.waiting next.instance later.waiting
    → held ≡ record { instance = next.instance; home = next.home; epoch = record { 0 = slice_index_or inside.epochs.items (next.home.0 - 1) 0 } }
    → later.holds.items ≡ slice_set inside.holds.items (w - 1) (Some held) → later.journal.items ≡ inside.journal.items ++ stored_event.Take w next.instance ∷ []
    → vec_capacity inside.journal ≤ vec_capacity later.journal
    → later ≡ record inside { waiting = later.waiting; holds = later.holds; journal = later.journal } → IsKept later
kept-take inside later w next task held kept allowed of closes held_is holds_are journal capacity same =
    let o = opening_of (seen inside) in
    let state = state_of (seen inside) in
    let leads : target_among o.program state.live (instance_of next.instance) ≡ Some task.home = ap (target_among o.program state.live) (sym of.instance_is) ∙ of.pending.leads in
    let taken : Task = record { instance = instance_of next.instance; home = task.home; epoch = state.epochs task.home } in
    let is_taken : task ≡ taken = equal task of in
    let holds = holds-take o state inside later w next task held (stored_event.Take w next.instance) kept.holds allowed.worker allowed.suits.0 of closes held_is holds_are journal same in
    let follows : Holds o (with_job w (instance_of next.instance) state (target_among o.program state.live (instance_of next.instance))) later =
    subst (λ h. Holds o (with_job w (instance_of next.instance) state h) later) (sym leads)
    (subst (λ t. Holds o (record state { holds = record { worker = w; task = t } ∷ state.holds }) later) is_taken holds) in
    kept-event inside later (stored_event.Take w next.instance) kept (ap (λ x. (Inside.program x).now) same) (ap (λ x. opening_of (seen x)) same) (ap (λ x. Inside.limits x) same) (ap (λ x. Inside.workers x) same)
    journal capacity allowed follows
  where
    equal : (t : Task) → IsNextOf (opening_of (seen inside)) (state_of (seen inside)) next t
        → t ≡ record { instance = instance_of next.instance; home = t.home; epoch = (state_of (seen inside)).epochs t.home }
    equal t of =
        ap (λ i. record t { instance = i }) of.instance_is ∙ ap (λ n. record t { instance = instance_of next.instance; epoch = n }) of.pending.present

-- ---- a stop

pub kept-stop : (inside later : Inside) (w : ℕ) (reason : StoredReason) → IsKept inside
    → Allows (opening_of (seen inside)) (state_of (seen inside)) (Stop w (reason_of reason))
    → later.holds.items ≡ slice_set inside.holds.items (w - 1) None → later.claims.items ≡ slice_set inside.claims.items (w - 1) None
    → later.stopped ≡ Some (length inside.journal.items) → later.journal.items ≡ inside.journal.items ++ stored_event.Stop w reason ∷ []
    → vec_capacity inside.journal ≤ vec_capacity later.journal
    → later ≡ record inside { holds = later.holds; claims = later.claims; stopped = later.stopped; journal = later.journal } → IsKept later
kept-stop inside later w reason kept allowed holds_are claims_are stopped journal capacity same =
    let o = opening_of (seen inside) in
    let state = state_of (seen inside) in
    let stopped_state : State = effect o state (Stop w (reason_of reason)) in
    let mid : Inside = record inside { holds = later.holds; claims = later.claims; stopped = later.stopped; journal = later.journal } in
    let holds = kept.holds in
    let worker = allowed.worker in
    let place : slice_get later.journal.items (length inside.journal.items) ≡ Some (stored_event.Stop w reason) =
    ap (λ items. slice_get items (length inside.journal.items)) journal ∙ slice_get-end inside.journal.items (stored_event.Stop w reason) in
    let made : Holds o stopped_state mid = record {
      lists = record { one_each = holds.lists.one_each; each = holds.lists.each };
      shared = holds.shared;
      epochs = record { one_each = holds.epochs.one_each; each = holds.epochs.each };
      table = table-same o.program o.limits.facts state stopped_state inside.table refl refl holds.table;
      waiting = record {
        is_for = holds.waiting.is_for;
        rule_is = holds.waiting.rule_is;
        room_is = holds.waiting.room_is;
        given_is = holds.waiting.given_is;
        live_is = holds.waiting.live_is;
        opens = λ none j. let wrong : Some (reason_of reason) ≡ None = none in cc;
      };
      holds = subst (AreHolds o.program o.workers stopped_state) (sym holds_are)
          (holds-set o.program o.workers state stopped_state inside.holds.items w None holds.holds worker.from_1 worker.within (held-gone state.holds w) (λ v other. held-other state.holds w v other)
          (λ h is. cc));
      claims = subst (AreClaims o.workers stopped_state) (sym claims_are)
          (claims-set o.workers state stopped_state inside.claims.items w None holds.claims worker.from_1 worker.within (claimed-gone state.claims w) (λ v other. claimed-other state.claims w v other));
      published = holds.published;
      refined = holds.refined;
      stop = subst (λ s. IsStopAt stopped_state later.journal.items s) (sym stopped) (w, reason, place, refl);
    } in
    kept-event inside later (stored_event.Stop w reason) kept (ap (λ x. (Inside.program x).now) same) (ap (λ x. opening_of (seen x)) same) (ap (λ x. Inside.limits x) same) (ap (λ x. Inside.workers x) same)
    journal capacity allowed (subst (Holds o stopped_state) (sym same) made)
