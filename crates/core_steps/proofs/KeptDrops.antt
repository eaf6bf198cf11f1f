-- What a core keeps, where what a worker holds is dropped.
use Rattle.std.proofs.Common.{◌≡◌, ◌≢◌, ◌⊎◌, ◌≤◌, ◌-◌, ℕ, false, Option, Some, None, [], ◌∷◌, ◌++◌, refl, sym, ap, subst, ◌∙◌, inl, inr}
use Rattle.std.specs.Prelude.{slice_set}
use Rattle.std.specs.Vec.{vec_capacity}
use Rattle.horn_rules.specs.Stored.{instance_of}
use Rattle.core_steps.specs.declared.stored_core.Core.TheInside.{Inside}
use Rattle.core_steps.specs.declared.event.Event.TheVariants as stored_event
use Rattle.core_steps.specs.State.{Opening, State, Task, IsWorker, IsFree, held_by, claimed_by}
use Rattle.core_steps.specs.Event.{StaleStop, StaleRefine}
use Rattle.core_steps.specs.Pending.{is_present}
use Rattle.core_steps.specs.After.{without_any, without_claim}
use Rattle.core_steps.specs.Allowed.{Allows, DropsJob, DropsClaim}
use Rattle.core_steps.specs.Course.{opening_of, state_of}
use Rattle.core_steps.specs.inside.Parts.{AreHolds, AreClaims, IsStopAt}
use Rattle.core_steps.specs.inside.Kept.{seen, Holds, IsKept}
use Rattle.core_steps.proofs.Workers.{claimed-gone, claimed-other}
use Rattle.core_steps.proofs.Counts.{counts-legal}
use Rattle.core_steps.proofs.Waits.{pending-dropped}
use Rattle.core_steps.proofs.PartsKept.{claims-set, stop-still}
use Rattle.core_steps.proofs.KeptEvents.{kept-event, table-same}
use Rattle.core_steps.proofs.KeptPublishes.{pending-of, fewer-holds}

-- the claims without that of a worker
pub fewer-claims : (opening : Opening) (state later : State) (inside : Inside) (w : ℕ) → Holds opening state inside → IsWorker opening w
    → claimed_by later.claims w ≡ None → ((v : ℕ) → v ≢ w → claimed_by later.claims v ≡ claimed_by state.claims v)
    → AreClaims opening.workers later (slice_set inside.claims.items (w - 1) None)
fewer-claims opening state later inside w holds worker gone others =
    claims-set opening.workers state later inside.claims.items w None holds.claims worker.from_1 worker.within gone others

-- a job that is dropped is stale, unless a stop stands
dropped-stale : (state : State) (w : ℕ) → ((v : ℕ) → (held_by state.holds v ≡ None) ⊎ (claimed_by state.claims v ≡ None)) → state.stop ≡ None → DropsJob state w ⊎ DropsClaim state w
    → (task : Task) → held_by state.holds w ≡ Some task → is_present state task ≡ false
dropped-stale state w one_only none (inl drop) task held =
    let both : Some task ≡ Some drop.task = sym held ∙ drop.held in
    let one : task ≡ drop.task = cc in
    ap (is_present state) one ∙ drop.stale none
dropped-stale state w one_only none (inr drop) task held = elim (one_only w) [
  | inl no_job ↦ let wrong : Some task ≡ None = sym held ∙ no_job in absurd cc
  | inr no_claim ↦ let wrong : Some drop.id ≡ None = sym drop.claimed ∙ no_claim in absurd cc
]

-- ---- what a worker holds

pub kept-let_go : (inside later : Inside) (w : ℕ) → IsKept inside → Allows (opening_of (seen inside)) (state_of (seen inside)) (StaleStop w)
    → later.holds.items ≡ slice_set inside.holds.items (w - 1) None → later.claims.items ≡ slice_set inside.claims.items (w - 1) None
    → later.journal.items ≡ inside.journal.items ++ stored_event.StaleStop w ∷ [] → vec_capacity inside.journal ≤ vec_capacity later.journal
    → later ≡ record inside { holds = later.holds; claims = later.claims; journal = later.journal } → IsKept later
kept-let_go inside later w kept allowed holds_are claims_are journal capacity same =
    let o = opening_of (seen inside) in
    let state = state_of (seen inside) in
    let dropped : State = without_any w state in
    let mid : Inside = record inside { holds = later.holds; claims = later.claims; journal = later.journal } in
    let holds = kept.holds in
    let counts = counts-legal o (seen inside).history kept.legal in
    let made : Holds o dropped mid = record {
      lists = record { one_each = holds.lists.one_each; each = holds.lists.each };
      shared = holds.shared;
      epochs = record { one_each = holds.epochs.one_each; each = holds.epochs.each };
      table = table-same o.program o.limits.facts state dropped inside.table refl refl holds.table;
      waiting = record {
        is_for = holds.waiting.is_for;
        rule_is = holds.waiting.rule_is;
        room_is = holds.waiting.room_is;
        given_is = holds.waiting.given_is;
        live_is = holds.waiting.live_is;
        opens = λ none j.
            let each = λ (task : Task). pending-dropped o state w task counts.holds_apart (dropped-stale state w counts.one_only none allowed.suits) in (
              λ is_open. pending-of o state dropped (instance_of j) (λ task p. let q = (each task).1 p in
                  record { has_kind = q.has_kind; leads = q.leads; present = q.present; not_done = q.not_done; not_held = q.not_held }) ((holds.waiting.opens none j).0 is_open),
              λ waits. (holds.waiting.opens none j).1 (pending-of o dropped state (instance_of j) (λ task p. (each task).0
                  (record { has_kind = p.has_kind; leads = p.leads; present = p.present; not_done = p.not_done; not_held = p.not_held })) waits),
            );
      };
      holds = subst (AreHolds o.program o.workers dropped) (sym holds_are) (fewer-holds o state dropped inside w holds allowed.worker refl);
      claims = subst (AreClaims o.workers dropped) (sym claims_are)
          (fewer-claims o state dropped inside w holds allowed.worker (claimed-gone state.claims w) (λ v other. claimed-other state.claims w v other));
      published = holds.published;
      refined = holds.refined;
      stop = subst (λ items. IsStopAt dropped items inside.stopped) (sym journal) (stop-still state dropped inside.journal.items (stored_event.StaleStop w) inside.stopped refl holds.stop);
    } in
    kept-event inside later (stored_event.StaleStop w) kept (ap (λ x. (Inside.program x).now) same) (ap (λ x. opening_of (seen x)) same) (ap (λ x. Inside.limits x) same) (ap (λ x. Inside.workers x) same)
    journal capacity allowed (subst (Holds o dropped) (sym same) made)

-- ---- a claim

pub kept-unclaimed : (inside later : Inside) (w : ℕ) → IsKept inside → Allows (opening_of (seen inside)) (state_of (seen inside)) (StaleRefine w)
    → later.claims.items ≡ slice_set inside.claims.items (w - 1) None
    → later.journal.items ≡ inside.journal.items ++ stored_event.StaleRefine w ∷ [] → vec_capacity inside.journal ≤ vec_capacity later.journal
    → later ≡ record inside { claims = later.claims; journal = later.journal } → IsKept later
kept-unclaimed inside later w kept allowed claims_are journal capacity same =
    let o = opening_of (seen inside) in
    let state = state_of (seen inside) in
    let dropped : State = without_claim w state in
    let mid : Inside = record inside { claims = later.claims; journal = later.journal } in
    let holds = kept.holds in
    let made : Holds o dropped mid = record {
      lists = record { one_each = holds.lists.one_each; each = holds.lists.each };
      shared = holds.shared;
      epochs = record { one_each = holds.epochs.one_each; each = holds.epochs.each };
      table = table-same o.program o.limits.facts state dropped inside.table refl refl holds.table;
      waiting = record {
        is_for = holds.waiting.is_for;
        rule_is = holds.waiting.rule_is;
        room_is = holds.waiting.room_is;
        given_is = holds.waiting.given_is;
        live_is = holds.waiting.live_is;
        opens = λ none j. (
          λ is_open. pending-of o state dropped (instance_of j) (λ task q. record { has_kind = q.has_kind; leads = q.leads; present = q.present; not_done = q.not_done; not_held = q.not_held }) ((holds.waiting.opens none j).0 is_open),
          λ waits. (holds.waiting.opens none j).1 (pending-of o dropped state (instance_of j) (λ task p. record { has_kind = p.has_kind; leads = p.leads; present = p.present; not_done = p.not_done; not_held = p.not_held }) waits),
        );
      };
      holds = record { one_each = holds.holds.one_each; each = holds.holds.each; homes_are = holds.holds.homes_are };
      claims = subst (AreClaims o.workers dropped) (sym claims_are)
          (fewer-claims o state dropped inside w holds allowed.worker (claimed-gone state.claims w) (λ v other. claimed-other state.claims w v other));
      published = holds.published;
      refined = holds.refined;
      stop = subst (λ items. IsStopAt dropped items inside.stopped) (sym journal) (stop-still state dropped inside.journal.items (stored_event.StaleRefine w) inside.stopped refl holds.stop);
    } in
    kept-event inside later (stored_event.StaleRefine w) kept (ap (λ x. (Inside.program x).now) same) (ap (λ x. opening_of (seen x)) same) (ap (λ x. Inside.limits x) same) (ap (λ x. Inside.workers x) same)
    journal capacity allowed (subst (Holds o dropped) (sym same) made)

-- ---- what is allowed

-- who is not free drops what it holds, where a stop stands
pub not-free-drops : (state : State) (w : ℕ) → state.stop ≢ None → (¬ IsFree state w) → DropsJob state w ⊎ DropsClaim state w
not-free-drops state w stop not_free = by-hold (held_by state.holds w) (claimed_by state.claims w) refl refl
  where
    by-hold : (o : Option Task) (p : Option ℕ) → held_by state.holds w ≡ o → claimed_by state.claims w ≡ p → DropsJob state w ⊎ DropsClaim state w
    by-hold (Some task) p job claim = inl (record { task = task; held = job; stale = λ none. absurd (stop none) })
    by-hold None (Some id) job claim = inr (record { id = id; claimed = claim; stale = λ none. absurd (stop none) })
    by-hold None None job claim = absurd (not_free (record { no_job = job; no_claim = claim }))
