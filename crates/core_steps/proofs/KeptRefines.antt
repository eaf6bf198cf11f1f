-- What a core keeps, where homes get new predicates.
use Rattle.std.proofs.Common.{◌≡◌, ◌<◌, ◌≤◌, ◌+◌, ◌-◌, ◌^◌, ℕ, zero, suc, Bool, true, false, List, [], ◌∷◌, ◌++◌, length, map, Some, None, refl, sym, ap, subst, ◌∙◌, inl, inr, arith}
use Rattle.std.specs.Prelude.{filter, slice_set, slice_get, slice_index_or, if◌then◌else◌, ◌||◌}
use Rattle.std.specs.Vec.{vec_capacity}
use Rattle.std.specs.List.{AllByRecursion, Contains}
use Rattle.thr_base.specs.declared.names.HomeNo.{HomeNo}
use Rattle.thr_base.specs.declared.names.Instance.{Instance as StoredInstance}
use Rattle.fact_table.specs.Live.{NoneIsMarked}
use Rattle.fact_table.specs.declared.live_fact.LiveFact.{LiveFact}
use Rattle.fact_table.specs.Table.{FactTable, IsTable}
use Rattle.withdraw.specs.Withdrawal.{IsWithout, RestOnEarlier}
use Rattle.withdraw.specs.Withdrawal as stored
use Rattle.transition_formula.specs.Program.{at_number}
use Rattle.horn_rules.specs.Home.{Home, homes}
use Rattle.horn_rules.specs.Instance.{HasKind}
use Rattle.horn_rules.specs.Predicate.{Predicate}
use Rattle.horn_rules.specs.Stored.{instance_of}
use Rattle.derivation_tree.specs.declared.scope.Scope.{Scope}
use Rattle.derivation_tree.specs.Facts.{KeptFact, target_among}
use Rattle.derivation_tree.specs.Kept.{predicates_of_stored}
use Rattle.pending_instances.specs.Calls.{Waiting, IsLeft, IsOpen, Reopens}
use Rattle.pending_instances.specs.Pending.{is_among}
use Rattle.pending_instances.specs.Open.{target_in}
use Rattle.core_steps.specs.declared.stored_core.Core.TheInside.{Inside}
use Rattle.core_steps.specs.declared.event.Event.{Event as StoredEvent}
use Rattle.core_steps.specs.State.{Opening, State}
use Rattle.core_steps.specs.Event.{Refine}
use Rattle.core_steps.specs.After.{effect, with_new, without_claim}
use Rattle.core_steps.specs.Allowed.{Allows}
use Rattle.core_steps.specs.Withdrawn.{IsWithdrawn, remaining, loses}
use Rattle.core_steps.specs.Predicates.{is_changed}
use Rattle.core_steps.specs.Stored.{event_of}
use Rattle.core_steps.specs.Course.{opening_of, state_of}
use Rattle.core_steps.specs.inside.Parts.{AreClaims, IsFullTable, IsStopAt, IsPendingOf, IsWaiting}
use Rattle.core_steps.specs.inside.Kept.{seen, Holds, IsKept}
use Rattle.core_steps.specs.inside.Changing.{StoredPredicate, HasItsNumber, AreListsWith, homes_of, lost_homes, raised, gone_with}
use Rattle.core_steps.proofs.Live.{Falls}
use Rattle.core_steps.proofs.Keeps.{Keeps}
use Rattle.core_steps.proofs.Refines.{keeps-legal}
use Rattle.core_steps.proofs.Withdrawals.{remaining-withdrawn}
use Rattle.core_steps.proofs.Workers.{claimed-gone, claimed-other}
use Rattle.core_steps.proofs.Counts.{counts-legal}
use Rattle.core_steps.proofs.PremiseFacts.{number-within}
use Rattle.core_steps.proofs.RenewedWaits.{is_renewed, pending-refined}
use Rattle.core_steps.proofs.PartsKept.{stop-still}
use Rattle.core_steps.proofs.KeptEvents.{kept-event}
use Rattle.core_steps.proofs.Choices.{led-alike}
use Rattle.core_steps.proofs.KeptPublishes.{pending-of, leads-from, leads-to}
use Rattle.core_steps.proofs.KeptDrops.{fewer-claims}
use Rattle.core_steps.proofs.Growths.{length-raised, raised-at}
use Rattle.core_steps.proofs.GoneFacts.{AreLeft, are-left, renewed-at, renewed-number, facts-homes, full-left, length-newest}

-- ---- what is left in the table

pub table-left : (inside : Inside) (new : List StoredPredicate) (left : List LiveFact) → IsKept inside → AllByRecursion (HasItsNumber inside.program.now) new
    → IsWithout (stored.IsWithdrawn (homes_of new) inside.table.live) inside.table.live left → AreLeft inside.program.now new inside.table.live left
table-left inside new left kept numbers without =
    let o = opening_of (seen inside) in
    let s = state_of (seen inside) in
    let is = kept.holds.table in
    let keeps = keeps-legal o (seen inside).history kept.legal in
    let falls = subst Falls is.table_is.live_is keeps.falls in
    are-left o.program new inside.table.live left
    (λ changed f there. subst (λ (l : List KeptFact). (Contains (remaining changed l) f → ¬ IsWithdrawn l changed f.id) × ((¬ IsWithdrawn l changed f.id) → Contains (remaining changed l) f)) is.table_is.live_is
    (remaining-withdrawn o (seen inside).history changed f kept.legal (subst (λ l. Contains l f) (sym is.table_is.live_is) there)))
    numbers (facts-homes o.program o.limits.facts s inside.table is) falls is.rest without

pub is-left : (inside : Inside) (new : List StoredPredicate) (table : FactTable) → IsKept inside → AreLeft inside.program.now new inside.table.live table.live → table ≡ record inside.table { live = table.live }
    → IsLeft inside.waiting table
is-left inside new table kept are same =
    let waiting = kept.holds.waiting in
    record {
      given_is = ap (λ t. FactTable.given t) same ∙ sym waiting.given_is;
      keep = are.keep;
      live_is = are.left_is ∙ ap (λ l. filter are.keep l) (sym waiting.live_is);
    }

-- ---- epochs

pub epochs-few : (inside : Inside) (count : ℕ) → IsKept inside → count ≡ length (homes inside.program.now) → count < 2 ^ 32 → length inside.epochs.items < 2 ^ 32
epochs-few inside count kept is few = let one = kept.holds.epochs.one_each in omega (arith, one, is, few)

numbered-there : {A : Type 0} (xs : List A) (k : ℕ) → k < length xs → (x : A) × (slice_get xs k ≡ Some x)
numbered-there [] k lt = absurd (omega arith)
numbered-there (x ∷ xs) zero lt = (x, refl)
numbered-there (x ∷ xs) (suc k) lt = numbered-there xs k (omega arith)

pub epochs-low : (inside : Inside) (event : Scope) → IsKept inside → (state_of (seen inside)).refined < inside.limits.refinements → (i : ℕ) → i < length inside.epochs.items → slice_index_or inside.epochs.items i 0 + 1 < 2 ^ 32
epochs-low inside event kept left i lt =
    let o = opening_of (seen inside) in
    let epochs = kept.holds.epochs in
    let counts = counts-legal o (seen inside).history kept.legal in
    let one = epochs.one_each in
    let (home, at) = numbered-there (homes o.program) i (omega (arith, lt, one)) in
    let is = epochs.each (i + 1) home (at-next i home at) in
    let number : (i + 1) - 1 ≡ i = omega arith in
    let same : (state_of (seen inside)).epochs home ≡ slice_index_or inside.epochs.items i 0 = is ∙ ap (λ k. slice_index_or inside.epochs.items k 0) number in
    let low = counts.epochs home in
    let small = kept.opening.are_allowed.few_refinements in
    omega (arith, same, low, left, small)
  where
    at-next : (i : ℕ) (home : Home) → slice_get (homes inside.program.now) i ≡ Some home → at_number (homes inside.program.now) (i + 1) ≡ Some home
    at-next i home at = let number : suc i ≡ i + 1 = omega arith in subst (λ n. at_number (homes inside.program.now) n ≡ Some home) number at

-- ---- what waits

-- which homes begin their next epoch, by number
renewed-is : (opening : Opening) (state : State) (new : List StoredPredicate) (table left : FactTable) (n : ℕ) (home : Home) → let preds = predicates_of_stored opening.program new in
    IsFullTable opening.program opening.limits.facts state table → IsFullTable opening.program opening.limits.facts (with_new preds state) left → AllByRecursion (HasItsNumber opening.program) new
    → at_number (homes opening.program) n ≡ Some home → is_among (homes_of new ++ lost_homes left.live table.live) (record { 0 = n }) ≡ is_renewed state preds home
renewed-is opening state new table left n home is is_left numbers at =
    let preds = predicates_of_stored opening.program new in
    let later = with_new preds state in
    renewed-at opening.program opening.limits.facts later new table.live left n home is_left numbers (facts-homes opening.program opening.limits.facts state table is) at
    ∙ ap (λ l. is_changed preds home || loses l later.live home) (sym is.table_is.live_is)

pub waiting-refined : (opening : Opening) (state : State) (new : List StoredPredicate) (table left : FactTable) (waiting after : Waiting) (renewed : List HomeNo) → let preds = predicates_of_stored opening.program new in
    Keeps opening state → state.stop ≡ None → IsFullTable opening.program opening.limits.facts state table → IsFullTable opening.program opening.limits.facts (with_new preds state) left
    → AllByRecursion (HasItsNumber opening.program) new → renewed ≡ homes_of new ++ lost_homes left.live table.live → IsWaiting opening state table waiting → Reopens opening.program waiting renewed left after
    → IsWaiting opening (with_new preds state) left after
waiting-refined opening state new table left waiting after renewed keeps none is is_left numbers renewed_is old reopens = record {
  is_for = reopens.is_for;
  rule_is = rule;
  room_is = reopens.room_is ∙ old.room_is;
  given_is = reopens.given_is;
  live_is = reopens.live_is;
  opens = λ _ j. (there j, back j);
}
  where
    preds : List Predicate
    preds = predicates_of_stored opening.program new

    later : State
    later = with_new preds state

    rule : after.layout.rule ≡ opening.rule
    rule = reopens.rule_is ∙ old.rule_is

    among-is : (n : ℕ) (home : Home) → at_number (homes opening.program) n ≡ Some home → is_among renewed (record { 0 = n }) ≡ is_renewed state preds home
    among-is n home at = ap (λ l. is_among l (record { 0 = n })) renewed_is ∙ renewed-is opening state new table left n home is is_left numbers at

    there : (j : StoredInstance) → IsOpen after j → IsPendingOf opening later (instance_of j)
    there j is_open =
        let (leads, either) = (reopens.opens j).0 is_open in
        elim either [
          | inl before ↦
              let from = leads-from opening later left after j is_left rule reopens.live_is leads in
              (pending-refined opening state preds (instance_of j) keeps).1 from.0 from.1.0 from.1.1 (inl ((old.opens none j).0 before))
          | inr changed ↦
              let t = changed.1 in
              let at : target_among opening.program later.live (instance_of j) ≡ Some t.target =
              sym (led-alike opening.program opening.limits.facts later left j is_left) ∙ ap (λ xs. target_in opening.program xs j) (sym reopens.live_is) ∙ t.target_is in
              let kind = subst (λ r. HasKind r (instance_of j)) rule leads.has_kind in
              (pending-refined opening state preds (instance_of j) keeps).1 kind t.target at (inr (sym (among-is changed.0.0 t.target t.number_is) ∙ changed.2))
        ]

    back : (j : StoredInstance) → IsPendingOf opening later (instance_of j) → IsOpen after j
    back j waits =
        let (kind, found) = (pending-refined opening state preds (instance_of j) keeps).0 waits in
        let (home, at, either) = found in
        let leads = leads-to opening later left after j is_left rule reopens.live_is kind home at in
        let target_is : target_in opening.program after.live j ≡ Some home =
        ap (λ xs. target_in opening.program xs j) reopens.live_is ∙ led-alike opening.program opening.limits.facts later left j is_left ∙ at in
        (reopens.opens j).1 (
          leads,
          elim either [
            | inl before ↦ inl ((old.opens none j).1 before)
            | inr hit ↦
                let (n, number) = renewed-number opening.program new state preds home refl is numbers hit in
                inr (record { 0 = n }, record { target = home; target_is = target_is; number_is = number }, among-is n home number ∙ hit)
          ],
        )

-- ---- a refine

-- how an epoch rises, and how its number does
risen : (b c : Bool) (epoch number : ℕ) → c ≡ b → epoch ≡ number → (if b then suc epoch else epoch) ≡ (if c then number + 1 else number)
risen true c epoch number test same = let e : suc epoch ≡ number + 1 = omega (arith, same) in rw test e
risen false c epoch number test same = rw test same

pub kept-refined : (inside later : Inside) (w : ℕ) (scope : Scope) (event : StoredEvent) (new : List StoredPredicate) (renewed : List HomeNo) → IsKept inside → let preds = predicates_of_stored inside.program.now new in
    event_of inside.program.now event ≡ Refine w scope preds
    → Allows (opening_of (seen inside)) (state_of (seen inside)) (Refine w scope preds) → AreListsWith inside.program.now (state_of (seen inside)) preds later.sets
    → AllByRecursion (HasItsNumber inside.program.now) new → map (λ list. list.value) later.lists.items ≡ later.sets
    → AreLeft inside.program.now new inside.table.live later.table.live → later.table ≡ record inside.table { live = later.table.live } → IsTable later.table → NoneIsMarked later.table.live
    → RestOnEarlier later.table.live → renewed ≡ homes_of new ++ lost_homes later.table.live inside.table.live → later.epochs.items ≡ raised renewed 1 inside.epochs.items
    → Reopens inside.program.now inside.waiting renewed later.table later.waiting → later.claims.items ≡ slice_set inside.claims.items (w - 1) None
    → later.journal.items ≡ inside.journal.items ++ event ∷ [] → vec_capacity inside.journal ≤ vec_capacity later.journal
    → later ≡ record inside { sets = later.sets; lists = later.lists; epochs = later.epochs; table = later.table; waiting = later.waiting; claims = later.claims; refined = inside.refined + 1; journal = later.journal }
    → IsKept later
kept-refined inside later w scope event new renewed kept event_is allowed lists numbers shared are table_same is_table unmarked rest renewed_is epochs_are reopens claims_are journal capacity same =
    let o = opening_of (seen inside) in
    let state = state_of (seen inside) in
    let preds = predicates_of_stored o.program new in
    let added : State = with_new preds state in
    let after : State = without_claim w added in
    let mid : Inside = record inside { sets = later.sets; lists = later.lists; epochs = later.epochs; table = later.table; waiting = later.waiting; claims = later.claims; refined = inside.refined + 1; journal = later.journal } in
    let holds = kept.holds in
    let keeps = keeps-legal o (seen inside).history kept.legal in
    let none = allowed.suits.0 in
    let full = full-left o.program o.limits.facts state added inside.table later.table new holds.table are table_same is_table unmarked rest refl refl in
    let waits = waiting-refined o state new inside.table later.table inside.waiting later.waiting renewed keeps none holds.table full numbers renewed_is holds.waiting reopens in
    let made : Holds o after mid = record {
      lists = record { one_each = lists.one_each; each = lists.each };
      shared = shared;
      epochs = record {
        one_each = ap (λ l. length l) epochs_are ∙ length-raised renewed 1 inside.epochs.items ∙ holds.epochs.one_each;
        each = λ n home at.
            let (low, high) = number-within (homes o.program) n home at in
            let one = holds.epochs.one_each in
            let number : 1 + (n - 1) ≡ n = omega (arith, low) in
            let test = ap (λ k. is_among renewed (record { 0 = k })) number ∙ ap (λ l. is_among l (record { 0 = n })) renewed_is ∙ renewed-is o state new inside.table later.table n home holds.table full numbers at in
            let risen_at = raised-at renewed 1 (n - 1) inside.epochs.items (omega (arith, low, high, one)) in
            risen (is_renewed state preds home) (is_among renewed (record { 0 = 1 + (n - 1) })) (state.epochs home) (slice_index_or inside.epochs.items (n - 1) 0) test (holds.epochs.each n home at)
            ∙ sym risen_at ∙ ap (λ l. slice_index_or l (n - 1) 0) (sym epochs_are);
      };
      table = record { limit_is = full.limit_is; table_is = record { homes_are = full.table_is.homes_are; given_is = full.table_is.given_is; live_is = full.table_is.live_is; is_table = full.table_is.is_table }; unmarked = full.unmarked; rest = full.rest; words = full.words };
      waiting = record {
        is_for = waits.is_for;
        rule_is = waits.rule_is;
        room_is = waits.room_is;
        given_is = waits.given_is;
        live_is = waits.live_is;
        opens = λ still j. (
          λ is_open. pending-of o added after (instance_of j) (λ task q. record { has_kind = q.has_kind; leads = q.leads; present = q.present; not_done = q.not_done; not_held = q.not_held }) ((waits.opens still j).0 is_open),
          λ pending. (waits.opens still j).1 (pending-of o after added (instance_of j) (λ task p. record { has_kind = p.has_kind; leads = p.leads; present = p.present; not_done = p.not_done; not_held = p.not_held }) pending),
        );
      };
      holds = record { one_each = holds.holds.one_each; each = holds.holds.each; homes_are = holds.holds.homes_are };
      claims = subst (AreClaims o.workers after) (sym claims_are)
          (fewer-claims o state after inside w holds allowed.worker (claimed-gone state.claims w) (λ v other. claimed-other state.claims w v other));
      published = holds.published;
      refined = let before = holds.refined in omega (arith, before);
      stop = subst (λ items. IsStopAt after items inside.stopped) (sym journal) (stop-still state after inside.journal.items event inside.stopped refl holds.stop);
    } in
    kept-event inside later event kept (ap (λ x. (Inside.program x).now) same) (ap (λ x. opening_of (seen x)) same) (ap (λ x. Inside.limits x) same) (ap (λ x. Inside.workers x) same)
    journal capacity (subst (Allows o state) (sym event_is) allowed) (subst (λ e. Holds o (effect o state e) later) (sym event_is) (subst (Holds o after) (sym same) made))

-- so many facts go
pub gone-count : (inside : Inside) (new : List StoredPredicate) (left : List LiveFact) (gone : ℕ) → IsKept inside → AreLeft inside.program.now new inside.table.live left
    → gone + length left ≡ length inside.table.live → gone ≡ gone_with (state_of (seen inside)) (predicates_of_stored inside.program.now new)
gone-count inside new left gone kept are count =
    let program = inside.program.now in
    let s = state_of (seen inside) in
    let preds = predicates_of_stored program new in
    let live = kept.holds.table.table_is.live_is in
    let all : length s.live ≡ length inside.table.live = ap (λ l. length l) live ∙ length-newest program inside.table.live in
    let some : length (remaining (is_changed preds) s.live) ≡ length left =
    ap (λ l. length (remaining (is_changed preds) l)) live ∙ ap (λ l. length l) (sym are.newest_is) ∙ length-newest program left in
    omega (arith, all, some, count)
