-- What a core keeps when it opens.
use Rattle.std.proofs.Common.{◌≡◌, ◌≤◌, ◌-◌, ℕ, zero, suc, List, [], length, map, get_or, replicate, Option, Some, None, refl, sym, ap, subst, ◌∙◌, arith}
use Rattle.std.specs.Prelude.{option_map}
use Rattle.std.specs.List.{slice_get}
use Rattle.std.specs.Vec.{vec_capacity}
use Rattle.std.proofs.lemmas.List.{length-replicate}
use Rattle.thr_base.specs.Limits.{AreAllowed, most_workers}
use Rattle.thr_base.specs.declared.names.FactId.{FactId}
use Rattle.thr_base.specs.declared.names.Instance.{Instance as StoredInstance}
use Rattle.transition_formula.specs.Program.{Program, IsProgram}
use Rattle.fact_table.specs.Table.{FactTable, no_facts}
use Rattle.horn_rules.specs.Home.{homes}
use Rattle.horn_rules.specs.Instance.{HasKind}
use Rattle.horn_rules.specs.Laws.{AreSetsByNumber}
use Rattle.horn_rules.specs.Stored.{AreStoredSetsOf, instance_of}
use Rattle.horn_rules.proofs.StoredSets.{sets-by-number}
use Rattle.predicate_sets.specs.Sets.{set_at}
use Rattle.derivation_tree.specs.Facts.{target_among}
use Rattle.pending_instances.specs.Calls.{Begins, Waiting}
use Rattle.pending_instances.specs.Open.{Leads, target_in}
use Rattle.core_steps.specs.declared.held.Held.{Held}
use Rattle.core_steps.specs.declared.stored_core.Core.TheInside.{Inside}
use Rattle.core_steps.specs.After.{after}
use Rattle.core_steps.specs.Course.{opening_of}
use Rattle.core_steps.specs.Event.{History}
use Rattle.core_steps.specs.Laws.{most_events}
use Rattle.core_steps.specs.Legal.{IsLegal}
use Rattle.core_steps.specs.State.{Opening, start_of}
use Rattle.core_steps.specs.Stored.{history_of}
use Rattle.core_steps.specs.inside.Kept.{Holds, IsKept, seen}
use Rattle.core_steps.specs.inside.Parts.{AreClaims, AreEpochs, AreHolds, IsFullTable, IsPendingOf, IsStopAt, IsWaiting}
use Rattle.core_steps.proofs.TableFacts.{target-newest}

-- each element of a list of one element over and over is that one
slice_get-replicate : {X : Type 0} (n k : ℕ) (x y : X) → slice_get (replicate n x) k ≡ Some y → x ≡ y
slice_get-replicate zero k x y at = cc
slice_get-replicate (suc n) zero x y at = cc
slice_get-replicate (suc n) (suc k) x y at = slice_get-replicate n k x y at

-- of what is no element, nothing but nothing is a clone
pub none_only : {X : Type 0} (Clones : Option X → Type 0) → ((x : X) → Clones (Some x) → ⊥) → (y : Option X) → Clones y → y ≡ None
none_only Clones apart None is = refl
none_only Clones apart (Some x) is = absurd (apart x is)

get_or-same : (n k x : ℕ) → get_or (replicate n x) k x ≡ x
get_or-same zero k x = refl
get_or-same (suc n) zero x = refl
get_or-same (suc n) (suc k) x = get_or-same n k x

-- ---- the parts

lists-opened : (program : Program) (start : List _) → AreStoredSetsOf program start → AreSetsByNumber program start
lists-opened program start are = sets-by-number program start are

epochs-opened : (opening : Opening) (epochs : List ℕ) → epochs ≡ replicate (length (homes opening.program)) 0 → AreEpochs opening.program (start_of opening) epochs
epochs-opened opening epochs same = record {
  one_each = ap length same ∙ length-replicate (length (homes opening.program)) 0;
  each = λ n home at. sym (ap (λ (xs : List ℕ). get_or xs (n - 1) 0) same ∙ get_or-same (length (homes opening.program)) (n - 1) 0);
}

table-opened : (opening : Opening) (table : FactTable) → table ≡ no_facts (length (homes opening.program)) opening.limits.facts
    → IsFullTable opening.program opening.limits.facts (start_of opening) table
table-opened opening table same =
    let Full : FactTable → Type 0 = λ t. IsFullTable opening.program opening.limits.facts (start_of opening) t in
    subst Full (sym same) (record {
      limit_is = refl;
      table_is = record {
        homes_are = refl;
        given_is = refl;
        live_is = refl;
        is_table = record { few = omega arith; ids_rise = tt; ids_given = tt; at_homes = tt; distinct = tt };
      };
      unmarked = tt;
      rest = tt;
      words = tt;
    })

-- where nothing is live, what leads is pending
led-alike : (program : Program) (instance : StoredInstance) → target_among program [] (instance_of instance) ≡ target_in program [] instance
led-alike program instance = target-newest program [] instance tt

waits-opened : (opening : Opening) (instance : StoredInstance) → (Leads opening.program opening.rule [] instance → IsPendingOf opening (start_of opening) (instance_of instance))
    × (IsPendingOf opening (start_of opening) (instance_of instance) → Leads opening.program opening.rule [] instance)
waits-opened opening instance = (
  λ leads. (
    record { instance = instance_of instance; home = leads.target; epoch = 0 },
    refl,
    record { has_kind = leads.has_kind; leads = led-alike opening.program instance ∙ leads.target_is; present = refl; not_done = refl; not_held = refl },
  ),
  λ (task, is, pending). record {
    has_kind = subst (HasKind opening.rule) is pending.has_kind;
    target = task.home;
    target_is = sym (led-alike opening.program instance) ∙ ap (target_among opening.program []) (sym is) ∙ pending.leads;
  },
)

waiting-opened : (opening : Opening) (table : FactTable) (waiting : Waiting) → table ≡ no_facts (length (homes opening.program)) opening.limits.facts
    → Begins opening.program opening.rule opening.limits.facts waiting → IsWaiting opening (start_of opening) table waiting
waiting-opened opening table waiting same begins = record {
  is_for = begins.is_for;
  rule_is = begins.rule_is;
  room_is = begins.room_is;
  given_is = begins.given_is ∙ sym (ap (λ t. FactTable.given t) same);
  live_is = begins.live_is ∙ sym (ap (λ t. FactTable.live t) same);
  opens = λ none j. let waits = waits-opened opening j in (λ is_open. waits.0 ((begins.opens j).0 is_open), λ pending. (begins.opens j).1 (waits.1 pending));
}

holds-opened : (opening : Opening) (holds : List (Option Held)) → holds ≡ replicate opening.workers None → AreHolds opening.program opening.workers (start_of opening) holds
holds-opened opening holds same =
    let Are : List (Option Held) → Type 0 = λ hs. AreHolds opening.program opening.workers (start_of opening) hs in
    subst Are (sym same) (record {
      one_each = length-replicate opening.workers None;
      each = λ place held at. let none = slice_get-replicate opening.workers place None held at in ap (option_map _) none;
      homes_are = λ place held at. let none = slice_get-replicate opening.workers place None (Some held) at in cc;
    })

claims-opened : (opening : Opening) (claims : List (Option FactId)) → claims ≡ replicate opening.workers None → AreClaims opening.workers (start_of opening) claims
claims-opened opening claims same =
    let Are : List (Option FactId) → Type 0 = λ cs. AreClaims opening.workers (start_of opening) cs in
    subst Are (sym same) (record {
      one_each = length-replicate opening.workers None;
      each = λ place root at. let none = slice_get-replicate opening.workers place None root at in ap (option_map (λ (id : FactId). id.0)) none;
    })

-- ---- the whole

-- The parts of a core that opens.
pub record AreOpened (inside : Inside) : Type 0 where
  pub is_program : IsProgram inside.program.now
  pub start : AreStoredSetsOf inside.program.now inside.start
  pub limits : AreAllowed inside.limits
  pub some_workers : 1 ≤ inside.workers
  pub few_workers : inside.workers ≤ most_workers
  pub sets : inside.sets ≡ inside.start
  pub lists : map (λ list. list.value) inside.lists.items ≡ inside.start
  pub epochs : inside.epochs.items ≡ replicate (length (homes inside.program.now)) 0
  pub table : inside.table ≡ no_facts (length (homes inside.program.now)) inside.limits.facts
  pub waiting : Begins inside.program.now inside.rule inside.limits.facts inside.waiting
  pub holds : inside.holds.items ≡ replicate inside.workers None
  pub claims : inside.claims.items ≡ replicate inside.workers None
  pub published : inside.published ≡ 0
  pub refined : inside.refined ≡ 0
  pub stopped : inside.stopped ≡ None
  pub journal : inside.journal.items ≡ []
  pub room : most_events inside.limits inside.workers ≤ vec_capacity inside.journal

pub kept-opened : (inside : Inside) → AreOpened inside → IsKept inside
kept-opened inside is =
    let o = opening_of (seen inside) in
    let numbered = lists-opened o.program inside.start is.start in
    let Kept_at : History → Type 0 = λ h. IsLegal o h × Holds o (after o h) inside in
    let empty : history_of o.program inside.journal.items ≡ [] = ap (history_of o.program) is.journal in
    let made : Holds o (start_of o) inside = record {
      lists = record {
        one_each = ap length is.sets ∙ is.start.one_each;
        each = λ n home at. numbered.each n home at ∙ sym (ap (λ sets. set_at sets n) is.sets);
      };
      shared = is.lists ∙ sym is.sets;
      epochs = epochs-opened o inside.epochs.items is.epochs;
      table = table-opened o inside.table is.table;
      waiting = waiting-opened o inside.table inside.waiting is.table is.waiting;
      holds = holds-opened o inside.holds.items is.holds;
      claims = claims-opened o inside.claims.items is.claims;
      published = sym is.published;
      refined = sym is.refined;
      stop = subst (λ (s : Option ℕ). IsStopAt (start_of o) inside.journal.items s) (sym is.stopped) refl;
    } in
    let kept = subst Kept_at (sym empty) (tt, made) in
    record {
      opening = record {
        is_program = is.is_program;
        are_sets = numbered.sets_are;
        are_allowed = is.limits;
        some_workers = is.some_workers;
        few_workers = is.few_workers;
      };
      legal = kept.0;
      holds = kept.1;
      room = is.room;
    }
