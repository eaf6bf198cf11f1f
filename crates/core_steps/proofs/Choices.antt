-- What is chosen is pending.
use Rattle.std.proofs.Common.{◌≡◌, ℕ, Some, None, refl, sym, ap, ◌∙◌, inl, inr}
use Rattle.std.specs.Prelude.{unwrap_or}
use Rattle.transition_formula.specs.Program.{Program}
use Rattle.horn_rules.specs.Home.{Home, State as AtLocation, Env as AtEdge}
use Rattle.horn_rules.specs.Instance.{Instance, Init, Own, Guar, Env, Inter}
use Rattle.horn_rules.specs.Stored.{home_numbered, instance_of}
use Rattle.thr_base.specs.declared.names.Instance.{Instance as StoredInstance}
use Rattle.fact_table.specs.Table.{FactTable}
use Rattle.derivation_tree.specs.Facts.{target_among}
use Rattle.derivation_tree.specs.Tree.{thread_of}
use Rattle.instance_cursors.specs.declared.choosing.Next.{Next}
use Rattle.pending_instances.specs.Calls.{Waiting, IsOpen, IsNext, NoneIsOpen, thread_of_home}
use Rattle.pending_instances.specs.Open.{IsTarget, target_in}
use Rattle.core_steps.specs.State.{Opening, State, Task}
use Rattle.core_steps.specs.inside.Parts.{IsFullTable, IsWaiting}
use Rattle.core_steps.specs.inside.Taking.{IsNextOf, IsChosen, NonePending, IsNotPending}
use Rattle.core_steps.proofs.KeptEvents.{stored_of}
use Rattle.core_steps.proofs.TableFacts.{target-newest}

same-stored : (instance : Instance ℕ) → instance_of (stored_of instance) ≡ instance
same-stored (Init i) = refl
same-stored (Own f e) = refl
same-stored (Guar f e) = refl
same-stored (Env f t) = refl
same-stored (Inter f g e) = refl

same-thread : (home : Home) → thread_of_home home ≡ thread_of home
same-thread (AtLocation i l) = refl
same-thread (AtEdge i e) = refl

pub none-pending : (opening : Opening) (state : State) (table : FactTable) (waiting : Waiting) → IsWaiting opening state table waiting → state.stop ≡ None → NoneIsOpen waiting → NonePending opening state
none-pending opening state table waiting is none closed task pending =
    let (home, open_there) = (is.opens none (stored_of task.instance)).1 (task, sym (same-stored task.instance), pending) in closed (stored_of task.instance) home open_there

-- where instances lead, by the table and by the state
pub led-alike : (program : Program) (limit : ℕ) (state : State) (table : FactTable) (instance : StoredInstance) → IsFullTable program limit state table
    → target_in program table.live instance ≡ target_among program state.live (instance_of instance)
led-alike program limit state table instance is =
    sym (target-newest program table.live instance is.table_is.is_table.ids_rise) ∙ ap (λ live. target_among program live (instance_of instance)) (sym is.table_is.live_is)

pub next-of : (opening : Opening) (state : State) (table : FactTable) (waiting : Waiting) (next : Next) → IsFullTable opening.program opening.limits.facts state table → IsWaiting opening state table waiting
    → state.stop ≡ None → IsOpen waiting next.instance → IsTarget opening.program waiting.live next.instance next.home
    → (task : Task) × IsNextOf opening state next task
next-of opening state table waiting next full is none is_open aimed =
    let (task, named, pending) = (is.opens none next.instance).0 is_open in
    let led : Some aimed.target ≡ Some task.home =
    sym aimed.target_is ∙ ap (λ live. target_in opening.program live next.instance) is.live_is ∙ led-alike opening.program opening.limits.facts state table next.instance full
    ∙ ap (target_among opening.program state.live) (sym named) ∙ pending.leads in
    (task, record { instance_is = named; home_is = aimed.number_is ∙ led; pending = pending })

pub is-chosen : (opening : Opening) (state : State) (table : FactTable) (waiting : Waiting) (w : ℕ) (next : Next) → IsFullTable opening.program opening.limits.facts state table
    → IsWaiting opening state table waiting → state.stop ≡ None → IsNext w waiting next → IsChosen opening state w next
is-chosen opening state table waiting w next full is none chosen =
    let (task, of) = next-of opening state table waiting next full is none chosen.is_open (chosen.target_is opening.program is.is_for) in
    let home : home_numbered opening.program next.home.0 ≡ task.home = ap (λ o. unwrap_or o (AtLocation 0 0)) of.home_is in (
      task,
      of,
      λ other pending own. elim (chosen.prefers opening.program is.is_for) [
        | inl own_thread ↦ sym (same-thread task.home) ∙ ap thread_of_home (sym home) ∙ own_thread
        | inr never ↦
            let open_other = (is.opens none (stored_of other.instance)).1 (other, sym (same-stored other.instance), pending) in
            let leads : target_in opening.program waiting.live (stored_of other.instance) ≡ Some other.home =
            ap (λ live. target_in opening.program live (stored_of other.instance)) is.live_is ∙ led-alike opening.program opening.limits.facts state table (stored_of other.instance) full
            ∙ ap (target_among opening.program state.live) (same-stored other.instance) ∙ pending.leads in
            absurd (never (stored_of other.instance) other.home open_other leads (same-thread other.home ∙ own))
      ],
    )

pub not-this : (opening : Opening) (state : State) (table : FactTable) (waiting : Waiting) (instance : StoredInstance) → IsWaiting opening state table waiting → state.stop ≡ None → (¬ IsOpen waiting instance)
    → IsNotPending opening state instance
not-this opening state table waiting instance is none closed pending = closed ((is.opens none instance).1 pending)
