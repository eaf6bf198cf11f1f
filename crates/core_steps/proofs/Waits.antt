-- Which instances are pending after an event.
use Rattle.std.proofs.Common.{◌≡◌, ◌≢◌, ◌⊎◌, ◌≤◌, ◌+◌, ℕ, true, false, List, [], ◌∷◌, Some, None, refl, sym, ap, ap₂, subst, ◌∙◌, inl, inr, arith}
use Rattle.std.specs.Prelude.{option_map}
use Rattle.std.specs.List.{AllByRecursion, Contains}
use Rattle.lin_rows.proofs.Lists.{AllByRecursion-weaken}
use Rattle.transition_formula.specs.Program.{Program}
use Rattle.horn_rules.specs.Home.{Home}
use Rattle.horn_rules.specs.Fact.{Fact}
use Rattle.horn_rules.specs.Instance.{Instance, Init, Own, Guar, Env, Inter, HasKind, premises_of, map_instance}
use Rattle.horn_rules.specs.Target.{target_at}
use Rattle.horn_rules.proofs.Lists.{Contains-first, Contains-later, first-or-later, contains-nothing, all-contained}
use Rattle.horn_rules.proofs.InstanceLists.{is-eq}
use Rattle.derivation_tree.specs.Facts.{KeptFact, fact_at, home_at, target_among}
use Rattle.core_steps.specs.State.{Opening, State, Task, Hold, held_by, holds_without}
use Rattle.core_steps.specs.Pending.{same_task, is_done, is_held, IsPending, is_present}
use Rattle.core_steps.specs.inside.Parts.{IsPendingOf}
use Rattle.core_steps.proofs.Tests.{tells, true-false, neither, any-from, none-at, same_task-is, is-same_task}
use Rattle.core_steps.proofs.Keeps.{Keeps, without-from}
use Rattle.core_steps.proofs.Events.{leads-found}
use Rattle.core_steps.proofs.Workers.{AreApart, by_worker, held_by-is, by_worker-found, found-by_worker, not-eq, is-or-not}
use Rattle.core_steps.proofs.Counts.{holder}
use Rattle.core_steps.proofs.PresentTasks.{pending-present}

-- ---- done and held

pub not-done : (state : State) (task : Task) → ((other : Task) → Contains state.published other → task ≢ other) → is_done state task ≡ false
not-done state task never = elim (tells (is_done state task)) [
  | inl done ↦ let (other, there, same) = any-from (same_task task) state.published done in absurd (never other there (same_task-is task other same))
  | inr miss ↦ miss
]

pub not-held : (state : State) (task : Task) → ((hold : Hold) → Contains state.holds hold → task ≢ hold.task) → is_held state task ≡ false
not-held state task never = elim (tells (is_held state task)) [
  | inl held ↦ let (hold, there, same) = any-from (λ h. same_task task (Hold.task h)) state.holds held in absurd (never hold there (same_task-is task hold.task same))
  | inr miss ↦ miss
]

pub done-never : (state : State) (task other : Task) → is_done state task ≡ false → Contains state.published other → task ≢ other
done-never state task other none there same =
    true-false (same_task task other) (subst (λ t. same_task task t ≡ true) same (is-same_task task)) (none-at (same_task task) state.published other none there)

pub held-never : (state : State) (task : Task) (hold : Hold) → is_held state task ≡ false → Contains state.holds hold → task ≢ hold.task
held-never state task hold none there same =
    true-false (same_task task hold.task) (subst (λ t. same_task task t ≡ true) same (is-same_task task)) (none-at (λ h. same_task task (Hold.task h)) state.holds hold none there)

-- what a worker holds is one of the jobs that are held
pub held-there : (state : State) (w : ℕ) (task : Task) → held_by state.holds w ≡ Some task → (hold : Hold) × Contains state.holds hold × (hold.worker ≡ w) × (hold.task ≡ task)
held-there state w task held = by_worker-found holder (λ (hold : Hold). hold.task) state.holds w task (sym (held_by-is state.holds w) ∙ held)

-- a job of the worker is the one that it holds
pub own-job : (state : State) (w : ℕ) (task : Task) (hold : Hold) → AreApart holder state.holds → held_by state.holds w ≡ Some task → Contains state.holds hold → hold.worker ≡ w → hold.task ≡ task
own-job state w task hold apart held there own =
    let found = found-by_worker holder (λ (h : Hold). h.task) state.holds hold apart there in
    let same : Some hold.task ≡ Some task = sym found ∙ sym (held_by-is state.holds hold.worker) ∙ ap (held_by state.holds) own ∙ held in
    cc

-- what others hold is still held
still-held : (holds : List Hold) (w : ℕ) (hold : Hold) → Contains holds hold → hold.worker ≢ w → Contains (holds_without w holds) hold
still-held [] w hold there other = absurd (contains-nothing hold there)
still-held (h ∷ hs) w hold there other = elim (is-or-not h.worker w) [
  | inl same ↦
      let hit = is-eq h.worker w same in
      let l : holds_without w (h ∷ hs) ≡ holds_without w hs = rw hit refl in
      elim (first-or-later h hold hs there) [
        | inl first ↦ absurd (other (sym (ap (λ x. Hold.worker x) first) ∙ same))
        | inr later ↦ subst (λ xs. Contains xs hold) (sym l) (still-held hs w hold later other)
      ]
  | inr apart ↦
      let miss = not-eq h.worker w apart in
      let l : holds_without w (h ∷ hs) ≡ h ∷ holds_without w hs = rw miss refl in
      subst (λ xs. Contains xs hold) (sym l) (elim (first-or-later h hold hs there) [
        | inl first ↦ subst (Contains (h ∷ holds_without w hs)) first (Contains-first h (holds_without w hs))
        | inr later ↦ Contains-later h hold (holds_without w hs) (still-held hs w hold later other)
      ])
]

-- ---- a take

pub pending-taken : (opening : Opening) (state : State) (w : ℕ) (task : Task) (instance : Instance ℕ) → IsPending opening state task
    → (IsPendingOf opening (record state { holds = record { worker = w; task = task } ∷ state.holds }) instance → IsPendingOf opening state instance × (instance ≢ task.instance))
    × (IsPendingOf opening state instance → instance ≢ task.instance → IsPendingOf opening (record state { holds = record { worker = w; task = task } ∷ state.holds }) instance)
pending-taken opening state w task instance pending = (left, right)
  where
    more : Hold
    more = record { worker = w; task = task }

    later : State
    later = record state { holds = more ∷ state.holds }

    left : IsPendingOf opening later instance → IsPendingOf opening state instance × (instance ≢ task.instance)
    left (other, is, after) =
        let (fresh, before) = neither (same_task other task) (is_held state other) after.not_held in (
          (other, is, record { has_kind = after.has_kind; leads = after.leads; present = after.present; not_done = after.not_done; not_held = before }),
          λ same.
              let named : other.instance ≡ task.instance = is ∙ same in
              let homes : Some other.home ≡ Some task.home = sym after.leads ∙ ap (target_among opening.program state.live) named ∙ pending.leads in
              let home : other.home ≡ task.home = cc in
              let epoch : other.epoch ≡ task.epoch = after.present ∙ ap state.epochs home ∙ sym pending.present in
              let equal : other ≡ task = task-same other task named home epoch in
              true-false (same_task other task) (subst (λ t. same_task other t ≡ true) equal (is-same_task other)) fresh,
        )
      where
        task-same : (one two : Task) → one.instance ≡ two.instance → one.home ≡ two.home → one.epoch ≡ two.epoch → one ≡ two
        task-same one two p q r =
            ap (λ i. record one { instance = i }) p ∙ ap (λ h. record two { home = h; epoch = one.epoch }) q ∙ ap (λ n. record two { epoch = n }) r

    right : IsPendingOf opening state instance → instance ≢ task.instance → IsPendingOf opening later instance
    right (other, is, before) apart = (
      other,
      is,
      record {
        has_kind = before.has_kind;
        leads = before.leads;
        present = before.present;
        not_done = before.not_done;
        not_held = not-held later other (λ hold there same. elim (first-or-later more hold state.holds there) [
          | inl first ↦ apart (sym is ∙ ap (λ t. Task.instance t) (same ∙ ap (λ h. Hold.task h) (sym first)))
          | inr rest ↦ held-never state other hold before.not_held rest same
        ]);
      },
    )

-- ---- a publish

-- what is done, held and live, where a job is published
pub pending-published : (opening : Opening) (state : State) (w : ℕ) (task other : Task) → AreApart holder state.holds → held_by state.holds w ≡ Some task
    → let later : State = record state { published = task ∷ state.published; holds = holds_without w state.holds } in
    (IsPending opening later other → IsPending opening state other) × (IsPending opening state other → IsPending opening later other)
pending-published opening state w task other apart_holds held = (left, right)
  where
    later : State
    later = record state { published = task ∷ state.published; holds = holds_without w state.holds }

    left : IsPending opening later other → IsPending opening state other
    left after =
        let (fresh, before) = neither (same_task other task) (is_done state other) after.not_done in
        record {
          has_kind = after.has_kind;
          leads = after.leads;
          present = after.present;
          not_done = before;
          not_held = not-held state other (λ hold there same. elim (is-or-not hold.worker w) [
            | inl own ↦
                let its = own-job state w task hold apart_holds held there own in
                true-false (same_task other task) (subst (λ t. same_task other t ≡ true) (same ∙ its) (is-same_task other)) fresh
            | inr apart ↦ held-never later other hold after.not_held (still-held state.holds w hold there apart) same
          ]);
        }

    right : IsPending opening state other → IsPending opening later other
    right before =
        let (own, there_own, worker_is, task_is) = held-there state w task held in
        record {
          has_kind = before.has_kind;
          leads = before.leads;
          present = before.present;
          not_done = not-done later other (λ done there same. elim (first-or-later task done state.published there) [
            | inl first ↦ held-never state other own before.not_held there_own (same ∙ sym first ∙ sym task_is)
            | inr rest ↦ done-never state other done before.not_done rest same
          ]);
          not_held = not-held later other (λ hold there same. held-never state other hold before.not_held (without-from w state.holds hold there).0 same);
        }

-- where one is dropped that is stale
pub pending-dropped : (opening : Opening) (state : State) (w : ℕ) (other : Task) → AreApart holder state.holds
    → ((task : Task) → held_by state.holds w ≡ Some task → is_present state task ≡ false)
    → (IsPending opening (record state { holds = holds_without w state.holds }) other → IsPending opening state other)
    × (IsPending opening state other → IsPending opening (record state { holds = holds_without w state.holds }) other)
pending-dropped opening state w other apart_holds stale = (left, right)
  where
    later : State
    later = record state { holds = holds_without w state.holds }

    left : IsPending opening later other → IsPending opening state other
    left after = record {
      has_kind = after.has_kind;
      leads = after.leads;
      present = after.present;
      not_done = after.not_done;
      not_held = not-held state other (λ hold there same. elim (is-or-not hold.worker w) [
        | inl own ↦
            let held : held_by state.holds w ≡ Some hold.task =
            held_by-is state.holds w ∙ ap (λ v. by_worker holder (λ (h : Hold). h.task) state.holds v) (sym own)
            ∙ found-by_worker holder (λ (h : Hold). h.task) state.holds hold apart_holds there in
            let present : is_present state other ≡ true = pending-present opening later other after in
            true-false (is_present state other) present (ap (is_present state) same ∙ stale hold.task held)
        | inr apart ↦ held-never later other hold after.not_held (still-held state.holds w hold there apart) same
      ]);
    }

    right : IsPending opening state other → IsPending opening later other
    right before = record {
      has_kind = before.has_kind;
      leads = before.leads;
      present = before.present;
      not_done = before.not_done;
      not_held = not-held later other (λ hold there same. held-never state other hold before.not_held (without-from w state.holds hold there).0 same);
    }

-- ---- a new fact

-- an instance names the id
abbrev pub Names : Instance ℕ → ℕ → Type 0
Names instance id = Contains (premises_of instance) id

names-or-not : (ids : List ℕ) (id : ℕ) → Contains ids id ⊎ AllByRecursion (λ other. other ≢ id) ids
names-or-not [] id = inr tt
names-or-not (x ∷ xs) id = elim (is-or-not x id) [
  | inl same ↦ inl (subst (Contains (x ∷ xs)) same (Contains-first x xs))
  | inr other ↦ elim (names-or-not xs id) [
    | inl there ↦ inl (Contains-later x id xs there)
    | inr none ↦ inr (other, none)
  ]
]

home_at-older : (f : KeptFact) (live : List KeptFact) (id : ℕ) → id ≢ f.id → home_at (f ∷ live) id ≡ home_at live id
home_at-older f live id other = let miss = not-eq f.id id (λ e. other (sym e)) in let at : fact_at (f ∷ live) id ≡ fact_at live id = rw miss refl in ap (option_map (λ fact. Fact.home fact)) at

-- what does not name it leads where it led
pub target-older : (program : Program) (f : KeptFact) (live : List KeptFact) (instance : Instance ℕ) → AllByRecursion (λ id. id ≢ f.id) (premises_of instance)
    → target_among program (f ∷ live) instance ≡ target_among program live instance
target-older program f live (Init i) all = refl
target-older program f live (Own g e) all = ap (λ o. target_at program (Own g e) o None) (home_at-older f live g all.0)
target-older program f live (Guar g e) all = ap (λ o. target_at program (Guar g e) o None) (home_at-older f live g all.0)
target-older program f live (Env g t) all = ap₂ (target_at program (Env g t)) (home_at-older f live g all.0) (home_at-older f live t all.1.0)
target-older program f live (Inter g h e) all = ap₂ (target_at program (Inter g h e)) (home_at-older f live g all.0) (home_at-older f live h all.1.0)

-- the task of an instance that leads, in its home's epoch
abbrev pub task_at : State → Instance ℕ → Home → Task
task_at state instance home = record { instance = instance; home = home; epoch = state.epochs home }

-- where a fact comes: what was pending, and what names the fact and leads
pub pending-more : (opening : Opening) (state : State) (f : KeptFact) (instance : Instance ℕ) → Keeps opening state → f.id ≡ state.given + 1
    → let later : State = record state { live = f ∷ state.live; given = f.id } in
    (IsPendingOf opening later instance → IsPendingOf opening state instance ⊎ (HasKind opening.rule instance × ((home : Home) × (target_among opening.program later.live instance ≡ Some home)) × Names instance f.id))
    × (IsPendingOf opening state instance ⊎ (HasKind opening.rule instance × ((home : Home) × (target_among opening.program later.live instance ≡ Some home)) × Names instance f.id)
    → IsPendingOf opening later instance)
pending-more opening state f instance keeps next = (left, right)
  where
    later : State
    later = record state { live = f ∷ state.live; given = f.id }

    old-apart : (ids : List ℕ) → AllByRecursion (λ id. id ≤ state.given) ids → AllByRecursion (λ id. id ≢ f.id) ids
    old-apart [] all = tt
    old-apart (id ∷ ids) all = ((λ same. let le = all.0 in omega (arith, same, le, next)), old-apart ids all.1)

    older : AllByRecursion (λ id. id ≢ f.id) (premises_of instance) → (other : Task) → other.instance ≡ instance
        → target_among opening.program (f ∷ state.live) other.instance ≡ target_among opening.program state.live other.instance
    older none other is = target-older opening.program f state.live other.instance (subst (λ i. AllByRecursion (λ id. id ≢ f.id) (premises_of i)) (sym is) none)

    left : IsPendingOf opening later instance
        → IsPendingOf opening state instance ⊎ (HasKind opening.rule instance × ((home : Home) × (target_among opening.program (f ∷ state.live) instance ≡ Some home)) × Names instance f.id)
    left (other, is, after) = elim (names-or-not (premises_of instance) f.id) [
      | inl names ↦ inr (subst (HasKind opening.rule) is after.has_kind, (other.home, ap (target_among opening.program (f ∷ state.live)) (sym is) ∙ after.leads), names)
      | inr none ↦ inl (
        other,
        is,
        record { has_kind = after.has_kind; leads = sym (older none other is) ∙ after.leads; present = after.present; not_done = after.not_done; not_held = after.not_held },
      )
    ]

    right : IsPendingOf opening state instance ⊎ (HasKind opening.rule instance × ((home : Home) × (target_among opening.program (f ∷ state.live) instance ≡ Some home)) × Names instance f.id)
        → IsPendingOf opening later instance
    right (inl (other, is, before)) =
        let found = leads-found opening.program state.live other.instance other.home before.leads in
        let ids = AllByRecursion-weaken (Contains state.live) (λ (g : KeptFact). g.id ≤ state.given)
        (λ g there. all-contained (λ (h : KeptFact). h.id ≤ state.given) state.live g keeps.old there) (premises_of found.premises) found.are_live in
        let olds : AllByRecursion (λ id. id ≤ state.given) (premises_of other.instance) =
        subst (λ i. AllByRecursion (λ id. id ≤ state.given) (premises_of i)) found.ids (all-ids found.premises ids) in (
          other,
          is,
          record {
            has_kind = before.has_kind;
            leads = target-older opening.program f state.live other.instance (old-apart (premises_of other.instance) olds) ∙ before.leads;
            present = before.present;
            not_done = before.not_done;
            not_held = before.not_held;
          },
        )
      where
        all-ids : (premises : Instance KeptFact) → AllByRecursion (λ (g : KeptFact). g.id ≤ state.given) (premises_of premises)
            → AllByRecursion (λ id. id ≤ state.given) (premises_of (map_instance (λ (g : KeptFact). g.id) premises))
        all-ids (Init i) all = tt
        all-ids (Own g e) all = (all.0, tt)
        all-ids (Guar g e) all = (all.0, tt)
        all-ids (Env g t) all = (all.0, (all.1.0, tt))
        all-ids (Inter g h e) all = (all.0, (all.1.0, tt))
    right (inr (kind, (home, leads), names)) = (
      task_at state instance home,
      refl,
      record {
        has_kind = kind;
        leads = leads;
        present = refl;
        not_done = not-done later (task_at state instance home) (λ done there same. never done.instance (ap (λ t. Task.instance t) same) (keeps.published_taken done there).old);
        not_held = not-held later (task_at state instance home) (λ hold there same. never hold.task.instance (ap (λ t. Task.instance t) same) (keeps.held_taken hold there).old);
      },
    )
      where
        never : (other : Instance ℕ) → instance ≡ other → AllByRecursion (λ id. id ≤ state.given) (premises_of other) → ⊥
        never other same olds =
            let le : f.id ≤ state.given = all-contained (λ id. id ≤ state.given) (premises_of other) f.id olds (subst (λ i. Names i f.id) same names) in
            omega (arith, le, next)
