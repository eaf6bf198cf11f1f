-- Each event that is allowed keeps what is kept.
use Rattle.std.proofs.Common.{◌≡◌, ◌≢◌, ◌<◌, ◌≤◌, ◌+◌, ℕ, false, List, ◌∷◌, map, Option, Some, None, refl, sym, ap, ap₂, subst, ◌∙◌, inl, inr, arith}
use Rattle.std.specs.Prelude.{option_map}
use Rattle.std.specs.List.{AllByRecursion, Contains}
use Rattle.std.proofs.lemmas.List.Elements.{Contains-get_or}
use Rattle.std.proofs.lemmas.List.Kept.{AllPairs-cons}
use Rattle.lin_rows.proofs.Lists.{AllByRecursion-weaken}
use Rattle.transition_formula.specs.Program.{Program}
use Rattle.horn_rules.specs.Home.{Home}
use Rattle.horn_rules.specs.Fact.{Fact}
use Rattle.horn_rules.specs.Instance.{Instance, Init, Own, Guar, Env, Inter, premises_of, map_instance}
use Rattle.horn_rules.specs.Case.{Case}
use Rattle.horn_rules.specs.Post.{IsFactOf}
use Rattle.horn_rules.specs.Target.{target_at}
use Rattle.horn_rules.proofs.Lists.{Contains-first, Contains-later, first-or-later, all-contained, Contains-map}
use Rattle.derivation_tree.specs.Facts.{KeptFact, fact_at, home_at, target_among}
use Rattle.core_steps.specs.State.{Opening, State, Task, Hold, held_by, holds_without}
use Rattle.core_steps.specs.Pending.{same_task, IsPending}
use Rattle.core_steps.specs.After.{with_job, with_published, with_fact, without_job}
use Rattle.core_steps.specs.Allowed.{IsOver, IsLiveFact, IsTake, Posts, IsNewPublish, IsSamePublish, IsNothingPublish}
use Rattle.core_steps.specs.Laws.{IsPosted}
use Rattle.core_steps.proofs.Tests.{true-false, none-at, is-same_task}
use Rattle.core_steps.proofs.Live.{Falls, fact_at-found, target_among-premises}
use Rattle.core_steps.proofs.Keeps.{WasTaken, Keeps, over-same, over-older, taken-later, without-from, held_by-found}

-- ---- a take

-- what leads to a home among live facts has live premises
pub record Found (live : List KeptFact) (instance : Instance ℕ) : Type 0 where
  pub premises : Instance KeptFact
  pub ids : map_instance (λ (f : KeptFact). f.id) premises ≡ instance
  pub are_live : AllByRecursion (Contains live) (premises_of premises)

record FoundFact (live : List KeptFact) (id : ℕ) : Type 0 where
  f : KeptFact
  there : Contains live f
  id_is : f.id ≡ id
  home_is : home_at live id ≡ Some f.fact.home

found-home : (live : List KeptFact) (id : ℕ) (target : Home) (k : Option Home → Option Home) → k None ≡ None → k (home_at live id) ≡ Some target → FoundFact live id
found-home live id target k none is = by-fact (fact_at live id) refl
  where
    by-fact : (o : Option Fact) → fact_at live id ≡ o → FoundFact live id
    by-fact None e =
        let gone : k (home_at live id) ≡ None = ap (λ o. k (option_map (λ fact. Fact.home fact) o)) e ∙ none in
        let wrong : None ≡ Some target = sym gone ∙ is in
        absurd cc
    by-fact (Some fact) e =
        let (f, there, id_is, same) = fact_at-found live id fact e in
        record {
          f = f;
          there = there;
          id_is = id_is;
          home_is = ap (option_map (λ fact. Fact.home fact)) e ∙ ap (λ fact. Some (Fact.home fact)) (sym same);
        }

pub leads-found : (program : Program) (live : List KeptFact) (instance : Instance ℕ) (target : Home) → target_among program live instance ≡ Some target → Found live instance
leads-found program live (Init i) target is = record { premises = Init i; ids = refl; are_live = tt }
leads-found program live (Own f e) target is =
    let one = found-home live f target (λ o. target_at program (Own f e) o None) refl is in
    record { premises = Own one.f e; ids = ap (λ n. Own n e) one.id_is; are_live = (one.there, tt) }
leads-found program live (Guar f e) target is =
    let one = found-home live f target (λ o. target_at program (Guar f e) o None) refl is in
    record { premises = Guar one.f e; ids = ap (λ n. Guar n e) one.id_is; are_live = (one.there, tt) }
leads-found program live (Env f t) target is =
    let one = found-home live f target (λ o. target_at program (Env f t) o (home_at live t)) refl is in
    let other = found-home live t target (λ o. target_at program (Env f t) (Some one.f.fact.home) o) refl (ap (λ o. target_at program (Env f t) o (home_at live t)) (sym one.home_is) ∙ is) in
    record { premises = Env one.f other.f; ids = ap₂ (λ m n. Env m n) one.id_is other.id_is; are_live = (one.there, (other.there, tt)) }
leads-found program live (Inter f g e) target is =
    let one = found-home live f target (λ o. target_at program (Inter f g e) o (home_at live g)) refl is in
    let other = found-home live g target (λ o. target_at program (Inter f g e) (Some one.f.fact.home) o) refl (ap (λ o. target_at program (Inter f g e) o (home_at live g)) (sym one.home_is) ∙ is) in
    record { premises = Inter one.f other.f e; ids = ap₂ (λ m n. Inter m n e) one.id_is other.id_is; are_live = (one.there, (other.there, tt)) }

-- what is pending may be taken
pending-taken : (opening : Opening) (state : State) (task : Task) → Keeps opening state → IsPending opening state task
    → WasTaken opening state.given state.live state.epochs task
pending-taken opening state task keeps pending =
    let found = leads-found opening.program state.live task.instance task.home pending.leads in
    let ids_old = AllByRecursion-weaken (Contains state.live) (λ (f : KeptFact). f.id ≤ state.given)
    (λ f there. all-contained (λ (g : KeptFact). g.id ≤ state.given) state.live f keeps.old there) (premises_of found.premises) found.are_live in
    record {
      has_kind = pending.has_kind;
      old = subst (λ i. AllByRecursion (λ id. id ≤ state.given) (premises_of i)) found.ids (all-ids found.premises ids_old);
      aimed = λ premises ids all home is.
          let among = ap (target_among opening.program state.live) (sym ids) ∙ target_among-premises opening.program state.live premises keeps.falls all in
          let same : Some task.home ≡ Some home = sym pending.leads ∙ among ∙ is in
          cc;
      epoch = let e = pending.present in omega (arith, e);
    }
  where
    all-ids : (premises : Instance KeptFact) → AllByRecursion (λ (f : KeptFact). f.id ≤ state.given) (premises_of premises)
        → AllByRecursion (λ id. id ≤ state.given) (premises_of (map_instance (λ (f : KeptFact). f.id) premises))
    all-ids (Init i) all = tt
    all-ids (Own f e) all = (all.0, tt)
    all-ids (Guar f e) all = (all.0, tt)
    all-ids (Env f t) all = (all.0, (all.1.0, tt))
    all-ids (Inter f g e) all = (all.0, (all.1.0, tt))

-- one more job, which is pending
keeps-more : (opening : Opening) (state : State) (w : ℕ) (task : Task) → Keeps opening state → IsPending opening state task
    → Keeps opening (record state { holds = record { worker = w; task = task } ∷ state.holds })
keeps-more opening state w task keeps pending =
    let more : Hold = record { worker = w; task = task } in
    record {
      falls = keeps.falls;
      old = keeps.old;
      derived = keeps.derived;
      held_taken = λ hold there. elim (first-or-later more hold state.holds there) [
        | inl same ↦ subst (λ h. WasTaken opening state.given state.live state.epochs (Hold.task h)) same (pending-taken opening state task keeps pending)
        | inr later ↦ keeps.held_taken hold later
      ];
      held_new = λ hold there. elim (first-or-later more hold state.holds there) [
        | inl same ↦ subst (λ h. ¬ Contains state.published (Hold.task h)) same not-published
        | inr later ↦ keeps.held_new hold later
      ];
      held_apart = λ one other there also e. elim (first-or-later more one state.holds there) [
        | inl same ↦ elim (first-or-later more other state.holds also) [
          | inl same_other ↦ ap (λ h. Hold.worker h) (sym same ∙ same_other)
          | inr later_other ↦ absurd (not-held other later_other (ap (λ h. Hold.task h) same ∙ e))
        ]
        | inr later ↦ elim (first-or-later more other state.holds also) [
          | inl same_other ↦ absurd (not-held one later (ap (λ h. Hold.task h) same_other ∙ sym e))
          | inr later_other ↦ keeps.held_apart one other later later_other e
        ]
      ];
      published_taken = keeps.published_taken;
      once = keeps.once;
      posted = keeps.posted;
    }
  where
    not-published : ¬ Contains state.published task
    not-published there = true-false (same_task task task) (is-same_task task) (none-at (same_task task) state.published task pending.not_done there)

    not-held : (hold : Hold) → Contains state.holds hold → ¬ (task ≡ hold.task)
    not-held hold there same =
        true-false (same_task task task) (is-same_task task)
        (subst (λ t. same_task task t ≡ false) (sym same) (none-at (λ h. same_task task (Hold.task h)) state.holds hold pending.not_held there))

pub keeps-take : (opening : Opening) (state : State) (w : ℕ) (instance : Instance ℕ) → Keeps opening state → IsTake opening state w instance
    → Keeps opening (with_job w instance state (target_among opening.program state.live instance))
keeps-take opening state w instance keeps take =
    let task = take.task in
    let leads : target_among opening.program state.live instance ≡ Some task.home = ap (target_among opening.program state.live) (sym take.instance_is) ∙ take.pending.leads in
    let taken : Task = record { instance = instance; home = task.home; epoch = state.epochs task.home } in
    let same : taken ≡ task = ap₂ (λ i n. let t : Task = record { instance = i; home = task.home; epoch = n } in t) (sym take.instance_is) (sym take.pending.present) in
    subst (Keeps opening) (sym (ap (with_job w instance state) leads))
    (subst (λ t. Keeps opening (record state { holds = record { worker = w; task = t } ∷ state.holds })) (sym same) (keeps-more opening state w task keeps take.pending))

-- ---- a publish

-- one more live fact, of a job that is held
keeps-live : (opening : Opening) (state : State) (task : Task) (given : Case) (fact : Fact) → Keeps opening state
    → WasTaken opening state.given state.live state.epochs task → IsOver opening.program state.sets state.live task.instance given → IsFactOf state.sets given fact
    → Keeps opening (record state { live = record { id = state.given + 1; fact = fact; kept = task.instance } ∷ state.live; given = state.given + 1 })
keeps-live opening state task given fact keeps taken over is =
    let new : KeptFact = record { id = state.given + 1; fact = fact; kept = task.instance } in
    record {
      falls = (AllByRecursion-weaken (λ (f : KeptFact). f.id ≤ state.given) (λ (f : KeptFact). f.id < new.id) (λ f below. omega (arith, below)) state.live keeps.old, keeps.falls);
      old = (omega arith, AllByRecursion-weaken (λ (f : KeptFact). f.id ≤ state.given) (λ (f : KeptFact). f.id ≤ new.id) (λ f below. omega (arith, below)) state.live keeps.old);
      derived = (record { has_kind = taken.has_kind; given = given; is_over = over; is_fact = is }, keeps.derived);
      held_taken = λ hold there. taken-later opening state.given new state.live state.epochs hold.task refl (keeps.held_taken hold there);
      held_new = keeps.held_new;
      held_apart = keeps.held_apart;
      published_taken = λ other there. taken-later opening state.given new state.live state.epochs other refl (keeps.published_taken other there);
      once = keeps.once;
      posted = λ other there present case_ over_more.
          still new (keeps.posted other there present case_
          (over-older opening.program state.sets state.given new state.live other.instance case_ refl (keeps.published_taken other there).old over_more));
    }
  where
    still : (new : KeptFact) {case_ : Case} → IsPosted state case_ → IsPosted (record state { live = new ∷ state.live; given = state.given + 1 }) case_
    still new (inl refuted) = inl refuted
    still new (inr (other, is_other, there)) = inr (other, is_other, Contains-later new.fact other (map (λ (f : KeptFact). f.fact) state.live) there)

-- a job is published, whose post is nothing or live
keeps-published : (opening : Opening) (state : State) (w : ℕ) (task : Task) → Keeps opening state → held_by state.holds w ≡ Some task
    → ((given : Case) → IsOver opening.program state.sets state.live task.instance given → IsPosted state given)
    → Keeps opening (record state { published = task ∷ state.published; holds = holds_without w state.holds })
keeps-published opening state w task keeps held posted =
    let (own, there_own, worker_is, task_is) = held_by-found state.holds w task held in
    let new : ¬ Contains state.published task = subst (λ t. ¬ Contains state.published t) task_is (keeps.held_new own there_own) in
    record {
      falls = keeps.falls;
      old = keeps.old;
      derived = keeps.derived;
      held_taken = λ hold there. keeps.held_taken hold (without-from w state.holds hold there).0;
      held_new = λ hold there again.
          let (kept, other) = without-from w state.holds hold there in
          elim (first-or-later task hold.task state.published again) [
            | inl same ↦ other (sym (keeps.held_apart own hold there_own kept (task_is ∙ same)) ∙ worker_is)
            | inr later ↦ keeps.held_new hold kept later
          ];
      held_apart = λ one other there also. keeps.held_apart one other (without-from w state.holds one there).0 (without-from w state.holds other also).0;
      published_taken = λ other there. elim (first-or-later task other state.published there) [
        | inl same ↦ subst (WasTaken opening state.given state.live state.epochs) (task_is ∙ same) (keeps.held_taken own there_own)
        | inr later ↦ keeps.published_taken other later
      ];
      once = AllPairs-cons (λ one other. one ≢ other) task state.published
          (λ k d h e. new (subst (Contains state.published) (sym e) (Contains-get_or state.published k d h))) keeps.once;
      posted = λ other there present given over. elim (first-or-later task other state.published there) [
        | inl same ↦ posted given (subst (λ t. IsOver opening.program state.sets state.live (Task.instance t) given) (sym same) over)
        | inr later ↦ keeps.posted other later present given over
      ];
    }

-- what the job's one case gives
posted-case : (opening : Opening) (state : State) (w : ℕ) (task : Task) (given other : Case) → Falls state.live → Posts opening state w task given
    → IsPosted state given → IsOver opening.program state.sets state.live task.instance other → IsPosted state other
posted-case opening state w task given other falls posts posted over =
    subst (IsPosted state) (over-same opening.program state.sets state.live task.instance given other falls posts.is_over over) posted

pub keeps-nothing : (opening : Opening) (state : State) (w : ℕ) → Keeps opening state → IsNothingPublish opening state w
    → Keeps opening (without_job w (with_published state (held_by state.holds w)))
keeps-nothing opening state w keeps publish =
    subst (λ o. Keeps opening (without_job w (with_published state o))) (sym publish.posts.held)
    (keeps-published opening state w publish.task keeps publish.posts.held
    (λ other over. posted-case opening state w publish.task publish.given other keeps.falls publish.posts (inl publish.refuted) over))

pub keeps-same : (opening : Opening) (state : State) (w id : ℕ) → Keeps opening state → IsSamePublish opening state w id
    → Keeps opening (without_job w (with_published state (held_by state.holds w)))
keeps-same opening state w id keeps publish =
    let (f, there, id_is, same) = fact_at-found state.live id publish.fact publish.is_live in
    let live : IsLiveFact state publish.fact =
    subst (Contains (map (λ (g : KeptFact). g.fact) state.live)) same (Contains-map (λ (g : KeptFact). g.fact) state.live f there) in
    subst (λ o. Keeps opening (without_job w (with_published state o))) (sym publish.posts.held)
    (keeps-published opening state w publish.task keeps publish.posts.held
    (λ other over. posted-case opening state w publish.task publish.given other keeps.falls publish.posts (inr (publish.fact, publish.is_fact, live)) over))

pub keeps-new : (opening : Opening) (state : State) (w id : ℕ) (fact : Fact) → Keeps opening state → IsNewPublish opening state w id fact
    → Keeps opening (without_job w (with_fact id fact (with_published state (held_by state.holds w)) (held_by state.holds w)))
keeps-new opening state w id fact keeps publish =
    let task = publish.task in
    let (own, there_own, worker_is, task_is) = held_by-found state.holds w task publish.posts.held in
    let taken : WasTaken opening state.given state.live state.epochs task = subst (WasTaken opening state.given state.live state.epochs) task_is (keeps.held_taken own there_own) in
    let new : KeptFact = record { id = state.given + 1; fact = fact; kept = task.instance } in
    let grown : State = record state { live = new ∷ state.live; given = state.given + 1 } in
    let more : Keeps opening grown = keeps-live opening state task publish.given fact keeps taken publish.posts.is_over publish.is_fact in
    let whole : Keeps opening (record grown { published = task ∷ state.published; holds = holds_without w state.holds }) =
    keeps-published opening grown w task more publish.posts.held
    (λ other over.
    let before = over-older opening.program state.sets state.given new state.live task.instance other refl taken.old over in
    let same = over-same opening.program state.sets state.live task.instance publish.given other keeps.falls publish.posts.is_over before in
    subst (IsPosted grown) same (inr (fact, publish.is_fact, Contains-first fact (map (λ (g : KeptFact). g.fact) state.live)))) in
    subst (λ o. Keeps opening (without_job w (with_fact id fact (with_published state o) o))) (sym publish.posts.held)
    (subst (λ n. Keeps opening (without_job w (with_fact n fact (with_published state (Some task)) (Some task)))) (sym publish.id_is) whole)
