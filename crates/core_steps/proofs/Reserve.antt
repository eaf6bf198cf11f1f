-- How many events a legal history has at most. What is dropped was held or claimed when a refine, or a stop, made it stale.
use Rattle.std.proofs.Common.{◌≡◌, ◌⊎◌, ◌<◌, ◌≤◌, ◌+◌, ◌*◌, ℕ, suc, Bool, true, false, not, ◌&&◌, List, [], ◌∷◌, length, Option, Some, None, refl, sym, ap, subst, ◌∙◌, inl, inr, arith}
use Rattle.std.specs.Prelude.{◌==◌}
use Rattle.std.specs.List.{list_all}
use Rattle.std.proofs.Math.Nat.{mul-suc, mul-le-mul_left}
use Rattle.lin_rows.proofs.Lists.{AllByRecursion-weaken}
use Rattle.horn_rules.specs.Instance.{premises_of}
use Rattle.horn_rules.proofs.InstanceLists.{is-eq}
use Rattle.derivation_tree.specs.Facts.{KeptFact, target_among}
use Rattle.core_steps.specs.State.{Opening, State, Reason, Task, Hold, Claimed, held_by, holds_without, claims_without}
use Rattle.core_steps.specs.Event.{Event, Take, New, Same, Nothing, StalePublish, Claim, Refine, StaleRefine, Stop, StaleStop, History}
use Rattle.core_steps.specs.Withdrawn.{has_id}
use Rattle.core_steps.specs.Pending.{is_present}
use Rattle.core_steps.specs.After.{with_job, with_published, with_fact, without_job, without_claim, without_any, effect, after}
use Rattle.core_steps.specs.Allowed.{Allows, DropsJob, DropsClaim}
use Rattle.core_steps.specs.Legal.{IsLegal}
use Rattle.core_steps.specs.Laws.{PublishesAreFew, HistoriesAreShort}
use Rattle.core_steps.proofs.Tests.{tells, true-false, both, with-both}
use Rattle.core_steps.proofs.Live.{fact_at-found, has_id-at}
use Rattle.core_steps.proofs.Workers.{held_by-is, claimed_by-is, by_worker-found, length-without, length-gone, length-but-one}
use Rattle.core_steps.proofs.Counts.{Counts, holder, claimer, few-holds, few-claims, counts-legal}
use Rattle.core_steps.proofs.CountsByTests.{count, count-all, count-fewer, count-left, count-gone}
use Rattle.core_steps.proofs.PresentTasks.{all-from, all-to, leads-live}

pub publishes-few : PublishesAreFew
publishes-few opening history legal = let counts = counts-legal opening history legal in let all = counts.published in omega (arith, all)

-- ---- what may still be dropped

abbrev stale_job : State → Hold → Bool
stale_job state hold = not (is_present state hold.task)

abbrev stale_claim : State → Claimed → Bool
stale_claim state claim = not (has_id state.live claim.root)

-- while no stop stands, what is stale, and else all that is held or claimed
abbrev droppable_by : State → Option Reason → ℕ
droppable_by state None = count (stale_job state) state.holds + count (stale_claim state) state.claims
droppable_by state (Some reason) = length state.holds + length state.claims

abbrev droppable : State → ℕ
droppable state = droppable_by state state.stop

-- how many events dropped something, and how many stops there were
abbrev drops : History → ℕ
drops [] = 0
drops (StalePublish w ∷ earlier) = suc (drops earlier)
drops (StaleRefine w ∷ earlier) = suc (drops earlier)
drops (StaleStop w ∷ earlier) = suc (drops earlier)
drops (event ∷ earlier) = drops earlier

abbrev stops : Option Reason → ℕ
stops None = 0
stops (Some reason) = 1

-- What is said of a state with so many drops and events before it.
record IsWithin (opening : Opening) (state : State) (n m : ℕ) : Type 0 where
  dropped : n + droppable state ≤ 2 * (opening.workers * (state.refined + stops state.stop))
  events : m ≤ 2 * length state.published + length state.holds + length state.claims + 2 * state.refined + 3 * n + 3 * stops state.stop

-- ---- events

not-hit : (b : Bool) → not b ≡ true → b ≡ false
not-hit true e = absurd cc
not-hit false e = refl

hit-not : (b : Bool) → b ≡ false → not b ≡ true
hit-not true e = absurd cc
hit-not false e = refl

within-take : (opening : Opening) (state : State) (w : ℕ) (task : Task) (n m : ℕ) → state.stop ≡ None → is_present state task ≡ true → IsWithin opening state n m
    → IsWithin opening (record state { holds = record { worker = w; task = task } ∷ state.holds }) n (suc m)
within-take opening state w task n m none present is =
    let new : Hold = record { worker = w; task = task } in
    let later : State = record state { holds = new ∷ state.holds } in
    let miss : stale_job state new ≡ false = ap not present in
    let before : droppable state ≡ count (stale_job state) state.holds + count (stale_claim state) state.claims = ap (droppable_by state) none in
    let after : droppable later ≡ count (stale_job state) (new ∷ state.holds) + count (stale_claim state) state.claims = ap (droppable_by later) none in
    let same : count (stale_job state) (new ∷ state.holds) ≡ count (stale_job state) state.holds = rw miss refl in
    record {
      dropped = let d = is.dropped in omega (arith, d, before, after, same);
      events = let e = is.events in omega (arith, e);
    }

within-claim : (opening : Opening) (state : State) (w id : ℕ) (n m : ℕ) → state.stop ≡ None → has_id state.live id ≡ true → IsWithin opening state n m
    → IsWithin opening (record state { claims = record { worker = w; root = id } ∷ state.claims }) n (suc m)
within-claim opening state w id n m none present is =
    let new : Claimed = record { worker = w; root = id } in
    let later : State = record state { claims = new ∷ state.claims } in
    let miss : stale_claim state new ≡ false = ap not present in
    let before : droppable state ≡ count (stale_job state) state.holds + count (stale_claim state) state.claims = ap (droppable_by state) none in
    let after : droppable later ≡ count (stale_job state) state.holds + count (stale_claim state) (new ∷ state.claims) = ap (droppable_by later) none in
    let same : count (stale_claim state) (new ∷ state.claims) ≡ count (stale_claim state) state.claims = rw miss refl in
    record {
      dropped = let d = is.dropped in omega (arith, d, before, after, same);
      events = let e = is.events in omega (arith, e);
    }

-- a publish, where perhaps facts come
within-published : (opening : Opening) (state : State) (w given : ℕ) (live : List KeptFact) (task : Task) (n m : ℕ) → Counts opening state → state.stop ≡ None
    → ((id : ℕ) → has_id state.live id ≡ true → has_id live id ≡ true) → held_by state.holds w ≡ Some task → IsWithin opening state n m
    → IsWithin opening (record state { published = task ∷ state.published; holds = holds_without w state.holds; live = live; given = given }) n (suc m)
within-published opening state w given live task n m counts none grows held is =
    let later : State = record state { published = task ∷ state.published; holds = holds_without w state.holds; live = live; given = given } in
    let before : droppable state ≡ count (stale_job state) state.holds + count (stale_claim state) state.claims = ap (droppable_by state) none in
    let after : droppable later ≡ count (stale_job later) (holds_without w state.holds) + count (stale_claim later) state.claims = ap (droppable_by later) none in
    let jobs = count-left (stale_job later) (λ hold. not (Hold.worker hold == w)) state.holds in
    let still_jobs = count-fewer (stale_job later) (stale_job state) state.holds (λ hold stale. hit-not (is_present state hold.task) (job-stale hold (not-hit (is_present later hold.task) stale))) in
    let claims = count-fewer (stale_claim later) (stale_claim state) state.claims (λ claim stale. hit-not (has_id state.live claim.root) (id-gone claim.root (not-hit (has_id live claim.root) stale))) in
    let one = length-but-one holder w state.holds counts.holds_apart in
    record {
      dropped = let d = is.dropped in omega (arith, d, before, after, jobs, still_jobs, claims);
      events = let e = is.events in omega (arith, e, one);
    }
  where
    id-gone : (id : ℕ) → has_id live id ≡ false → has_id state.live id ≡ false
    id-gone id gone = elim (tells (has_id state.live id)) [
      | inl there ↦ true-false (has_id live id) (grows id there) gone
      | inr miss ↦ miss
    ]

    job-stale : (hold : Hold) → (hold.task.epoch == state.epochs hold.task.home && list_all (has_id live) (premises_of hold.task.instance)) ≡ false → is_present state hold.task ≡ false
    job-stale hold stale = elim (tells (is_present state hold.task)) [
      | inl there ↦
          let (epoch, premises) = both (hold.task.epoch == state.epochs hold.task.home) (list_all (has_id state.live) (premises_of hold.task.instance)) there in
          let all = all-to (has_id state.live) (premises_of hold.task.instance) premises in
          let more = AllByRecursion-weaken (λ id. has_id state.live id ≡ true) (λ id. has_id live id ≡ true) grows (premises_of hold.task.instance) all in
          true-false (hold.task.epoch == state.epochs hold.task.home && list_all (has_id live) (premises_of hold.task.instance))
          (with-both (hold.task.epoch == state.epochs hold.task.home) (list_all (has_id live) (premises_of hold.task.instance)) epoch (all-from (has_id live) (premises_of hold.task.instance) more)) stale
      | inr miss ↦ miss
    ]

-- a refine: whatever is held or claimed may be stale
within-refine : (opening : Opening) (state later : State) (n m : ℕ) → Counts opening state → Counts opening later → state.stop ≡ None → later.stop ≡ None
    → later.refined ≡ suc state.refined → length later.published ≡ length state.published → length later.holds ≡ length state.holds → length state.claims ≤ length later.claims + 1
    → IsWithin opening state n m → IsWithin opening later n (suc m)
within-refine opening state later n m counts counts_later none none_later refined published holds claims is =
    let after : droppable later ≡ count (stale_job later) later.holds + count (stale_claim later) later.claims = ap (droppable_by later) none_later in
    let jobs = count-all (stale_job later) later.holds in
    let roots = count-all (stale_claim later) later.claims in
    let few_jobs = few-holds opening later counts_later in
    let few_roots = few-claims opening later counts_later in
    let before : opening.workers * (state.refined + stops state.stop) ≡ opening.workers * (state.refined + 0) = ap (λ o. opening.workers * (state.refined + stops o)) none in
    let more : opening.workers * (later.refined + stops later.stop) ≡ opening.workers * (state.refined + 0) + opening.workers =
    ap (λ o. opening.workers * (later.refined + stops o)) none_later ∙ ap (λ k. opening.workers * k) (one-more later.refined state.refined refined) ∙ mul-suc opening.workers (state.refined + 0) in
    let s = ap stops none in
    let t = ap stops none_later in
    record {
      dropped = let d = is.dropped in grows n (droppable state) (droppable later) (opening.workers * (state.refined + stops state.stop)) (opening.workers * (state.refined + 0)) (opening.workers * (later.refined + stops later.stop)) opening.workers
          d before more (omega (arith, after, jobs, roots, few_jobs, few_roots));
      events = let e = is.events in omega (arith, e, refined, published, holds, claims, s, t);
    }
  where
    one-more : (r s : ℕ) → r ≡ suc s → r + 0 ≡ suc (s + 0)
    one-more r s e = omega (arith, e)

    grows : (n d d' a b c w : ℕ) → n + d ≤ 2 * a → a ≡ b → c ≡ b + w → d' ≤ w + w → n + d' ≤ 2 * c
    grows n d d' a b c w le ab bc few = omega (arith, le, ab, bc, few)

-- a stop
within-stop : (opening : Opening) (state : State) (w : ℕ) (reason : Reason) (n m : ℕ) → Counts opening state → state.stop ≡ None → IsWithin opening state n m
    → IsWithin opening (without_any w (record state { stop = Some reason })) n (suc m)
within-stop opening state w reason n m counts none is =
    let jobs = length-without holder w state.holds in
    let roots = length-without claimer w state.claims in
    let few_jobs = few-holds opening state counts in
    let few_roots = few-claims opening state counts in
    let one = length-but-one holder w state.holds counts.holds_apart in
    let other = length-but-one claimer w state.claims counts.claims_apart in
    let before : opening.workers * (state.refined + stops state.stop) ≡ opening.workers * (state.refined + 0) = ap (λ o. opening.workers * (state.refined + stops o)) none in
    let more : opening.workers * (state.refined + 1) ≡ opening.workers * (state.refined + 0) + opening.workers =
    ap (λ k. opening.workers * k) (next state.refined) ∙ mul-suc opening.workers (state.refined + 0) in
    let s = ap stops none in
    record {
      dropped = grows n (droppable state) (length (holds_without w state.holds) + length (claims_without w state.claims)) (opening.workers * (state.refined + stops state.stop)) (opening.workers * (state.refined + 0)) (opening.workers * (state.refined + 1)) opening.workers
          is.dropped before more (omega (arith, jobs, roots, few_jobs, few_roots));
      events = let e = is.events in omega (arith, e, one, other, s);
    }
  where
    next : (s : ℕ) → s + 1 ≡ suc (s + 0)
    next s = omega arith

    grows : (n d d' a b c w : ℕ) → n + d ≤ 2 * a → a ≡ b → c ≡ b + w → d' ≤ w + w → n + d' ≤ 2 * c
    grows n d d' a b c w le ab bc few = omega (arith, le, ab, bc, few)

-- ---- drops

jobs-less : (state : State) (w : ℕ) → droppable (without_job w state) ≤ droppable state
jobs-less state w = by-stop state.stop refl
  where
    by-stop : (o : Option Reason) → state.stop ≡ o → droppable (without_job w state) ≤ droppable state
    by-stop None is =
        let before : droppable state ≡ count (stale_job state) state.holds + count (stale_claim state) state.claims = ap (droppable_by state) is in
        let after : droppable (without_job w state) ≡ count (stale_job state) (holds_without w state.holds) + count (stale_claim state) state.claims = ap (droppable_by (without_job w state)) is in
        let less = count-left (stale_job state) (λ hold. not (Hold.worker hold == w)) state.holds in
        omega (arith, before, after, less)
    by-stop (Some reason) is =
        let before : droppable state ≡ length state.holds + length state.claims = ap (droppable_by state) is in
        let after : droppable (without_job w state) ≡ length (holds_without w state.holds) + length state.claims = ap (droppable_by (without_job w state)) is in
        let less = length-without holder w state.holds in
        omega (arith, before, after, less)

claims-less : (state : State) (w : ℕ) → droppable (without_claim w state) ≤ droppable state
claims-less state w = by-stop state.stop refl
  where
    by-stop : (o : Option Reason) → state.stop ≡ o → droppable (without_claim w state) ≤ droppable state
    by-stop None is =
        let before : droppable state ≡ count (stale_job state) state.holds + count (stale_claim state) state.claims = ap (droppable_by state) is in
        let after : droppable (without_claim w state) ≡ count (stale_job state) state.holds + count (stale_claim state) (claims_without w state.claims) = ap (droppable_by (without_claim w state)) is in
        let less = count-left (stale_claim state) (λ claim. not (Claimed.worker claim == w)) state.claims in
        omega (arith, before, after, less)
    by-stop (Some reason) is =
        let before : droppable state ≡ length state.holds + length state.claims = ap (droppable_by state) is in
        let after : droppable (without_claim w state) ≡ length state.holds + length (claims_without w state.claims) = ap (droppable_by (without_claim w state)) is in
        let less = length-without claimer w state.claims in
        omega (arith, before, after, less)

job-gone : (state : State) (w : ℕ) → DropsJob state w → droppable (without_job w state) < droppable state
job-gone state w drop = by-stop state.stop refl
  where
    by-stop : (o : Option Reason) → state.stop ≡ o → droppable (without_job w state) < droppable state
    by-stop None is =
        let before : droppable state ≡ count (stale_job state) state.holds + count (stale_claim state) state.claims = ap (droppable_by state) is in
        let after : droppable (without_job w state) ≡ count (stale_job state) (holds_without w state.holds) + count (stale_claim state) state.claims = ap (droppable_by (without_job w state)) is in
        let (own, there, worker, task) = by_worker-found holder (λ (hold : Hold). hold.task) state.holds w drop.task (sym (held_by-is state.holds w) ∙ drop.held) in
        let stale : stale_job state own ≡ true = hit-not (is_present state own.task) (ap (is_present state) task ∙ drop.stale is) in
        let gone : not (own.worker == w) ≡ false = ap not (is-eq own.worker w worker) in
        let less = count-gone (stale_job state) (λ hold. not (Hold.worker hold == w)) state.holds own there stale gone in
        omega (arith, before, after, less)
    by-stop (Some reason) is =
        let before : droppable state ≡ length state.holds + length state.claims = ap (droppable_by state) is in
        let after : droppable (without_job w state) ≡ length (holds_without w state.holds) + length state.claims = ap (droppable_by (without_job w state)) is in
        let less = length-gone holder (λ (hold : Hold). hold.task) w state.holds drop.task (sym (held_by-is state.holds w) ∙ drop.held) in
        omega (arith, before, after, less)

claim-gone : (state : State) (w : ℕ) → DropsClaim state w → droppable (without_claim w state) < droppable state
claim-gone state w drop = by-stop state.stop refl
  where
    by-stop : (o : Option Reason) → state.stop ≡ o → droppable (without_claim w state) < droppable state
    by-stop None is =
        let before : droppable state ≡ count (stale_job state) state.holds + count (stale_claim state) state.claims = ap (droppable_by state) is in
        let after : droppable (without_claim w state) ≡ count (stale_job state) state.holds + count (stale_claim state) (claims_without w state.claims) = ap (droppable_by (without_claim w state)) is in
        let (own, there, worker, root) = by_worker-found claimer (λ (claim : Claimed). claim.root) state.claims w drop.id (sym (claimed_by-is state.claims w) ∙ drop.claimed) in
        let stale : stale_claim state own ≡ true = hit-not (has_id state.live own.root) (ap (has_id state.live) root ∙ drop.stale is) in
        let gone : not (own.worker == w) ≡ false = ap not (is-eq own.worker w worker) in
        let less = count-gone (stale_claim state) (λ claim. not (Claimed.worker claim == w)) state.claims own there stale gone in
        omega (arith, before, after, less)
    by-stop (Some reason) is =
        let before : droppable state ≡ length state.holds + length state.claims = ap (droppable_by state) is in
        let after : droppable (without_claim w state) ≡ length state.holds + length (claims_without w state.claims) = ap (droppable_by (without_claim w state)) is in
        let less = length-gone claimer (λ (claim : Claimed). claim.root) w state.claims drop.id (sym (claimed_by-is state.claims w) ∙ drop.claimed) in
        omega (arith, before, after, less)

within-job : (opening : Opening) (state : State) (w n m : ℕ) → Counts opening state → DropsJob state w → IsWithin opening state n m → IsWithin opening (without_job w state) (suc n) (suc m)
within-job opening state w n m counts drop is =
    let less = job-gone state w drop in
    let one = length-but-one holder w state.holds counts.holds_apart in
    record {
      dropped = let d = is.dropped in omega (arith, d, less);
      events = let e = is.events in omega (arith, e, one);
    }

within-unclaimed : (opening : Opening) (state : State) (w n m : ℕ) → Counts opening state → DropsClaim state w → IsWithin opening state n m → IsWithin opening (without_claim w state) (suc n) (suc m)
within-unclaimed opening state w n m counts drop is =
    let less = claim-gone state w drop in
    let one = length-but-one claimer w state.claims counts.claims_apart in
    record {
      dropped = let d = is.dropped in omega (arith, d, less);
      events = let e = is.events in omega (arith, e, one);
    }

within-any : (opening : Opening) (state : State) (w n m : ℕ) → Counts opening state → DropsJob state w ⊎ DropsClaim state w → IsWithin opening state n m
    → IsWithin opening (without_any w state) (suc n) (suc m)
within-any opening state w n m counts drop is =
    let less : droppable (without_claim w (without_job w state)) < droppable state = both-less drop in
    let one = length-but-one holder w state.holds counts.holds_apart in
    let other = length-but-one claimer w state.claims counts.claims_apart in
    record {
      dropped = let d = is.dropped in omega (arith, d, less);
      events = let e = is.events in omega (arith, e, one, other);
    }
  where
    both-less : DropsJob state w ⊎ DropsClaim state w → droppable (without_claim w (without_job w state)) < droppable state
    both-less (inl job) = let a = job-gone state w job in let b = claims-less (without_job w state) w in omega (arith, a, b)
    both-less (inr claim) =
        let a = jobs-less state w in
        let drop : DropsClaim (without_job w state) w = record { id = claim.id; claimed = claim.claimed; stale = claim.stale } in
        let b = claim-gone (without_job w state) w drop in
        omega (arith, a, b)

-- ---- histories

has-more : (f : KeptFact) (live : List KeptFact) (id : ℕ) → has_id live id ≡ true → has_id (f ∷ live) id ≡ true
has-more f live id there = elim (tells (f.id == id)) [
  | inl hit ↦ rw hit refl
  | inr miss ↦ rw miss there
]

none-more : (n : ℕ) → n ≡ 0 + n
none-more n = omega arith

one-more : (n : ℕ) → suc n ≡ suc 0 + n
one-more n = omega arith

within-effect : (opening : Opening) (state : State) (event : Event) (n m : ℕ) → Counts opening state → Counts opening (effect opening state event) → Allows opening state event
    → IsWithin opening state n m → IsWithin opening (effect opening state event) (drops (event ∷ []) + n) (suc m)
within-effect opening state (Take w instance) n m counts later allows is =
    let take = allows.suits.1 in
    let task = take.task in
    let leads : target_among opening.program state.live instance ≡ Some task.home = ap (target_among opening.program state.live) (sym take.instance_is) ∙ take.pending.leads in
    let taken : Task = record { instance = instance; home = task.home; epoch = state.epochs task.home } in
    let present : is_present state taken ≡ true =
    with-both (state.epochs task.home == state.epochs task.home) (list_all (has_id state.live) (premises_of instance)) (is-eq (state.epochs task.home) (state.epochs task.home) refl)
    (leads-live opening state.live instance task.home leads) in
    subst (λ k. IsWithin opening (with_job w instance state (target_among opening.program state.live instance)) k (suc m)) (none-more n)
    (subst (λ s. IsWithin opening s n (suc m)) (sym (ap (with_job w instance state) leads)) (within-take opening state w taken n m allows.suits.0 present is))
within-effect opening state (New w id fact) n m counts later allows is =
    let publish = allows.suits.1 in
    let task = publish.task in
    let new : KeptFact = record { id = id; fact = fact; kept = task.instance } in
    subst (λ k. IsWithin opening (effect opening state (New w id fact)) k (suc m)) (none-more n)
    (subst (λ o. IsWithin opening (without_job w (with_fact id fact (with_published state o) o)) n (suc m)) (sym publish.posts.held)
    (within-published opening state w id (new ∷ state.live) task n m counts allows.suits.0 (λ i there. has-more new state.live i there) publish.posts.held is))
within-effect opening state (Same w id) n m counts later allows is =
    let publish = allows.suits.1 in
    subst (λ k. IsWithin opening (effect opening state (Same w id)) k (suc m)) (none-more n)
    (subst (λ o. IsWithin opening (without_job w (with_published state o)) n (suc m)) (sym publish.posts.held)
    (within-published opening state w state.given state.live publish.task n m counts allows.suits.0 (λ i there. there) publish.posts.held is))
within-effect opening state (Nothing w) n m counts later allows is =
    let publish = allows.suits.1 in
    subst (λ k. IsWithin opening (effect opening state (Nothing w)) k (suc m)) (none-more n)
    (subst (λ o. IsWithin opening (without_job w (with_published state o)) n (suc m)) (sym publish.posts.held)
    (within-published opening state w state.given state.live publish.task n m counts allows.suits.0 (λ i there. there) publish.posts.held is))
within-effect opening state (StalePublish w) n m counts later allows is =
    subst (λ k. IsWithin opening (without_job w state) k (suc m)) (one-more n) (within-job opening state w n m counts allows.suits is)
within-effect opening state (Claim w id) n m counts later allows is =
    let claim = allows.suits.1 in
    let (f, there, id_is, same) = fact_at-found state.live id claim.fact claim.is_live in
    let live : has_id state.live id ≡ true = ap (has_id state.live) (sym id_is) ∙ has_id-at state.live f there in
    subst (λ k. IsWithin opening (effect opening state (Claim w id)) k (suc m)) (none-more n) (within-claim opening state w id n m allows.suits.0 live is)
within-effect opening state (Refine w scope predicates) n m counts later allows is =
    let one = length-but-one claimer w state.claims counts.claims_apart in
    subst (λ k. IsWithin opening (effect opening state (Refine w scope predicates)) k (suc m)) (none-more n)
    (within-refine opening state (effect opening state (Refine w scope predicates)) n m counts later allows.suits.0 allows.suits.0 refl refl refl one is)
within-effect opening state (StaleRefine w) n m counts later allows is =
    subst (λ k. IsWithin opening (without_claim w state) k (suc m)) (one-more n) (within-unclaimed opening state w n m counts allows.suits is)
within-effect opening state (Stop w reason) n m counts later allows is =
    subst (λ k. IsWithin opening (effect opening state (Stop w reason)) k (suc m)) (none-more n) (within-stop opening state w reason n m counts allows.suits.0 is)
within-effect opening state (StaleStop w) n m counts later allows is =
    subst (λ k. IsWithin opening (without_any w state) k (suc m)) (one-more n) (within-any opening state w n m counts allows.suits is)

-- how many drops there were
drops-more : (event : Event) (earlier : History) → drops (event ∷ earlier) ≡ drops (event ∷ []) + drops earlier
drops-more (Take w instance) earlier = omega arith
drops-more (New w id fact) earlier = omega arith
drops-more (Same w id) earlier = omega arith
drops-more (Nothing w) earlier = omega arith
drops-more (StalePublish w) earlier = omega arith
drops-more (Claim w id) earlier = omega arith
drops-more (Refine w scope predicates) earlier = omega arith
drops-more (StaleRefine w) earlier = omega arith
drops-more (Stop w reason) earlier = omega arith
drops-more (StaleStop w) earlier = omega arith

within-legal : (opening : Opening) (history : History) → IsLegal opening history → IsWithin opening (after opening history) (drops history) (length history)
within-legal opening [] legal = record { dropped = omega arith; events = omega arith }
within-legal opening (event ∷ earlier) legal =
    let counts = counts-legal opening earlier legal.1 in
    let later = counts-legal opening (event ∷ earlier) legal in
    subst (λ n. IsWithin opening (after opening (event ∷ earlier)) n (length (event ∷ earlier))) (sym (drops-more event earlier))
    (within-effect opening (after opening earlier) event (drops earlier) (length earlier) counts later legal.0 (within-legal opening earlier legal.1))

pub histories-short : HistoriesAreShort
histories-short opening history legal =
    let state = after opening history in
    let is = within-legal opening history legal in
    let counts = counts-legal opening history legal in
    let few = few-claims opening state counts in
    let rounds : state.refined + stops state.stop ≤ opening.limits.refinements + 1 = at-most state.stop state.refined opening.limits.refinements counts.refined in
    let products = mul-le-mul_left opening.workers rounds in
    sums (length history) (length state.published) (length state.holds) (length state.claims) state.refined (drops history) (stops state.stop)
    (droppable state) opening.limits.jobs opening.workers opening.limits.refinements
    (opening.workers * (state.refined + stops state.stop)) (opening.workers * (opening.limits.refinements + 1))
    is.events is.dropped counts.published few counts.refined products (one-stop state.stop)
  where
    one-stop : (o : Option Reason) → stops o ≤ 1
    one-stop None = omega arith
    one-stop (Some reason) = omega arith

    at-most : (o : Option Reason) (r n : ℕ) → r ≤ n → r + stops o ≤ n + 1
    at-most o r n le = let one = one-stop o in omega (arith, le, one)

    sums : (m p h c r n s d j w l a b : ℕ) → m ≤ 2 * p + h + c + 2 * r + 3 * n + 3 * s → n + d ≤ 2 * a → p + h ≤ j + w → c ≤ w → r ≤ l → a ≤ b → s ≤ 1
        → m ≤ 2 * (j + w) + w + 2 * l + 6 * b + 3
    sums m p h c r n s d j w l a b m_le n_le p_le c_le r_le a_le s_le = omega (arith, m_le, n_le, p_le, c_le, r_le, a_le, s_le)
