-- Who holds and claims, and how much there is of each, after every legal history.
use Rattle.std.proofs.Common.{◌≡◌, ◌≢◌, ◌⊎◌, ◌<◌, ◌≤◌, ◌+◌, ℕ, suc, Bool, true, false, ◌||◌, List, [], ◌∷◌, length, Some, None, refl, sym, ap, subst, ◌∙◌, inl, inr, arith}
use Rattle.std.specs.Prelude.{if◌then◌else◌}
use Rattle.std.specs.List.{AllByRecursion}
use Rattle.horn_rules.specs.Home.{Home}
use Rattle.horn_rules.specs.Fact.{Fact}
use Rattle.horn_rules.specs.Predicate.{Predicate}
use Rattle.derivation_tree.specs.Facts.{target_among}
use Rattle.core_steps.specs.State.{Opening, State, Task, Hold, Claimed, IsWorker, IsFree, start_of, held_by, claimed_by, holds_without, claims_without}
use Rattle.core_steps.specs.Event.{Event, Take, New, Same, Nothing, StalePublish, Claim, Refine, StaleRefine, Stop, StaleStop, History}
use Rattle.core_steps.specs.Withdrawn.{remaining, loses}
use Rattle.core_steps.specs.Predicates.{is_changed}
use Rattle.core_steps.specs.After.{with_job, with_published, with_fact, with_new, without_job, effect, after}
use Rattle.core_steps.specs.Allowed.{Allows}
use Rattle.core_steps.specs.Legal.{IsLegal}
use Rattle.core_steps.proofs.Workers.{AreApart, IsUpTo, is-or-not, held-behind, held-gone, held-other, claimed-behind, claimed-gone, claimed-other, held_by-is, claimed_by-is, none-apart, without-all, without-apart, length-without, length-gone, few-apart}

abbrev pub holder : Hold → ℕ
holder hold = hold.worker

abbrev pub claimer : Claimed → ℕ
claimer claim = claim.worker

pub record Counts (opening : Opening) (state : State) : Type 0 where
  pub holds_apart : AreApart holder state.holds
  pub claims_apart : AreApart claimer state.claims
  -- none has both a job and a claim
  pub one_only : (w : ℕ) → (held_by state.holds w ≡ None) ⊎ (claimed_by state.claims w ≡ None)
  pub holders : AllByRecursion (λ (hold : Hold). IsUpTo opening.workers (holder hold)) state.holds
  pub claimers : AllByRecursion (λ (claim : Claimed). IsUpTo opening.workers (claimer claim)) state.claims
  pub given : state.given ≤ length state.published
  pub published : length state.published + length state.holds ≤ opening.limits.jobs + opening.workers
  pub refined : state.refined ≤ opening.limits.refinements
  pub epochs : (home : Home) → state.epochs home ≤ state.refined

pub few-holds : (opening : Opening) (state : State) → Counts opening state → length state.holds ≤ opening.workers
few-holds opening state counts = few-apart holder opening.workers state.holds counts.holds_apart counts.holders

pub few-claims : (opening : Opening) (state : State) → Counts opening state → length state.claims ≤ opening.workers
few-claims opening state counts = few-apart claimer opening.workers state.claims counts.claims_apart counts.claimers

counts-start : (opening : Opening) → Counts opening (start_of opening)
counts-start opening = record {
  holds_apart = tt;
  claims_apart = tt;
  one_only = λ w. inl refl;
  holders = tt;
  claimers = tt;
  given = omega arith;
  published = omega arith;
  refined = omega arith;
  epochs = λ home. omega arith;
}

-- one more job
counts-held : (opening : Opening) (state : State) (w : ℕ) (task : Task) → Counts opening state → IsWorker opening w → IsFree state w → length state.published < opening.limits.jobs
    → Counts opening (record state { holds = record { worker = w; task = task } ∷ state.holds })
counts-held opening state w task counts worker free left =
    let apart : AreApart holder (record { worker = w; task = task } ∷ state.holds) =
    (none-apart holder (λ (hold : Hold). hold.task) state.holds w (sym (held_by-is state.holds w) ∙ free.no_job), counts.holds_apart) in
    let holders : AllByRecursion (λ (hold : Hold). IsUpTo opening.workers (holder hold)) (record { worker = w; task = task } ∷ state.holds) =
    ((worker.from_1, worker.within), counts.holders) in
    let few = few-apart holder opening.workers (record { worker = w; task = task } ∷ state.holds) apart holders in
    record {
      holds_apart = apart;
      claims_apart = counts.claims_apart;
      one_only = λ v. elim (is-or-not w v) [
        | inl same ↦ inr (ap (claimed_by state.claims) (sym same) ∙ free.no_claim)
        | inr other ↦ elim (counts.one_only v) [
          | inl none ↦ inl (held-behind (record { worker = w; task = task }) state.holds v other ∙ none)
          | inr none ↦ inr none
        ]
      ];
      holders = holders;
      claimers = counts.claimers;
      given = counts.given;
      published = omega (arith, few, left);
      refined = counts.refined;
      epochs = counts.epochs;
    }

fewer-jobs : (state : State) (w v : ℕ) → (held_by state.holds v ≡ None) ⊎ (claimed_by state.claims v ≡ None)
    → (held_by (holds_without w state.holds) v ≡ None) ⊎ (claimed_by state.claims v ≡ None)
fewer-jobs state w v (inl none) = elim (is-or-not v w) [
  | inl same ↦ inl (ap (held_by (holds_without w state.holds)) same ∙ held-gone state.holds w)
  | inr other ↦ inl (held-other state.holds w v other ∙ none)
]
fewer-jobs state w v (inr none) = inr none

-- one job less
counts-dropped : (opening : Opening) (state : State) (w : ℕ) → Counts opening state → Counts opening (without_job w state)
counts-dropped opening state w counts =
    let fewer = length-without holder w state.holds in
    record {
      holds_apart = without-apart holder w state.holds counts.holds_apart;
      claims_apart = counts.claims_apart;
      one_only = λ v. fewer-jobs state w v (counts.one_only v);
      holders = without-all (λ (hold : Hold). IsUpTo opening.workers (holder hold)) holder w state.holds counts.holders;
      claimers = counts.claimers;
      given = counts.given;
      published = let all = counts.published in omega (arith, fewer, all);
      refined = counts.refined;
      epochs = counts.epochs;
    }

-- it is published
counts-published : (opening : Opening) (state : State) (w : ℕ) (task : Task) → Counts opening state → held_by state.holds w ≡ Some task
    → Counts opening (record state { published = task ∷ state.published; holds = holds_without w state.holds })
counts-published opening state w task counts held =
    let fewer = length-gone holder (λ (hold : Hold). hold.task) w state.holds task (sym (held_by-is state.holds w) ∙ held) in
    record {
      holds_apart = without-apart holder w state.holds counts.holds_apart;
      claims_apart = counts.claims_apart;
      one_only = λ v. fewer-jobs state w v (counts.one_only v);
      holders = without-all (λ (hold : Hold). IsUpTo opening.workers (holder hold)) holder w state.holds counts.holders;
      claimers = counts.claimers;
      given = let before = counts.given in omega (arith, before);
      published = let all = counts.published in omega (arith, fewer, all);
      refined = counts.refined;
      epochs = counts.epochs;
    }

-- and a fact becomes live
counts-new : (opening : Opening) (state : State) (w id : ℕ) (fact : Fact) (task : Task) → Counts opening state → held_by state.holds w ≡ Some task → id ≡ state.given + 1
    → Counts opening (without_job w (with_fact id fact (with_published state (Some task)) (Some task)))
counts-new opening state w id fact task counts held next =
    let plain = counts-published opening state w task counts held in
    record {
      holds_apart = plain.holds_apart;
      claims_apart = plain.claims_apart;
      one_only = plain.one_only;
      holders = plain.holders;
      claimers = plain.claimers;
      given = let before = counts.given in omega (arith, before, next);
      published = plain.published;
      refined = plain.refined;
      epochs = plain.epochs;
    }

-- one more claim
counts-claimed : (opening : Opening) (state : State) (w id : ℕ) → Counts opening state → IsWorker opening w → IsFree state w
    → Counts opening (record state { claims = record { worker = w; root = id } ∷ state.claims })
counts-claimed opening state w id counts worker free = record {
  holds_apart = counts.holds_apart;
  one_only = λ v. elim (is-or-not w v) [
    | inl same ↦ inl (ap (held_by state.holds) (sym same) ∙ free.no_job)
    | inr other ↦ elim (counts.one_only v) [
      | inl none ↦ inl none
      | inr none ↦ inr (claimed-behind (record { worker = w; root = id }) state.claims v other ∙ none)
    ]
  ];
  claims_apart = (none-apart claimer (λ (claim : Claimed). claim.root) state.claims w (sym (claimed_by-is state.claims w) ∙ free.no_claim), counts.claims_apart);
  holders = counts.holders;
  claimers = ((worker.from_1, worker.within), counts.claimers);
  given = counts.given;
  published = counts.published;
  refined = counts.refined;
  epochs = counts.epochs;
}

-- one claim less
counts-unclaimed : (opening : Opening) (state : State) (w : ℕ) → Counts opening state → Counts opening (record state { claims = claims_without w state.claims })
counts-unclaimed opening state w counts = record {
  holds_apart = counts.holds_apart;
  claims_apart = without-apart claimer w state.claims counts.claims_apart;
  one_only = λ v. fewer-claims v (counts.one_only v) (is-or-not v w);
  holders = counts.holders;
  claimers = without-all (λ (claim : Claimed). IsUpTo opening.workers (claimer claim)) claimer w state.claims counts.claimers;
  given = counts.given;
  published = counts.published;
  refined = counts.refined;
  epochs = counts.epochs;
}
  where
    fewer-claims : (v : ℕ) → (held_by state.holds v ≡ None) ⊎ (claimed_by state.claims v ≡ None) → (v ≡ w) ⊎ (v ≢ w)
        → (held_by state.holds v ≡ None) ⊎ (claimed_by (claims_without w state.claims) v ≡ None)
    fewer-claims v (inl none) either = inl none
    fewer-claims v (inr none) (inl same) = inr (ap (claimed_by (claims_without w state.claims)) same ∙ claimed-gone state.claims w)
    fewer-claims v (inr none) (inr other) = inr (claimed-other state.claims w v other ∙ none)

-- a refine
next-epoch : (b : Bool) (n m : ℕ) → n ≤ m → (if b then suc n else n) ≤ suc m
next-epoch true n m le = omega (arith, le)
next-epoch false n m le = omega (arith, le)

counts-refined : (opening : Opening) (state : State) (predicates : List Predicate) → Counts opening state → state.refined < opening.limits.refinements
    → Counts opening (with_new predicates state)
counts-refined opening state predicates counts left = record {
  holds_apart = counts.holds_apart;
  claims_apart = counts.claims_apart;
  one_only = counts.one_only;
  holders = counts.holders;
  claimers = counts.claimers;
  given = counts.given;
  published = counts.published;
  refined = omega (arith, left);
  epochs = λ home. next-epoch (is_changed predicates home || loses state.live (remaining (is_changed predicates) state.live) home) (state.epochs home) state.refined (counts.epochs home);
}

counts-effect : (opening : Opening) (state : State) (event : Event) → Counts opening state → Allows opening state event → Counts opening (effect opening state event)
counts-effect opening state (Take w instance) counts allows =
    let take = allows.suits.1 in
    let leads : target_among opening.program state.live instance ≡ Some take.task.home = ap (target_among opening.program state.live) (sym take.instance_is) ∙ take.pending.leads in
    subst (Counts opening) (sym (ap (with_job w instance state) leads))
    (counts-held opening state w (record { instance = instance; home = take.task.home; epoch = state.epochs take.task.home }) counts allows.worker take.free take.left_over)
counts-effect opening state (New w id fact) counts allows =
    let publish = allows.suits.1 in
    subst (λ o. Counts opening (without_job w (with_fact id fact (with_published state o) o))) (sym publish.posts.held)
    (counts-new opening state w id fact publish.task counts publish.posts.held publish.id_is)
counts-effect opening state (Same w id) counts allows =
    let publish = allows.suits.1 in
    subst (λ o. Counts opening (without_job w (with_published state o))) (sym publish.posts.held) (counts-published opening state w publish.task counts publish.posts.held)
counts-effect opening state (Nothing w) counts allows =
    let publish = allows.suits.1 in
    subst (λ o. Counts opening (without_job w (with_published state o))) (sym publish.posts.held) (counts-published opening state w publish.task counts publish.posts.held)
counts-effect opening state (StalePublish w) counts allows = counts-dropped opening state w counts
counts-effect opening state (Claim w id) counts allows = counts-claimed opening state w id counts allows.worker allows.suits.1.free
counts-effect opening state (Refine w scope predicates) counts allows =
    counts-unclaimed opening (with_new predicates state) w (counts-refined opening state predicates counts allows.suits.1.left_over)
counts-effect opening state (StaleRefine w) counts allows = counts-unclaimed opening state w counts
counts-effect opening state (Stop w reason) counts allows =
    let both = counts-unclaimed opening (without_job w state) w (counts-dropped opening state w counts) in
    record {
      holds_apart = both.holds_apart;
      claims_apart = both.claims_apart;
      one_only = both.one_only;
      holders = both.holders;
      claimers = both.claimers;
      given = both.given;
      published = both.published;
      refined = both.refined;
      epochs = both.epochs;
    }
counts-effect opening state (StaleStop w) counts allows = counts-unclaimed opening (without_job w state) w (counts-dropped opening state w counts)

pub counts-legal : (opening : Opening) (history : History) → IsLegal opening history → Counts opening (after opening history)
counts-legal opening [] legal = counts-start opening
counts-legal opening (event ∷ earlier) legal = counts-effect opening (after opening earlier) event (counts-legal opening earlier legal.1) legal.0
