-- What a publish answers.
use Rattle.std.proofs.Common.{◌≡◌, ◌≢◌, ◌<◌, ◌+◌, ◌^◌, ℕ, true, false, [], ◌∷◌, length, Option, Some, None, refl, sym, ap, subst, ◌∙◌, inl, inr, arith}
use Rattle.std.specs.Prelude.{option_map, IsSome}
use Rattle.thr_base.specs.Held.{positions}
use Rattle.thr_base.specs.declared.names.FactId.{FactId}
use Rattle.transition_formula.specs.Program.{Program, at_number}
use Rattle.horn_rules.specs.declared.job.Job.{Job}
use Rattle.horn_rules.specs.Home.{Home, homes}
use Rattle.horn_rules.specs.Fact.{Fact}
use Rattle.horn_rules.specs.Post.{IsPost, AreEntailed}
use Rattle.horn_rules.specs.Job.{IsJob, IsOutcome, JobOutcome}
use Rattle.horn_rules.specs.Stored.{home_numbered}
use Rattle.derivation_tree.specs.Facts.{fact_at}
use Rattle.core_steps.specs.declared.answers.Published.TheVariants as told
use Rattle.core_steps.specs.State.{Opening, State, Task, Facts, held_by, IsOpening}
use Rattle.core_steps.specs.Event.{New, Same, Nothing, StalePublish, Stop}
use Rattle.core_steps.specs.Pending.{is_present}
use Rattle.core_steps.specs.Allowed.{Allows, IsNewPublish, IsSamePublish, IsFull}
use Rattle.core_steps.specs.Answers.{NewFact, SameFact, NothingPosted, StaleJob, NotHeld, Stopped, IsPublishAnswer, stopped, drops, other_job, disagrees, stale, full, new, same, nothing}
use Rattle.core_steps.specs.Course.{Course, opening_of, state_of, with_events}
use Rattle.core_steps.specs.Jobs.{JobAgrees}
use Rattle.core_steps.specs.Publishes.{Publishes, job_task, fact_posted}
use Rattle.core_steps.specs.inside.Publishing.{DropsAny, IsToPublish}
use Rattle.core_steps.proofs.Counts.{Counts}
use Rattle.core_steps.proofs.Agreements.{held-worker, job-posts, job-fact}

-- ---- jobs with their outcomes

pub outcome-home : (program : Program) (job : Job) (held : Option ℕ) → IsOutcome program job held → IsSome (at_number (homes program) job.home.0)
outcome-home program job held (given, comes, post) = is-some (at_number (homes program) job.home.0) given.target comes.home_is
  where
    is-some : (o : Option Home) (home : Home) → o ≡ Some home → IsSome o
    is-some None home e = cc
    is-some (Some other) home e = refl

pub outcome-job : (program : Program) (job : Job) (held : Option ℕ) → IsOutcome program job held → IsJob program job
outcome-job program job held (given, comes, post) = (given, comes)

-- ---- what is allowed

pub drop-allowed : (opening : Opening) (state : State) (w : ℕ) (task : Task) → Counts opening state → held_by state.holds w ≡ Some task → (state.stop ≡ None → is_present state task ≡ false)
    → Allows opening state (StalePublish w)
drop-allowed opening state w task counts held old = record { worker = held-worker opening state w task counts held; suits = record { task = task; held = held; stale = old } }

pub nothing-allowed : (opening : Opening) (state : State) (job : Job) (held : Option ℕ) → Counts opening state → state.stop ≡ None
    → held_by state.holds job.worker ≡ Some (job_task opening.program job) → is_present state (job_task opening.program job) ≡ true → JobAgrees opening state job
    → IsOutcome opening.program job held → held ≡ None → Allows opening state (Nothing job.worker)
nothing-allowed opening state job held counts none holds present agrees (given, comes, post) is = record {
  worker = held-worker opening state job.worker (job_task opening.program job) counts holds;
  suits = (
    none,
    record {
      task = job_task opening.program job;
      given = given;
      posts = job-posts opening state job given agrees comes holds present;
      refuted = subst (λ o. IsPost given job.target.value (option_map positions o)) is post;
    },
  );
}

pub fact-to-publish : (opening : Opening) (state : State) (job : Job) (held : Option ℕ) (word : ℕ) → state.stop ≡ None
    → held_by state.holds job.worker ≡ Some (job_task opening.program job) → is_present state (job_task opening.program job) ≡ true → JobAgrees opening state job
    → IsOutcome opening.program job held → held ≡ Some word → word < 2 ^ 128 → IsToPublish opening state job (record { home = job.home; held = word })
fact-to-publish opening state job held word none holds present agrees (given, comes, post) is small =
    let entailed : AreEntailed given job.target.value (positions word) = subst (λ o. IsPost given job.target.value (option_map positions o)) is post in
    record {
      no_stop = none;
      home = outcome-home opening.program job held (given, comes, post);
      word = small;
      given = given;
      posts = job-posts opening state job given agrees comes holds present;
      is_fact = job-fact opening state job given word agrees comes entailed;
    }

-- how many were published fits
pub published-fits : (opening : Opening) (state : State) (n : ℕ) → IsOpening opening → Counts opening state → length state.published ≡ n → n + 1 < 2 ^ 32
published-fits opening state n is counts e =
    let all = counts.published in
    let jobs = is.are_allowed.few_jobs in
    let workers = is.few_workers in
    omega (arith, all, jobs, workers, e)

-- ---- answers

pub publish-dropped : (old : Course) (posted : JobOutcome) (later : Course) → (state_of old).stop ≢ None → DropsAny old posted.job.worker later → Publishes old posted told.Stopped later
publish-dropped old posted later stop (inl (none, course)) = record {
  answer = Stopped;
  events = [];
  is_answer = stopped (fact_posted old.program posted) stop none;
  tells = tt;
  course = course;
}
publish-dropped old posted later stop (inr (task, held, course)) = record {
  answer = Stopped;
  events = StalePublish posted.job.worker ∷ [];
  is_answer = drops (fact_posted old.program posted) task stop held;
  tells = tt;
  course = course;
}

pub publish-other : (old : Course) (posted : JobOutcome) → (state_of old).stop ≡ None → held_by (state_of old).holds posted.job.worker ≢ Some (job_task old.program posted.job) → Publishes old posted told.NotHeld old
publish-other old posted none other = record { answer = NotHeld; events = []; is_answer = other_job (fact_posted old.program posted) none other; tells = tt; course = refl }

pub publish-disagrees : (old : Course) (posted : JobOutcome) → (state_of old).stop ≡ None → held_by (state_of old).holds posted.job.worker ≡ Some (job_task old.program posted.job)
    → is_present (state_of old) (job_task old.program posted.job) ≡ true → (¬ JobAgrees (opening_of old) (state_of old) posted.job) → Publishes old posted told.NotHeld old
publish-disagrees old posted none held present not = record { answer = NotHeld; events = []; is_answer = disagrees (fact_posted old.program posted) none held present not; tells = tt; course = refl }

pub publish-stale : (old : Course) (posted : JobOutcome) (later : Course) → (state_of old).stop ≡ None → held_by (state_of old).holds posted.job.worker ≡ Some (job_task old.program posted.job)
    → is_present (state_of old) (job_task old.program posted.job) ≡ false → later ≡ with_events old (StalePublish posted.job.worker ∷ []) → Publishes old posted told.Stale later
publish-stale old posted later none held gone course = record {
  answer = StaleJob;
  events = StalePublish posted.job.worker ∷ [];
  is_answer = stale (fact_posted old.program posted) none held gone;
  tells = tt;
  course = course;
}

pub publish-nothing : (old : Course) (posted : JobOutcome) (later : Course) → (state_of old).stop ≡ None → held_by (state_of old).holds posted.job.worker ≡ Some (job_task old.program posted.job)
    → JobAgrees (opening_of old) (state_of old) posted.job → posted.held ≡ None → Allows (opening_of old) (state_of old) (Nothing posted.job.worker)
    → later ≡ with_events old (Nothing posted.job.worker ∷ []) → Publishes old posted told.Nothing later
publish-nothing old posted later none held agrees is allowed course =
    let O = opening_of old in
    let S = state_of old in
    record {
      answer = NothingPosted;
      events = Nothing posted.job.worker ∷ [];
      is_answer = subst (λ o. IsPublishAnswer O S posted.job.worker (job_task old.program posted.job) (JobAgrees O S posted.job) o NothingPosted (Nothing posted.job.worker ∷ []))
          (sym (ap (option_map (said old posted)) is)) (nothing none agrees held allowed.suits.1);
      tells = tt;
      course = course;
    }
  where
    said : Course → JobOutcome → ℕ → Fact
    said course outcome word = record { home = home_numbered course.program outcome.job.home.0; held = positions word }

abbrev fact_with : Course → JobOutcome → ℕ → Fact
fact_with course outcome word = record { home = home_numbered course.program outcome.job.home.0; held = positions word }

posted-is : (old : Course) (posted : JobOutcome) (word : ℕ) → posted.held ≡ Some word → fact_posted old.program posted ≡ Some (fact_with old posted word)
posted-is old posted word is = ap (option_map (λ (n : ℕ). fact_with old posted n)) is

pub publish-new : (old : Course) (posted : JobOutcome) (word : ℕ) (id : FactId) (later : Course) → (state_of old).stop ≡ None
    → held_by (state_of old).holds posted.job.worker ≡ Some (job_task old.program posted.job) → JobAgrees (opening_of old) (state_of old) posted.job → posted.held ≡ Some word
    → IsNewPublish (opening_of old) (state_of old) posted.job.worker id.0 (fact_with old posted word)
    → later ≡ with_events old (New posted.job.worker id.0 (fact_with old posted word) ∷ []) → Publishes old posted (told.New id) later
publish-new old posted word id later none held agrees is publish course =
    let O = opening_of old in
    let S = state_of old in
    let fact = fact_with old posted word in
    let next = publish.id_is in
    let renamed : IsNewPublish O S posted.job.worker (S.given + 1) fact = subst (λ n. IsNewPublish O S posted.job.worker n fact) next publish in
    record {
      answer = NewFact (S.given + 1);
      events = New posted.job.worker (S.given + 1) fact ∷ [];
      is_answer = subst (λ o. IsPublishAnswer O S posted.job.worker (job_task old.program posted.job) (JobAgrees O S posted.job) o (NewFact (S.given + 1)) (New posted.job.worker (S.given + 1) fact ∷ []))
          (sym (posted-is old posted word is)) (new fact none agrees held renamed);
      tells = sym next;
      course = course ∙ ap (λ n. with_events old (New posted.job.worker n fact ∷ [])) next;
    }

pub publish-same : (old : Course) (posted : JobOutcome) (word : ℕ) (id : FactId) (later : Course) → (state_of old).stop ≡ None
    → held_by (state_of old).holds posted.job.worker ≡ Some (job_task old.program posted.job) → JobAgrees (opening_of old) (state_of old) posted.job → posted.held ≡ Some word
    → IsSamePublish (opening_of old) (state_of old) posted.job.worker id.0 → fact_at (state_of old).live id.0 ≡ Some (fact_with old posted word)
    → later ≡ with_events old (Same posted.job.worker id.0 ∷ []) → Publishes old posted (told.Same id) later
publish-same old posted word id later none held agrees is publish live course =
    let O = opening_of old in
    let S = state_of old in
    let fact = fact_with old posted word in
    record {
      answer = SameFact id.0;
      events = Same posted.job.worker id.0 ∷ [];
      is_answer = subst (λ o. IsPublishAnswer O S posted.job.worker (job_task old.program posted.job) (JobAgrees O S posted.job) o (SameFact id.0) (Same posted.job.worker id.0 ∷ []))
          (sym (posted-is old posted word is)) (same fact id.0 none agrees held live publish);
      tells = refl;
      course = course;
    }

pub publish-full : (old : Course) (posted : JobOutcome) (word : ℕ) (later : Course) → (state_of old).stop ≡ None
    → held_by (state_of old).holds posted.job.worker ≡ Some (job_task old.program posted.job) → JobAgrees (opening_of old) (state_of old) posted.job → posted.held ≡ Some word
    → IsFull (opening_of old) (state_of old) posted.job.worker → later ≡ with_events old (Stop posted.job.worker (Facts old.limits.facts) ∷ []) → Publishes old posted told.Stopped later
publish-full old posted word later none held agrees is filled course =
    let O = opening_of old in
    let S = state_of old in
    let fact = fact_with old posted word in
    record {
      answer = Stopped;
      events = Stop posted.job.worker (Facts old.limits.facts) ∷ [];
      is_answer = subst (λ o. IsPublishAnswer O S posted.job.worker (job_task old.program posted.job) (JobAgrees O S posted.job) o Stopped (Stop posted.job.worker (Facts old.limits.facts) ∷ []))
          (sym (posted-is old posted word is)) (full fact none agrees held (refl, filled));
      tells = tt;
      course = course;
    }

pub full-allowed : (opening : Opening) (state : State) (w : ℕ) → Counts opening state → state.stop ≡ None → IsFull opening state w → Allows opening state (Stop w (Facts opening.limits.facts))
full-allowed opening state w counts none filled = record { worker = held-worker opening state w filled.task counts filled.posts.held; suits = (none, (refl, filled)) }
