-- What a take, a publish and a stop come to in a run on one thread.
use Rattle.std.proofs.Common.{◌≡◌, ◌≢◌, ◌<◌, ◌≤◌, ◌+◌, ◌-◌, ℕ, suc, true, false, List, [], ◌∷◌, ◌++◌, length, Option, Some, None, refl, sym, ap, ap₂, subst, ◌∙◌, inl, inr, append_assoc, arith}
use Rattle.std.specs.Prelude.{option_map, unwrap_or}
use Rattle.transition_formula.specs.Program.{at_number}
use Rattle.horn_rules.specs.declared.job.Job.{Job}
use Rattle.horn_rules.specs.Fact.{Fact}
use Rattle.horn_rules.specs.Home.{Home, State as AtLocation, homes}
use Rattle.horn_rules.specs.Instance.{Instance}
use Rattle.horn_rules.specs.Job.{JobOutcome}
use Rattle.horn_rules.specs.Stored.{home_numbered, instance_of}
use Rattle.core_steps.specs.declared.answers.Taken.{Taken}
use Rattle.core_steps.specs.declared.answers.Taken.TheVariants as taken
use Rattle.core_steps.specs.declared.answers.Published.{Published}
use Rattle.core_steps.specs.declared.answers.Published.TheVariants as told
use Rattle.core_steps.specs.State.{Opening, State, Task, Hold, Reason, Jobs, Facts, JobLeft, Memory, IsFree, held_by, claimed_by}
use Rattle.core_steps.specs.Event.{Event, Take, New, Same, Nothing, Stop}
use Rattle.core_steps.specs.After.{effect}
use Rattle.core_steps.specs.Pending.{IsPending, IsQuiet, is_present}
use Rattle.core_steps.specs.Answers.{TakeAnswer, PublishAnswer, Stopped, IsTakeAnswer, IsPublishAnswer}
use Rattle.core_steps.specs.Answers as answers
use Rattle.core_steps.specs.Ends.{OfTask, OfRun, StopAnswer, IsStopAnswer}
use Rattle.core_steps.specs.Ends as ends
use Rattle.core_steps.specs.Stops.{Stops as StopsBy}
use Rattle.core_steps.specs.declared.answers.StopAnswer.{StopAnswer as StoredAnswer}
use Rattle.core_steps.specs.declared.event.Reason.TheVariants as reason
use Rattle.derivation_tree.specs.Kept.{OfJob}
use Rattle.farkas_cert.specs.declared.answers.LeaveKind.{LeaveKind}
use Rattle.core_steps.specs.Course.{Course, opening_of, state_of, with_events}
use Rattle.core_steps.specs.Jobs.{Takes, TellsTaken, IsHandedOut, IsJobOf, JobAgrees}
use Rattle.core_steps.specs.Publishes.{TellsPublished, job_task, fact_posted}
use Rattle.core_steps.specs.Publishes as publishes
use Rattle.core_steps.proofs.PresentTasks.{pending-present}
use Rattle.core_steps.proofs.Tests.{true-false}
use Rattle.serial_run.specs.Run.{IsIdle, Runs, StopsARun, HasEnded, stood, is_quiet, stops}
use Rattle.serial_run.specs.declared.next.Went.{Went}
use Rattle.serial_run.specs.declared.next.Went.TheVariants.{On, Ended}
use Rattle.serial_run.specs.inside.Steps.{HasJob, HoldsOwn, HoldsJob, Reaches, HasTaken, Advances, GoesFrom}
use Rattle.serial_run.proofs.States.{HoldsOne, Publishes, Stops, held-one, taken-state, new-publishes, same-publishes, nothing-publishes, stop-of-one, stop-of-none}

-- ---- histories

two-steps : (old mid new : Course) (first second : List Event) → mid ≡ with_events old first → new ≡ with_events mid second → new ≡ with_events old (second ++ first)
two-steps old mid new first second to_mid to_new =
    to_new ∙ ap (λ (c : Course). with_events c second) to_mid ∙ ap (λ (history : List Event). record old { history = history }) (sym (append_assoc second first old.history))

-- A run that goes on from where no stop stands, goes on from before.
ended-before : (old mid new : Course) → ((state_of old).stop ≡ None → (state_of mid).stop ≡ None) → HasEnded mid new → HasEnded old new
ended-before old mid new no_stop (stood stop) = stood (λ none. stop (no_stop none))
ended-before old mid new no_stop (is_quiet quiet) = is_quiet quiet
ended-before old mid new no_stop (stops reason stop of_run) = stops reason stop of_run

-- What is done behind a take is done from before it.
pub behind-take : (old mid new : Course) (job : Job) (went : Went) → HasTaken old job mid → GoesFrom mid went new → GoesFrom old went new
behind-take old mid new job On took goes = record {
  events = goes.events ++ took.events;
  course = two-steps old mid new took.events goes.events took.course goes.course;
  sets_stay = goes.sets_stay ∙ took.sets_stay;
  refined_stays = goes.refined_stays ∙ took.refined_stays;
  no_stop = goes.no_stop;
  idle = goes.idle;
  one_more = goes.one_more ∙ ap suc took.as_many;
  few = subst (λ (c : Course). length (state_of new).published ≤ c.limits.jobs) took.course goes.few;
}
behind-take old mid new job Ended took goes = record {
  events = goes.events ++ took.events;
  course = two-steps old mid new took.events goes.events took.course goes.course;
  sets_stay = goes.sets_stay ∙ took.sets_stay;
  refined_stays = goes.refined_stays ∙ took.refined_stays;
  idle = goes.idle;
  ended = ended-before old mid new (λ none. took.has_job.no_stop) goes.ended;
}

-- ---- how far a run came

pub reaches-itself : (old : Course) → IsIdle old → Reaches old old
reaches-itself old idle = record { events = []; course = refl; sets_stay = refl; refined_stays = refl; no_stop = λ none. none; idle = idle }

pub reaches-further : (old mid new : Course) → Reaches old mid → Advances mid new → Reaches old new
reaches-further old mid new first next = record {
  events = next.events ++ first.events;
  course = two-steps old mid new first.events next.events first.course next.course;
  sets_stay = next.sets_stay ∙ first.sets_stay;
  refined_stays = next.refined_stays ∙ first.refined_stays;
  no_stop = λ none. next.no_stop;
  idle = next.idle;
}

pub reaches-end : (old mid new : Course) → Reaches old mid → Runs mid new → Runs old new
reaches-end old mid new first rest = record {
  events = rest.events ++ first.events;
  course = two-steps old mid new first.events rest.events first.course rest.course;
  sets_stay = rest.sets_stay ∙ first.sets_stay;
  refined_stays = rest.refined_stays ∙ first.refined_stays;
  idle = rest.idle;
  ended = ended-before old mid new first.no_stop rest.ended;
}

-- how many publishes are left
abbrev pub left_over : Course → ℕ
left_over course = course.limits.jobs - length (state_of course).published

pub fewer-left : (mid new : Course) → Advances mid new → left_over new < left_over mid
fewer-left mid new next =
    let limits : new.limits.jobs ≡ mid.limits.jobs = ap (λ (c : Course). c.limits.jobs) next.course in
    let more = next.one_more in
    let few = next.few in
    omega (arith, limits, more, few)

-- ---- takes

idle-free : (state : State) → state.holds ≡ [] → state.claims ≡ [] → IsFree state 1
idle-free state holds claims = record { no_job = ap (λ xs. held_by xs 1) holds; no_claim = ap (λ xs. claimed_by xs 1) claims }

abbrev made : Instance ℕ → Home → ℕ → Task
made instance home epoch = record { instance = instance; home = home; epoch = epoch }

-- A job that is of a task has this task.
of-task : (opening : Opening) (task : Task) (job : Job) → IsJobOf opening task job → job_task opening.program job ≡ task
of-task opening task job of =
    ap (λ i. made i (home_numbered opening.program job.home.0) job.epoch.0) of.instance_is
    ∙ ap (λ (o : Option Home). made task.instance (unwrap_or o (AtLocation 0 0)) job.epoch.0) of.home_is
    ∙ ap (made task.instance task.home) of.epoch_is

-- A job agrees also where more is held.
agrees-held : (opening : Opening) (state : State) (holds : List Hold) (job : Job) → JobAgrees opening state job → JobAgrees opening (record state { holds = holds }) job
agrees-held opening state holds job agrees = record { first = agrees.first; second = agrees.second; target = agrees.target }

-- The job that is handed out is the one that is then held.
handed-state : (opening : Opening) (state : State) (task : Task) (job : Job) → state.holds ≡ [] → state.claims ≡ [] → state.stop ≡ None → IsPending opening state task
    → length state.published < opening.limits.jobs → IsHandedOut opening state 1 task job → HoldsJob opening (record state { holds = record { worker = 1; task = task } ∷ state.holds }) job
handed-state opening state task job holds claims none pending left out =
    let task_is : task ≡ job_task opening.program job = sym (of-task opening task job out.is_of) in
    record {
      held = ap₂ (λ (t : Task) (xs : List Hold). record { worker = 1; task = t } ∷ xs) task_is holds;
      no_claims = claims;
      no_stop = none;
      program_is = out.program_is;
      worker_is = out.worker_is;
      fits = out.fits;
      agrees = agrees-held opening state (record { worker = 1; task = task } ∷ state.holds) job out.agrees;
      present = ap (is_present state) (sym task_is) ∙ pending-present opening state task pending;
      left_over = left;
    }

handed : (old new : Course) (task : Task) (job : Job) → IsIdle old → (state_of old).stop ≡ None → IsPending (opening_of old) (state_of old) task
    → length (state_of old).published < old.limits.jobs → IsHandedOut (opening_of old) (state_of old) 1 task job → new ≡ with_events old (Take 1 task.instance ∷ []) → HasTaken old job new
handed old new task job idle none pending left out course =
    let S = state_of old in
    let after_it : state_of new ≡ record S { holds = record { worker = 1; task = task } ∷ S.holds } =
    ap state_of course ∙ taken-state (opening_of old) S task pending.leads pending.present in
    record {
      events = Take 1 task.instance ∷ [];
      course = course;
      sets_stay = ap (λ (s : State). s.sets) after_it;
      refined_stays = ap (λ (s : State). s.refined) after_it;
      no_stop = none;
      as_many = ap (λ (s : State). length s.published) after_it;
      has_job = subst (λ (o : Opening). HoldsJob o (state_of new) job) (sym (ap opening_of course))
          (subst (λ (s : State). HoldsJob (opening_of old) s job) (sym after_it) (handed-state (opening_of old) S task job idle.no_jobs idle.no_claims none pending left out));
    }

free-of : (old : Course) → IsIdle old → IsFree (state_of old) 1
free-of old idle = idle-free (state_of old) idle.no_jobs idle.no_claims

-- Where nothing happens, the run has ended.
ends-there : (old new : Course) → IsIdle old → HasEnded old old → new ≡ old → Runs old new
ends-there old new idle ended same =
    subst (λ (c : Course). Runs old c) (sym same) (record { events = []; course = refl; sets_stay = refl; refined_stays = refl; idle = idle; ended = ended })

-- A stop ends it.
stops-there : (old new : Course) (reason : Reason) → Stops (state_of old) (effect (opening_of old) (state_of old) (Stop 1 reason)) → StopsARun old.limits reason
    → new ≡ with_events old (Stop 1 reason ∷ []) → Runs old new
stops-there old new reason stopped of_run course = subst (λ (c : Course). Runs old c) (sym course) (record {
  events = Stop 1 reason ∷ [];
  course = refl;
  sets_stay = stopped.sets;
  refined_stays = stopped.refined;
  idle = record { no_jobs = stopped.holds; no_claims = stopped.claims };
  ended = stops reason refl of_run;
})

-- A take by the one worker hands a job out, or the run has ended.
pub took-job : (old new : Course) (job : Job) → IsIdle old → Takes old 1 None (taken.Job job) new → HasTaken old job new
took-job old new job idle takes = by-answer takes.answer takes.events takes.is_answer takes.tells takes.course
  where
    by-answer : (answer : TakeAnswer) (events : List Event) → IsTakeAnswer (opening_of old) (state_of old) 1 None answer events → TellsTaken (opening_of old) (state_of old) 1 answer (taken.Job job)
        → new ≡ with_events old events → HasTaken old job new
    by-answer _ _ (answers.stopped stop) tells course = absurd tells
    by-answer _ _ (answers.holds none busy) tells course = absurd tells
    by-answer _ _ (answers.none_pending none free never) tells course = absurd tells
    by-answer _ _ (answers.spent task none free asked pending full) tells course = absurd tells
    by-answer _ _ (answers.gives task none asked pending preferred take) tells course = handed old new task job idle none pending take.left_over tells course

pub took-nothing : (old new : Course) → IsIdle old → Takes old 1 None taken.NothingPending new → Runs old new
took-nothing old new idle takes = by-answer takes.answer takes.events takes.is_answer takes.tells takes.course
  where
    by-answer : (answer : TakeAnswer) (events : List Event) → IsTakeAnswer (opening_of old) (state_of old) 1 None answer events → TellsTaken (opening_of old) (state_of old) 1 answer taken.NothingPending
        → new ≡ with_events old events → Runs old new
    by-answer _ _ (answers.stopped stop) tells course = absurd tells
    by-answer _ _ (answers.holds none busy) tells course = absurd tells
    by-answer _ _ (answers.none_pending none free never) tells course =
        ends-there old new idle (is_quiet (record { none_pending = λ task. never task tt; none_held = idle.no_jobs; no_stop = none })) course
    by-answer _ _ (answers.spent task none free asked pending full) tells course = absurd tells
    by-answer _ _ (answers.gives task none asked pending preferred take) tells course = absurd tells

pub took-stop : (old new : Course) → IsIdle old → Takes old 1 None taken.Stopped new → Runs old new
took-stop old new idle takes = by-answer takes.answer takes.events takes.is_answer takes.tells takes.course
  where
    by-answer : (answer : TakeAnswer) (events : List Event) → IsTakeAnswer (opening_of old) (state_of old) 1 None answer events → TellsTaken (opening_of old) (state_of old) 1 answer taken.Stopped
        → new ≡ with_events old events → Runs old new
    by-answer _ _ (answers.stopped stop) tells course = ends-there old new idle (stood stop) course
    by-answer _ _ (answers.holds none busy) tells course = absurd tells
    by-answer _ _ (answers.none_pending none free never) tells course = absurd tells
    by-answer _ _ (answers.spent task none free asked pending full) tells course =
        stops-there old new (Jobs old.limits.jobs) (stop-of-none (opening_of old) (state_of old) (Jobs old.limits.jobs) idle.no_jobs idle.no_claims) refl course
    by-answer _ _ (answers.gives task none asked pending preferred take) tells course = absurd tells

pub holds-nothing : (old new : Course) → IsIdle old → Takes old 1 None taken.HoldsAlready new → ⊥
holds-nothing old new idle takes = by-answer takes.answer takes.events takes.is_answer takes.tells
  where
    by-answer : (answer : TakeAnswer) (events : List Event) → IsTakeAnswer (opening_of old) (state_of old) 1 None answer events → TellsTaken (opening_of old) (state_of old) 1 answer taken.HoldsAlready → ⊥
    by-answer _ _ (answers.stopped stop) tells = absurd tells
    by-answer _ _ (answers.holds none busy) tells = busy (free-of old idle)
    by-answer _ _ (answers.none_pending none free never) tells = absurd tells
    by-answer _ _ (answers.spent task none free asked pending full) tells = absurd tells
    by-answer _ _ (answers.gives task none asked pending preferred take) tells = absurd tells

-- ---- publishes

one-held : (opening : Opening) (state : State) (job : Job) → HoldsJob opening state job → HoldsOne state (job_task opening.program job)
one-held opening state job has = record { holds = has.held; claims = has.no_claims }

-- A publish advances the run.
advances : (old new : Course) (job : Job) (event : Event) → HasJob old job → Publishes (state_of old) (effect (opening_of old) (state_of old) event) → new ≡ with_events old (event ∷ []) → Advances old new
advances old new job event has published course = subst (λ (c : Course). Advances old c) (sym course) (record {
  events = event ∷ [];
  course = refl;
  sets_stay = published.sets;
  refined_stays = published.refined;
  no_stop = published.stop ∙ has.no_stop;
  idle = record { no_jobs = published.holds; no_claims = published.claims };
  one_more = published.one_more;
  few = subst (λ n. n ≤ old.limits.jobs) (sym published.one_more) has.left_over;
})

tells-stopped : (published : Published) → TellsPublished Stopped published → published ≡ told.Stopped
tells-stopped (told.New id) tells = absurd tells
tells-stopped (told.Same id) tells = absurd tells
tells-stopped told.Nothing tells = absurd tells
tells-stopped told.Stale tells = absurd tells
tells-stopped told.NotHeld tells = absurd tells
tells-stopped told.Stopped tells = refl

-- what is answered of a job that the worker holds, as the run hands it out
abbrev IsAnswerOf : Course → JobOutcome → PublishAnswer → List Event → Type 0
IsAnswerOf old posted answer events =
    IsPublishAnswer (opening_of old) (state_of old) posted.job.worker (job_task old.program posted.job) (JobAgrees (opening_of old) (state_of old) posted.job) (fact_posted old.program posted) answer events

by-first : (old : Course) (posted : JobOutcome) (answer : PublishAnswer) (events : List Event) → HasJob old posted.job → IsAnswerOf old posted answer events
    → IsPublishAnswer (opening_of old) (state_of old) 1 (job_task old.program posted.job) (JobAgrees (opening_of old) (state_of old) posted.job) (fact_posted old.program posted) answer events
by-first old posted answer events has is =
    subst (λ w. IsPublishAnswer (opening_of old) (state_of old) w (job_task old.program posted.job) (JobAgrees (opening_of old) (state_of old) posted.job) (fact_posted old.program posted) answer events) has.worker_is is

-- Where the publish does not answer that the run stopped, one more job is published.
pub published-on : (old new : Course) (posted : JobOutcome) (published : Published) → HasJob old posted.job → publishes.Publishes old posted published new → (published ≡ told.Stopped → ⊥) → Advances old new
published-on old new posted published has made on = by-answer _ _ _ (by-first old posted made.answer made.events has made.is_answer) made.tells made.course
  where
    S : State
    S = state_of old

    one : HoldsOne S (job_task old.program posted.job)
    one = one-held (opening_of old) S posted.job has

    by-answer : (fact : Option Fact) (answer : PublishAnswer) (events : List Event) → IsPublishAnswer (opening_of old) S 1 (job_task old.program posted.job) (JobAgrees (opening_of old) S posted.job) fact answer events
        → TellsPublished answer published → new ≡ with_events old events → Advances old new
    by-answer _ _ _ (answers.stopped fact stop held) tells course = absurd (stop has.no_stop)
    by-answer _ _ _ (answers.drops fact held stop holds) tells course = absurd (stop has.no_stop)
    by-answer _ _ _ (answers.other_job fact none other) tells course = absurd (other (held-one S (job_task old.program posted.job) one))
    by-answer _ _ _ (answers.disagrees fact none holds present differs) tells course = absurd (differs has.agrees)
    by-answer _ _ _ (answers.stale fact none holds gone) tells course = absurd (true-false (is_present S (job_task old.program posted.job)) has.present gone)
    by-answer _ _ _ (answers.full fact none agrees holds full) tells course = absurd (on (tells-stopped published tells))
    by-answer _ _ _ (answers.new fact none agrees holds is_new) tells course =
        advances old new posted.job (New 1 (S.given + 1) fact) has (new-publishes (opening_of old) S (job_task old.program posted.job) (S.given + 1) fact one) course
    by-answer _ _ _ (answers.same fact id none agrees holds is_live is_same) tells course =
        advances old new posted.job (Same 1 id) has (same-publishes (opening_of old) S (job_task old.program posted.job) id one) course
    by-answer _ _ _ (answers.nothing none agrees holds is_nothing) tells course =
        advances old new posted.job (Nothing 1) has (nothing-publishes (opening_of old) S (job_task old.program posted.job) one) course

-- Where it does, the run has ended.
pub published-stop : (old new : Course) (posted : JobOutcome) → HasJob old posted.job → publishes.Publishes old posted told.Stopped new → Runs old new
published-stop old new posted has made = by-answer _ _ _ (by-first old posted made.answer made.events has made.is_answer) made.tells made.course
  where
    S : State
    S = state_of old

    one : HoldsOne S (job_task old.program posted.job)
    one = one-held (opening_of old) S posted.job has

    by-answer : (fact : Option Fact) (answer : PublishAnswer) (events : List Event) → IsPublishAnswer (opening_of old) S 1 (job_task old.program posted.job) (JobAgrees (opening_of old) S posted.job) fact answer events
        → TellsPublished answer told.Stopped → new ≡ with_events old events → Runs old new
    by-answer _ _ _ (answers.stopped fact stop held) tells course = absurd (stop has.no_stop)
    by-answer _ _ _ (answers.drops fact held stop holds) tells course = absurd (stop has.no_stop)
    by-answer _ _ _ (answers.other_job fact none other) tells course = absurd tells
    by-answer _ _ _ (answers.disagrees fact none holds present differs) tells course = absurd tells
    by-answer _ _ _ (answers.stale fact none holds gone) tells course = absurd tells
    by-answer _ _ _ (answers.full fact none agrees holds full) tells course =
        stops-there old new (Facts old.limits.facts) (stop-of-one (opening_of old) S (job_task old.program posted.job) (Facts old.limits.facts) one) refl course
    by-answer _ _ _ (answers.new fact none agrees holds is_new) tells course = absurd tells
    by-answer _ _ _ (answers.same fact id none agrees holds is_live is_same) tells course = absurd tells
    by-answer _ _ _ (answers.nothing none agrees holds is_nothing) tells course = absurd tells

-- ---- stops

-- A stop for want of memory ends the run.
pub stopped-memory : (old new : Course) (stored : StoredAnswer) → HoldsOwn old → StopsBy old 1 reason.Memory stored new → Runs old new
stopped-memory old new stored own made = by-answer _ _ made.is_answer made.course
  where
    S : State
    S = state_of old

    by-answer : (answer : StopAnswer) (events : List Event) → IsStopAnswer (opening_of old) S 1 (Unit {0}) (OfRun Memory) answer events → new ≡ with_events old events → Runs old new
    by-answer _ _ (ends.stopped stop free) course = elim own [
      | inl idle ↦ ends-there old new idle (stood stop) course
      | inr has ↦ absurd (stop has.1.no_stop)
    ]
    by-answer _ _ (ends.drops stop busy) course = elim own [
      | inl idle ↦ absurd (busy (free-of old idle))
      | inr has ↦ absurd (stop has.1.no_stop)
    ]
    by-answer _ _ (ends.other none not_named) course = absurd (not_named tt)
    by-answer _ _ (ends.disagrees none named fresh differs) course = absurd (differs tt)
    by-answer _ _ (ends.stale none named old_one) course = absurd old_one
    by-answer _ _ (ends.records none named agrees is_reason) course = elim own [
      | inl idle ↦ stops-there old new Memory (stop-of-none (opening_of old) S Memory idle.no_jobs idle.no_claims) tt course
      | inr has ↦ stops-there old new Memory (stop-of-one (opening_of old) S (job_task old.program has.0) Memory (one-held (opening_of old) S has.0 has.1)) tt course
    ]

-- A stop where the job is left undecided ends it.
pub stopped-left : (old new : Course) (job : Job) (kind : LeaveKind) (stored : StoredAnswer) → HasJob old job → StopsBy old 1 (reason.Left (OfJob job kind)) stored new → Runs old new
stopped-left old new job kind stored has made = by-answer _ _ made.is_answer made.course
  where
    S : State
    S = state_of old

    task : Task
    task = job_task old.program job

    by-answer : (answer : StopAnswer) (events : List Event) → IsStopAnswer (opening_of old) S 1 (JobAgrees (opening_of old) S job) (OfTask job.worker task kind) answer events
        → new ≡ with_events old events → Runs old new
    by-answer _ _ (ends.stopped stop free) course = absurd (stop has.no_stop)
    by-answer _ _ (ends.drops stop busy) course = absurd (stop has.no_stop)
    by-answer _ _ (ends.other none not_named) course = absurd (not_named (has.worker_is, held-one S task (one-held (opening_of old) S job has)))
    by-answer _ _ (ends.disagrees none named fresh differs) course = absurd (differs has.agrees)
    by-answer _ _ (ends.stale none named old_one) course = absurd (true-false (is_present S task) has.present old_one)
    by-answer _ _ (ends.records none named agrees is_reason) course =
        stops-there old new (JobLeft task.instance kind) (stop-of-one (opening_of old) S task (JobLeft task.instance kind) (one-held (opening_of old) S job has)) tt course
