-- How a posted fact comes into the table.
use Rattle.std.proofs.Common.{◌≡◌, ◌<◌, ◌≤◌, ◌+◌, ◌-◌, ◌^◌, ℕ, List, map, length, Option, Some, sym, ap, ◌∙◌, arith}
use Rattle.std.specs.List.{list_all}
use Rattle.std.proofs.lemmas.List.{length-map, length-reverse}
use Rattle.std.specs.Prelude.{◌==◌}
use Rattle.thr_base.specs.declared.names.FactId.{FactId}
use Rattle.thr_base.specs.declared.names.Fact.{Fact as StoredFact}
use Rattle.fact_table.specs.declared.live_fact.LiveFact.{LiveFact}
use Rattle.fact_table.specs.declared.table.Inserted.TheVariants as inserted
use Rattle.fact_table.specs.Live.{ArePremisesLive}
use Rattle.fact_table.specs.Table.{FactTable, HasHome, IsInsertAnswer, IsTable}
use Rattle.transition_formula.specs.Program.{Program, at_number}
use Rattle.horn_rules.specs.declared.job.Job.{Job}
use Rattle.horn_rules.specs.Home.{homes}
use Rattle.horn_rules.specs.Instance.{premises_of}
use Rattle.horn_rules.specs.Stored.{HasItsHome, fact_of, home_numbered, instance_of}
use Rattle.horn_rules.proofs.Lists.{all-contained}
use Rattle.horn_rules.proofs.Numbers.{numbered-there}
use Rattle.pending_instances.specs.Pending.{AreAtHomes}
use Rattle.core_steps.specs.State.{Opening, State, Task, IsOpening, held_by}
use Rattle.core_steps.specs.Event.{New, Same}
use Rattle.core_steps.specs.Withdrawn.{has_id}
use Rattle.core_steps.specs.Allowed.{Allows, IsNewPublish, IsSamePublish, IsFull}
use Rattle.core_steps.specs.Readers.{kept_of, newest}
use Rattle.core_steps.specs.Publishes.{job_task}
use Rattle.core_steps.specs.declared.held.Held.{Held}
use Rattle.core_steps.specs.inside.Parts.{AreHolds, IsFullTable}
use Rattle.core_steps.specs.inside.Publishing.{IsToPublish}
use Rattle.core_steps.proofs.Tests.{both}
use Rattle.core_steps.proofs.Keeps.{Keeps}
use Rattle.core_steps.proofs.Counts.{Counts}
use Rattle.core_steps.proofs.PresentTasks.{all-to}
use Rattle.core_steps.proofs.PremiseFacts.{home-of, number-within}
use Rattle.core_steps.proofs.Agreements.{held-worker, lacks-live, has-live, premises-stored}

pub has-home : (program : Program) (table : FactTable) (fact : StoredFact) → table.homes ≡ length (homes program) → HasItsHome program fact → HasHome table.homes fact.home.0
has-home program table fact same has =
    let within = number-within (homes program) fact.home.0 (home_numbered program fact.home.0) (home-of program fact.home.0 has) in
    (within.0, omega (arith, within.1, same))

-- where a table's homes are those of the program, its facts stand at them
pub at-homes : (program : Program) (table : FactTable) → IsTable table → table.homes ≡ length (homes program) → AreAtHomes program table.live
at-homes program table is same f has =
    let at = all-contained (λ g. HasHome table.homes (LiveFact.fact g).home.0) table.live f is.at_homes has in
    numbered-there (homes program) f.fact.home.0 at.0 (omega (arith, at.1, same))

-- the premises of the job are live
pub premises-live : (opening : Opening) (state : State) (table : FactTable) (job : Job) (fact : StoredFact) → IsFullTable opening.program opening.limits.facts state table → IsToPublish opening state job fact
    → ArePremisesLive table.live job.instance
premises-live opening state table job fact is to =
    let task = job_task opening.program job in
    let (epoch, live) = both (task.epoch == state.epochs task.home) (list_all (has_id state.live) (premises_of task.instance)) to.posts.present in
    premises-stored opening.program opening.limits.facts state table job.instance is (all-to (has_id state.live) (premises_of task.instance) live)

-- ids are left
pub ids-left : (opening : Opening) (state : State) (table : FactTable) → IsOpening opening → Counts opening state → IsFullTable opening.program opening.limits.facts state table → table.given < 2 ^ 32 - 1
ids-left opening state table is counts full =
    let given = counts.given in
    let all = counts.published in
    let jobs = is.are_allowed.few_jobs in
    let workers = is.few_workers in
    let same = full.table_is.given_is in
    omega (arith, given, all, jobs, workers, same)

length-newest : (program : Program) (live : List LiveFact) → length (newest program live) ≡ length live
length-newest program live = length-reverse (map (kept_of program) live) ∙ length-map live (kept_of program)

length-live : (opening : Opening) (state : State) (table : FactTable) → IsFullTable opening.program opening.limits.facts state table → length state.live ≡ length table.live
length-live opening state table is = ap length is.table_is.live_is ∙ length-newest opening.program table.live

-- it is new
pub new-publish : (opening : Opening) (state : State) (table later : FactTable) (job : Job) (fact : StoredFact) (id : FactId) → IsFullTable opening.program opening.limits.facts state table
    → IsToPublish opening state job fact → IsInsertAnswer table fact job.instance (inserted.New id) later → IsNewPublish opening state job.worker id.0 (fact_of opening.program fact)
new-publish opening state table later job fact id is to answer =
    let long = length-live opening state table is in
    let limit = is.limit_is in
    let room = answer.1 in
    record {
      task = job_task opening.program job;
      given = to.given;
      posts = to.posts;
      is_fact = to.is_fact;
      not_live = lacks-live opening.program opening.limits.facts state table fact is answer.0 to.word to.home;
      id_is = answer.2 ∙ ap (λ n. n + 1) (sym is.table_is.given_is);
      room = omega (arith, long, limit, room);
    }

pub new-allowed : (opening : Opening) (state : State) (table later : FactTable) (job : Job) (fact : StoredFact) (id : FactId) → Counts opening state → IsFullTable opening.program opening.limits.facts state table
    → IsToPublish opening state job fact → IsInsertAnswer table fact job.instance (inserted.New id) later → Allows opening state (New job.worker id.0 (fact_of opening.program fact))
new-allowed opening state table later job fact id counts is to answer = record {
  worker = held-worker opening state job.worker (job_task opening.program job) counts to.posts.held;
  suits = (to.no_stop, new-publish opening state table later job fact id is to answer);
}

-- it is live already
pub same-publish : (opening : Opening) (state : State) (table later : FactTable) (job : Job) (fact : StoredFact) (id : FactId) → Keeps opening state → IsFullTable opening.program opening.limits.facts state table
    → IsToPublish opening state job fact → IsInsertAnswer table fact job.instance (inserted.Same id) later → IsSamePublish opening state job.worker id.0
same-publish opening state table later job fact id keeps is to answer = record {
  task = job_task opening.program job;
  given = to.given;
  fact = fact_of opening.program fact;
  posts = to.posts;
  is_fact = to.is_fact;
  is_live = has-live opening.program opening.limits.facts state table id fact is keeps.falls answer.0;
}

pub same-allowed : (opening : Opening) (state : State) (table later : FactTable) (job : Job) (fact : StoredFact) (id : FactId) → Counts opening state → Keeps opening state
    → IsFullTable opening.program opening.limits.facts state table → IsToPublish opening state job fact → IsInsertAnswer table fact job.instance (inserted.Same id) later
    → Allows opening state (Same job.worker id.0)
same-allowed opening state table later job fact id counts keeps is to answer = record {
  worker = held-worker opening state job.worker (job_task opening.program job) counts to.posts.held;
  suits = (to.no_stop, same-publish opening state table later job fact id keeps is to answer);
}

-- there are as many as may be
pub full-publish : (opening : Opening) (state : State) (table later : FactTable) (job : Job) (fact : StoredFact) → IsFullTable opening.program opening.limits.facts state table
    → IsToPublish opening state job fact → IsInsertAnswer table fact job.instance inserted.Full later → IsFull opening state job.worker
full-publish opening state table later job fact is to answer =
    let long = length-live opening state table is in
    let limit = is.limit_is in
    let all = answer.1 in
    record {
      task = job_task opening.program job;
      given = to.given;
      fact = fact_of opening.program fact;
      posts = to.posts;
      is_fact = to.is_fact;
      not_live = lacks-live opening.program opening.limits.facts state table fact is answer.0 to.word to.home;
      full = omega (arith, long, limit, all);
    }

-- the worker's place
pub place-there : (opening : Opening) (state : State) (holds : List (Option Held)) (w : ℕ) (task : Task) → Counts opening state → AreHolds opening.program opening.workers state holds → held_by state.holds w ≡ Some task
    → (1 ≤ w) × (w - 1 < length holds)
place-there opening state holds w task counts are held =
    let worker = held-worker opening state w task counts held in
    let one = are.one_each in
    (worker.from_1, let from = worker.from_1 in let within = worker.within in omega (arith, one, from, within))
