-- What a take answers.
use Rattle.std.proofs.Common.{◌≡◌, ◌≢◌, ℕ, [], ◌∷◌, Option, Some, None, refl, sym, ap, ◌∙◌}
use Rattle.std.specs.Prelude.{option_map, MatchOption, IfOk, IfSome, Result, Ok, Err}
use Rattle.thr_base.specs.declared.names.Instance.{Instance as StoredInstance}
use Rattle.horn_rules.specs.Stored.{instance_of}
use Rattle.derivation_tree.specs.Tree.{thread_of}
use Rattle.instance_cursors.specs.declared.choosing.Next.{Next}
use Rattle.core_steps.specs.declared.answers.Taken.{Taken}
use Rattle.core_steps.specs.declared.answers.Taken.TheVariants as taken
use Rattle.core_steps.specs.State.{Opening, State, Task, IsFree, Jobs}
use Rattle.core_steps.specs.Event.{Take, Stop}
use Rattle.core_steps.specs.Pending.{IsPending}
use Rattle.core_steps.specs.Answers.{GivesJob, NothingPending, HoldsAlready, Stopped, IsAskedFor, IsPreferred, stopped, holds, none_pending, spent, gives}
use Rattle.core_steps.specs.Course.{Course, opening_of, state_of, with_events}
use Rattle.core_steps.specs.Jobs.{Takes}
use Rattle.core_steps.specs.inside.Taking.{IsNextOf, IsChosen, HandsOut}

pub map-match : {A : Type 0} (o : Option A) (P R : Type 0) (Q S : A → Type 0) → (P → R) → ((x : A) → Q x → S x) → MatchOption o P Q → MatchOption o R S
map-match None P R Q S f g m = f m
map-match (Some x) P R Q S f g m = g x m

pub map-ok : {A E : Type 0} (r : Result A E) (P Q : A → Type 0) → ((x : A) → P x → Q x) → IfOk r P → IfOk r Q
map-ok (Ok x) P Q f m = f x m
map-ok (Err e) P Q f m = m

pub some-by : {A : Type 0} (o : Option A) (P : A → Type 0) → ((x : A) → o ≡ Some x → P x) → IfSome o P
some-by None P f = tt
some-by (Some x) P f = f x refl

pub take-stopped : (old : Course) (w : ℕ) (asked : Option StoredInstance) → (state_of old).stop ≢ None → Takes old w asked taken.Stopped old
take-stopped old w asked stop = record { answer = Stopped; events = []; is_answer = stopped stop; tells = tt; course = refl }

pub take-holds : (old : Course) (w : ℕ) (asked : Option StoredInstance) → (state_of old).stop ≡ None → (¬ IsFree (state_of old) w) → Takes old w asked taken.HoldsAlready old
take-holds old w asked none busy = record { answer = HoldsAlready; events = []; is_answer = holds none busy; tells = tt; course = refl }

pub take-nothing : (old : Course) (w : ℕ) (asked : Option StoredInstance) → (state_of old).stop ≡ None → IsFree (state_of old) w
    → ((task : Task) → IsAskedFor (option_map instance_of asked) task → ¬ IsPending (opening_of old) (state_of old) task) → Takes old w asked taken.NothingPending old
take-nothing old w asked none free never = record { answer = NothingPending; events = []; is_answer = none_pending none free never; tells = tt; course = refl }

pub take-handed : (old : Course) (w : ℕ) (asked : Option StoredInstance) (next : Next) (told : Taken) (new : Course) → (state_of old).stop ≡ None → IsFree (state_of old) w
    → ((task : Task) × IsNextOf (opening_of old) (state_of old) next task)
    → ((task : Task) → IsNextOf (opening_of old) (state_of old) next task → IsAskedFor (option_map instance_of asked) task × IsPreferred (opening_of old) (state_of old) w (option_map instance_of asked) task)
    → HandsOut old w next told new → Takes old w asked told new
take-handed old w asked next (taken.Job job) new none free some suits (left, (task, of, handed), course) =
    let (asked_for, preferred) = suits task of in
    record {
      answer = GivesJob task;
      events = Take w task.instance ∷ [];
      is_answer = gives task none asked_for of.pending preferred (record { free = free; left_over = left; task = task; instance_is = refl; pending = of.pending });
      tells = handed;
      course = course ∙ ap (λ i. with_events old (Take w i ∷ [])) (sym of.instance_is);
    }
take-handed old w asked next taken.NothingPending new none free some suits hands = absurd hands
take-handed old w asked next taken.HoldsAlready new none free some suits hands = absurd hands
take-handed old w asked next taken.Stopped new none free (task, of) suits (full, course) =
    let (asked_for, preferred) = suits task of in
    record {
      answer = Stopped;
      events = Stop w (Jobs old.limits.jobs) ∷ [];
      is_answer = spent task none free asked_for of.pending full;
      tells = tt;
      course = course;
    }

-- of any job, what is chosen is preferred
pub chosen-suits : (opening : Opening) (state : State) (w : ℕ) (next : Next) → IsChosen opening state w next → (task : Task) → IsNextOf opening state next task
    → IsAskedFor None task × IsPreferred opening state w None task
chosen-suits opening state w next (chosen, chosen_of, prefers) task of =
    let both : Some chosen.home ≡ Some task.home = sym chosen_of.home_is ∙ of.home_is in
    let same : chosen.home ≡ task.home = cc in
    (tt, λ other pending own. ap thread_of (sym same) ∙ prefers other pending own)
