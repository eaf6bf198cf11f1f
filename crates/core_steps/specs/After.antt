-- What each event does, and the state that a history leaves.
use Rattle.std.specs.Prelude.{ℕ, suc, ◌||◌, if◌then◌else◌, List, [], ◌∷◌, Option, Some, None}
use Rattle.horn_rules.specs.Home.{Home}
use Rattle.horn_rules.specs.Fact.{Fact}
use Rattle.horn_rules.specs.Instance.{Instance}
use Rattle.horn_rules.specs.Predicate.{Predicate}
use Rattle.derivation_tree.specs.Facts.{target_among}
use Rattle.core_steps.specs.State.{Opening, State, Task, start_of, held_by, holds_without, claims_without}
use Rattle.core_steps.specs.Event.{Event, Take, New, Same, Nothing, StalePublish, Claim, Refine, StaleRefine, Stop, StaleStop, History}
use Rattle.core_steps.specs.Withdrawn.{remaining, loses}
use Rattle.core_steps.specs.Predicates.{with_predicates, is_changed}

-- w lets go of its job; of its claim; of what it holds
abbrev pub without_job : ℕ → State → State
without_job w state = record state { holds = holds_without w state.holds }

abbrev pub without_claim : ℕ → State → State
without_claim w state = record state { claims = claims_without w state.claims }

abbrev pub without_any : ℕ → State → State
without_any w state = record state { holds = holds_without w state.holds; claims = claims_without w state.claims }

-- w holds the instance, with its home in this epoch
abbrev pub with_job : ℕ → Instance ℕ → State → Option Home → State
with_job w instance state None = state
with_job w instance state (Some home) =
    record state { holds = record { worker = w; task = record { instance = instance; home = home; epoch = state.epochs home } } ∷ state.holds }

-- the job is published
abbrev pub with_published : State → Option Task → State
with_published state None = state
with_published state (Some task) = record state { published = task ∷ state.published }

-- the fact is live, with the job's instance
abbrev pub with_fact : ℕ → Fact → State → Option Task → State
with_fact id fact state None = state
with_fact id fact state (Some task) =
    record state { live = record { id = id; fact = fact; kept = task.instance } ∷ state.live; given = id }

-- The predicates are added. What rests on homes that got one goes, and these homes and all that lost a fact begin their next epoch.
abbrev pub with_new : List Predicate → State → State
with_new predicates state =
    let kept = remaining (is_changed predicates) state.live in
    record state {
      sets = with_predicates state.sets predicates;
      epochs = λ home. if is_changed predicates home || loses state.live kept home then suc (state.epochs home) else state.epochs home;
      live = kept;
      refined = suc state.refined;
    }

-- the state after an event
abbrev pub effect : Opening → State → Event → State
effect opening state (Take w instance) = with_job w instance state (target_among opening.program state.live instance)
effect opening state (New w id fact) =
    without_job w (with_fact id fact (with_published state (held_by state.holds w)) (held_by state.holds w))
effect opening state (Same w id) = without_job w (with_published state (held_by state.holds w))
effect opening state (Nothing w) = without_job w (with_published state (held_by state.holds w))
effect opening state (StalePublish w) = without_job w state
effect opening state (Claim w id) = record state { claims = record { worker = w; root = id } ∷ state.claims }
effect opening state (Refine w scope predicates) = without_claim w (with_new predicates state)
effect opening state (StaleRefine w) = without_claim w state
effect opening state (Stop w reason) = without_any w (record state { stop = Some reason })
effect opening state (StaleStop w) = without_any w state

-- the state after a history
abbrev pub after : Opening → History → State
after opening [] = start_of opening
after opening (event ∷ earlier) = effect opening (after opening earlier) event
