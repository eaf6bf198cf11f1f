-- Which instances are done, held and pending, and which jobs are stale.
use Rattle.std.specs.Prelude.{◌≡◌, ◌≢◌, ◌==◌, ◌&&◌, ℕ, Bool, false, [], Some, None}
use Rattle.std.specs.List.{list_any, list_all}
use Rattle.horn_rules.specs.Home.{State as AtLocation}
use Rattle.horn_rules.specs.Fact.{Fact}
use Rattle.horn_rules.specs.Stored.{same_home}
use Rattle.horn_rules.specs.Instance.{Instance, Init, Own, Guar, Env, Inter, HasKind, premises_of}
use Rattle.derivation_tree.specs.Facts.{target_among, fact_at}
use Rattle.core_steps.specs.State.{Opening, State, Task}
use Rattle.core_steps.specs.Withdrawn.{has_id}

abbrev pub same_instance : Instance ℕ → Instance ℕ → Bool
same_instance (Init i) (Init j) = i == j
same_instance (Own f e) (Own g k) = f == g && e == k
same_instance (Guar f e) (Guar g k) = f == g && e == k
same_instance (Env f t) (Env g u) = f == g && t == u
same_instance (Inter f g e) (Inter h i k) = f == h && (g == i && e == k)
same_instance one other = false

abbrev pub same_task : Task → Task → Bool
same_task one other = same_instance one.instance other.instance && (same_home one.home other.home && one.epoch == other.epoch)

-- It is done: it was published, and not stale. With its home's next epoch the home has nothing done.
abbrev pub is_done : State → Task → Bool
is_done state task = list_any (same_task task) state.published

-- some worker holds it
abbrev pub is_held : State → Task → Bool
is_held state task = list_any (λ hold. same_task task hold.task) state.holds

-- The task is pending: its premises are live, and it leads from them to its home; it is of the home's epoch, and neither done nor held.
pub record IsPending (opening : Opening) (state : State) (task : Task) : Type 0 where
  pub has_kind : HasKind opening.rule task.instance
  pub leads : target_among opening.program state.live task.instance ≡ Some task.home
  pub present : task.epoch ≡ state.epochs task.home
  pub not_done : is_done state task ≡ false
  pub not_held : is_held state task ≡ false

-- A job is not stale: its home's epoch is still the same, and each of its premises is live.
abbrev pub is_present : State → Task → Bool
is_present state task = task.epoch == state.epochs task.home && list_all (has_id state.live) (premises_of task.instance)

-- Nothing is pending or held as a job, and no stop stands.
pub record IsQuiet (opening : Opening) (state : State) : Type 0 where
  pub none_pending : (task : Task) → ¬ IsPending opening state task
  pub none_held : state.holds ≡ []
  pub no_stop : state.stop ≡ None

-- Besides, no live fact is at location 0.
pub record IsClear (opening : Opening) (state : State) : Type 0 where
  pub quiet : IsQuiet opening state
  pub none_failing : (id i : ℕ) (fact : Fact) → fact_at state.live id ≡ Some fact → fact.home ≢ AtLocation i 0
