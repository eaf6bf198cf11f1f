-- Paths and actions that read and set only columns within so many.
use Rattle.std.specs.Prelude.{ℕ, List}
use Rattle.std.specs.List.{AllByRecursion}
use Rattle.thread_cfg.specs.Source.{Frame}
use Rattle.thread_cfg.specs.Path.{Path}
use Rattle.thread_cfg.specs.Action.{Action}
use Rattle.thread_cfg.specs.Within.{EventsWithin}

-- The columns that paths read and set are within n.
abbrev pub PathsWithin : ℕ → Frame → List Path → Type 0
PathsWithin n frame paths = AllByRecursion (λ path. EventsWithin n frame path.events) paths

-- Those of an action are.
abbrev pub ActionWithin : ℕ → Frame → Action → Type 0
ActionWithin n frame action = AllByRecursion (λ a. EventsWithin n frame a.events) action.alternatives

-- Those of all actions are.
abbrev pub ActionsWithin : ℕ → Frame → List Action → Type 0
ActionsWithin n frame actions = AllByRecursion (ActionWithin n frame) actions
