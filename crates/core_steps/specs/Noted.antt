-- The whole history of a core, with how it began as the first entry.
use Rattle.std.specs.Prelude.{List, [], ◌∷◌, map, reverse}
use Rattle.core_steps.specs.Event.{Event}
use Rattle.core_steps.specs.Course.{Course}

-- an entry: what the run opened with, or an event
pub data Noted : Type 0 where
  Opened : Course → Noted
  Happened : Event → Noted

-- the entries by rising time
abbrev pub noted : Course → List Noted
noted course = Opened (record course { history = [] }) ∷ map (λ event. Happened event) (reverse course.history)
