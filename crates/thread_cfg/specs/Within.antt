-- Expressions and events that read and set only columns within so many.
use Rattle.std.specs.Prelude.{ℕ, ◌<◌, List}
use Rattle.std.specs.List.{AllByRecursion}
use Rattle.c_check.specs.Plan.{Arithmetic}
use Rattle.thread_cfg.specs.Source.{Frame, column_of}
use Rattle.thread_cfg.specs.Path.{Event}

-- The columns that the expression reads are within n.
abbrev pub IsWithin : ℕ → Frame → Arithmetic → Type 0
IsWithin n frame (Arithmetic.Number k) = Unit {0}
IsWithin n frame (Arithmetic.Value v) = column_of frame v < n
IsWithin n frame (Arithmetic.Negated a) = IsWithin n frame a
IsWithin n frame (Arithmetic.Sum a b) = IsWithin n frame a × IsWithin n frame b
IsWithin n frame (Arithmetic.Difference a b) = IsWithin n frame a × IsWithin n frame b
IsWithin n frame (Arithmetic.Product a b) = IsWithin n frame a × IsWithin n frame b

-- The columns that the event reads and sets are within n.
abbrev pub EventWithin : ℕ → Frame → Event → Type 0
EventWithin n frame (Event.Requires from r a b) = IsWithin n frame a × IsWithin n frame b
EventWithin n frame (Event.Sets at v e) = (column_of frame v < n) × IsWithin n frame e
EventWithin n frame (Event.SetsAny v) = column_of frame v < n

-- All events are within n.
abbrev pub EventsWithin : ℕ → Frame → List Event → Type 0
EventsWithin n frame events = AllByRecursion (EventWithin n frame) events
