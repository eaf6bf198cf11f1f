-- What stands for an edge that is made, and how the program comes to it.
use Rattle.std.specs.Prelude.{ℕ, ◌+◌, Bool, false, if◌then◌else◌, List, [], ◌∷◌, map, Option, Some, None, Result, Ok, Err}
use Rattle.std.specs.List.{list_any, range_with_len}
use Rattle.transition_formula.specs.Program.{Edge, Form}
use Rattle.transition_formula.specs.Forms.{column_form}
use Rattle.transition_formula.specs.Stored.{edge_of}
use Rattle.thread_cfg.specs.declared.edge.MadeEdge.{MadeEdge}
use Rattle.thread_cfg.specs.declared.edge.MadeEdge.TheVariants as made
use Rattle.thread_cfg.specs.declared.event.Event.{Event as StoredEvent}
use Rattle.thread_cfg.specs.Source.{Frame}
use Rattle.thread_cfg.specs.Path.{Event}
use Rattle.thread_cfg.specs.Edge.{on_ok}
use Rattle.thread_cfg.specs.inside.Meant.{StandFor}
use Rattle.thread_cfg.specs.inside.Seen.{Seen, held_event_sets, inputs_in, seen_behind}
use Rattle.thread_cfg.specs.Within.{EventsWithin}

-- The events stand for some whose columns are within so many.
pub record StandWithin (columns : ℕ) (frame : Frame) (events : List StoredEvent) : Type 0 where
  pub meant : List Event
  pub stand : StandFor events meant
  pub within : EventsWithin columns frame meant

-- the edge, or none, or the place of what does not fit
abbrev pub edge_made_by : MadeEdge → Result (Option Edge) ℕ
edge_made_by (made.Edge edge) = Ok (Some (edge_of edge))
edge_made_by made.Never = Ok None
edge_made_by (made.Unfit place) = Err place

-- ---- from what is held

-- the columns from c on that pass the test, each with its form
abbrev pub sets_seen : (ℕ → Bool) → ℕ → List Form → List (ℕ × Form)
sets_seen p c [] = []
sets_seen p c (form ∷ forms) = if p c then (c, form) ∷ sets_seen p (c + 1) forms else sets_seen p (c + 1) forms

-- some event sets the column
abbrev pub some_sets : Frame → List StoredEvent → ℕ → Bool
some_sets frame events c = list_any (held_event_sets frame c) events

-- the edge of what is held behind all events, unless a row of it is false whatever the values
abbrev pub edge_seen : Frame → ℕ → ℕ → List StoredEvent → Seen → Option Edge
edge_seen frame from to events seen =
    if seen.never then None
    else Some (record { from = from; to = to; inputs = seen.inputs; tests = seen.tests.rows; sets = sets_seen (some_sets frame events) 0 seen.forms })

-- what is held in front of all events
abbrev pub seen_first : ℕ → ℕ → Seen
seen_first width columns = record { forms = map (column_form width) (range_with_len 0 columns); inputs = 0; tests = record { columns = width; rows = [] }; never = false }

-- the edge of events, perhaps none, or the place of what does not fit
abbrev pub edge_held : ℕ → Frame → ℕ → ℕ → List StoredEvent → Result (Option Edge) ℕ
edge_held columns frame from to events =
    let width = columns + inputs_in events in
    on_ok (λ seen. Ok (edge_seen frame from to events seen)) (seen_behind width columns frame events (seen_first width columns))
