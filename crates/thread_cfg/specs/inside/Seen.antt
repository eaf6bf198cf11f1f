-- What the program holds along events, and what each event makes of it.
use Rattle.std.specs.Prelude.{◌≡◌, ◌<◌, ℕ, ◌+◌, Bool, true, false, not, ◌||◌, ◌==◌, List, [], ◌∷◌, length, map, filter, slice_set, Option, Some, None, option_and_then, Result, Ok, Err}
use Rattle.std.specs.List.{AllByRecursion, list_any}
use Rattle.lin_rows.specs.Row.{Row}
use Rattle.lin_rows.specs.System.{System, with_rows}
use Rattle.transition_formula.specs.Program.{Form, IsFormOver}
use Rattle.transition_formula.specs.Forms.{column_form, fitting_composition}
use Rattle.transition_formula.specs.Stored.{form_of}
use Rattle.thread_cfg.specs.declared.along.Along.{Along as StoredAlong}
use Rattle.thread_cfg.specs.declared.event.Event.{Event as StoredEvent}
use Rattle.thread_cfg.specs.declared.event.Event.TheVariants as stored
use Rattle.thread_cfg.specs.declared.event.Expression.{Expression}
use Rattle.thread_cfg.specs.declared.relation.Relation.{Relation}
use Rattle.thread_cfg.specs.declared.row.MadeRow.{MadeRow}
use Rattle.thread_cfg.specs.Source.{Frame, column_of}
use Rattle.thread_cfg.specs.Edge.{Along, fits_or, has_no_column, is_never, on_ok, row_by}
use Rattle.thread_cfg.specs.inside.Machine.{ExpressionWithin, computed, operations_of}

-- a row that is made
abbrev pub made_row_of : MadeRow → Row
made_row_of row = record { equal = row.equal; coefficients = row.coefficients.items; bound = row.bound }

-- each column as a form, how many inputs there were, the rows that were asked without those between numbers, and whether one of
-- these was false
pub record Seen : Type 0 where
  pub forms : List Form
  pub inputs : ℕ
  pub tests : System
  pub never : Bool

-- what is held
abbrev pub held_in : StoredAlong → Seen
held_in along = record { forms = map form_of along.lines.items; inputs = along.inputs; tests = along.tests; never = along.never }

-- what is seen of all that is known
abbrev pub seen_of : ℕ → Along → Seen
seen_of width along = record {
  forms = along.forms;
  inputs = along.inputs;
  tests = record { columns = width; rows = filter (λ row. not (has_no_column row)) along.rows };
  never = list_any is_never along.rows;
}

-- There is a form for each of so many columns, over as many columns and inputs as the tests.
pub record IsSeenOver (columns width : ℕ) (seen : Seen) : Type 0 where
  pub one_each : length seen.forms ≡ columns
  pub forms_over : AllByRecursion (IsFormOver width) seen.forms
  pub tests_over : seen.tests.columns ≡ width

-- ---- what an event makes of it

-- an expression as a form, where each column has one of these
abbrev pub form_seen : ℕ → ℕ → Frame → List Form → Expression → Option Form
form_seen width columns frame forms e = option_and_then (λ form. fitting_composition width form forms) (computed columns frame (operations_of e))

-- a relation between two expressions as a row
abbrev pub row_seen : ℕ → ℕ → Frame → List Form → Relation → Expression → Expression → Option Row
row_seen width columns frame forms r left right =
    option_and_then (λ one. option_and_then (row_by width r one) (form_seen width columns frame forms right)) (form_seen width columns frame forms left)

-- one more row is asked
abbrev pub seen_with_row : Seen → Row → Seen
seen_with_row seen row = record seen { tests = with_rows seen.tests (filter (λ r. not (has_no_column r)) (row ∷ [])); never = seen.never || is_never row }

-- the column has this form then
abbrev pub seen_with_form : Seen → ℕ → Form → Seen
seen_with_form seen c form = record seen { forms = slice_set seen.forms c form }

-- the column is the next input
abbrev pub seen_with_input : ℕ → ℕ → Seen → ℕ → Seen
seen_with_input width columns seen c = record seen { forms = slice_set seen.forms c (column_form width (columns + seen.inputs)); inputs = seen.inputs + 1 }

-- what is held behind an event, or the place of what does not fit
abbrev pub seen_after : ℕ → ℕ → Frame → Seen → StoredEvent → Result Seen ℕ
seen_after width columns frame seen (stored.Requires from r left right) =
    on_ok (λ row. Ok (seen_with_row seen row)) (fits_or from (row_seen width columns frame seen.forms r left right))
seen_after width columns frame seen (stored.Sets place v value) =
    on_ok (λ form. Ok (seen_with_form seen (column_of frame v) form)) (fits_or place (form_seen width columns frame seen.forms value))
seen_after width columns frame seen (stored.SetsAny v) = Ok (seen_with_input width columns seen (column_of frame v))

-- behind all of them, one after another
abbrev pub seen_behind : ℕ → ℕ → Frame → List StoredEvent → Seen → Result Seen ℕ
seen_behind width columns frame [] seen = Ok seen
seen_behind width columns frame (e ∷ es) seen = on_ok (seen_behind width columns frame es) (seen_after width columns frame seen e)

-- the place of what does not fit, or else this
abbrev pub unless_unfit : {X : Type 0} → Option ℕ → X → Result X ℕ
unless_unfit None x = Ok x
unless_unfit (Some place) x = Err place

-- ---- events

-- The columns that the event reads and sets are within n.
abbrev pub HeldEventWithin : ℕ → Frame → StoredEvent → Type 0
HeldEventWithin n frame (stored.Requires from r left right) = ExpressionWithin n frame left × ExpressionWithin n frame right
HeldEventWithin n frame (stored.Sets place v value) = (column_of frame v < n) × ExpressionWithin n frame value
HeldEventWithin n frame (stored.SetsAny v) = column_of frame v < n

-- the event takes an input
abbrev pub takes_input : StoredEvent → Bool
takes_input (stored.Requires from r left right) = false
takes_input (stored.Sets place v value) = false
takes_input (stored.SetsAny v) = true

-- how many inputs events take
abbrev pub inputs_in : List StoredEvent → ℕ
inputs_in events = length (filter takes_input events)

-- the event sets the column
abbrev pub held_event_sets : Frame → ℕ → StoredEvent → Bool
held_event_sets frame c (stored.Requires from r left right) = false
held_event_sets frame c (stored.Sets place v value) = column_of frame v == c
held_event_sets frame c (stored.SetsAny v) = column_of frame v == c
