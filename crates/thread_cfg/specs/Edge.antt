-- The edge of a way on from a location: what is asked and set on it, as rows and forms over the columns before and the inputs.
use Rattle.std.specs.Prelude.{ℕ, ◌+◌, ℤ, pos, negsuc, neg_ℤ, int_le, Bool, true, false, not, ◌&&◌, ◌==◌, if◌then◌else◌, List, [], ◌∷◌, ◌++◌, map, filter, slice_set, slice_index_or, Option, Some, None, option_and_then, Result, Ok, Err}
use Rattle.std.specs.List.{list_all, list_any, range_with_len}
use Rattle.std.specs.Ordering.{int_eq}
use Rattle.thr_base.specs.Number.{fits}
use Rattle.lin_rows.specs.Row.{Row}
use Rattle.c_check.specs.Plan.{Arithmetic}
use Rattle.transition_formula.specs.Program.{Form, Edge}
use Rattle.transition_formula.specs.Forms.{column_form, constant_form, fitting_composition, fitting_difference, fitting_form, fitting_multiple, fitting_product, fitting_sum}
use Rattle.thread_cfg.specs.declared.relation.Relation.{Relation}
use Rattle.thread_cfg.specs.declared.relation.Relation.TheVariants as related
use Rattle.thread_cfg.specs.Source.{Frame, column_of}
use Rattle.thread_cfg.specs.Path.{Event}
use Rattle.thread_cfg.specs.Action.{Alternative}

-- ---- expressions as forms, where each product and sum fits

-- an expression as a form over so many columns
abbrev pub form_of : ℕ → Frame → Arithmetic → Option Form
form_of width frame (Arithmetic.Number k) = fitting_form (constant_form width k)
form_of width frame (Arithmetic.Value v) = Some (column_form width (column_of frame v))
form_of width frame (Arithmetic.Negated a) = option_and_then (fitting_multiple (negsuc 0)) (form_of width frame a)
form_of width frame (Arithmetic.Sum a b) = option_and_then (λ one. option_and_then (fitting_sum one) (form_of width frame b)) (form_of width frame a)
form_of width frame (Arithmetic.Difference a b) =
    option_and_then (λ one. option_and_then (fitting_difference one) (form_of width frame b)) (form_of width frame a)
form_of width frame (Arithmetic.Product a b) =
    option_and_then (λ one. option_and_then (fitting_product one) (form_of width frame b)) (form_of width frame a)

-- ---- rows: what is on the left is less what is on the right

-- the row that the form is at most 0, or is 0: its constant goes to the right
abbrev pub moved : Bool → Form → Option Row
moved equal form =
    if fits (neg_ℤ form.constant) then Some (record { equal = equal; coefficients = form.coefficients; bound = neg_ℤ form.constant }) else None

-- l = r
abbrev pub equals : Form → Form → Option Row
equals l r = option_and_then (moved true) (fitting_difference l r)

-- l <= r
abbrev pub at_most : Form → Form → Option Row
at_most l r = option_and_then (moved false) (fitting_difference l r)

-- the form and a number more
abbrev pub raised : ℤ → ℕ → Form → Option Form
raised k width form = fitting_sum form (constant_form width k)

-- the row of a relation: one is added or taken off first, and then the difference is made
abbrev pub row_by : ℕ → Relation → Form → Form → Option Row
row_by width related.Equal a b = equals a b
row_by width related.Less a b = option_and_then (at_most a) (raised (negsuc 0) width b)
row_by width related.Greater a b = option_and_then (λ more. at_most more a) (raised (pos 1) width b)
row_by width related.AtMost a b = at_most a b
row_by width related.AtLeast a b = at_most b a

-- ---- along events

-- what is known behind events: each column as a form over the columns before and the inputs, how many inputs there were, and the
-- rows that were asked
pub record Along : Type 0 where
  pub forms : List Form
  pub inputs : ℕ
  pub rows : List Row

-- an expression, worth what it is there: first as a form over the columns, which are then replaced by theirs
abbrev pub form_along : ℕ → ℕ → Frame → Along → Arithmetic → Option Form
form_along width columns frame along a = option_and_then (λ form. fitting_composition width form along.forms) (form_of columns frame a)

-- a relation between two expressions, worth what they are there, as a row
abbrev pub row_along : ℕ → ℕ → Frame → Along → Relation → Arithmetic → Arithmetic → Option Row
row_along width columns frame along r a b =
    option_and_then (λ one. option_and_then (row_by width r one) (form_along width columns frame along b)) (form_along width columns frame along a)

-- what fits, or the place where something does not
abbrev pub fits_or : {X : Type 0} → ℕ → Option X → Result X ℕ
fits_or from None = Err from
fits_or from (Some x) = Ok x

-- the function of what fits, or the place of what does not
abbrev pub on_ok : {X Y : Type 0} → (X → Result Y ℕ) → Result X ℕ → Result Y ℕ
on_ok f (Err from) = Err from
on_ok f (Ok x) = f x

-- one more row is asked
abbrev pub with_row : Along → Row → Along
with_row along row = record along { rows = along.rows ++ row ∷ [] }

-- the column has this form then
abbrev pub with_form : Along → ℕ → Form → Along
with_form along c form = record along { forms = slice_set along.forms c form }

-- the column is the next input
abbrev pub with_input : ℕ → ℕ → Along → ℕ → Along
with_input width columns along c =
    record { forms = slice_set along.forms c (column_form width (columns + along.inputs)); inputs = along.inputs + 1; rows = along.rows }

-- what is known behind an event, or the place of what does not fit
abbrev pub after_event : ℕ → ℕ → Frame → Along → Event → Result Along ℕ
after_event width columns frame along (Event.Requires from r a b) =
    on_ok (λ row. Ok (with_row along row)) (fits_or from (row_along width columns frame along r a b))
after_event width columns frame along (Event.Sets at v e) =
    on_ok (λ form. Ok (with_form along (column_of frame v) form)) (fits_or at (form_along width columns frame along e))
after_event width columns frame along (Event.SetsAny v) = Ok (with_input width columns along (column_of frame v))

-- behind all of them, one after another
abbrev pub after_events : ℕ → ℕ → Frame → Along → List Event → Result Along ℕ
after_events width columns frame along [] = Ok along
after_events width columns frame along (event ∷ events) =
    on_ok (λ more. after_events width columns frame more events) (after_event width columns frame along event)

-- ---- edges

-- how many inputs events take
abbrev pub inputs_of : List Event → ℕ
inputs_of [] = 0
inputs_of (Event.Requires from r a b ∷ events) = inputs_of events
inputs_of (Event.Sets at v e ∷ events) = inputs_of events
inputs_of (Event.SetsAny v ∷ events) = inputs_of events + 1

-- the event sets the column
abbrev pub event_sets : Frame → ℕ → Event → Bool
event_sets frame c (Event.Requires from r a b) = false
event_sets frame c (Event.Sets at v e) = column_of frame v == c
event_sets frame c (Event.SetsAny v) = column_of frame v == c

-- some event sets the column
abbrev pub sets_column : Frame → List Event → ℕ → Bool
sets_column frame events c = list_any (event_sets frame c) events

-- the columns that events set, in their order
abbrev pub set_columns : ℕ → Frame → List Event → List ℕ
set_columns columns frame events = filter (sets_column frame events) (range_with_len 0 columns)

-- the row is one between numbers
abbrev pub has_no_column : Row → Bool
has_no_column row = list_all (int_eq (pos 0)) row.coefficients

-- the row without a column holds, which is an equation or not and has this bound
abbrev pub bound_holds : Bool → ℤ → Bool
bound_holds true bound = int_eq bound (pos 0)
bound_holds false bound = int_le (pos 0) bound

-- the row is false whatever the values
abbrev pub is_never : Row → Bool
is_never row = has_no_column row && not (bound_holds row.equal row.bound)

-- in front of all events each column is itself
abbrev pub at_first : ℕ → ℕ → Along
at_first width columns = record { forms = map (column_form width) (range_with_len 0 columns); inputs = 0; rows = [] }

-- the form of a column
abbrev pub form_at : ℕ → Along → ℕ → Form
form_at width along c = slice_index_or along.forms c (constant_form width (pos 0))

-- rows between numbers are left out
abbrev pub edge_along : ℕ → ℕ → Frame → ℕ → Alternative → Along → Edge
edge_along width columns frame from alternative along = record {
  from = from;
  to = alternative.to;
  inputs = along.inputs;
  tests = filter (λ row. not (has_no_column row)) along.rows;
  sets = map (λ c. (c, form_at width along c)) (set_columns columns frame alternative.events);
}

-- an edge with a row that is false whatever the values is not made
abbrev pub edge_unless_never : ℕ → ℕ → Frame → ℕ → Alternative → Along → Option Edge
edge_unless_never width columns frame from alternative along =
    if list_any is_never along.rows then None else Some (edge_along width columns frame from alternative along)

-- The edge of an alternative at a location, perhaps none, or the place of the first expression or comparison in which a product or
-- sum does not fit.
abbrev pub alternative_edge : ℕ → Frame → ℕ → Alternative → Result (Option Edge) ℕ
alternative_edge columns frame from alternative =
    let width = columns + inputs_of alternative.events in
    on_ok (λ along. Ok (edge_unless_never width columns frame from alternative along))
    (after_events width columns frame (at_first width columns) alternative.events)
