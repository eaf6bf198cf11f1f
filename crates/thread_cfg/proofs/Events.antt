-- What one event and all events change of what is known behind them.
use Rattle.std.proofs.Common.{◌≡◌, ℕ, ◌+◌, ◌≤◌, ℤ, pos, false, List, [], ◌∷◌, ◌++◌, map, length, get_or, Some, Ok, refl, sym, subst, ap, ap₂, ◌∙◌, arith}
use Rattle.std.specs.Option.{option_and_then}
use Rattle.std.specs.List.{AllByRecursion, range_with_len}
use Rattle.std.proofs.lemmas.Bool.{eqb-false, or_parts}
use Rattle.std.proofs.lemmas.List.{append_assoc, get_or_at, get_or-set_other, length-set, length_push}
use Rattle.std.proofs.lemmas.Option.{option_and_then_some}
use Rattle.lin_rows.specs.Row.{Row}
use Rattle.lin_rows.specs.System.{IsRowOver}
use Rattle.lin_rows.proofs.Lists.{AllByRecursion-append}
use Rattle.transition_formula.specs.Program.{Form, IsFormOver}
use Rattle.transition_formula.specs.Step.{value_of}
use Rattle.transition_formula.specs.Forms.{column_form, fitting_composition}
use Rattle.transition_formula.proofs.FormProducts.{column-over}
use Rattle.transition_formula.proofs.FormValues.{compositions-exact, forms-made}
use Rattle.transition_formula.proofs.Numbers.{AllByRecursion-set}
use Rattle.c_check.specs.Plan.{Arithmetic}
use Rattle.thread_cfg.specs.declared.relation.Relation.{Relation}
use Rattle.thread_cfg.specs.Source.{Frame, column_of, value, with_value}
use Rattle.thread_cfg.specs.Path.{Event}
use Rattle.thread_cfg.specs.Happen.{Happen}
use Rattle.thread_cfg.specs.Edge.{Along, after_event, after_events, at_first, event_sets, form_along, form_of, inputs_of, row_along, row_by, sets_column, with_form, with_input, with_row}
use Rattle.thread_cfg.proofs.Values.{form_of-over}
use Rattle.thread_cfg.proofs.Relations.{row_by-over}
use Rattle.thread_cfg.proofs.AlongEvents.{on_ok-fits, on_ok-ok, finally, worths}

-- ---- lengths
-- events keep the number of values
pub finally-length : (frame : Frame) (now : List ℤ) (events : List Event) (left : List ℤ) → length (finally frame now events left) ≡ length now
finally-length frame now [] left = refl
finally-length frame now (Event.Requires from r a b ∷ events) left = finally-length frame now events left
finally-length frame now (Event.Sets at v e ∷ events) left =
    finally-length frame (with_value frame now v (value frame now e)) events left ∙ length-set now (column_of frame v) (value frame now e)
finally-length frame now (Event.SetsAny v ∷ events) [] = refl
finally-length frame now (Event.SetsAny v ∷ events) (k ∷ left) =
    finally-length frame (with_value frame now v k) events left ∙ length-set now (column_of frame v) k

-- Where events happen there are as many values after as before.
pub happen-length : (frame : Frame) (values : List ℤ) (events : List Event) (inputs after : List ℤ) → Happen frame values events inputs after → length after ≡ length values
happen-length frame values [] inputs after h = ap length h.1
happen-length frame values (Event.Requires from r a b ∷ events) inputs after h = happen-length frame values events inputs after h.1
happen-length frame values (Event.Sets at v e ∷ events) inputs after h =
    happen-length frame (with_value frame values v (value frame values e)) events inputs after h ∙ length-set values (column_of frame v) (value frame values e)
happen-length frame values (Event.SetsAny v ∷ events) [] after h = absurd h
happen-length frame values (Event.SetsAny v ∷ events) (k ∷ inputs) after h =
    happen-length frame (with_value frame values v k) events inputs after h ∙ length-set values (column_of frame v) k

-- ---- what an event changes
pub record Changes (frame : Frame) (event : Event) (along more : Along) : Type 0 where
  pub inputs : more.inputs ≡ along.inputs + inputs_of (event ∷ [])
  pub rows : length more.rows ≤ length along.rows + 1
  pub forms : length more.forms ≡ length along.forms
  pub kept : (c : ℕ) (d : Form) → event_sets frame c event ≡ false → get_or more.forms c d ≡ get_or along.forms c d

-- an event changes no more
after_event-changes : (width columns : ℕ) (frame : Frame) (along more : Along) (event : Event) → after_event width columns frame along event ≡ Ok more
    → Changes frame event along more
after_event-changes width columns frame along more (Event.Requires from r a b) e =
    on_ok-fits (λ row. Ok (with_row along row)) from (row_along width columns frame along r a b) more e (λ row fit made.
    let same : with_row along row ≡ more = cc in
    subst (λ (m : Along). Changes frame (Event.Requires from r a b) along m) same
    (record { inputs = omega arith; rows = omega (arith, length_push along.rows row); forms = refl; kept = λ c d h. refl }))
after_event-changes width columns frame along more (Event.Sets at v a) e =
    on_ok-fits (λ form. Ok (with_form along (column_of frame v) form)) at (form_along width columns frame along a) more e (λ form fit made.
    let same : with_form along (column_of frame v) form ≡ more = cc in
    subst (λ (m : Along). Changes frame (Event.Sets at v a) along m) same
    (record {
      inputs = omega arith;
      rows = omega arith;
      forms = length-set along.forms (column_of frame v) form;
      kept = λ c d h. get_or-set_other along.forms (column_of frame v) c form d (λ e. eqb-false (column_of frame v) c h (sym e));
    }))
after_event-changes width columns frame along more (Event.SetsAny v) e =
    let form : Form = column_form width (columns + along.inputs) in
    let same : with_input width columns along (column_of frame v) ≡ more = cc in
    subst (λ (m : Along). Changes frame (Event.SetsAny v) along m) same
    (record {
      inputs = omega arith;
      rows = omega arith;
      forms = length-set along.forms (column_of frame v) form;
      kept = λ c d h. get_or-set_other along.forms (column_of frame v) c form d (λ e. eqb-false (column_of frame v) c h (sym e));
    })

-- ---- inputs
-- the inputs of an event and of those behind it are added
pub inputs_of-cons : (event : Event) (events : List Event) → inputs_of (event ∷ events) ≡ inputs_of (event ∷ []) + inputs_of events
inputs_of-cons (Event.Requires from r a b) events = omega arith
inputs_of-cons (Event.Sets at v e) events = omega arith
inputs_of-cons (Event.SetsAny v) events = omega arith

-- each input is an event's
pub inputs_of-le : (events : List Event) → inputs_of events ≤ length events
inputs_of-le [] = omega arith
inputs_of-le (Event.Requires from r a b ∷ events) = omega (arith, inputs_of-le events)
inputs_of-le (Event.Sets at v e ∷ events) = omega (arith, inputs_of-le events)
inputs_of-le (Event.SetsAny v ∷ events) = omega (arith, inputs_of-le events)

-- ---- what events change
pub record ChangesAll (frame : Frame) (events : List Event) (along last : Along) : Type 0 where
  pub inputs : last.inputs ≡ along.inputs + inputs_of events
  pub rows : length last.rows ≤ length along.rows + length events
  pub forms : length last.forms ≡ length along.forms
  pub kept : (c : ℕ) (d : Form) → sets_column frame events c ≡ false → get_or last.forms c d ≡ get_or along.forms c d

-- an event, and the others behind it
both-change : (frame : Frame) (event : Event) (events : List Event) (along more last : Along) → Changes frame event along more → ChangesAll frame events more last
    → ChangesAll frame (event ∷ events) along last
both-change frame event events along more last one others = record {
  inputs = omega (arith, inputs_of-cons event events);
  rows = omega arith;
  forms = others.forms ∙ one.forms;
  kept = λ c d h. let parts = or_parts (event_sets frame c event) (sets_column frame events c) h in others.kept c d parts.1 ∙ one.kept c d parts.0;
}

-- events change no more
pub after_events-changes : (width columns : ℕ) (frame : Frame) (along last : Along) (events : List Event) → after_events width columns frame along events ≡ Ok last
    → ChangesAll frame events along last
after_events-changes width columns frame along last [] e =
    let same : along ≡ last = cc in
    subst (λ (l : Along). ChangesAll frame [] along l) same
    (record { inputs = omega arith; rows = omega arith; forms = refl; kept = λ c d h. refl })
after_events-changes width columns frame along last (event ∷ events) e =
    on_ok-ok (λ more. after_events width columns frame more events) (after_event width columns frame along event) last e (λ more given then.
    both-change frame event events along more last (after_event-changes width columns frame along more event given)
    (after_events-changes width columns frame more last events then))

-- ---- that all forms and rows are over the columns and inputs
pub record AreOver (width : ℕ) (along : Along) : Type 0 where
  pub forms : AllByRecursion (IsFormOver width) along.forms
  pub rows : AllByRecursion (IsRowOver width) along.rows

-- the form of an expression along events is over the width
form_along-over : (width columns : ℕ) (frame : Frame) (along : Along) (a : Arithmetic) (form : Form) → form_along width columns frame along a ≡ Some form
    → AreOver width along → IsFormOver width form
form_along-over width columns frame along a form e are =
    option_and_then_some (λ one. fitting_composition width one along.forms) (form_of columns frame a) form e (λ one given composed.
    compositions-exact.over width one form along.forms (form_of-over columns frame a one given).constant_fits are.forms composed)

-- the row of a relation along events is over the width
row_along-over : (width columns : ℕ) (frame : Frame) (along : Along) (r : Relation) (a b : Arithmetic) (row : Row) → row_along width columns frame along r a b ≡ Some row
    → AreOver width along → IsRowOver width row
row_along-over width columns frame along r a b row e are =
    option_and_then_some (λ one. option_and_then (row_by width r one) (form_along width columns frame along b)) (form_along width columns frame along a) row e (λ one given more.
    option_and_then_some (row_by width r one) (form_along width columns frame along b) row more (λ other too by.
    row_by-over width r one other row by (form_along-over width columns frame along a one given are) (form_along-over width columns frame along b other too are)))

-- behind an event all is over the width, where it was in front of it
after_event-over : (width columns : ℕ) (frame : Frame) (along more : Along) (event : Event) → after_event width columns frame along event ≡ Ok more
    → AreOver width along → AreOver width more
after_event-over width columns frame along more (Event.Requires from r a b) e are =
    on_ok-fits (λ row. Ok (with_row along row)) from (row_along width columns frame along r a b) more e (λ row fit made.
    let same : with_row along row ≡ more = cc in
    subst (AreOver width) same
    (record { forms = are.forms; rows = AllByRecursion-append (IsRowOver width) along.rows (row ∷ []) are.rows (row_along-over width columns frame along r a b row fit are, tt) }))
after_event-over width columns frame along more (Event.Sets at v a) e are =
    on_ok-fits (λ form. Ok (with_form along (column_of frame v) form)) at (form_along width columns frame along a) more e (λ form fit made.
    let same : with_form along (column_of frame v) form ≡ more = cc in
    subst (AreOver width) same
    (record { forms = AllByRecursion-set (IsFormOver width) along.forms (column_of frame v) form are.forms (form_along-over width columns frame along a form fit are); rows = are.rows }))
after_event-over width columns frame along more (Event.SetsAny v) e are =
    let form : Form = column_form width (columns + along.inputs) in
    let same : with_input width columns along (column_of frame v) ≡ more = cc in
    subst (AreOver width) same
    (record { forms = AllByRecursion-set (IsFormOver width) along.forms (column_of frame v) form are.forms (column-over width (columns + along.inputs)); rows = are.rows })

-- Events keep all forms and rows over the columns and inputs.
pub after_events-over : (width columns : ℕ) (frame : Frame) (along last : Along) (events : List Event) → after_events width columns frame along events ≡ Ok last
    → AreOver width along → AreOver width last
after_events-over width columns frame along last [] e are = let same : along ≡ last = cc in subst (AreOver width) same are
after_events-over width columns frame along last (event ∷ events) e are =
    on_ok-ok (λ more. after_events width columns frame more events) (after_event width columns frame along event) last e (λ more given then.
    after_events-over width columns frame more last events then (after_event-over width columns frame along more event given are))

-- ---- in front
-- in front of all events each column is worth its value
pub first-worth : (width a : ℕ) (z front xs inputs : List ℤ) → z ≡ front ++ (xs ++ inputs) → length front ≡ a → a + length xs ≤ width
    → worths z (map (column_form width) (range_with_len a (length xs))) ≡ xs
first-worth width a z front [] inputs here length_is enough = refl
first-worth width a z front (x ∷ xs) inputs here length_is enough =
    let value : value_of (column_form width a) z ≡ x =
    forms-made.columns width a z (omega arith) ∙ ap (λ w. get_or w a (pos 0)) here ∙ get_or_at front x (xs ++ inputs) (pos 0) a length_is in
    ap₂ ◌∷◌ value
    (first-worth width (a + 1) z (front ++ x ∷ []) xs inputs (here ∙ sym (append_assoc front (x ∷ []) (xs ++ inputs))) (length_push front x ∙ omega (arith, length_is)) (omega (arith, enough)))

-- the forms of columns themselves are over the width
columns-over : (width : ℕ) (cs : List ℕ) → AllByRecursion (IsFormOver width) (map (column_form width) cs)
columns-over width [] = tt
columns-over width (c ∷ cs) = (column-over width c, columns-over width cs)

-- in front of all events all is over the columns
pub first-over : (width columns : ℕ) → AreOver width (at_first width columns)
first-over width columns = record { forms = columns-over width (range_with_len 0 columns); rows = tt }
