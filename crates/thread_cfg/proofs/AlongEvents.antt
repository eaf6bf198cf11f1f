-- Along events: the forms are worth the values, and the rows are met where the events happen.
use Rattle.std.proofs.Common.{◌≡◌, ◌↔◌, ℕ, ◌+◌, ◌<◌, ◌≤◌, ℤ, pos, List, [], ◌∷◌, ◌++◌, map, length, get_or, set, Option, Some, None, Result, Ok, Err, refl, sym, subst, ap, ap₂, ◌∙◌, arith}
use Rattle.std.specs.Option.{option_and_then}
use Rattle.std.proofs.lemmas.List.{append_assoc, get_or_at, length-append, length-map, length-set, length_push, map-set, nil_from_length, set-append_left}
use Rattle.std.proofs.lemmas.Option.{option_and_then_some}
use Rattle.lin_rows.specs.Row.{Row, Meets}
use Rattle.lin_rows.proofs.Lists.{AllByRecursion-append, AllByRecursion-front, AllByRecursion-rest}
use Rattle.transition_formula.specs.Program.{Form}
use Rattle.transition_formula.specs.Step.{value_of}
use Rattle.transition_formula.specs.Laws.{MeetsAll}
use Rattle.transition_formula.specs.Forms.{column_form, fitting_composition}
use Rattle.transition_formula.proofs.FormValues.{compositions-exact, forms-made}
use Rattle.c_check.specs.declared.meaning.Variable.{Variable}
use Rattle.c_check.specs.Plan.{Arithmetic}
use Rattle.thread_cfg.specs.declared.relation.Relation.{Relation}
use Rattle.thread_cfg.specs.Source.{Frame, column_of, value, with_value}
use Rattle.thread_cfg.specs.Path.{Event}
use Rattle.thread_cfg.specs.Happen.{Happen, Holds}
use Rattle.thread_cfg.specs.Edge.{Along, after_event, after_events, fits_or, form_along, form_of, inputs_of, on_ok, row_along, row_by, with_form, with_input, with_row}
use Rattle.thread_cfg.specs.Within.{EventsWithin, IsWithin}
use Rattle.thread_cfg.proofs.Values.{form_of-over, form_of-value, value-append}
use Rattle.thread_cfg.proofs.Relations.{row_by-meets}

-- ---- results
-- what goes on from a result that is `Ok`
pub on_ok-ok : {X Y P : Type 0} (f : X → Result Y ℕ) (r : Result X ℕ) (y : Y) → on_ok f r ≡ Ok y → ((x : X) → r ≡ Ok x → f x ≡ Ok y → P) → P
on_ok-ok f (Ok x) y e then = then x refl e
on_ok-ok f (Err from) y e then = absurd cc

-- what goes on from what fits
pub on_ok-fits : {X Y P : Type 0} (f : X → Result Y ℕ) (from : ℕ) (o : Option X) (y : Y) → on_ok f (fits_or from o) ≡ Ok y
    → ((x : X) → o ≡ Some x → f x ≡ Ok y → P) → P
on_ok-fits f from (Some x) y e then = then x refl e
on_ok-fits f from None y e then = absurd cc

-- ---- the values behind all events
-- the values behind events, each of which takes the next of the inputs that are left
abbrev pub finally : Frame → List ℤ → List Event → List ℤ → List ℤ
finally frame now [] left = now
finally frame now (Event.Requires from r a b ∷ events) left = finally frame now events left
finally frame now (Event.Sets at v e ∷ events) left = finally frame (with_value frame now v (value frame now e)) events left
finally frame now (Event.SetsAny v ∷ events) [] = now
finally frame now (Event.SetsAny v ∷ events) (k ∷ left) = finally frame (with_value frame now v k) events left

-- what the forms are worth at a point
abbrev pub worths : List ℤ → List Form → List ℤ
worths z forms = map (λ form. value_of form z) forms

-- The forms are worth the values now, with the counters behind them.
pub record AreWorth (n columns : ℕ) (z rest : List ℤ) (forms : List Form) (now : List ℤ) : Type 0 where
  pub worth : worths z forms ≡ now ++ rest
  pub one_each : length now ≡ n
  pub all : columns ≡ n + length rest

-- there is one form a column
AreWorth-length : (n columns : ℕ) (z rest : List ℤ) (forms : List Form) (now : List ℤ) → AreWorth n columns z rest forms now → length forms ≡ columns
AreWorth-length n columns z rest forms now are =
    omega (arith, length-map forms (λ form. value_of form z), ap length are.worth, length-append now rest)

-- a column with a new form
AreWorth-set : (n columns : ℕ) (z rest : List ℤ) (forms : List Form) (now : List ℤ) (c : ℕ) (form : Form) (k : ℤ) → AreWorth n columns z rest forms now
    → c < n → value_of form z ≡ k → AreWorth n columns z rest (set forms c form) (set now c k)
AreWorth-set n columns z rest forms now c form k are h e =
    let within : c < length now = omega arith in
    record {
      worth = map-set (λ f. value_of f z) forms c form ∙ ap₂ (λ values v. set values c v) are.worth e ∙ set-append_left now rest c k within;
      one_each = length-set now c k ∙ are.one_each;
      all = are.all;
    }

-- An expression's form along events is worth what the expression is now.
form_along-value : (width columns n : ℕ) (frame : Frame) (along : Along) (a : Arithmetic) (form : Form) (z rest now : List ℤ)
    → IsWithin n frame a → AreWorth n columns z rest along.forms now → form_along width columns frame along a ≡ Some form → value_of form z ≡ value frame now a
form_along-value width columns n frame along a form z rest now within are e =
    option_and_then_some (λ one. fitting_composition width one along.forms) (form_of columns frame a) form e (λ one given composed.
    compositions-exact.values width one form along.forms z
    (AreWorth-length n columns z rest along.forms now are ∙ sym (form_of-over columns frame a one given).one_each) composed
    ∙ ap (value_of one) are.worth
    ∙ form_of-value columns n frame a one (now ++ rest) (omega arith) within given
    ∙ value-append n frame now rest a (omega arith) within)

-- A row along events is met where the expressions are related so now.
row_along-meets : (width columns n : ℕ) (frame : Frame) (along : Along) (r : Relation) (a b : Arithmetic) (row : Row) (z rest now : List ℤ)
    → IsWithin n frame a → IsWithin n frame b → AreWorth n columns z rest along.forms now → row_along width columns frame along r a b ≡ Some row
    → Meets row z ↔ Holds r (value frame now a) (value frame now b)
row_along-meets width columns n frame along r a b row z rest now first second are e =
    option_and_then_some (λ one. option_and_then (row_by width r one) (form_along width columns frame along b)) (form_along width columns frame along a) row e (λ one given more.
    option_and_then_some (row_by width r one) (form_along width columns frame along b) row more (λ other too by.
    subst (λ (x : ℤ). Meets row z ↔ Holds r x (value frame now b)) (form_along-value width columns n frame along a one z rest now first are given)
    (subst (λ (y : ℤ). Meets row z ↔ Holds r (value_of one z) y) (form_along-value width columns n frame along b other z rest now second are too)
    (row_by-meets width r one other row z by))))

-- ---- all events
-- What the events do is what the rows and forms behind them say at the point.
pub record Agree (frame : Frame) (z rest : List ℤ) (along last : Along) (now : List ℤ) (events : List Event) (left : List ℤ) : Type 0 where
  pub says : (after : List ℤ) → MeetsAll along.rows z × Happen frame now events left after
      ↔ MeetsAll last.rows z × (length left ≡ inputs_of events) × (after ≡ finally frame now events left)
  pub ends : length left ≡ inputs_of events → worths z last.forms ≡ finally frame now events left ++ rest

-- one more row
Agree-row : (frame : Frame) (z rest : List ℤ) (along last : Along) (row : Row) (now : List ℤ) (from : ℕ) (r : Relation) (a b : Arithmetic) (events : List Event) (left : List ℤ)
    → Meets row z ↔ Holds r (value frame now a) (value frame now b) → Agree frame z rest (with_row along row) last now events left
    → Agree frame z rest along last now (Event.Requires from r a b ∷ events) left
Agree-row frame z rest along last row now from r a b events left met more = record {
  says = λ after. (
    λ h. (more.says after).0 (AllByRecursion-append (λ w. Meets w z) along.rows (row ∷ []) h.0 (met.1 h.1.0, tt), h.1.1),
    λ h. let back = (more.says after).1 h in (
      AllByRecursion-front (λ w. Meets w z) along.rows (row ∷ []) back.0,
      (met.0 (AllByRecursion-rest (λ w. Meets w z) along.rows (row ∷ []) back.0).0, back.1),
    ),
  );
  ends = more.ends;
}

-- no event is left
Agree-end : (frame : Frame) (z rest : List ℤ) (along : Along) (now left : List ℤ) → worths z along.forms ≡ now ++ rest → Agree frame z rest along along now [] left
Agree-end frame z rest along now left worth = record {
  says = λ after. (
    λ h. (h.0, ap length h.1.0, h.1.1),
    λ h. (h.0, (nil_from_length left h.1, h.2)),
  );
  ends = λ e. worth;
}

-- no input is left
Agree-none : (frame : Frame) (z rest : List ℤ) (along last : Along) (now : List ℤ) (v : Variable) (events : List Event) → Agree frame z rest along last now (Event.SetsAny v ∷ events) []
Agree-none frame z rest along last now v events = record {
  says = λ after. (λ h. absurd h.1, λ h. absurd (omega arith));
  ends = λ e. absurd (omega arith);
}

-- one more input
Agree-input : (frame : Frame) (z rest : List ℤ) (along last : Along) (c : ℕ) (width columns : ℕ) (now : List ℤ) (v : Variable) (k : ℤ) (events : List Event) (left : List ℤ)
    → Agree frame z rest (with_input width columns along c) last (with_value frame now v k) events left
    → Agree frame z rest along last now (Event.SetsAny v ∷ events) (k ∷ left)
Agree-input frame z rest along last c width columns now v k events left more = record {
  says = λ after. (
    λ h. let there = (more.says after).0 h in let one : length (k ∷ left) ≡ inputs_of events + 1 = omega (arith, there.1) in (there.0, one, there.2),
    λ h. let one : length left ≡ inputs_of events = omega (arith, h.1) in (more.says after).1 (h.0, one, h.2),
  );
  ends = λ e. more.ends (omega (arith, e));
}

-- Events do what the rows and forms behind them say, where the forms in front of them are worth the values.
pub after_events-agree : (width columns n : ℕ) (frame : Frame) (z rest front : List ℤ) (along last : Along) (now : List ℤ) (events : List Event) (left : List ℤ)
    → EventsWithin n frame events → AreWorth n columns z rest along.forms now
    → z ≡ front ++ left → length front ≡ columns + along.inputs → columns + along.inputs + inputs_of events ≤ width
    → after_events width columns frame along events ≡ Ok last → Agree frame z rest along last now events left
after_events-agree width columns n frame z rest front along last now [] left within are here length_is enough e =
    let same : along ≡ last = cc in
    subst (λ (l : Along). Agree frame z rest along l now [] left) same (Agree-end frame z rest along now left are.worth)
after_events-agree width columns n frame z rest front along last now (Event.Requires from r a b ∷ events) left within are here length_is enough e =
    on_ok-ok (λ more. after_events width columns frame more events) (after_event width columns frame along (Event.Requires from r a b)) last e (λ more given then.
    on_ok-fits (λ row. Ok (with_row along row)) from (row_along width columns frame along r a b) more given (λ row fit made.
    let same : more ≡ with_row along row = cc in
    Agree-row frame z rest along last row now from r a b events left
    (row_along-meets width columns n frame along r a b row z rest now within.0.0 within.0.1 are fit)
    (after_events-agree width columns n frame z rest front (with_row along row) last now events left within.1 are here length_is enough
    (subst (λ (m : Along). after_events width columns frame m events ≡ Ok last) same then))))
after_events-agree width columns n frame z rest front along last now (Event.Sets at v a ∷ events) left within are here length_is enough e =
    on_ok-ok (λ more. after_events width columns frame more events) (after_event width columns frame along (Event.Sets at v a)) last e (λ more given then.
    on_ok-fits (λ form. Ok (with_form along (column_of frame v) form)) at (form_along width columns frame along a) more given (λ form fit made.
    let same : more ≡ with_form along (column_of frame v) form = cc in
    let worth = form_along-value width columns n frame along a form z rest now within.0.1 are fit in
    let agree = after_events-agree width columns n frame z rest front (with_form along (column_of frame v) form) last (with_value frame now v (value frame now a)) events left
    within.1 (AreWorth-set n columns z rest along.forms now (column_of frame v) form (value frame now a) are within.0.0 worth) here length_is enough
    (subst (λ (m : Along). after_events width columns frame m events ≡ Ok last) same then) in
    record { says = agree.says; ends = agree.ends }))
after_events-agree width columns n frame z rest front along last now (Event.SetsAny v ∷ events) [] within are here length_is enough e =
    Agree-none frame z rest along last now v events
after_events-agree width columns n frame z rest front along last now (Event.SetsAny v ∷ events) (k ∷ left) within are here length_is enough e =
    let c = column_of frame v in
    let place = columns + along.inputs in
    let worth : value_of (column_form width place) z ≡ k =
    forms-made.columns width place z (omega arith) ∙ ap (λ w. get_or w place (pos 0)) here ∙ get_or_at front k left (pos 0) place length_is in
    let agree = after_events-agree width columns n frame z rest (front ++ k ∷ []) (with_input width columns along c) last (with_value frame now v k) events left
    within.1 (AreWorth-set n columns z rest along.forms now c (column_form width place) k are within.0 worth)
    (here ∙ sym (append_assoc front (k ∷ []) left)) (length_push front k ∙ omega (arith, length_is)) (omega (arith, enough)) e in
    Agree-input frame z rest along last c width columns now v k events left agree
