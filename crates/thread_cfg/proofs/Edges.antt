-- The edge of a way on: what it is made of, its tests and its sets.
use Rattle.std.proofs.Common.{◌≡◌, ◌↔◌, inl, inr, ℕ, zero, suc, ◌+◌, ◌<◌, ◌≤◌, ℤ, pos, Bool, true, false, cond, not, ◌&&◌, List, [], ◌∷◌, map, filter, length, get_or, Some, None, Result, Ok, refl, sym, subst, ap, ◌∙◌, arith}
use Rattle.std.specs.Prelude.{◌==◌, nat_eq}
use Rattle.std.specs.List.{AllByRecursion, IsDistinct, list_any, range_with_len}
use Rattle.std.proofs.lemmas.Bool.{and_parts, cond_both, eq-eqb, eqb-true, false_from_ne_true, ne_eqb, not-false, not-true, or_cases, or_parts, true≢false}
use Rattle.std.proofs.lemmas.List.{ext_get_or, get_or-map, length-map}
use Rattle.std.proofs.lemmas.List.FromFn.{length-range_with_len}
use Rattle.std.proofs.lemmas.List.Sums.{count_by-le-length, length-filter}
use Rattle.lin_rows.specs.Row.{Row, Meets}
use Rattle.lin_rows.specs.System.{IsRowOver}
use Rattle.lin_rows.proofs.Lists.{AllByRecursion-map}
use Rattle.lin_rows.proofs.Numbers.{zero_fits}
use Rattle.transition_formula.specs.Program.{Edge, Form, IsFormOver}
use Rattle.transition_formula.specs.Step.{after_sets, value_of}
use Rattle.transition_formula.specs.Laws.{MeetsAll}
use Rattle.transition_formula.specs.Forms.{column_form, constant_form}
use Rattle.transition_formula.proofs.FormValues.{constant-over}
use Rattle.transition_formula.proofs.NextValues.{AreSet, get_or-assigned, is_set, length-assigned, next_value-from, range-from, range-to}
use Rattle.thread_cfg.specs.Source.{Frame, column_of}
use Rattle.thread_cfg.specs.Path.{Event}
use Rattle.thread_cfg.specs.Action.{Alternative}
use Rattle.thread_cfg.specs.Edge.{Along, after_events, alternative_edge, at_first, bound_holds, edge_along, edge_unless_never, event_sets, form_at, has_no_column, inputs_of, is_never, set_columns, sets_column}
use Rattle.thread_cfg.specs.Within.{EventWithin, EventsWithin}
use Rattle.thread_cfg.proofs.Relations.{no_column-meets}
use Rattle.thread_cfg.proofs.AlongEvents.{on_ok-ok, worths}
use Rattle.thread_cfg.proofs.Events.{AreOver, ChangesAll, after_events-changes, after_events-over, first-over, inputs_of-le}

-- ---- what an edge is made of
-- what is there unless a test holds
unless : {A : Type 0} (b : Bool) (x y : A) → cond b None (Some x) ≡ Some y → (b ≡ false) × (x ≡ y)
unless true x y e = absurd cc
unless false x y e = (refl, cc)

-- what is given unless a test holds is missing only where it holds
unless-none : {A : Type 0} (b : Bool) (x : A) → cond b None (Some x) ≡ None → b ≡ true
unless-none true x e = refl
unless-none false x e = absurd cc

-- how many columns and inputs the edge's rows are over
abbrev pub width_of : ℕ → Alternative → ℕ
width_of columns a = columns + inputs_of a.events

-- what is known behind all events of a way on
abbrev pub all_along : ℕ → Frame → Alternative → Result Along ℕ
all_along columns frame a = after_events (width_of columns a) columns frame (at_first (width_of columns a) columns) a.events

-- An edge is made of what is known behind all events, where no row is false whatever the values.
pub edge-made : {P : Type 0} (columns : ℕ) (frame : Frame) (at : ℕ) (a : Alternative) (edge : Edge) → alternative_edge columns frame at a ≡ Ok (Some edge)
    → ((last : Along) → all_along columns frame a ≡ Ok last → list_any is_never last.rows ≡ false → edge_along (width_of columns a) columns frame at a last ≡ edge → P) → P
edge-made columns frame at a edge e then =
    on_ok-ok (λ along. Ok (edge_unless_never (width_of columns a) columns frame at a along)) (all_along columns frame a) (Some edge) e (λ last given made.
    let some : edge_unless_never (width_of columns a) columns frame at a last ≡ Some edge = cc in
    let parts = unless (list_any is_never last.rows) (edge_along (width_of columns a) columns frame at a last) edge some in
    then last given parts.0 parts.1)

-- Where no edge is made, some row is false whatever the values.
pub edge-not_made : {P : Type 0} (columns : ℕ) (frame : Frame) (at : ℕ) (a : Alternative) → alternative_edge columns frame at a ≡ Ok None
    → ((last : Along) → all_along columns frame a ≡ Ok last → list_any is_never last.rows ≡ true → P) → P
edge-not_made columns frame at a e then =
    on_ok-ok (λ along. Ok (edge_unless_never (width_of columns a) columns frame at a along)) (all_along columns frame a) None e (λ last given made.
    let none : edge_unless_never (width_of columns a) columns frame at a last ≡ None = cc in
    then last given (unless-none (list_any is_never last.rows) (edge_along (width_of columns a) columns frame at a last) none))

-- ---- rows
-- a row that is false whatever the values is met nowhere
never-meets : (row : Row) (z : List ℤ) → is_never row ≡ true → Meets row z → ⊥
never-meets row z e met =
    let parts = and_parts (has_no_column row) (not (bound_holds row.equal row.bound)) e in
    true≢false (sym ((no_column-meets row z parts.0).0 met) ∙ not-true (bound_holds row.equal row.bound) parts.1)

-- rows of which one is false whatever the values are met nowhere
pub some_never-meets : (rows : List Row) (z : List ℤ) → list_any is_never rows ≡ true → MeetsAll rows z → ⊥
some_never-meets [] z e all = absurd cc
some_never-meets (row ∷ rows) z e all = elim (or_cases (is_never row) (list_any is_never rows) e) [
  | inl here ↦ never-meets row z here all.0
  | inr later ↦ some_never-meets rows z later all.1
]

-- a point meets the rows where it meets those of them that have a column, unless one is never met
kept_row-meets : (b : Bool) (row : Row) (tests rows : List Row) (z : List ℤ) → b ≡ has_no_column row → is_never row ≡ false → MeetsAll tests z ↔ MeetsAll rows z
    → MeetsAll (cond (not b) (row ∷ tests) tests) z ↔ MeetsAll (row ∷ rows) z
kept_row-meets true row tests rows z is never more =
    let holds = not-false (bound_holds row.equal row.bound) (ap (λ b. b && not (bound_holds row.equal row.bound)) is ∙ never) in
    (λ all. ((no_column-meets row z (sym is)).1 holds, more.0 all), λ all. more.1 all.1)
kept_row-meets false row tests rows z is never more = (λ all. (all.0, more.0 all.1), λ all. (all.0, more.1 all.1))

-- The tests are met exactly where all rows are.
pub tests-meet : (rows : List Row) (z : List ℤ) → list_any is_never rows ≡ false → MeetsAll (filter (λ row. not (has_no_column row)) rows) z ↔ MeetsAll rows z
tests-meet [] z e = (λ all. tt, λ all. tt)
tests-meet (row ∷ rows) z e =
    let parts = or_parts (is_never row) (list_any is_never rows) e in
    kept_row-meets (has_no_column row) row (filter (λ w. not (has_no_column w)) rows) rows z refl parts.0 (tests-meet rows z parts.1)

-- ---- sets
-- columns, each with its form
abbrev pub with_forms : (ℕ → Form) → List ℕ → List (ℕ × Form)
with_forms f cs = map (λ c. (c, f c)) cs

-- what holds of each column with its form holds of all that are set
with_forms-all : (P : ℕ × Form → Type 0) (f : ℕ → Form) (cs : List ℕ) → AllByRecursion (λ c. P (c, f c)) cs → AllByRecursion P (with_forms f cs)
with_forms-all P f cs all = AllByRecursion-map (λ c. P (c, f c)) P (λ c. (c, f c)) (λ c h. h) cs all

-- where a column is not among those that are set, it is none of them
is_set-none : (f : ℕ → Form) (cs : List ℕ) (c : ℕ) → is_set (with_forms f cs) c ≡ false → AllByRecursion (λ d. (d == c) ≡ false) cs
is_set-none f [] c e = tt
is_set-none f (d ∷ cs) c e = let parts = or_parts (d == c) (is_set (with_forms f cs) c) e in (parts.0, is_set-none f cs c parts.1)

-- a column that no set of those that pass a test has does not pass it
not_set : (f : ℕ → Form) (p : ℕ → Bool) (columns c : ℕ) → c < columns → is_set (with_forms f (filter p (range_with_len 0 columns))) c ≡ false → p c ≡ false
not_set f p columns c h e =
    false_from_ne_true (p c) (λ pass.
    let apart = range-to (λ d. (d == c) ≡ false) p 0 columns c (is_set-none f (filter p (range_with_len 0 columns)) c e) (omega arith) (omega arith) pass in
    true≢false (sym (eq-eqb c c refl) ∙ apart))

module _ (columns : ℕ) (frame : Frame) (events : List Event) (width : ℕ) (last : Along) (z before : List ℤ)
    (changes : ChangesAll frame events (at_first width columns) last) (length_is : length before ≡ columns)
    (first : worths z (at_first width columns).forms ≡ before) where
  -- there is a form for each column
  forms-length : length last.forms ≡ columns
  forms-length = changes.forms ∙ length-map (range_with_len 0 columns) (λ c. column_form width c) ∙ length-range_with_len 0 columns

  -- what a column is worth behind the events is the value of its form
  worth-at : (c : ℕ) → c < columns → get_or (worths z last.forms) c (pos 0) ≡ value_of (form_at width last c) z
  worth-at c h = get_or-map (λ form. value_of form z) last.forms c (constant_form width (pos 0)) (pos 0) (omega (arith, forms-length))

  -- what is set has the values of the forms
  sets-worth : AreSet (with_forms (form_at width last) (set_columns columns frame events)) z (worths z last.forms)
  sets-worth =
      with_forms-all (λ set. get_or (worths z last.forms) set.0 (pos 0) ≡ value_of set.1 z) (form_at width last) (set_columns columns frame events)
      (range-from (λ c. get_or (worths z last.forms) c (pos 0) ≡ value_of (form_at width last c) z) (sets_column frame events) 0 columns
      (λ c low high pass. worth-at c (omega arith)))

  -- a column that is not set is worth what it was
  kept-worth : (c : ℕ) → c < columns → sets_column frame events c ≡ false → get_or (worths z last.forms) c (pos 0) ≡ get_or before c (pos 0)
  kept-worth c h none =
      let d : Form = constant_form width (pos 0) in
      let there : c < length (at_first width columns).forms = omega (arith, forms-length, changes.forms) in
      worth-at c h
      ∙ ap (λ form. value_of form z) (changes.kept c d none)
      ∙ sym (get_or-map (λ form. value_of form z) (at_first width columns).forms c d (pos 0) there)
      ∙ ap (λ values. get_or values c (pos 0)) first

  -- What the sets leave is what the forms are worth.
  pub sets-assigned : after_sets (with_forms (form_at width last) (set_columns columns frame events)) z before ≡ worths z last.forms
  sets-assigned =
      let sets = with_forms (form_at width last) (set_columns columns frame events) in
      let long = length-assigned sets z before in
      ext_get_or (pos 0) (after_sets sets z before) (worths z last.forms)
      (long ∙ length_is ∙ sym (length-map last.forms (λ form. value_of form z) ∙ forms-length))
      (λ c h.
      let within : c < columns = omega (arith, long) in
      get_or-assigned sets z before c (omega (arith, long))
      ∙ sym (next_value-from sets z before (worths z last.forms) c sets-worth
      (λ e. kept-worth c within (not_set (form_at width last) (sets_column frame events) columns c within e))))

-- ---- what is asked of an edge of a program
-- a column that an event within n sets is within n
event_sets-within : (n : ℕ) (frame : Frame) (event : Event) (c : ℕ) → EventWithin n frame event → event_sets frame c event ≡ true → c < n
event_sets-within n frame (Event.Requires from r a b) c within e = absurd cc
event_sets-within n frame (Event.Sets at v a) c within e = let same = eqb-true (column_of frame v) c e in omega arith
event_sets-within n frame (Event.SetsAny v) c within e = let same = eqb-true (column_of frame v) c e in omega arith

-- a column that events within n set is within n
sets_column-within : (n : ℕ) (frame : Frame) (events : List Event) (c : ℕ) → EventsWithin n frame events → sets_column frame events c ≡ true → c < n
sets_column-within n frame [] c within e = absurd cc
sets_column-within n frame (event ∷ events) c within e = elim (or_cases (event_sets frame c event) (sets_column frame events c) e) [
  | inl here ↦ event_sets-within n frame event c within.0 here
  | inr later ↦ sets_column-within n frame events c within.1 later
]

-- what holds of all holds of those that pass a test
AllByRecursion-filter : {A : Type 0} (P : A → Type 0) (p : A → Bool) (xs : List A) → AllByRecursion P xs → AllByRecursion P (filter p xs)
AllByRecursion-filter P p [] all = tt
AllByRecursion-filter P p (x ∷ xs) all =
    let more = AllByRecursion-filter P p xs all.1 in cond_both (p x) (x ∷ filter p xs) (filter p xs) (AllByRecursion P) (λ e. (all.0, more)) (λ e. more)

-- the columns of sets are those that they were made of
columns-of_sets : (f : ℕ → Form) (cs : List ℕ) → map (λ (set : ℕ × Form). set.0) (with_forms f cs) ≡ cs
columns-of_sets f [] = refl
columns-of_sets f (c ∷ cs) = ap (λ l. c ∷ l) (columns-of_sets f cs)

-- the numbers of a range that pass a test are apart
range-apart : (p : ℕ → Bool) (a n : ℕ) → IsDistinct nat_eq (filter p (range_with_len a n))
unfolding IsDistinct
range-apart p a zero = tt
range-apart p a (suc n) =
    let more = range-apart p (a + 1) n in
    cond_both (p a) (a ∷ filter p (range_with_len (a + 1) n)) (filter p (range_with_len (a + 1) n)) (IsDistinct nat_eq)
    (λ e. (range-from (λ c. nat_eq a c ≡ false) p (a + 1) n (λ c low high pass. ne_eqb a c (λ same. absurd (omega arith))), more))
    (λ e. more)

-- the form at a place is over the width, where all are and the one given for a missing place is
get_or-over : (width : ℕ) (forms : List Form) (c : ℕ) (d : Form) → AllByRecursion (IsFormOver width) forms → IsFormOver width d → IsFormOver width (get_or forms c d)
get_or-over width [] c d all over = over
get_or-over width (form ∷ forms) zero d all over = all.0
get_or-over width (form ∷ forms) (suc c) d all over = get_or-over width forms c d all.1 over

-- the forms of columns behind events are over the width
all-over : (width : ℕ) (last : Along) (cs : List ℕ) → AreOver width last → AllByRecursion (λ c. IsFormOver width (form_at width last c)) cs
all-over width last [] are = tt
all-over width last (c ∷ cs) are =
    (get_or-over width last.forms c (constant_form width (pos 0)) are.forms (constant-over width (pos 0) zero_fits), all-over width last cs are)

-- What a program asks of an edge, apart from its locations: its tests and forms are over so many columns and its inputs, and it sets
-- columns below n, none twice. There are no more tests and inputs than events.
pub record IsMade (n columns : ℕ) (a : Alternative) (edge : Edge) : Type 0 where
  pub tests_over : AllByRecursion (IsRowOver (columns + edge.inputs)) edge.tests
  pub forms_over : AllByRecursion (λ set. IsFormOver (columns + edge.inputs) set.1) edge.sets
  pub sets_no_counter : AllByRecursion (λ set. set.0 < n) edge.sets
  pub sets_none_twice : IsDistinct nat_eq (map (λ set. set.0) edge.sets)
  pub few_tests : length edge.tests ≤ length a.events
  pub few_inputs : edge.inputs ≤ length a.events

-- where a made edge leads from and to, and its inputs
pub edge-from : (columns : ℕ) (frame : Frame) (at : ℕ) (a : Alternative) (edge : Edge) → alternative_edge columns frame at a ≡ Ok (Some edge)
    → (edge.from ≡ at) × (edge.to ≡ a.to) × (edge.inputs ≡ inputs_of a.events)
edge-from columns frame at a edge e =
    edge-made columns frame at a edge e (λ last given never made.
    let changes = after_events-changes (width_of columns a) columns frame (at_first (width_of columns a) columns) last a.events given in
    subst (λ (x : Edge). (x.from ≡ at) × (x.to ≡ a.to) × (x.inputs ≡ inputs_of a.events)) made (refl, refl, omega (arith, changes.inputs)))

-- a made edge is what a program asks for
pub edge-is : (n columns : ℕ) (frame : Frame) (at : ℕ) (a : Alternative) (edge : Edge) → EventsWithin n frame a.events
    → alternative_edge columns frame at a ≡ Ok (Some edge) → IsMade n columns a edge
edge-is n columns frame at a edge within e =
    edge-made columns frame at a edge e (λ last given never made.
    let width : ℕ = width_of columns a in
    let changes = after_events-changes width columns frame (at_first width columns) last a.events given in
    let over = after_events-over width columns frame (at_first width columns) last a.events given (first-over width columns) in
    let same : columns + inputs_of a.events ≡ columns + last.inputs = omega (arith, changes.inputs) in
    let cs = set_columns columns frame a.events in
    subst (IsMade n columns a) made
    (record {
      tests_over = subst (λ (w : ℕ). AllByRecursion (IsRowOver w) (filter (λ row. not (has_no_column row)) last.rows)) same
          (AllByRecursion-filter (IsRowOver width) (λ row. not (has_no_column row)) last.rows over.rows);
      forms_over = subst (λ (w : ℕ). AllByRecursion (λ set. IsFormOver w set.1) (with_forms (form_at width last) cs)) same
          (with_forms-all (λ set. IsFormOver width set.1) (form_at width last) cs (all-over width last cs over));
      sets_no_counter = with_forms-all (λ set. set.0 < n) (form_at width last) cs
          (range-from (λ c. c < n) (sets_column frame a.events) 0 columns (λ c low high pass. sets_column-within n frame a.events c within pass));
      sets_none_twice = subst (IsDistinct nat_eq) (sym (columns-of_sets (form_at width last) cs)) (range-apart (sets_column frame a.events) 0 columns);
      few_tests = omega (arith, changes.rows, length-filter (λ row. not (has_no_column row)) last.rows, count_by-le-length (λ row. not (has_no_column row)) last.rows);
      few_inputs = omega (arith, changes.inputs, inputs_of-le a.events);
    }))
