-- What the program holds along events is what is seen of all that is known along those that they stand for.
use Rattle.std.proofs.Common.{◌≡◌, ℕ, ◌<◌, Bool, true, false, not, ◌||◌, List, [], ◌∷◌, Option, Some, None, Result, Ok, Err, refl, sym, ap, ap₂, subst, ◌∙◌, arith}
use Rattle.std.specs.Option.{option_and_then}
use Rattle.std.specs.List.{AllByRecursion, list_any}
use Rattle.std.proofs.lemmas.List.Elements.{filter-append}
use Rattle.std.proofs.lemmas.List.Folds.{list_any-append}
use Rattle.lin_rows.specs.Row.{Row}
use Rattle.transition_formula.specs.Program.{Form}
use Rattle.transition_formula.specs.Forms.{fitting_composition}
use Rattle.thread_cfg.specs.declared.event.Event.{Event as StoredEvent}
use Rattle.thread_cfg.specs.declared.event.Event.TheVariants as stored
use Rattle.thread_cfg.specs.declared.event.Expression.{Expression}
use Rattle.thread_cfg.specs.declared.relation.Relation.{Relation}
use Rattle.thread_cfg.specs.Source.{Frame, column_of}
use Rattle.thread_cfg.specs.Path.{Event}
use Rattle.thread_cfg.specs.Edge.{Along, after_event, after_events, event_sets, fits_or, form_along, has_no_column, inputs_of, is_never, on_ok, row_along, row_by, sets_column, with_form, with_row}
use Rattle.c_check.specs.Plan.{Arithmetic}
use Rattle.thread_cfg.specs.inside.Made.{some_sets}
use Rattle.thread_cfg.specs.inside.Meant.{Means, StandFor, StandsFor}
use Rattle.thread_cfg.specs.inside.Seen.{HeldEventWithin, Seen, form_seen, held_event_sets, inputs_in, row_seen, seen_after, seen_behind, seen_of, seen_with_form, seen_with_row}
use Rattle.thread_cfg.specs.Within.{EventWithin, EventsWithin}
use Rattle.thread_cfg.proofs.PostfixLemmas.{computed-meant, expression-within}

-- ---- one event

-- one row more
seen_of-row : (w : ℕ) (along : Along) (row : Row) → seen_with_row (seen_of w along) row ≡ seen_of w (with_row along row)
seen_of-row w along row =
    let rows = sym (filter-append (λ r. not (has_no_column r)) along.rows (row ∷ [])) in
    let never = ap (λ b. list_any is_never along.rows || b) (sym (or_false (is_never row))) ∙ sym (list_any-append is_never along.rows (row ∷ [])) in
    ap₂ (λ (tests : List Row) (b : Bool). record { forms = along.forms; inputs = along.inputs; tests = record { columns = w; rows = tests }; never = b }) rows never
  where
    or_false : (b : Bool) → (b || false) ≡ b
    or_false true = refl
    or_false false = refl

-- what the code knows of what is known, or the same place
abbrev seen_if : ℕ → Result Along ℕ → Result Seen ℕ
seen_if w r = on_ok (λ along. Ok (seen_of w along)) r

-- one row more, in the code as in the definition
seen_if-row : (w from : ℕ) (along : Along) (o : Option Row)
    → on_ok (λ row. Ok (seen_with_row (seen_of w along) row)) (fits_or from o) ≡ seen_if w (on_ok (λ row. Ok (with_row along row)) (fits_or from o))
seen_if-row w from along None = refl
seen_if-row w from along (Some row) = ap Ok (seen_of-row w along row)

-- one form more, in the code as in the definition
seen_if-form : (w place c : ℕ) (along : Along) (o : Option Form)
    → on_ok (λ form. Ok (seen_with_form (seen_of w along) c form)) (fits_or place o) ≡ seen_if w (on_ok (λ form. Ok (with_form along c form)) (fits_or place o))
seen_if-form w place c along None = refl
seen_if-form w place c along (Some form) = refl

-- the form that the code makes of an expression along events is that of the definition
form_seen-meant : (w n : ℕ) (frame : Frame) (along : Along) (e : Expression) (a : Arithmetic) → Means e a
    → form_seen w n frame along.forms e ≡ form_along w n frame along a
form_seen-meant w n frame along e a h = ap (option_and_then (λ form. fitting_composition w form along.forms)) (computed-meant n frame e a h)

-- the row that the code makes of a relation along events is that of the definition
row_seen-meant : (w n : ℕ) (frame : Frame) (along : Along) (r : Relation) (left right : Expression) (a b : Arithmetic) → Means left a → Means right b
    → row_seen w n frame along.forms r left right ≡ row_along w n frame along r a b
row_seen-meant w n frame along r left right a b h k =
    ap₂ (λ one other. option_and_then (λ l. option_and_then (row_by w r l) other) one)
    (form_seen-meant w n frame along left a h) (form_seen-meant w n frame along right b k)

-- what the code knows behind an event is what the definition does
seen_after-meant : (w n : ℕ) (frame : Frame) (along : Along) (s : StoredEvent) (e : Event) → StandsFor s e
    → seen_after w n frame (seen_of w along) s ≡ seen_if w (after_event w n frame along e)
seen_after-meant w n frame along (stored.Requires from r left right) (Event.Requires place q a b) h =
    rw (h.0, h.1) (
    ap (λ o. on_ok (λ row. Ok (seen_with_row (seen_of w along) row)) (fits_or from o)) (row_seen-meant w n frame along r left right a b h.2 h.3)
    ∙ seen_if-row w from along (row_along w n frame along r a b)
    )
seen_after-meant w n frame along (stored.Sets place v value) (Event.Sets at u a) h =
    rw (h.0, h.1) (
    ap (λ o. on_ok (λ form. Ok (seen_with_form (seen_of w along) (column_of frame v) form)) (fits_or place o)) (form_seen-meant w n frame along value a h.2)
    ∙ seen_if-form w place (column_of frame v) along (form_along w n frame along a)
    )
seen_after-meant w n frame along (stored.SetsAny v) (Event.SetsAny u) h = rw h refl
seen_after-meant w n frame along _ _ h = absurd h

-- ---- all of them

-- what goes on alike behind what is known goes on alike behind what fits
behind-first : (w : ℕ) (first : Result Along ℕ) (f : Seen → Result Seen ℕ) (g : Along → Result Along ℕ) → ((more : Along) → f (seen_of w more) ≡ seen_if w (g more))
    → on_ok f (seen_if w first) ≡ seen_if w (on_ok g first)
behind-first w (Err from) f g h = refl
behind-first w (Ok more) f g h = h more

-- what the code knows behind events is what the definition does
pub seen_behind-meant : (w n : ℕ) (frame : Frame) (along : Along) (ss : List StoredEvent) (es : List Event) → StandFor ss es
    → seen_behind w n frame ss (seen_of w along) ≡ seen_if w (after_events w n frame along es)
seen_behind-meant w n frame along [] [] h = refl
seen_behind-meant w n frame along (s ∷ ss) (e ∷ es) h =
    ap (on_ok (seen_behind w n frame ss)) (seen_after-meant w n frame along s e h.0)
    ∙ behind-first w (after_event w n frame along e) (seen_behind w n frame ss) (λ more. after_events w n frame more es)
    (λ more. seen_behind-meant w n frame more ss es h.1)
seen_behind-meant w n frame along _ _ h = absurd h

-- the inputs that they take
pub inputs_in-meant : (ss : List StoredEvent) (es : List Event) → StandFor ss es → inputs_in ss ≡ inputs_of es
inputs_in-meant [] [] h = refl
inputs_in-meant (stored.Requires from r left right ∷ ss) (Event.Requires place q a b ∷ es) h = inputs_in-meant ss es h.1
inputs_in-meant (stored.Sets place v value ∷ ss) (Event.Sets at u a ∷ es) h = inputs_in-meant ss es h.1
inputs_in-meant (stored.SetsAny v ∷ ss) (Event.SetsAny u ∷ es) h = omega (arith, inputs_in-meant ss es h.1)
inputs_in-meant (stored.Requires from r left right ∷ ss) (Event.Sets at u a ∷ es) h = absurd h.0
inputs_in-meant (stored.Requires from r left right ∷ ss) (Event.SetsAny u ∷ es) h = absurd h.0
inputs_in-meant (stored.Sets place v value ∷ ss) (Event.Requires at q a b ∷ es) h = absurd h.0
inputs_in-meant (stored.Sets place v value ∷ ss) (Event.SetsAny u ∷ es) h = absurd h.0
inputs_in-meant (stored.SetsAny v ∷ ss) (Event.Requires place q a b ∷ es) h = absurd h.0
inputs_in-meant (stored.SetsAny v ∷ ss) (Event.Sets at u a ∷ es) h = absurd h.0
inputs_in-meant [] (e ∷ es) h = absurd h
inputs_in-meant (s ∷ ss) [] h = absurd h

-- the columns that they set
event_sets-meant : (frame : Frame) (c : ℕ) (s : StoredEvent) (e : Event) → StandsFor s e → held_event_sets frame c s ≡ event_sets frame c e
event_sets-meant frame c (stored.Requires from r left right) (Event.Requires place q a b) h = refl
event_sets-meant frame c (stored.Sets place v value) (Event.Sets at u a) h = rw h.1 refl
event_sets-meant frame c (stored.SetsAny v) (Event.SetsAny u) h = rw h refl
event_sets-meant frame c _ _ h = absurd h

-- stored events set a column exactly where those that they stand for do
pub some_sets-meant : (frame : Frame) (c : ℕ) (ss : List StoredEvent) (es : List Event) → StandFor ss es → some_sets frame ss c ≡ sets_column frame es c
some_sets-meant frame c [] [] h = refl
some_sets-meant frame c (s ∷ ss) (e ∷ es) h = ap₂ (λ a b. a || b) (event_sets-meant frame c s e h.0) (some_sets-meant frame c ss es h.1)
some_sets-meant frame c _ _ h = absurd h

-- the columns that they read and set
event-within : (n : ℕ) (frame : Frame) (s : StoredEvent) (e : Event) → StandsFor s e → EventWithin n frame e → HeldEventWithin n frame s
event-within n frame (stored.Requires from r left right) (Event.Requires place q a b) h within =
    (expression-within n frame left a h.2 within.0, expression-within n frame right b h.3 within.1)
event-within n frame (stored.Sets place v value) (Event.Sets at u a) h within =
    (subst (λ x. column_of frame x < n) h.1 within.0, expression-within n frame value a h.2 within.1)
event-within n frame (stored.SetsAny v) (Event.SetsAny u) h within = subst (λ x. column_of frame x < n) h within
event-within n frame _ _ h within = absurd h

-- stored events are within n where those that they stand for are
pub events-within : (n : ℕ) (frame : Frame) (ss : List StoredEvent) (es : List Event) → StandFor ss es → EventsWithin n frame es
    → AllByRecursion (HeldEventWithin n frame) ss
events-within n frame [] [] h within = tt
events-within n frame (s ∷ ss) (e ∷ es) h within = (event-within n frame s e h.0 within.0, events-within n frame ss es h.1 within.1)
events-within n frame _ _ h within = absurd h
