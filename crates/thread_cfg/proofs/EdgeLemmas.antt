-- The edge that is made of what is held is that of the alternative.
use Rattle.std.proofs.Common.{◌≡◌, ℕ, ◌+◌, ◌<◌, ◌≤◌, zero, suc, pos, Bool, true, false, cond, List, [], ◌∷◌, map, length, filter, get_or, Some, None, Result, Ok, Err, refl, sym, ap, ap₂, ◌∙◌, arith, add-zero}
use Rattle.std.specs.List.{AllByRecursion, list_any, range_with_len}
use Rattle.std.proofs.lemmas.List.{length-set}
use Rattle.std.proofs.lemmas.List.Elements.{filter_agree}
use Rattle.std.proofs.lemmas.List.FromFn.{length-map-range_with_len}
use Rattle.transition_formula.specs.Program.{Form, IsFormOver}
use Rattle.transition_formula.specs.Forms.{column_form, constant_form}
use Rattle.transition_formula.proofs.FormProducts.{column-over}
use Rattle.thread_cfg.specs.declared.event.Event.{Event as StoredEvent}
use Rattle.thread_cfg.specs.Source.{Frame, column_of}
use Rattle.thread_cfg.specs.Path.{Event}
use Rattle.thread_cfg.specs.Edge.{Along, after_event, after_events, alternative_edge, at_first, edge_unless_never, form_along, form_at, inputs_of, is_never, on_ok, row_along, set_columns, sets_column, with_form, with_row}
use Rattle.thread_cfg.specs.inside.Made.{edge_held, edge_seen, seen_first, sets_seen, some_sets}
use Rattle.thread_cfg.specs.inside.Meant.{StandFor}
use Rattle.thread_cfg.specs.inside.Seen.{IsSeenOver, Seen, inputs_in, seen_behind, seen_of, takes_input}
use Rattle.thread_cfg.proofs.MeantLemmas.{inputs_in-meant, seen_behind-meant, some_sets-meant}
use Rattle.thread_cfg.proofs.SeenLemmas.{on_ok-given, on_ok-ok, same_Ok}

-- ---- the sets

-- the columns from c on that pass the test, with what a function gives at them
sets_seen-range : (p : ℕ → Bool) (f : ℕ → Form) (d : Form) (c : ℕ) (forms : List Form) → ((i : ℕ) → i < length forms → f (c + i) ≡ get_or forms i d)
    → sets_seen p c forms ≡ map (λ k. (k, f k)) (filter p (range_with_len c (length forms)))
sets_seen-range p f d c [] h = refl
sets_seen-range p f d c (form ∷ forms) h =
    by_test (p c) (ap f (sym (add-zero c)) ∙ h 0 (omega arith))
    (sets_seen-range p f d (c + 1) forms (λ i within. ap f (next i) ∙ h (suc i) (omega arith)))
  where
    next : (i : ℕ) → c + 1 + i ≡ c + suc i
    next i = omega arith

    by_test : (b : Bool) → f c ≡ form → sets_seen p (c + 1) forms ≡ map (λ k. (k, f k)) (filter p (range_with_len (c + 1) (length forms)))
        → cond b ((c, form) ∷ sets_seen p (c + 1) forms) (sets_seen p (c + 1) forms)
        ≡ map (λ k. (k, f k)) (cond b (c ∷ filter p (range_with_len (c + 1) (length forms))) (filter p (range_with_len (c + 1) (length forms))))
    by_test true here rest = ap₂ (λ (x : Form) (l : List (ℕ × Form)). (c, x) ∷ l) (sym here) rest
    by_test false here rest = rest

-- the sets that the code finds are those of the columns that events set
sets-meant : (w n : ℕ) (frame : Frame) (along : Along) (ss : List StoredEvent) (es : List Event) → StandFor ss es → length along.forms ≡ n
    → sets_seen (some_sets frame ss) 0 along.forms ≡ map (λ c. (c, form_at w along c)) (set_columns n frame es)
sets-meant w n frame along ss es h size =
    sets_seen-range (some_sets frame ss) (form_at w along) (constant_form w (pos 0)) 0 along.forms (λ i within. ap (form_at w along) (nothing-more i))
    ∙ ap (map (λ c. (c, form_at w along c)))
    (filter_agree (some_sets frame ss) (sets_column frame es) (λ c. some_sets-meant frame c ss es h) (range_with_len 0 (length along.forms))
    ∙ ap (λ k. filter (sets_column frame es) (range_with_len 0 k)) size)
  where
    nothing-more : (i : ℕ) → 0 + i ≡ i
    nothing-more i = omega arith

-- ---- the edge

-- the edge that the code makes of what it knows behind events is that of the definition
edge_seen-meant : (w n from to : ℕ) (frame : Frame) (along : Along) (ss : List StoredEvent) (es : List Event) → StandFor ss es → length along.forms ≡ n
    → edge_seen frame from to ss (seen_of w along) ≡ edge_unless_never w n frame from (record { events = es; to = to }) along
edge_seen-meant w n from to frame along ss es h size =
    ap (λ (sets : List (ℕ × Form)). cond (list_any is_never along.rows) None (Some (record { from = from; to = to; inputs = along.inputs; tests = (seen_of w along).tests.rows; sets = sets })))
    (sets-meant w n frame along ss es h size)

-- there is a form for each column still
after_event-length : (w n : ℕ) (frame : Frame) (along next : Along) (e : Event) → after_event w n frame along e ≡ Ok next → length next.forms ≡ length along.forms
after_event-length w n frame along next (Event.Requires from r a b) e =
    on_ok-given (λ row. Ok (with_row along row)) from (row_along w n frame along r a b) next e (λ row made is.
    ap (λ l. length l.forms) (sym (same_Ok (with_row along row) next is)))
after_event-length w n frame along next (Event.Sets at v a) e =
    on_ok-given (λ form. Ok (with_form along (column_of frame v) form)) at (form_along w n frame along a) next e (λ form made is.
    ap (λ l. length l.forms) (sym (same_Ok (with_form along (column_of frame v) form) next is)) ∙ length-set along.forms (column_of frame v) form)
after_event-length w n frame along next (Event.SetsAny v) e =
    ap (λ l. length l.forms) (sym (same_Ok _ next e)) ∙ length-set along.forms (column_of frame v) (column_form w (n + along.inputs))

-- behind events there is a form for as many columns as in front of them
after_events-length : (w n : ℕ) (frame : Frame) (along next : Along) (es : List Event) → after_events w n frame along es ≡ Ok next → length next.forms ≡ length along.forms
after_events-length w n frame along next [] e = ap (λ l. length l.forms) (sym (same_Ok along next e))
after_events-length w n frame along next (event ∷ es) e =
    on_ok-ok (λ more. after_events w n frame more es) (after_event w n frame along event) next e (λ more made rest.
    after_events-length w n frame more next es rest ∙ after_event-length w n frame along more event made)

-- what is made of what is known behind all events
edge-last : (w n from to : ℕ) (frame : Frame) (ss : List StoredEvent) (es : List Event) (r : Result Along ℕ) → StandFor ss es → ((along : Along) → r ≡ Ok along → length along.forms ≡ n)
    → on_ok (λ seen. Ok (edge_seen frame from to ss seen)) (on_ok (λ along. Ok (seen_of w along)) r)
    ≡ on_ok (λ along. Ok (edge_unless_never w n frame from (record { events = es; to = to }) along)) r
edge-last w n from to frame ss es (Err place) h size = refl
edge-last w n from to frame ss es (Ok along) h size = ap Ok (edge_seen-meant w n from to frame along ss es h (size along refl))

-- from the first event to the edge, the code gives what the definition does
edge_over-meant : (w n from to : ℕ) (frame : Frame) (ss : List StoredEvent) (es : List Event) → StandFor ss es
    → on_ok (λ seen. Ok (edge_seen frame from to ss seen)) (seen_behind w n frame ss (seen_first w n))
    ≡ on_ok (λ along. Ok (edge_unless_never w n frame from (record { events = es; to = to }) along)) (after_events w n frame (at_first w n) es)
edge_over-meant w n from to frame ss es h =
    ap (on_ok (λ seen. Ok (edge_seen frame from to ss seen))) (seen_behind-meant w n frame (at_first w n) ss es h)
    ∙ edge-last w n from to frame ss es (after_events w n frame (at_first w n) es) h
    (λ along made. after_events-length w n frame (at_first w n) along es made ∙ length-map-range_with_len (column_form w) 0 n)

-- the edge of an alternative
pub edge_held-meant : (n from to : ℕ) (frame : Frame) (ss : List StoredEvent) (es : List Event) → StandFor ss es
    → edge_held n frame from to ss ≡ alternative_edge n frame from (record { events = es; to = to })
edge_held-meant n from to frame ss es h =
    ap (λ m. on_ok (λ seen. Ok (edge_seen frame from to ss seen)) (seen_behind (n + m) n frame ss (seen_first (n + m) n))) (inputs_in-meant ss es h)
    ∙ edge_over-meant (n + inputs_of es) n from to frame ss es h

-- ---- in front of all events

-- in front of all events, all that the code knows is over so many columns and inputs
pub seen_first-over : (w n : ℕ) → IsSeenOver n w (seen_first w n)
seen_first-over w n = record {
  one_each = length-map-range_with_len (column_form w) 0 n;
  forms_over = columns-over 0 n;
  tests_over = refl;
}
  where
    columns-over : (c k : ℕ) → AllByRecursion (IsFormOver w) (map (column_form w) (range_with_len c k))
    columns-over c zero = tt
    columns-over c (suc k) = (column-over w c, columns-over (c + 1) k)

-- no more inputs than events
pub inputs_in-few : (ss : List StoredEvent) → inputs_in ss ≤ length ss
inputs_in-few [] = omega arith
inputs_in-few (s ∷ ss) = by_test (takes_input s) (inputs_in-few ss)
  where
    by_test : (b : Bool) → length (filter takes_input ss) ≤ length ss → length (cond b (s ∷ filter takes_input ss) (filter takes_input ss)) ≤ length (s ∷ ss)
    by_test true few = omega arith
    by_test false few = omega arith

-- the edge, from what is held behind all events
pub edge_held-behind : (n w from to : ℕ) (frame : Frame) (ss : List StoredEvent) (seen : Seen) (r : Result Seen ℕ) → w ≡ n + inputs_in ss → seen ≡ seen_first w n
    → r ≡ seen_behind w n frame ss seen → on_ok (λ s. Ok (edge_seen frame from to ss s)) r ≡ edge_held n frame from to ss
edge_held-behind n w from to frame ss seen r width first is =
    ap (on_ok (λ s. Ok (edge_seen frame from to ss s)))
    (is ∙ ap₂ (λ v s. seen_behind v n frame ss s) width (first ∙ ap (λ v. seen_first v n) width))
