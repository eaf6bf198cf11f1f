-- What is held stays over its columns and inputs, and grows by what an event brings.
use Rattle.std.proofs.Common.{◌≡◌, ℕ, ◌+◌, ◌≤◌, Bool, true, false, not, cond, List, [], ◌∷◌, ◌++◌, length, filter, Option, Some, None, Result, Ok, Err, refl, sym, ap, subst, ◌∙◌, arith, length-append}
use Rattle.std.proofs.lemmas.List.{length-set}
use Rattle.lin_rows.specs.Row.{Row}
use Rattle.transition_formula.specs.Program.{Form, IsFormOver}
use Rattle.transition_formula.specs.Forms.{column_form}
use Rattle.transition_formula.proofs.Numbers.{AllByRecursion-set}
use Rattle.transition_formula.proofs.FormProducts.{column-over}
use Rattle.thread_cfg.specs.declared.event.Event.{Event as StoredEvent}
use Rattle.thread_cfg.specs.declared.event.Event.TheVariants as stored
use Rattle.thread_cfg.specs.Source.{Frame, column_of}
use Rattle.thread_cfg.specs.Edge.{fits_or, has_no_column, on_ok}
use Rattle.thread_cfg.specs.inside.Seen.{IsSeenOver, Seen, form_seen, inputs_in, row_seen, seen_after, seen_behind, seen_with_form, seen_with_input, seen_with_row}
use Rattle.thread_cfg.proofs.RowLemmas.{form_seen-over}

-- what is given by what fits
pub on_ok-given : {X Y P : Type 0} (f : X → Result Y ℕ) (from : ℕ) (o : Option X) (y : Y) → on_ok f (fits_or from o) ≡ Ok y
    → ((x : X) → o ≡ Some x → f x ≡ Ok y → P) → P
on_ok-given f from None y e h = absurd cc
on_ok-given f from (Some x) y e h = h x refl e

-- where a chain gives something, its first part did
pub on_ok-ok : {X Y P : Type 0} (f : X → Result Y ℕ) (r : Result X ℕ) (y : Y) → on_ok f r ≡ Ok y → ((x : X) → r ≡ Ok x → f x ≡ Ok y → P) → P
on_ok-ok f (Err from) y e h = absurd cc
on_ok-ok f (Ok x) y e h = h x refl e

-- what two results hold is the same where they are
pub same_Ok : {X : Type 0} (x y : X) → ◌≡◌ {A = Result X ℕ} (Ok x) (Ok y) → x ≡ y
same_Ok x y e = cc

-- What is held behind an event is over the same columns, with no more than one row and its inputs.
pub record IsNext (columns width : ℕ) (seen next : Seen) (e : StoredEvent) : Type 0 where
  pub over : IsSeenOver columns width next
  pub inputs : next.inputs ≡ seen.inputs + inputs_in (e ∷ [])
  pub rows : length next.tests.rows ≤ length seen.tests.rows + 1

-- one row at most
length-one_row : (p : Row → Bool) (rows : List Row) (row : Row) → length (rows ++ filter p (row ∷ [])) ≤ length rows + 1
length-one_row p rows row = by_test (p row)
  where
    by_test : (b : Bool) → length (rows ++ cond b (row ∷ []) []) ≤ length rows + 1
    by_test true = omega (arith, length-append rows (row ∷ []))
    by_test false = omega (arith, length-append {A = Row} rows [])

-- an event that asks a row leaves all over the width
with_row-next : (columns width from : ℕ) (seen : Seen) (e : StoredEvent) (row : Row) → inputs_in (e ∷ []) ≡ 0 → IsSeenOver columns width seen
    → IsNext columns width seen (seen_with_row seen row) e
with_row-next columns width from seen e row none over = record {
  over = record { one_each = over.one_each; forms_over = over.forms_over; tests_over = over.tests_over };
  inputs = omega (arith, none);
  rows = length-one_row (λ r. not (has_no_column r)) seen.tests.rows row;
}

-- an event that sets a form over the width leaves all over it
with_form-over : (columns width c : ℕ) (seen : Seen) (form : Form) → IsSeenOver columns width seen → IsFormOver width form
    → IsSeenOver columns width (seen_with_form seen c form)
with_form-over columns width c seen form over is = record {
  one_each = length-set seen.forms c form ∙ over.one_each;
  forms_over = AllByRecursion-set (IsFormOver width) seen.forms c form over.forms_over is;
  tests_over = over.tests_over;
}

-- behind one event
pub seen_after-next : (columns width : ℕ) (frame : Frame) (seen next : Seen) (e : StoredEvent) → seen_after width columns frame seen e ≡ Ok next
    → IsSeenOver columns width seen → IsNext columns width seen next e
seen_after-next columns width frame seen next (stored.Requires from r left right) e over =
    on_ok-given (λ row. Ok (seen_with_row seen row)) from (row_seen width columns frame seen.forms r left right) next e (λ row made is.
    subst (λ s. IsNext columns width seen s (stored.Requires from r left right)) (same_Ok (seen_with_row seen row) next is)
    (with_row-next columns width from seen (stored.Requires from r left right) row refl over))
seen_after-next columns width frame seen next (stored.Sets place v value) e over =
    on_ok-given (λ form. Ok (seen_with_form seen (column_of frame v) form)) place (form_seen width columns frame seen.forms value) next e (λ form made is.
    subst (λ s. IsNext columns width seen s (stored.Sets place v value)) (same_Ok (seen_with_form seen (column_of frame v) form) next is)
    (record {
      over = with_form-over columns width (column_of frame v) seen form over (form_seen-over width columns frame seen.forms value form made over.forms_over);
      inputs = omega arith;
      rows = omega arith;
    }))
seen_after-next columns width frame seen next (stored.SetsAny v) e over =
    let form = column_form width (columns + seen.inputs) in
    let with_form = with_form-over columns width (column_of frame v) seen form over (column-over width (columns + seen.inputs)) in
    subst (λ s. IsNext columns width seen s (stored.SetsAny v)) (same_Ok (seen_with_input width columns seen (column_of frame v)) next e)
    (record {
      over = record { one_each = with_form.one_each; forms_over = with_form.forms_over; tests_over = with_form.tests_over };
      inputs = refl;
      rows = omega arith;
    })

-- behind all of them
pub seen_behind-over : (columns width : ℕ) (frame : Frame) (es : List StoredEvent) (seen next : Seen) → seen_behind width columns frame es seen ≡ Ok next
    → IsSeenOver columns width seen → IsSeenOver columns width next
seen_behind-over columns width frame [] seen next e over = subst (IsSeenOver columns width) (same_Ok seen next e) over
seen_behind-over columns width frame (event ∷ es) seen next e over =
    on_ok-ok (seen_behind width columns frame es) (seen_after width columns frame seen event) next e (λ more made rest.
    seen_behind-over columns width frame es more next rest (seen_after-next columns width frame seen more event made over).over)

-- ---- one event more

-- the inputs of an event and of those behind it are added
pub inputs_in-first : (e : StoredEvent) (es : List StoredEvent) → inputs_in (e ∷ es) ≡ inputs_in (e ∷ []) + inputs_in es
inputs_in-first (stored.Requires from r left right) es = omega arith
inputs_in-first (stored.Sets place v value) es = omega arith
inputs_in-first (stored.SetsAny v) es = omega arith

-- behind the first event the rest gives what all give
pub seen_behind-next : (columns width : ℕ) (frame : Frame) (events rest : List StoredEvent) (e : StoredEvent) (seen next : Seen) (whole : Result Seen ℕ)
    → events ≡ e ∷ rest → Ok next ≡ seen_after width columns frame seen e → seen_behind width columns frame events seen ≡ whole
    → seen_behind width columns frame rest next ≡ whole
seen_behind-next columns width frame events rest e seen next whole front made all =
    ap (on_ok (seen_behind width columns frame rest)) made ∙ sym (ap (λ l. seen_behind width columns frame l seen) front) ∙ all

-- where the first event does not fit, that is what all give
pub seen_behind-stop : (columns width : ℕ) (frame : Frame) (events rest : List StoredEvent) (e : StoredEvent) (seen : Seen) (from : ℕ) (whole : Result Seen ℕ)
    → events ≡ e ∷ rest → Err from ≡ seen_after width columns frame seen e → seen_behind width columns frame events seen ≡ whole
    → Err from ≡ whole
seen_behind-stop columns width frame events rest e seen from whole front made all =
    ap (on_ok (seen_behind width columns frame rest)) made ∙ sym (ap (λ l. seen_behind width columns frame l seen) front) ∙ all
