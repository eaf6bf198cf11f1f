-- What an edge does is what its events say.
use Rattle.std.proofs.Common.{◌≡◌, ◌↔◌, ℕ, zero, suc, ◌+◌, ◌-◌, ◌≤◌, ℤ, pos, List, [], ◌∷◌, ◌++◌, map, length, set, replicate, Some, Ok, false, refl, sym, subst, ap, ◌∙◌, arith}
use Rattle.std.specs.List.{list_any, slice_get, range_with_len}
use Rattle.std.proofs.lemmas.List.{append_cancel_right, length-append, length-map, length-replicate, map-set, set-append_right}
use Rattle.std.specs.Option.{option_map}
use Rattle.std.proofs.lemmas.Option.{slice_get-map}
use Rattle.transition_formula.specs.Program.{Edge, Thread, at_number}
use Rattle.transition_formula.specs.Step.{Steps, after_step}
use Rattle.transition_formula.specs.Forms.{column_form}
use Rattle.thread_cfg.specs.Source.{Frame}
use Rattle.thread_cfg.specs.Happen.{Happen}
use Rattle.thread_cfg.specs.Action.{Alternative}
use Rattle.thread_cfg.specs.Edge.{Along, at_first, edge_along, inputs_of, is_never}
use Rattle.thread_cfg.specs.SameSteps.{state_of}
use Rattle.thread_cfg.specs.EdgeLaws.{EdgesHappen, NeverEdgesDoNotHappen}
use Rattle.thread_cfg.specs.Within.{EventsWithin}
use Rattle.thread_cfg.proofs.AlongEvents.{Agree, after_events-agree, finally, worths}
use Rattle.thread_cfg.proofs.Events.{after_events-changes, finally-length, first-worth}
use Rattle.thread_cfg.proofs.Edges.{all_along, edge-made, edge-not_made, sets-assigned, some_never-meets, tests-meet, width_of}

-- ---- from the state before
-- the columns are worth the state before
first-is : (columns : ℕ) (a : Alternative) (before inputs : List ℤ) → length before ≡ columns
    → worths (before ++ inputs) (at_first (width_of columns a) columns).forms ≡ before
first-is columns a before inputs e =
    subst (λ (c : ℕ). worths (before ++ inputs) (map (column_form (width_of columns a)) (range_with_len 0 c)) ≡ before) e
    (first-worth (width_of columns a) 0 (before ++ inputs) [] before inputs refl refl (omega arith))

-- events agree with what is known behind them, from the state before
agree-at_first : (n columns : ℕ) (frame : Frame) (a : Alternative) (last : Along) (values rest inputs : List ℤ) → EventsWithin n frame a.events
    → length values ≡ n → columns ≡ n + length rest → all_along columns frame a ≡ Ok last
    → Agree frame ((values ++ rest) ++ inputs) rest (at_first (width_of columns a) columns) last values a.events inputs
agree-at_first n columns frame a last values rest inputs within one_each all given =
    let long : length (values ++ rest) ≡ columns = omega (arith, length-append values rest) in
    after_events-agree (width_of columns a) columns n frame ((values ++ rest) ++ inputs) rest (values ++ rest) (at_first (width_of columns a) columns) last values a.events inputs
    within (record { worth = first-is columns a (values ++ rest) inputs long; one_each = one_each; all = all })
    refl (omega (arith, long)) (omega arith) given

-- ---- counters
-- an element behind the front
slice_get-append_right : {A : Type 0} (xs ys : List A) (j : ℕ) → slice_get (xs ++ ys) (length xs + j) ≡ slice_get ys j
slice_get-append_right [] ys j = ap (slice_get ys) (omega arith)
slice_get-append_right (x ∷ xs) ys j =
    let next : suc (length xs) + j ≡ suc (length xs + j) = omega arith in
    ap (slice_get (x ∷ (xs ++ ys))) next ∙ slice_get-append_right xs ys j

-- the location at a place, as a number of the state
slice_get-pos : (locations : List ℕ) (j l : ℕ) → slice_get locations j ≡ Some l → slice_get (map pos locations) j ≡ Some (pos l)
slice_get-pos locations j l e = slice_get-map pos locations j ∙ ap (option_map pos) e

-- the location of thread i is at the place before its number
slice_get-numbered : (locations : List ℕ) (i l : ℕ) → 1 ≤ i → at_number locations i ≡ Some l → slice_get locations (i - 1) ≡ Some l
slice_get-numbered locations zero l h e = absurd (omega arith)
slice_get-numbered locations (suc j) l h e = let back : suc j - 1 ≡ j = omega arith in ap (slice_get locations) back ∙ e

-- the counters with one of them set
counter-set : (values : List ℤ) (locations : List ℕ) (c n j to : ℕ) → length values ≡ n → c ≡ n + j
    → set (values ++ map pos locations) c (pos to) ≡ values ++ map pos (set locations j to)
counter-set values locations c n j to one_each at =
    set-append_right values (map pos locations) n c (pos to) one_each (omega arith)
    ∙ ap (λ p. values ++ set (map pos locations) p (pos to)) (omega arith)
    ∙ ap (λ l. values ++ l) (sym (map-set pos locations j to))

-- the counter is at the thread's location
at-counter : (values : List ℤ) (locations : List ℕ) (n j at c : ℕ) → length values ≡ n → c ≡ n + j → slice_get locations j ≡ Some at
    → slice_get (state_of values locations) c ≡ Some (pos at)
at-counter values locations n j at c one_each counter stands =
    let place : c ≡ length values + j = omega arith in
    ap (λ p. slice_get (state_of values locations) p) place ∙ slice_get-append_right values (map pos locations) j ∙ slice_get-pos locations j at stands

-- ---- edges
-- the state after a step by the edge, where there are as many inputs as are taken
after-is : (n columns : ℕ) (frame : Frame) (at : ℕ) (a : Alternative) (last : Along) (thread : Thread) (values : List ℤ) (locations : List ℕ) (inputs : List ℤ) (j : ℕ)
    → EventsWithin n frame a.events → length values ≡ n → columns ≡ n + length locations → all_along columns frame a ≡ Ok last
    → thread.counter ≡ n + j → length inputs ≡ inputs_of a.events
    → after_step thread (edge_along (width_of columns a) columns frame at a last) (state_of values locations) inputs
    ≡ finally frame values a.events inputs ++ map pos (set locations j a.to)
after-is n columns frame at a last thread values locations inputs j within one_each all given counter taken =
    let rest = map pos locations in
    let before = state_of values locations in
    let width : ℕ = width_of columns a in
    let same : length rest ≡ length locations = length-map locations pos in
    let long : length before ≡ columns = omega (arith, length-append values rest) in
    let agree = agree-at_first n columns frame a last values rest inputs within one_each (omega arith) given in
    ap (λ state. set state thread.counter (pos a.to))
    (sets-assigned columns frame a.events width last (before ++ inputs) before (after_events-changes width columns frame (at_first width columns) last a.events given) long
    (first-is columns a before inputs long)
    ∙ agree.ends taken)
    ∙ counter-set (finally frame values a.events inputs) locations thread.counter n j a.to (finally-length frame values a.events inputs ∙ one_each) counter

-- the edge does what its events say
edge_along-happen : (n columns at : ℕ) (frame : Frame) (a : Alternative) (last : Along) (thread : Thread) (values after : List ℤ) (locations : List ℕ) (inputs : List ℤ) (j : ℕ)
    → EventsWithin n frame a.events → length values ≡ n → columns ≡ n + length locations → all_along columns frame a ≡ Ok last → list_any is_never last.rows ≡ false
    → thread.counter ≡ n + j → slice_get locations j ≡ Some at
    → Steps thread (edge_along (width_of columns a) columns frame at a last) (state_of values locations) inputs (state_of after (set locations j a.to))
    ↔ Happen frame values a.events inputs after
edge_along-happen n columns at frame a last thread values after locations inputs j within one_each all given never counter stands =
    let rest = map pos locations in
    let same : length rest ≡ length locations = length-map locations pos in
    let agree = agree-at_first n columns frame a last values rest inputs within one_each (omega arith) given in
    let changes = after_events-changes (width_of columns a) columns frame (at_first (width_of columns a) columns) last a.events given in
    let z = state_of values locations ++ inputs in
    let edge = edge_along (width_of columns a) columns frame at a last in
    let met = tests-meet last.rows z never in
    let ends = after-is n columns frame at a last thread values locations inputs j within one_each all given counter in (
      λ steps.
          let taken : length inputs ≡ inputs_of a.events = omega (arith, steps.one_each, changes.inputs) in
          let there = append_cancel_right after (finally frame values a.events inputs) (map pos (set locations j a.to)) (steps.leads ∙ ends taken) in
          ((agree.says after).1 (met.0 steps.tests_hold, taken, there)).1,
      λ happen.
          let said = (agree.says after).0 (tt, happen) in
          record {
            at_source = at-counter values locations n j at thread.counter one_each counter stands;
            one_each = omega (arith, said.1, changes.inputs);
            tests_hold = met.1 said.0;
            leads = ap (λ w. state_of w (set locations j a.to)) said.2 ∙ sym (ends said.1);
          },
    )

-- An edge does what its events say.
pub edges-happen : EdgesHappen
edges-happen n k i at frame a edge thread values after locations inputs within e counter low high one_each all stands =
    edge-made (n + k) frame at a edge e (λ last given never made.
    subst (λ (x : Edge). Steps thread x (state_of values locations) inputs (state_of after (set locations (i - 1) a.to)) ↔ Happen frame values a.events inputs after) made
    (edge_along-happen n (n + k) at frame a last thread values after locations inputs (i - 1) within one_each (omega arith) given never counter (slice_get-numbered locations i at low stands)))

-- Where no edge is made, the events do not happen.
pub never-happen : NeverEdgesDoNotHappen
never-happen n k at frame a values after inputs within e one_each happen =
    edge-not_made (n + k) frame at a e (λ last given never.
    let rest = replicate k (pos 0) in
    let agree = agree-at_first n (n + k) frame a last values rest inputs within one_each (omega (arith, length-replicate k (pos 0))) given in
    some_never-meets last.rows ((values ++ rest) ++ inputs) never ((agree.says after).0 (tt, happen)).0)
