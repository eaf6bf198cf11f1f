-- How the parts of a core follow an event.
use Rattle.std.proofs.Common.{◌≡◌, ◌≢◌, ◌<◌, ◌≤◌, ◌+◌, ◌-◌, ℕ, zero, suc, List, [], ◌∷◌, ◌++◌, map, length, Option, Some, None, refl, sym, ap, ◌∙◌, inl, inr, arith}
use Rattle.std.specs.Prelude.{option_map, reverse, slice_set, slice_get, IsSome}
use Rattle.std.proofs.lemmas.List.{map-append, reverse-append, length-set}
use Rattle.thr_base.specs.declared.names.FactId.{FactId}
use Rattle.transition_formula.specs.Program.{Program, at_number}
use Rattle.horn_rules.specs.Home.{homes}
use Rattle.core_steps.specs.declared.held.Held.{Held}
use Rattle.core_steps.specs.declared.event.Event.{Event as StoredEvent}
use Rattle.core_steps.specs.State.{State, held_by, claimed_by}
use Rattle.core_steps.specs.Stored.{event_of, history_of}
use Rattle.core_steps.specs.inside.Parts.{AreHolds, AreClaims, IsStopAt, task_of}
use Rattle.core_steps.proofs.Workers.{is-or-not}

-- one more event is the newest
pub history-more : (program : Program) (journal : List StoredEvent) (event : StoredEvent) → history_of program (journal ++ event ∷ []) ≡ event_of program event ∷ history_of program journal
history-more program journal event = ap reverse (map-append (event_of program) journal (event ∷ [])) ∙ reverse-append (map (event_of program) journal) (event_of program event ∷ [])

-- ---- places

pub slice_get-set : {A : Type 0} (xs : List A) (k : ℕ) (x : A) → k < length xs → slice_get (slice_set xs k x) k ≡ Some x
slice_get-set [] k x lt = absurd (omega arith)
slice_get-set (y ∷ ys) zero x lt = refl
slice_get-set (y ∷ ys) (suc k) x lt = slice_get-set ys k x (omega arith)

pub slice_get-set_other : {A : Type 0} (xs : List A) (k j : ℕ) (x : A) → j ≢ k → slice_get (slice_set xs k x) j ≡ slice_get xs j
slice_get-set_other [] k j x other = refl
slice_get-set_other (y ∷ ys) zero zero x other = absurd (other refl)
slice_get-set_other (y ∷ ys) zero (suc j) x other = refl
slice_get-set_other (y ∷ ys) (suc k) zero x other = refl
slice_get-set_other (y ∷ ys) (suc k) (suc j) x other = slice_get-set_other ys k j x (λ e. other (ap (λ n. suc n) e))

pub slice_get-front : {A : Type 0} (xs ys : List A) (k : ℕ) (x : A) → slice_get xs k ≡ Some x → slice_get (xs ++ ys) k ≡ Some x
slice_get-front [] ys k x e = absurd cc
slice_get-front (z ∷ zs) ys zero x e = e
slice_get-front (z ∷ zs) ys (suc k) x e = slice_get-front zs ys k x e

pub slice_get-end : {A : Type 0} (xs : List A) (x : A) → slice_get (xs ++ x ∷ []) (length xs) ≡ Some x
slice_get-end [] x = refl
slice_get-end (y ∷ ys) x = slice_get-end ys x

-- ---- workers

pub holds-set : (program : Program) (workers : ℕ) (state later : State) (holds : List (Option Held)) (w : ℕ) (held : Option Held) → AreHolds program workers state holds
    → 1 ≤ w → w ≤ workers → held_by later.holds w ≡ option_map (task_of program) held → ((v : ℕ) → v ≢ w → held_by later.holds v ≡ held_by state.holds v)
    → ((h : Held) → held ≡ Some h → IsSome (at_number (homes program) h.home.0)) → AreHolds program workers later (slice_set holds (w - 1) held)
holds-set program workers state later holds w held are from within own others home = record {
  one_each = length-set holds (w - 1) held ∙ are.one_each;
  each = λ place other is. elim (is-or-not place (w - 1)) [
    | inl same ↦
        let at = slice_get-set holds (w - 1) held (let all = are.one_each in omega (arith, all, from, within)) in
        let both : Some held ≡ Some other = sym at ∙ ap (slice_get (slice_set holds (w - 1) held)) (sym same) ∙ is in
        let equal : held ≡ other = cc in
        let number : place + 1 ≡ w = omega (arith, same, from) in
        ap (held_by later.holds) number ∙ own ∙ ap (option_map (task_of program)) equal
    | inr apart ↦
        let at = slice_get-set_other holds (w - 1) place held apart in
        others (place + 1) (differs place apart) ∙ are.each place other (sym at ∙ is)
  ];
  homes_are = λ place h is. elim (is-or-not place (w - 1)) [
    | inl same ↦
        let at = slice_get-set holds (w - 1) held (let all = are.one_each in omega (arith, all, from, within)) in
        let both : Some held ≡ Some (Some h) = sym at ∙ ap (slice_get (slice_set holds (w - 1) held)) (sym same) ∙ is in
        let equal : held ≡ Some h = cc in
        home h equal
    | inr apart ↦ are.homes_are place h (sym (slice_get-set_other holds (w - 1) place held apart) ∙ is)
  ];
}
  where
    differs : (place : ℕ) → place ≢ w - 1 → place + 1 ≢ w
    differs place apart same = apart (omega (arith, same))

pub claims-set : (workers : ℕ) (state later : State) (claims : List (Option FactId)) (w : ℕ) (root : Option FactId) → AreClaims workers state claims
    → 1 ≤ w → w ≤ workers → claimed_by later.claims w ≡ option_map (λ id. FactId.0 id) root → ((v : ℕ) → v ≢ w → claimed_by later.claims v ≡ claimed_by state.claims v)
    → AreClaims workers later (slice_set claims (w - 1) root)
claims-set workers state later claims w root are from within own others = record {
  one_each = length-set claims (w - 1) root ∙ are.one_each;
  each = λ place other is. elim (is-or-not place (w - 1)) [
    | inl same ↦
        let at = slice_get-set claims (w - 1) root (let all = are.one_each in omega (arith, all, from, within)) in
        let both : Some root ≡ Some other = sym at ∙ ap (slice_get (slice_set claims (w - 1) root)) (sym same) ∙ is in
        let equal : root ≡ other = cc in
        let number : place + 1 ≡ w = omega (arith, same, from) in
        ap (claimed_by later.claims) number ∙ own ∙ ap (option_map (λ id. FactId.0 id)) equal
    | inr apart ↦
        let at = slice_get-set_other claims (w - 1) place root apart in
        others (place + 1) (differs place apart) ∙ are.each place other (sym at ∙ is)
  ];
}
  where
    differs : (place : ℕ) → place ≢ w - 1 → place + 1 ≢ w
    differs place apart same = apart (omega (arith, same))

-- ---- the stop

-- it stands where it stood
pub stop-still : (state later : State) (journal : List StoredEvent) (event : StoredEvent) (place : Option ℕ) → later.stop ≡ state.stop → IsStopAt state journal place
    → IsStopAt later (journal ++ event ∷ []) place
stop-still state later journal event None same at = same ∙ at
stop-still state later journal event (Some place) same (w, reason, there, is) = (w, reason, slice_get-front journal (event ∷ []) place _ there, same ∙ is)
