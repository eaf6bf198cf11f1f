-- What is chosen is open, and what is found of an instance.
use Rattle.std.proofs.Common.{◌≡◌, ℕ, zero, suc, ◌<◌, inl, inr, eq-eqb, Bool, true, false, not, List, [], ◌∷◌, length, get_or, Option, Some, None, refl, ap, sym, ◌∙◌, subst, arith}
use Rattle.std.proofs.lemmas.Bool.{and_from, and_parts, eqb-true, not-true, not_from_false}
use Rattle.std.proofs.lemmas.List.Elements.{Contains-get_or}
use Rattle.std.specs.List.{Contains, slice_get}
use Rattle.std.specs.Option.{MatchOption}
use Rattle.thr_base.specs.declared.names.FactId.{FactId}
use Rattle.thr_base.specs.declared.names.HomeNo.{HomeNo}
use Rattle.thr_base.specs.declared.names.ThreadNo.{ThreadNo}
use Rattle.thr_base.specs.declared.names.Instance.{Instance}
use Rattle.thr_base.specs.declared.names.Instance.TheVariants.{Init}
use Rattle.fact_table.specs.declared.live_fact.LiveFact.{LiveFact}
use Rattle.instance_cursors.specs.declared.choosing.Next.{Next}
use Rattle.instance_cursors.specs.declared.finding.Place.{Place}
use Rattle.instance_cursors.specs.declared.key.Head.{Head}
use Rattle.instance_cursors.specs.declared.start.Start.{Start}
use Rattle.instance_cursors.specs.declared.turns.Cursor.{Cursor}
use Rattle.instance_cursors.specs.declared.turns.Turn.{Turn}
use Rattle.instance_cursors.specs.Choice.{AllAreTaken, HasHead, IsOpenStart, NoneHasHead, is_open, is_wanted, leads_there}
use Rattle.instance_cursors.specs.Cursors.{AreHeads, AreKept, IsHeadOf}
use Rattle.instance_cursors.specs.Instances.{instance_of}
use Rattle.instance_cursors.specs.Layout.{thread_at}
use Rattle.instance_cursors.specs.Turns.{IsHead, IsPassed, is_early, same_turn, turn_at}
use Rattle.instance_cursors.specs.Waiting as specs
use Rattle.instance_cursors.specs.Waiting.{IsAhead, IsNext, IsOpen, IsTurn, NoneIsOpen, OpenLead, OpensTo, Waiting}
use Rattle.instance_cursors.specs.inside.Chosen.{HasNoStart, HasStart, IsAheadOf, IsHomeAhead, IsWanted, NoneIsWanted, early_at, is_head, next_start, next_turn}
use Rattle.instance_cursors.specs.inside.Found.{IsAt, IsNowhere}
use Rattle.instance_cursors.proofs.Follow.{get-read, get_within}
use Rattle.instance_cursors.proofs.SameTurns.{never_begins}
use Rattle.instance_cursors.proofs.Steps.{not_both}
use Rattle.instance_cursors.proofs.Taken.{Heads, Meet, has_step-of, has_turn-from, meet_once, not_early-of, turn_is}
use Rattle.instance_cursors.proofs.TakenEarly.{Comes, same_turn-true}

-- ---- starts

pub start_wanted : (w : Waiting) (only : Option ThreadNo) (place : ℕ) (d : Start) → IsOpenStart w.layout only w.starts place → IsWanted only w (next_start (get_or w.starts place d))
start_wanted w only place d is =
    let s : Start = get_or w.starts place d in
    let both = and_parts (not s.taken) (is_wanted only (thread_at w.layout s.home)) (is.1 d) in
    record { opens = specs.begins s (Contains-get_or w.starts place d is.0) (not-true s.taken both.0) refl refl; wanted = both.1 }

-- ---- heads

pub same_at : (cursors : List Cursor) (place : ℕ) (c d : Cursor) → slice_get cursors place ≡ Some c → get_or cursors place d ≡ c
same_at cursors place c d at =
    let both : Some (get_or cursors place d) ≡ Some c = sym (get-read cursors place d (get_within cursors place c at)) ∙ at in
    cc

pub head_within : (w : Waiting) (only : Option ThreadNo) (heads : List (Option Head)) (place : ℕ) (head : Head) → HasHead w.layout only w.cursors heads place head → place < length w.cursors
head_within w only heads place head is = get_within w.cursors place is.cursor is.cursor_at

pub head_wanted : (w : Waiting) (only : Option ThreadNo) (heads : List (Option Head)) (place : ℕ) (head : Head) (d : Cursor) → AreHeads w.layout w.early w.live w.cursors heads
    → HasHead w.layout only w.cursors heads place head → IsWanted only w (next_turn w.layout (get_or w.cursors place d) head.turn)
head_wanted w only heads place head d are is =
    let found : IsHead w.layout w.early is.cursor w.live head.turn = are.are place is.cursor (Some head) is.cursor_at is.head_at in
    let turn = turn_is found.fact head.turn.step head.turn found.id_is refl in
    let ids = ap (λ (x : FactId). x.0) found.id_is in
    let Passed : ℕ → Type 0 = λ n. IsPassed is.cursor.passed n head.turn.step in
    let ahead : IsAhead w.layout w.early w.live is.cursor (instance_of w.layout is.cursor.series head.turn) = record {
      fact = found.fact;
      step = head.turn.step;
      is_live = found.is_live;
      has_turn_there = found.has_turn_there;
      instance_is = ap (λ t. instance_of w.layout is.cursor.series t) turn;
      not_passed = λ passed. found.is_open (subst Passed ids passed);
    } in
    let Wanted : Cursor → Type 0 = λ c. IsWanted only w (next_turn w.layout c head.turn) in
    subst Wanted (sym (same_at w.cursors place is.cursor d is.cursor_at)) (record { opens = specs.continues place is.cursor is.cursor_at ahead refl; wanted = is.wanted })

some_at : {X : Type 0} (xs : List X) (k : ℕ) → k < length xs → (x : X) × (slice_get xs k ≡ Some x)
some_at [] k lt = absurd (omega arith)
some_at (x ∷ xs) zero lt = (x, refl)
some_at (x ∷ xs) (suc k) lt = some_at xs k (omega arith)

not_ahead : (w : Waiting) (only : Option ThreadNo) (heads : List (Option Head)) (place : ℕ) (c : Cursor) (head : Option Head) (instance : Instance) → NoneHasHead w.layout only w.cursors heads
    → slice_get w.cursors place ≡ Some c → slice_get heads place ≡ Some head → IsHeadOf w.layout w.early w.live c head → leads_there w.layout only c.series ≡ true
    → IsAhead w.layout w.early w.live c instance → ⊥
not_ahead w only heads place c None instance none c_at head_at is leads ahead = ahead.not_passed (is ahead.fact ahead.step ahead.is_live ahead.has_turn_there)
not_ahead w only heads place c (Some head) instance none c_at head_at is leads ahead = none place (get_within w.cursors place c c_at) c head c_at leads head_at

start_at : (w : Waiting) (only : Option ThreadNo) (s : Start) → AllAreTaken w.layout only w.starts → Contains w.starts s → s.taken ≡ false → is_wanted only (thread_at w.layout s.home) ≡ true → ⊥
start_at w only s all has not_taken wanted =
    let Open : Start → Bool = λ x. is_open w.layout only x in
    let closed = ap Open (sym has.2) ∙ all has.0 s has.1 in
    not_both (is_open w.layout only s) (and_from (not s.taken) (is_wanted only (thread_at w.layout s.home)) (not_from_false s.taken not_taken) wanted) closed

pub none_wanted : (w : Waiting) (only : Option ThreadNo) (heads : List (Option Head)) → AreHeads w.layout w.early w.live w.cursors heads → AllAreTaken w.layout only w.starts
    → NoneHasHead w.layout only w.cursors heads → NoneIsWanted only w
none_wanted w only heads are all none instance home (specs.begins s has not_taken s_is home_is) wanted =
    start_at w only s all has not_taken (ap (λ h. is_wanted only (thread_at w.layout h)) home_is ∙ wanted)
none_wanted w only heads are all none instance home (specs.continues place c at ahead home_is) wanted =
    let count = are.count in
    let lt = get_within w.cursors place c at in
    let head = some_at heads place (omega (arith, lt, count)) in
    not_ahead w only heads place c head.0 instance none at head.1 (are.are place c head.0 at head.1) (ap (λ h. is_wanted only (thread_at w.layout h)) home_is ∙ wanted) ahead

-- ---- the choice

pub next_from : (w : Waiting) (thread : ThreadNo) (next : Next) → IsWanted (Some thread) w next → IsNext w thread next
next_from w thread next is = record { opens = is.opens; prefers = inl (eqb-true (thread_at w.layout next.home).0 thread.0 is.wanted) }

pub next_else : (w : Waiting) (thread : ThreadNo) (o : Option Next) → NoneIsWanted (Some thread) w → MatchOption o (NoneIsWanted None w) (IsWanted None w) → MatchOption o (NoneIsOpen w) (IsNext w thread)
next_else w thread None none is = λ instance home opens. is instance home opens refl
next_else w thread (Some next) none is = record {
  opens = is.opens;
  prefers = inr (λ instance home opens same. none instance home opens (eq-eqb (thread_at w.layout home).0 thread.0 same));
}

-- ---- the home of an instance

pub nowhere_open : (w : Waiting) (instance : Instance) → IsNowhere w.layout w.live w.cursors instance → ((thread : ThreadNo) → Init thread ≡ instance → ⊥) → IsOpen w instance → ⊥
nowhere_open w instance none no_start is = closed is.0 is.1 where
  closed : (home : HomeNo) → OpensTo w instance home → ⊥
  closed home (specs.begins s has not_taken s_is home_is) = no_start s.thread s_is
  closed home (specs.continues place c at ahead home_is) =
      let turn : IsTurn w.layout w.live c.series instance = record {
        fact = ahead.fact;
        step = ahead.step;
        is_live = ahead.is_live;
        has_step_there = has_step-of w.layout w.early c.series ahead.fact ahead.step ahead.has_turn_there;
        instance_is = ahead.instance_is;
      } in
      none place c at turn

pub start_home : (w : Waiting) (thread : ThreadNo) (o : Option HomeNo) → MatchOption o (HasNoStart w.starts thread) (HasStart w.starts thread)
    → MatchOption o (IsOpen w (Init thread) → ⊥) (OpensTo w (Init thread))
start_home w thread None none = λ is. closed is.0 is.1 where
  closed : (home : HomeNo) → OpensTo w (Init thread) home → ⊥
  closed home (specs.begins s has not_taken s_is home_is) = none s has not_taken s_is
  closed home (specs.continues place c at ahead home_is) = never_begins w.layout c.series (turn_at ahead.fact ahead.step) thread (sym ahead.instance_is)
start_home w thread (Some home) is = specs.begins is.start is.is_there is.not_taken is.thread_is is.home_is

at_ahead : (w : Waiting) (instance : Instance) (at : Place) → (is : IsAt w.layout w.live w.cursors instance at) → IsAheadOf w.early is.cursor at.turn → IsAhead w.layout w.early w.live is.cursor instance
at_ahead w instance at is ahead =
    let early : is_early w.early is.cursor.series (turn_at is.fact at.turn.step) ≡ false = ap (λ t. is_early w.early is.cursor.series t) (sym is.turn_is) ∙ ahead.1 in
    let ids = ap (λ (t : Turn). t.id.0) is.turn_is in
    let Passed : ℕ → Type 0 = λ n. IsPassed is.cursor.passed n at.turn.step in
    record {
      fact = is.fact;
      step = at.turn.step;
      is_live = is.is_live;
      has_turn_there = has_turn-from w.layout w.early is.cursor.series is.fact at.turn.step is.is_step.0 early;
      instance_is = is.is_step.1;
      not_passed = λ passed. ahead.0 (subst Passed (sym ids) passed);
    }

-- the turn ahead of a cursor is the one that was found
ahead_at : (w : Waiting) (instance : Instance) (at : Place) → AreKept w → (is : IsAt w.layout w.live w.cursors instance at) → (n : ℕ) (c : Cursor) → slice_get w.cursors n ≡ Some c
    → IsAhead w.layout w.early w.live c instance → IsAheadOf w.early is.cursor at.turn
ahead_at w instance at kept is n c c_at ahead =
    let meet : Meet w n at.place c is.cursor ahead.fact is.fact ahead.step at.turn.step = record {
      kept = kept;
      c_at = c_at;
      d_at = is.cursor_at;
      f_live = ahead.is_live;
      g_live = is.is_live;
      f_has = has_step-of w.layout w.early c.series ahead.fact ahead.step ahead.has_turn_there;
      g_has = is.is_step.0;
      same = ahead.instance_is ∙ sym is.is_step.1;
    } in
    let once = meet_once w n at.place c is.cursor ahead.fact is.fact ahead.step at.turn.step meet in
    let cursors : Some c ≡ Some is.cursor = sym c_at ∙ (ap (λ k. slice_get w.cursors k) once.0 ∙ is.cursor_at) in
    let cursor : c ≡ is.cursor = cc in
    let turn : turn_at ahead.fact ahead.step ≡ at.turn = turn_is ahead.fact ahead.step at.turn (ap (λ (x : LiveFact). x.id) once.2 ∙ ap (λ (t : Turn). t.id) (sym is.turn_is)) once.3 in
    let Ahead : Cursor → Turn → Type 0 = λ x t. IsAheadOf w.early x t in
    let By_cursor : Cursor → Type 0 = λ x. Ahead x (turn_at ahead.fact ahead.step) in
    let By_turn : Turn → Type 0 = λ t. Ahead is.cursor t in
    subst By_turn turn (subst By_cursor cursor (ahead.not_passed, not_early-of w.layout w.early c.series ahead.fact ahead.step ahead.has_turn_there))

pub turn_home : (w : Waiting) (instance : Instance) (at : Place) (o : Option HomeNo) → AreKept w → (is : IsAt w.layout w.live w.cursors instance at)
    → ((thread : ThreadNo) → Init thread ≡ instance → ⊥) → ((d : Cursor) → IsHomeAhead w.layout w.early (get_or w.cursors at.place d) at.turn o) → MatchOption o (IsOpen w instance → ⊥) (OpensTo w instance)
turn_home w instance at None kept is no_start says = λ open_there. closed open_there.0 open_there.1 where
  closed : (home : HomeNo) → OpensTo w instance home → ⊥
  closed home (specs.begins s has not_taken s_is home_is) = no_start s.thread s_is
  closed home (specs.continues n c c_at ahead home_is) =
      let Not : Cursor → Type 0 = λ x. IsAheadOf w.early x at.turn → ⊥ in
      let never = subst Not (same_at w.cursors at.place is.cursor is.cursor is.cursor_at) (says is.cursor) in
      never (ahead_at w instance at kept is n c c_at ahead)
turn_home w instance at (Some home) kept is no_start says =
    let Home_at : Cursor → Type 0 = λ x. IsHomeAhead w.layout w.early x at.turn (Some home) in
    let here = subst Home_at (same_at w.cursors at.place is.cursor is.cursor is.cursor_at) (says is.cursor) in
    specs.continues at.place is.cursor is.cursor_at (at_ahead w instance at is here.0) here.1

-- ---- the turn is the head of its cursor, or is not

head_case : (w : Waiting) (c : Cursor) (turn : Turn) (head : Option Head) → IsHeadOf w.layout w.early w.live c head → is_head head turn ≡ true → IsHead w.layout w.early c w.live turn
head_case w c turn None is same = cc
head_case w c turn (Some head) is same =
    let Of : Turn → Type 0 = λ t. IsHead w.layout w.early c w.live t in
    subst Of (sym (same_turn-true turn head.turn same)) is

pub at_head : (w : Waiting) (heads : List (Option Head)) (instance : Instance) (at : Place) (b : Bool) → AreKept w → AreHeads w.layout w.early w.live w.cursors heads
    → (is : IsAt w.layout w.live w.cursors instance at) → ((d : Option Head) → b ≡ is_head (get_or heads at.place d) at.turn) → b ≡ true → Heads w at.place is.cursor at.turn instance
at_head w heads instance at b kept are is says yes_is =
    let count = are.count in
    let lt = get_within w.cursors at.place is.cursor is.cursor_at in
    let head = some_at heads at.place (omega (arith, lt, count)) in
    let both : Some (get_or heads at.place head.0) ≡ Some head.0 = sym (get-read heads at.place head.0 (omega (arith, lt, count))) ∙ head.1 in
    let same : get_or heads at.place head.0 ≡ head.0 = cc in
    let here : is_head head.0 at.turn ≡ true = ap (λ h. is_head h at.turn) (sym same) ∙ (sym (says head.0) ∙ yes_is) in
    record {
      kept = kept;
      cursor_at = is.cursor_at;
      head = head_case w is.cursor at.turn head.0 (are.are at.place is.cursor head.0 is.cursor_at head.1) here;
      instance_is = ap (λ t. instance_of w.layout is.cursor.series t) is.turn_is ∙ is.is_step.1;
    }

pub at_elsewhere : (heads : List (Option Head)) (at : Place) (b : Bool) → ((d : Option Head) → b ≡ is_head (get_or heads at.place d) at.turn) → b ≡ false → (head : Head)
    → slice_get heads at.place ≡ Some (Some head) → same_turn at.turn head.turn ≡ false
at_elsewhere heads at b says no_is head head_at =
    let both : Some (get_or heads at.place None) ≡ Some (Some head) = sym (get-read heads at.place None (get_within heads at.place (Some head) head_at)) ∙ head_at in
    let same : get_or heads at.place None ≡ Some head = cc in
    ap (λ h. is_head h at.turn) (sym same) ∙ (sym (says None) ∙ no_is)

pub at_comes : (w : Waiting) (instance : Instance) (at : Place) → AreKept w → (is : IsAt w.layout w.live w.cursors instance at)
    → Comes w at.place is.cursor (early_at is.cursor at.turn) is.fact at.turn.step instance
at_comes w instance at kept is = record {
  kept = kept;
  cursor_at = is.cursor_at;
  series_is = refl;
  turn_there = is.turn_is;
  f_live = is.is_live;
  f_has = is.is_step.0;
  instance_is = is.is_step.1;
}

-- ---- what is open leads

pub kept_leads : (w : Waiting) → AreKept w → OpenLead w
kept_leads w kept instance home (specs.begins s has not_taken s_is home_is) = specs.begins s has s_is home_is
kept_leads w kept instance home (specs.continues place c at ahead home_is) =
    let turn : IsTurn w.layout w.live c.series instance = record {
      fact = ahead.fact;
      step = ahead.step;
      is_live = ahead.is_live;
      has_step_there = has_step-of w.layout w.early c.series ahead.fact ahead.step ahead.has_turn_there;
      instance_is = ahead.instance_is;
    } in
    specs.continues c.series (kept.sound place c at) turn home_is
