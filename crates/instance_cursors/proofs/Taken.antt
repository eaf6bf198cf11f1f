-- What is open where an instance is taken.
use Rattle.std.proofs.Common.{◌≡◌, ◌≢◌, ℕ, ◌≤◌, ◌⊎◌, inl, inr, true, false, not, List, Some, refl, ap, sym, ◌∙◌, subst, arith}
use Rattle.std.proofs.lemmas.Bool.{and_from, and_parts, cases_eq, cases_lt, not-true, not_from_false}
use Rattle.std.specs.List.{Contains, slice_get}
use Rattle.thr_base.specs.declared.names.FactId.{FactId}
use Rattle.thr_base.specs.declared.names.HomeNo.{HomeNo}
use Rattle.thr_base.specs.declared.names.Instance.{Instance}
use Rattle.fact_table.specs.declared.live_fact.LiveFact.{LiveFact}
use Rattle.instance_cursors.specs.declared.early.Early.{Early}
use Rattle.instance_cursors.specs.declared.turns.Cursor.{Cursor}
use Rattle.instance_cursors.specs.declared.turns.Series.{Series}
use Rattle.instance_cursors.specs.declared.turns.Turn.{Turn}
use Rattle.instance_cursors.specs.Cursors.{AreKept, passed_at}
use Rattle.instance_cursors.specs.Instances.{instance_of}
use Rattle.instance_cursors.specs.Layout.{has_step, target_of}
use Rattle.instance_cursors.specs.Turns.{IsHead, IsPassed, has_turn, is_early, turn_at}
use Rattle.instance_cursors.specs.Waiting.{Closes, IsAhead, IsSeries, OpensTo, begins, continues, Waiting}
use Rattle.instance_cursors.specs.Ways.{Layout}
use Rattle.instance_cursors.proofs.Members.{distinct_at, distinct_same, passed_at-cases, passed_at-other, passed_at-same, series-passed_at}
use Rattle.instance_cursors.proofs.SameTurns.{TwoTurns, never_begins, turns_alike}

-- ---- turns

pub turn_is : (f : LiveFact) (step : ℕ) (turn : Turn) → f.id ≡ turn.id → step ≡ turn.step → turn_at f step ≡ turn
turn_is f step turn ids steps =
    let made : FactId → ℕ → Turn = λ i n. record { id = i; step = n } in
    ap (λ i. made i step) ids ∙ ap (λ n. made turn.id n) steps

pub has_step-of : (layout : Layout) (early : List Early) (series : Series) (f : LiveFact) (step : ℕ) → has_turn layout early series f step ≡ true → has_step layout series f.fact.home.0 step ≡ true
has_step-of layout early series f step has = (and_parts (has_step layout series f.fact.home.0 step) (not (is_early early series (turn_at f step))) has).0

pub not_early-of : (layout : Layout) (early : List Early) (series : Series) (f : LiveFact) (step : ℕ) → has_turn layout early series f step ≡ true → is_early early series (turn_at f step) ≡ false
not_early-of layout early series f step has =
    not-true (is_early early series (turn_at f step)) ((and_parts (has_step layout series f.fact.home.0 step) (not (is_early early series (turn_at f step))) has).1)

pub has_turn-from : (layout : Layout) (early : List Early) (series : Series) (f : LiveFact) (step : ℕ) → has_step layout series f.fact.home.0 step ≡ true → is_early early series (turn_at f step) ≡ false
    → has_turn layout early series f step ≡ true
has_turn-from layout early series f step has none =
    and_from (has_step layout series f.fact.home.0 step) (not (is_early early series (turn_at f step))) has (not_from_false (is_early early series (turn_at f step)) none)

-- ---- what is passed

open_is_behind : (passed turn : Turn) (id step : ℕ) → (IsPassed passed turn.id.0 turn.step → ⊥) → IsPassed passed id step → IsPassed turn id step
open_is_behind passed turn id step not_passed is =
    elim (cases_lt turn.id.0 passed.id.0) [
      | inl less ↦ absurd (not_passed (inl less))
      | inr not_less ↦ elim (cases_lt passed.id.0 turn.id.0) [
        | inl more ↦ elim is [ inl lower ↦ inl (omega (arith, lower, more)) | inr equal ↦ inl (omega (arith, equal.0, more)) ]
        | inr not_more ↦ elim is [
          | inl lower ↦ inl (omega (arith, lower, not_less))
          | inr equal ↦ elim (cases_lt turn.step step) [
            | inl later ↦ absurd (not_passed (inr (omega (arith, not_less, not_more), omega (arith, later, equal.1))))
            | inr not_later ↦ inr (omega (arith, equal.0, not_less, not_more), not_later)
          ]
        ]
      ]
    ]

id_same : (one other : FactId) → one.0 ≡ other.0 → one ≡ other
id_same one other e = let made : ℕ → FactId = λ n. record { 0 = n } in ap made e

-- where a cursor passes its head, a turn that is passed was passed, or is the head
moved : (layout : Layout) (early : List Early) (cursor : Cursor) (live : List LiveFact) (turn : Turn) → IsHead layout early cursor live turn → (f : LiveFact) (step : ℕ) → Contains live f
    → has_turn layout early cursor.series f step ≡ true → IsPassed turn f.id.0 step → IsPassed cursor.passed f.id.0 step ⊎ (turn_at f step ≡ turn)
moved layout early cursor live turn is f step there has passed =
    elim passed [
      | inl lower ↦ inl (is.earlier f step there has (inl lower))
      | inr equal ↦ elim (cases_lt step turn.step) [
        | inl before ↦ inl (is.earlier f step there has (inr (equal.0, before)))
        | inr not_before ↦ inr (turn_is f step turn (id_same f.id turn.id equal.0) (omega (arith, equal.1, not_before)))
      ]
    ]

-- ---- two turns that are one instance

-- An instance that is ahead of a cursor, and one that a cursor has in its series.
pub record Meet (w : Waiting) (n m : ℕ) (c d : Cursor) (f g : LiveFact) (step other : ℕ) : Type 0 where
  pub kept : AreKept w
  pub c_at : slice_get w.cursors n ≡ Some c
  pub d_at : slice_get w.cursors m ≡ Some d
  pub f_live : Contains w.live f
  pub g_live : Contains w.live g
  pub f_has : has_step w.layout c.series f.fact.home.0 step ≡ true
  pub g_has : has_step w.layout d.series g.fact.home.0 other ≡ true
  pub same : instance_of w.layout c.series (turn_at f step) ≡ instance_of w.layout d.series (turn_at g other)

pub meet_once : (w : Waiting) (n m : ℕ) (c d : Cursor) (f g : LiveFact) (step other : ℕ) → Meet w n m c d f g step other → (n ≡ m) × (c.series ≡ d.series) × (f ≡ g) × (step ≡ other)
meet_once w n m c d f g step other is =
    let two : TwoTurns w.layout w.live c.series d.series f g step other = record {
      apart = is.kept.apart;
      rise = is.kept.ids_rise;
      one_is = is.kept.sound n c is.c_at;
      two_is = is.kept.sound m d is.d_at;
      f_live = is.f_live;
      g_live = is.g_live;
      f_has = is.f_has;
      g_has = is.g_has;
      same = is.same;
    } in
    let alike = turns_alike w.layout w.live c.series d.series f g step other two in
    (distinct_at w.cursors n m c d is.kept.distinct is.c_at is.d_at alike.0, alike.0, alike.1, alike.2)

-- ---- the head is taken

abbrev pub passing : Waiting → ℕ → Turn → Waiting
passing w place turn = record w { cursors = passed_at w.cursors place turn }

pub record Heads (w : Waiting) (place : ℕ) (cursor : Cursor) (turn : Turn) (instance : Instance) : Type 0 where
  pub kept : AreKept w
  pub cursor_at : slice_get w.cursors place ≡ Some cursor
  pub head : IsHead w.layout w.early cursor w.live turn
  pub instance_is : instance_of w.layout cursor.series turn ≡ instance

head_instance : (w : Waiting) (place : ℕ) (cursor : Cursor) (turn : Turn) (instance : Instance) (is : Heads w place cursor turn instance)
    → instance_of w.layout cursor.series (turn_at is.head.fact turn.step) ≡ instance
head_instance w place cursor turn instance is = ap (λ t. instance_of w.layout cursor.series t) (turn_is is.head.fact turn.step turn is.head.id_is refl) ∙ is.instance_is

head_meets : (w : Waiting) (place : ℕ) (cursor : Cursor) (turn : Turn) (instance : Instance) → (is : Heads w place cursor turn instance) → (n : ℕ) (c : Cursor) (f : LiveFact) (step : ℕ)
    → slice_get w.cursors n ≡ Some c → Contains w.live f → has_turn w.layout w.early c.series f step ≡ true → instance_of w.layout c.series (turn_at f step) ≡ instance
    → Meet w n place c cursor f is.head.fact step turn.step
head_meets w place cursor turn instance is n c f step c_at f_live has same = record {
  kept = is.kept;
  c_at = c_at;
  d_at = is.cursor_at;
  f_live = f_live;
  g_live = is.head.is_live;
  f_has = has_step-of w.layout w.early c.series f step has;
  g_has = has_step-of w.layout w.early cursor.series is.head.fact turn.step is.head.has_turn_there;
  same = same ∙ sym (head_instance w place cursor turn instance is);
}

passing_closes : (w : Waiting) (place : ℕ) (cursor : Cursor) (turn : Turn) (instance other : Instance) (home : HomeNo) → Heads w place cursor turn instance
    → OpensTo (passing w place turn) other home → OpensTo w other home × (other ≢ instance)
passing_closes w place cursor turn instance other home is (begins s has not_taken s_is home_is) =
    (begins s has not_taken s_is home_is, (λ e. never_begins w.layout cursor.series turn s.thread (s_is ∙ (e ∙ sym is.instance_is))))
passing_closes w place cursor turn instance other home is (continues n c at ahead home_is) =
    elim (passed_at-cases w.cursors place n turn cursor c is.cursor_at at) [
      | inl here ↦
          let Ahead : Cursor → Type 0 = λ x. IsAhead w.layout w.early w.live x other in
          let back : IsAhead w.layout w.early w.live (record cursor { passed = turn }) other = subst Ahead (sym here.1) ahead in
          let old : IsAhead w.layout w.early w.live cursor other = record {
            fact = back.fact;
            step = back.step;
            is_live = back.is_live;
            has_turn_there = back.has_turn_there;
            instance_is = back.instance_is;
            not_passed = λ passed. back.not_passed (open_is_behind cursor.passed turn back.fact.id.0 back.step is.head.is_open passed);
          } in
          let series_is = ap (λ (x : Cursor). x.series) here.1 in
          let home_old = ap (λ s. target_of w.layout s) series_is ∙ home_is in (
            continues place cursor is.cursor_at old home_old,
            (λ e.
                let once = meet_once w place place cursor cursor back.fact is.head.fact back.step turn.step
                (head_meets w place cursor turn instance is place cursor back.fact back.step is.cursor_at back.is_live back.has_turn_there (back.instance_is ∙ e)) in
                let ids = ap (λ (x : LiveFact). x.id.0) once.2 ∙ ap (λ (x : FactId). x.0) is.head.id_is in
                back.not_passed (inr (ids, omega (arith, once.3)))),
          )
      | inr apart ↦ (
        continues n c apart.1 ahead home_is,
        (λ e.
            let once = meet_once w n place c cursor ahead.fact is.head.fact ahead.step turn.step
            (head_meets w place cursor turn instance is n c ahead.fact ahead.step apart.1 ahead.is_live ahead.has_turn_there (ahead.instance_is ∙ e)) in
            apart.0 once.0),
      )
    ]

passing_leaves : (w : Waiting) (place : ℕ) (cursor : Cursor) (turn : Turn) (instance other : Instance) (home : HomeNo) → Heads w place cursor turn instance
    → OpensTo w other home → (other ≢ instance) → OpensTo (passing w place turn) other home
passing_leaves w place cursor turn instance other home is (begins s has not_taken s_is home_is) apart = begins s has not_taken s_is home_is
passing_leaves w place cursor turn instance other home is (continues n c at ahead home_is) apart =
    elim (cases_eq n place) [
      | inl here ↦
          let both : Some c ≡ Some cursor = sym at ∙ (ap (λ k. slice_get w.cursors k) here ∙ is.cursor_at) in
          let same : c ≡ cursor = cc in
          let Ahead : Cursor → Type 0 = λ x. IsAhead w.layout w.early w.live x other in
          let old : IsAhead w.layout w.early w.live cursor other = subst Ahead same ahead in
          let new : IsAhead w.layout w.early w.live (record cursor { passed = turn }) other = record {
            fact = old.fact;
            step = old.step;
            is_live = old.is_live;
            has_turn_there = old.has_turn_there;
            instance_is = old.instance_is;
            not_passed = λ passed. elim (moved w.layout w.early cursor w.live turn is.head old.fact old.step old.is_live old.has_turn_there passed) [
              | inl before ↦ old.not_passed before
              | inr turn_there ↦ apart (sym old.instance_is ∙ (ap (λ t. instance_of w.layout cursor.series t) turn_there ∙ is.instance_is))
            ];
          } in
          let home_new = ap (λ (x : Cursor). target_of w.layout x.series) (sym same) ∙ home_is in
          continues place (record cursor { passed = turn }) (passed_at-same w.cursors place turn cursor is.cursor_at) new home_new
      | inr differ ↦ continues n c (passed_at-other w.cursors place n turn differ ∙ at) ahead home_is
    ]

pub closes_by_passing : (w : Waiting) (place : ℕ) (cursor : Cursor) (turn : Turn) (instance : Instance) → Heads w place cursor turn instance → Closes w instance (passing w place turn)
closes_by_passing w place cursor turn instance is = record {
  stays = record { layout = refl; starts = refl; room = refl };
  given = refl;
  live = refl;
  opens = λ other home. (passing_closes w place cursor turn instance other home is, λ both. passing_leaves w place cursor turn instance other home is both.0 both.1);
}

kept_series_at : (w : Waiting) (place n : ℕ) (cursor c : Cursor) (turn : Turn) → slice_get w.cursors place ≡ Some cursor → slice_get (passed_at w.cursors place turn) n ≡ Some c
    → (d : Cursor) × (slice_get w.cursors n ≡ Some d) × (d.series ≡ c.series) × ((c.passed ≡ turn) ⊎ (d ≡ c))
kept_series_at w place n cursor c turn at new =
    elim (passed_at-cases w.cursors place n turn cursor c at new) [
      | inl here ↦ (cursor, ap (λ k. slice_get w.cursors k) here.0 ∙ at, ap (λ (x : Cursor). x.series) here.1, inl (ap (λ (x : Cursor). x.passed) (sym here.1)))
      | inr apart ↦ (c, apart.1, refl, inr refl)
    ]

pub kept_by_passing : (w : Waiting) (place : ℕ) (cursor : Cursor) (turn : Turn) (instance : Instance) → Heads w place cursor turn instance → AreKept (passing w place turn)
kept_by_passing w place cursor turn instance is =
    let kept = is.kept in
    let turn_given : turn.id.0 ≤ w.given = let given = kept.ids_given is.head.fact is.head.is_live in let ids = ap (λ (x : FactId). x.0) is.head.id_is in omega (arith, given, ids) in
    record {
      apart = kept.apart;
      ids_rise = kept.ids_rise;
      ids_given = kept.ids_given;
      complete = λ series has.
          let old = kept.complete series has in
          elim (cases_eq old.0 place) [
            | inl here ↦
                let both : Some old.1 ≡ Some cursor = sym old.2 ∙ (ap (λ k. slice_get w.cursors k) here ∙ is.cursor_at) in
                let same : old.1 ≡ cursor = cc in
                (place, record cursor { passed = turn }, passed_at-same w.cursors place turn cursor is.cursor_at, ap (λ (x : Cursor). x.series) (sym same) ∙ old.3)
            | inr differ ↦ (old.0, old.1, passed_at-other w.cursors place old.0 turn differ ∙ old.2, old.3)
          ];
      sound = λ n c at.
          let old = kept_series_at w place n cursor c turn is.cursor_at at in
          let Is : Series → Type 0 = λ s. IsSeries w.layout w.live s in
          subst Is old.2 (kept.sound n old.0 old.1);
      distinct = distinct_same w.cursors (passed_at w.cursors place turn) (sym (series-passed_at w.cursors place turn)) kept.distinct;
      passed = λ n c at.
          let old = kept_series_at w place n cursor c turn is.cursor_at at in
          elim old.3 [
            | inl moved ↦ let same = ap (λ (t : Turn). t.id.0) moved in omega (arith, turn_given, same)
            | inr unmoved ↦ let before = kept.passed n old.0 old.1 in let same = ap (λ (x : Cursor). x.passed.id.0) unmoved in omega (arith, before, same)
          ];
      shape = series-passed_at w.cursors place turn ∙ kept.shape;
      early = kept.early;
    }
