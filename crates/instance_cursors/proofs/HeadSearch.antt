-- The head of a cursor.
use Rattle.std.proofs.Common.{◌≡◌, ℕ, zero, suc, ◌+◌, ◌<◌, ◌≤◌, ◌⊎◌, inl, inr, eqb, ltb, eq-eqb, Bool, true, false, cond, List, [], ◌∷◌, length, map, get_or, refl, ap, sym, ◌∙◌, subst, arith}
use Rattle.std.proofs.lemmas.Bool.{cases_lt, eqb-true, ltb-true, ltb-false}
use Rattle.std.specs.List.Sorted.{IsNonDecreasingBy, IsPartitionPoint}
use Rattle.thr_base.specs.Held.{Rise}
use Rattle.thr_base.specs.declared.names.FactId.{FactId}
use Rattle.fact_table.specs.declared.live_fact.LiveFact.{LiveFact}
use Rattle.instance_cursors.specs.declared.early.Early.{Early}
use Rattle.instance_cursors.specs.declared.turns.Cursor.{Cursor}
use Rattle.instance_cursors.specs.declared.turns.Turn.{Turn}
use Rattle.instance_cursors.specs.Layout.{step_after}
use Rattle.instance_cursors.specs.Turns.{AllArePassed, ComesBefore, HoldsNoneAfter, IsHead, IsNextAfter, IsPassed, has_turn}
use Rattle.instance_cursors.specs.Ways.{Layout}
use Rattle.instance_cursors.proofs.Steps.{has_turn-zero, not_both}

-- ---- ids rise

above : (last : ℕ) (live : List LiveFact) (j : ℕ) (d : LiveFact) → Rise last (map (λ f. f.id.0) live) → j < length live → last < (get_or live j d).id.0
above last [] j d rise lt = absurd (omega arith)
above last (f ∷ live) zero d rise lt = rise.0
above last (f ∷ live) (suc j) d rise lt = let more = above f.id.0 live j d rise.1 (omega arith) in omega (arith, more, rise.0)

pub strictly : (last : ℕ) (live : List LiveFact) → Rise last (map (λ f. f.id.0) live) → (i j : ℕ) (d : LiveFact) → i < j → j < length live → (get_or live i d).id.0 < (get_or live j d).id.0
strictly last [] rise i j d le lt = absurd (omega arith)
strictly last (f ∷ live) rise i zero d le lt = absurd (omega arith)
strictly last (f ∷ live) rise zero (suc j) d le lt = above f.id.0 live j d rise.1 (omega arith)
strictly last (f ∷ live) rise (suc i) (suc j) d le lt = strictly f.id.0 live rise.1 i j d (omega arith) (omega arith)

nondecreasing : (last : ℕ) (live : List LiveFact) → Rise last (map (λ f. f.id.0) live) → (i j : ℕ) (d : LiveFact) → i ≤ j → j < length live → (get_or live i d).id.0 ≤ (get_or live j d).id.0
nondecreasing last [] rise i j d le lt = absurd (omega arith)
nondecreasing last (f ∷ live) rise zero zero d le lt = omega arith
nondecreasing last (f ∷ live) rise (suc i) zero d le lt = absurd (omega arith)
nondecreasing last (f ∷ live) rise zero (suc j) d le lt = let more = above f.id.0 live j d rise.1 (omega arith) in omega (arith, more)
nondecreasing last (f ∷ live) rise (suc i) (suc j) d le lt = nondecreasing f.id.0 live rise.1 i j d (omega arith) (omega arith)

pub ids_rise : (live : List LiveFact) → Rise 0 (map (λ f. f.id.0) live) → IsNonDecreasingBy (λ f. f.id.0) live
ids_rise live rise = nondecreasing 0 live rise

-- ---- steps that are passed

bool_cases : (b : Bool) → (b ≡ true) ⊎ (b ≡ false)
bool_cases true = inl refl
bool_cases false = inr refl

step_after-same : (passed : Turn) (id : FactId) → id.0 ≡ passed.id.0 → step_after passed id ≡ passed.step
step_after-same passed id same = ap (λ (b : Bool). cond b passed.step 0) (eq-eqb id.0 passed.id.0 same)

abbrev Has : Layout → List Early → Cursor → LiveFact → ℕ → Type 0
Has layout early cursor f step = has_turn layout early cursor.series f step ≡ true

-- a step that is not after those passed is passed
pub passed_up_to : (layout : Layout) (early : List Early) (cursor : Cursor) (f : LiveFact) (step : ℕ) → Has layout early cursor f step → step ≤ step_after cursor.passed f.id → IsPassed cursor.passed f.id.0 step
passed_up_to layout early cursor f step has le =
    elim (bool_cases (eqb f.id.0 cursor.passed.id.0)) [
      | inl same ↦
          let equal = eqb-true f.id.0 cursor.passed.id.0 same in
          let after = step_after-same cursor.passed f.id equal in
          inr (equal, omega (arith, le, after))
      | inr differs ↦
          let after : step_after cursor.passed f.id ≡ 0 = ap (λ (b : Bool). cond b cursor.passed.step 0) differs in
          let none : step ≡ 0 = omega (arith, le, after) in
          let test : ℕ → Bool = λ s. has_turn layout early cursor.series f s in
          absurd (not_both (test step) has (ap test none ∙ has_turn-zero layout early cursor.series f))
    ]

-- where no step comes after, all are passed
pub passed_where_none : (layout : Layout) (early : List Early) (cursor : Cursor) (f : LiveFact) (step : ℕ) → HoldsNoneAfter (has_turn layout early cursor.series f) (step_after cursor.passed f.id)
    → Has layout early cursor f step → IsPassed cursor.passed f.id.0 step
passed_where_none layout early cursor f step none has =
    elim (cases_lt (step_after cursor.passed f.id) step) [
      | inl after ↦ absurd (not_both (has_turn layout early cursor.series f step) has (none step after))
      | inr up_to ↦ passed_up_to layout early cursor f step has up_to
    ]

pub passed_below : (cursor : Cursor) (live : List LiveFact) (first : ℕ) → IsPartitionPoint (λ f. ltb f.id.0 cursor.passed.id.0 ≡ true) (λ f. ltb f.id.0 cursor.passed.id.0 ≡ false) live first
    → (k : ℕ) (d : LiveFact) (step : ℕ) → k < first → IsPassed cursor.passed (get_or live k d).id.0 step
passed_below cursor live first parts k d step lt = inl (ltb-true _ _ (parts.0 k d (omega arith) lt))

-- ---- the head

pub record PassedBelow (layout : Layout) (early : List Early) (cursor : Cursor) (live : List LiveFact) (place : ℕ) : Type 0 where
  pub all : (k : ℕ) (d : LiveFact) (step : ℕ) → k < place → Has layout early cursor (get_or live k d) step → IsPassed cursor.passed (get_or live k d).id.0 step

pub PassedBelow-start : (layout : Layout) (early : List Early) (cursor : Cursor) (live : List LiveFact) (first : ℕ)
    → IsPartitionPoint (λ f. ltb f.id.0 cursor.passed.id.0 ≡ true) (λ f. ltb f.id.0 cursor.passed.id.0 ≡ false) live first → PassedBelow layout early cursor live first
PassedBelow-start layout early cursor live first parts = record { all = λ k d step lt has. passed_below cursor live first parts k d step lt }

at_default : (live : List LiveFact) (k : ℕ) (d e : LiveFact) → k < length live → get_or live k d ≡ get_or live k e
at_default [] k d e lt = absurd (omega arith)
at_default (f ∷ live) zero d e lt = refl
at_default (f ∷ live) (suc k) d e lt = at_default live k d e (omega arith)

pub PassedBelow-more : (layout : Layout) (early : List Early) (cursor : Cursor) (live : List LiveFact) (place : ℕ) (d : LiveFact) → PassedBelow layout early cursor live place → place < length live
    → HoldsNoneAfter (has_turn layout early cursor.series (get_or live place d)) (step_after cursor.passed (get_or live place d).id) → PassedBelow layout early cursor live (place + 1)
PassedBelow-more layout early cursor live place d below lt none = record {
  all = λ k e step less has.
      elim (cases_lt k place) [
        | inl under ↦ below.all k e step under has
        | inr not_under ↦
            let here : k ≡ place = omega arith in
            let same : get_or live k e ≡ get_or live place d = ap (λ n. get_or live n e) here ∙ at_default live place e d lt in
            let Turn_of : LiveFact → Type 0 = λ f. Has layout early cursor f step in
            let Passed : LiveFact → Type 0 = λ f. IsPassed cursor.passed f.id.0 step in
            subst Passed (sym same) (passed_where_none layout early cursor (get_or live place d) step none (subst Turn_of same has))
      ];
}

-- what is known of each place is known of each fact that is contained
passed_there : (layout : Layout) (early : List Early) (cursor : Cursor) (live : List LiveFact) (place : ℕ) → PassedBelow layout early cursor live place → (f : LiveFact) (step k : ℕ)
    → k < place → get_or live k f ≡ f → Has layout early cursor f step → IsPassed cursor.passed f.id.0 step
passed_there layout early cursor live place below f step k lt is has =
    let Turn_of : LiveFact → Type 0 = λ g. Has layout early cursor g step in
    let Passed : LiveFact → Type 0 = λ g. IsPassed cursor.passed g.id.0 step in
    subst Passed is (below.all k f step lt (subst Turn_of (sym is) has))

pub all_passed : (layout : Layout) (early : List Early) (cursor : Cursor) (live : List LiveFact) (place : ℕ) → PassedBelow layout early cursor live place → length live ≤ place → AllArePassed layout early cursor live
all_passed layout early cursor live place below le = λ f step there has. passed_there layout early cursor live place below f step there.0 (omega (arith, there.1, le)) there.2 has

record FirstAt (layout : Layout) (early : List Early) (cursor : Cursor) (live : List LiveFact) (place step : ℕ) (f : LiveFact) : Type 0 where
  within : place < length live
  is_there : get_or live place f ≡ f
  rise : Rise 0 (map (λ g. g.id.0) live)
  below : PassedBelow layout early cursor live place
  next : IsNextAfter (has_turn layout early cursor.series f) (step_after cursor.passed f.id) step

earlier_passed : (layout : Layout) (early : List Early) (cursor : Cursor) (live : List LiveFact) (place step : ℕ) (f : LiveFact) → FirstAt layout early cursor live place step f
    → (g : LiveFact) (s k : ℕ) → k < length live → get_or live k g ≡ g → Has layout early cursor g s → ComesBefore g.id.0 s (record { id = f.id; step = step }) → IsPassed cursor.passed g.id.0 s
earlier_passed layout early cursor live place step f first g s k k_lt is has before =
    elim (cases_lt k place) [
      | inl under ↦ passed_there layout early cursor live place first.below g s k under is has
      | inr not_under ↦ elim (cases_lt place k) [
        | inl behind ↦
            let less = strictly 0 live first.rise place k g behind k_lt in
            let f_is = ap (λ (x : LiveFact). x.id.0) (at_default live place g f first.within ∙ first.is_there) in
            let g_is = ap (λ (x : LiveFact). x.id.0) is in
            absurd (elim before [ inl lower ↦ omega (arith, lower, less, f_is, g_is) | inr equal ↦ omega (arith, equal.0, less, f_is, g_is) ])
        | inr not_behind ↦
            let here : k ≡ place = omega arith in
            let fact_is : g ≡ f = sym is ∙ (ap (λ n. get_or live n g) here ∙ (at_default live place g f first.within ∙ first.is_there)) in
            let Turn_of : LiveFact → Type 0 = λ x. Has layout early cursor x s in
            let Passed : LiveFact → Type 0 = λ x. IsPassed cursor.passed x.id.0 s in
            let has_f : Has layout early cursor f s = subst Turn_of fact_is has in
            let id_is = ap (λ (x : LiveFact). x.id.0) fact_is in
            let s_less : s < step = elim before [ inl lower ↦ absurd (omega (arith, lower, id_is)) | inr equal ↦ equal.1 ] in
            subst Passed (sym fact_is) (elim (cases_lt (step_after cursor.passed f.id) s) [
              | inl after ↦ absurd (not_both (has_turn layout early cursor.series f s) has_f (first.next.2 s after s_less))
              | inr up_to ↦ passed_up_to layout early cursor f s has_f up_to
            ])
      ]
    ]

head_at : (layout : Layout) (early : List Early) (cursor : Cursor) (live : List LiveFact) (place step : ℕ) (f : LiveFact) → FirstAt layout early cursor live place step f → cursor.passed.id.0 ≤ f.id.0
    → IsHead layout early cursor live (record { id = f.id; step = step })
head_at layout early cursor live place step f first not_less = record {
  fact = f;
  is_live = (place, first.within, first.is_there);
  id_is = refl;
  has_turn_there = first.next.1;
  is_open = λ passed. elim passed [
    | inl less ↦ omega (arith, less, not_less)
    | inr same ↦ let after = step_after-same cursor.passed f.id same.0 in omega (arith, after, first.next.0, same.1)
  ];
  earlier = λ g s there has before. earlier_passed layout early cursor live place step f first g s there.0 there.1 there.2 has before;
}

pub head_is : (layout : Layout) (early : List Early) (cursor : Cursor) (live : List LiveFact) (first place step : ℕ) (d : LiveFact) → Rise 0 (map (λ f. f.id.0) live)
    → IsPartitionPoint (λ f. ltb f.id.0 cursor.passed.id.0 ≡ true) (λ f. ltb f.id.0 cursor.passed.id.0 ≡ false) live first → first ≤ place → PassedBelow layout early cursor live place → place < length live
    → IsNextAfter (has_turn layout early cursor.series (get_or live place d)) (step_after cursor.passed (get_or live place d).id) step
    → IsHead layout early cursor live (record { id = (get_or live place d).id; step = step })
head_is layout early cursor live first place step d rise parts from below lt next =
    let at : FirstAt layout early cursor live place step (get_or live place d) = record {
      within = lt;
      is_there = at_default live place (get_or live place d) d lt;
      rise = rise;
      below = below;
      next = next;
    } in
    head_at layout early cursor live place step (get_or live place d) at (ltb-false _ _ (parts.1 place d from lt))
