-- The marks, step by step.
use Rattle.std.proofs.Common.{◌≡◌, ℕ, zero, suc, ◌<◌, ◌≤◌, ◌⊎◌, inl, inr, eqb, eq-eqb, Bool, true, false, not, cond, List, [], ◌∷◌, length, map, get_or, Some, option_map, unwrap_or, refl, ap, sym, ◌∙◌, subst, arith}
use Rattle.std.proofs.lemmas.Bool.{eqb-true}
use Rattle.std.specs.List.{Contains}
use Rattle.thr_base.specs.Held.{Rise}
use Rattle.thr_base.specs.declared.names.FactId.{FactId}
use Rattle.fact_table.specs.declared.live_fact.LiveFact.{LiveFact}
use Rattle.fact_table.specs.Live.{NoneIsMarked, is_marked, live_at, unmarked_facts, with_mark}
use Rattle.withdraw.specs.Withdrawal.{IsWithout}
use Rattle.withdraw.specs.inside.Stage.{IsStage, with_its_mark}

pub not_true : (b : Bool) → (b ≡ true → ⊥) → b ≡ false
not_true true never = absurd (never refl)
not_true false never = refl

pub IsStage-start : (P : LiveFact → Type 0) (live : List LiveFact) → IsStage P 0 live live
IsStage-start P [] = refl
IsStage-start P (f ∷ live) = refl

pub length-stage : (P : LiveFact → Type 0) (n : ℕ) (live now : List LiveFact) → IsStage P n live now → length now ≡ length live
length-stage P n [] now is = ap length is
length-stage P zero (f ∷ live) now is = ap length is
length-stage P (suc n) (f ∷ live) now is = ap length is.2 ∙ ap (λ k. suc k) (length-stage P n live is.1 is.4)

-- the next fact is as it was
pub stage-next : (P : LiveFact → Type 0) (n : ℕ) (live now : List LiveFact) (d : LiveFact) → IsStage P n live now → n < length live → get_or now n d ≡ get_or live n d
stage-next P n [] now d is lt = absurd (omega arith)
stage-next P zero (f ∷ live) now d is lt = ap (λ (xs : List LiveFact). get_or xs 0 d) is
stage-next P (suc n) (f ∷ live) now d is lt = ap (λ (xs : List LiveFact). get_or xs (suc n) d) is.2 ∙ stage-next P n live is.1 d is.4 (omega arith)

with_mark-none : (low : ℕ) (live : List LiveFact) (id : ℕ) → Rise low (map (λ f. f.id.0) live) → id ≤ low → map (with_mark id) live ≡ live
with_mark-none low [] id rise le = refl
with_mark-none low (g ∷ live) id rise le =
    let differs : eqb g.id.0 id ≡ false = not_true _ (λ e. let same = eqb-true g.id.0 id e in omega (arith, same, rise.0)) in
    let head : with_mark id g ≡ g = ap (λ (b : Bool). cond b (with_its_mark g) g) differs in
    let rest = with_mark-none g.id.0 live id rise.1 (omega (arith, rise.0)) in
    cc

rise_at : (low : ℕ) (live : List LiveFact) (n : ℕ) (d : LiveFact) → Rise low (map (λ f. f.id.0) live) → n < length live → low < (get_or live n d).id.0
rise_at low [] n d rise lt = absurd (omega arith)
rise_at low (f ∷ live) zero d rise lt = rise.0
rise_at low (f ∷ live) (suc n) d rise lt = let above = rise_at f.id.0 live n d rise.1 (omega arith) in omega (arith, above, rise.0)

-- a fact that goes is marked
pub IsStage-marked : (P : LiveFact → Type 0) (n low : ℕ) (live now : List LiveFact) (d : LiveFact) → IsStage P n live now → Rise low (map (λ f. f.id.0) now) → n < length live
    → P (get_or live n d) → IsStage P (suc n) live (map (with_mark (get_or now n d).id.0) now)
IsStage-marked P n low [] now d is rise lt goes = absurd (omega arith)
IsStage-marked P zero low (f ∷ live) now d is rise lt goes =
    let Up : List LiveFact → Type 0 = λ xs. Rise low (map (λ g. g.id.0) xs) in
    let up = subst Up is rise in
    let here : with_mark f.id.0 f ≡ with_its_mark f = ap (λ (b : Bool). cond b (with_its_mark f) f) (eq-eqb f.id.0 f.id.0 refl) in
    let rest : map (with_mark f.id.0) live ≡ live = with_mark-none f.id.0 live f.id.0 up.1 (omega arith) in
    let marks : List LiveFact → List LiveFact = λ xs. map (with_mark (get_or xs 0 d).id.0) xs in
    let now_is : marks now ≡ with_its_mark f ∷ live = ap marks is ∙ (let both : marks (f ∷ live) ≡ with_its_mark f ∷ live = cc in both) in
    (with_its_mark f, live, now_is, inl (goes, refl), IsStage-start P live)
IsStage-marked P (suc n) low (f ∷ live) now d is rise lt goes =
    let Up : List LiveFact → Type 0 = λ xs. Rise low (map (λ g. g.id.0) xs) in
    let up = subst Up is.2 rise in
    let same = length-stage P n live is.1 is.4 in
    let id : ℕ = (get_or is.1 n d).id.0 in
    let above = rise_at is.0.id.0 is.1 n d up.1 (omega (arith, same)) in
    let differs : eqb is.0.id.0 id ≡ false = not_true _ (λ e. let equal = eqb-true is.0.id.0 id e in omega (arith, equal, above)) in
    let here : with_mark id is.0 ≡ is.0 = ap (λ (b : Bool). cond b (with_its_mark is.0) is.0) differs in
    let marks : List LiveFact → List LiveFact = λ xs. map (with_mark (get_or xs (suc n) d).id.0) xs in
    let now_is : marks now ≡ is.0 ∷ map (with_mark id) is.1 = ap marks is.2 ∙ ap (λ (g : LiveFact). g ∷ map (with_mark id) is.1) here in
    (is.0, map (with_mark id) is.1, now_is, is.3, IsStage-marked P n is.0.id.0 live is.1 d is.4 up.1 (omega arith) goes)

-- one that does not go stays as it was
pub IsStage-left : (P : LiveFact → Type 0) (n : ℕ) (live now : List LiveFact) (d : LiveFact) → IsStage P n live now → n < length live → (P (get_or live n d) → ⊥) → IsStage P (suc n) live now
IsStage-left P n [] now d is lt stays = absurd (omega arith)
IsStage-left P zero (f ∷ live) now d is lt stays = (f, live, is, inr (stays, refl), IsStage-start P live)
IsStage-left P (suc n) (f ∷ live) now d is lt stays = (is.0, is.1, is.2, is.3, IsStage-left P n live is.1 d is.4 (omega arith) stays)

-- ---- what the sweep leaves

unmarked-none : (live : List LiveFact) → NoneIsMarked live → unmarked_facts live ≡ live
unmarked-none [] none = refl
unmarked-none (f ∷ live) none =
    let rest = unmarked-none live none.1 in
    ap (λ (b : Bool). cond (not b) (f ∷ unmarked_facts live) (unmarked_facts live)) none.0 ∙ ap (λ (xs : List LiveFact). f ∷ xs) rest

pub IsWithout-stage : (P : LiveFact → Type 0) (n : ℕ) (live now : List LiveFact) → IsStage P n live now → length live ≤ n → NoneIsMarked live → IsWithout P live (unmarked_facts now)
IsWithout-stage P n [] now is le none = ap unmarked_facts is
IsWithout-stage P zero (f ∷ live) now is le none = absurd (omega arith)
IsWithout-stage P (suc n) (f ∷ live) now is le none =
    let rest = IsWithout-stage P n live is.1 is.4 (omega arith) none.1 in
    elim is.3 [
      | inl goes ↦
          let head : LiveFact → List LiveFact = λ g. cond (not g.marked) (g ∷ unmarked_facts is.1) (unmarked_facts is.1) in
          let left : unmarked_facts now ≡ unmarked_facts is.1 = ap unmarked_facts is.2 ∙ ap head goes.1 in
          let Left : List LiveFact → Type 0 = λ xs. IsWithout P live xs in
          inl (goes.0, subst Left (sym left) rest)
      | inr stays ↦
          let head : LiveFact → List LiveFact = λ g. cond (not g.marked) (g ∷ unmarked_facts is.1) (unmarked_facts is.1) in
          let left : unmarked_facts now ≡ f ∷ unmarked_facts is.1 = ap unmarked_facts is.2 ∙ (ap head stays.1 ∙ ap (λ (b : Bool). cond (not b) (f ∷ unmarked_facts is.1) (unmarked_facts is.1)) none.0) in
          inr (stays.0, unmarked_facts is.1, left, rest)
    ]

-- ---- what marks say

bool_cases : (b : Bool) → (b ≡ true) ⊎ (b ≡ false)
bool_cases true = inl refl
bool_cases false = inr refl

is_marked-here : (f : LiveFact) (live : List LiveFact) (id : FactId) → eqb f.id.0 id.0 ≡ true → is_marked (f ∷ live) id ≡ f.marked
is_marked-here f live id e = ap (λ (b : Bool). unwrap_or (option_map (λ (g : LiveFact). g.marked) (cond b (Some f) (live_at live id.0))) false) e

is_marked-behind : (f : LiveFact) (live : List LiveFact) (id : FactId) → eqb f.id.0 id.0 ≡ false → is_marked (f ∷ live) id ≡ is_marked live id
is_marked-behind f live id e = ap (λ (b : Bool). unwrap_or (option_map (λ (g : LiveFact). g.marked) (cond b (Some f) (live_at live id.0))) false) e

is_marked-none : (live : List LiveFact) (id : FactId) → NoneIsMarked live → is_marked live id ≡ false
is_marked-none [] id none = refl
is_marked-none (f ∷ live) id none =
    elim (bool_cases (eqb f.id.0 id.0)) [
      | inl here ↦ is_marked-here f live id here ∙ none.0
      | inr behind ↦ is_marked-behind f live id behind ∙ is_marked-none live id none.1
    ]

pub not_both : (b : Bool) → b ≡ true → b ≡ false → ⊥
not_both b passes fails = cc

pub record Marked (P : LiveFact → Type 0) (live : List LiveFact) (id : FactId) : Type 0 where
  pub fact : LiveFact
  pub there : Contains live fact
  pub same : fact.id.0 ≡ id.0
  pub goes : P fact

further : (P : LiveFact → Type 0) (f : LiveFact) (live : List LiveFact) (id : FactId) → Marked P live id → Marked P (f ∷ live) id
further P f live id marked = record {
  fact = marked.fact;
  there = (suc marked.there.0, omega (arith, marked.there.1), marked.there.2);
  same = marked.same;
  goes = marked.goes;
}

pub marked_goes : (P : LiveFact → Type 0) (n : ℕ) (live now : List LiveFact) (id : FactId) → IsStage P n live now → NoneIsMarked live → is_marked now id ≡ true → Marked P live id
marked_goes P n [] now id is none marked = absurd (not_both (is_marked now id) marked (ap (λ (xs : List LiveFact). is_marked xs id) is))
marked_goes P zero (f ∷ live) now id is none marked =
    absurd (not_both (is_marked now id) marked (ap (λ (xs : List LiveFact). is_marked xs id) is ∙ is_marked-none (f ∷ live) id none))
marked_goes P (suc n) (f ∷ live) now id is none marked =
    let said : is_marked (is.0 ∷ is.1) id ≡ true = ap (λ (xs : List LiveFact). is_marked xs id) (sym is.2) ∙ marked in
    elim (bool_cases (eqb is.0.id.0 id.0)) [
      | inl here ↦
          let own : is.0.marked ≡ true = sym (is_marked-here is.0 is.1 id here) ∙ said in
          elim is.3 [
            | inl goes ↦ record { fact = f; there = (0, omega arith, refl); same = ap (λ (g : LiveFact). g.id.0) (sym goes.1) ∙ eqb-true _ _ here; goes = goes.0 }
            | inr stays ↦ absurd (not_both is.0.marked own (ap (λ (g : LiveFact). g.marked) stays.1 ∙ none.0))
          ]
      | inr behind ↦ further P f live id (marked_goes P n live is.1 id is.4 none.1 (sym (is_marked-behind is.0 is.1 id behind) ∙ said))
    ]

first_below : (low : ℕ) (f : LiveFact) (live : List LiveFact) (g : LiveFact) (k : ℕ) → Rise low (map (λ h. h.id.0) (f ∷ live)) → k < length (f ∷ live) → get_or (f ∷ live) k g ≡ g → g.id.0 < f.id.0 → ⊥
first_below low f live g zero rise lt is before = let same = ap (λ (h : LiveFact). h.id.0) is in omega (arith, same, before)
first_below low f live g (suc k) rise lt is before = let above = rise_at f.id.0 live k g rise.1 (omega arith) in omega (arith, above, ap (λ (h : LiveFact). h.id.0) is, before)

-- the first of some facts is marked, where it goes; or what is marked stands behind
step_marked : (P : LiveFact → Type 0) (low : ℕ) (f g first : LiveFact) (live rest : List LiveFact) (id : FactId) (k : ℕ) → Rise low (map (λ h. h.id.0) (f ∷ live))
    → (P f × (first ≡ with_its_mark f)) ⊎ ((¬ P f) × (first ≡ f)) → k < length (f ∷ live) → get_or (f ∷ live) k g ≡ g → P g → g.id.0 ≡ id.0
    → (Contains live g → is_marked rest id ≡ true) → is_marked (first ∷ rest) id ≡ true
step_marked P low f g first live rest id zero rise either lt is goes same behind =
    elim either [
      | inl marks ↦
          let here : eqb first.id.0 id.0 ≡ true = eq-eqb _ _ (ap (λ (h : LiveFact). h.id.0) marks.1 ∙ (ap (λ (h : LiveFact). h.id.0) is ∙ same)) in
          is_marked-here first rest id here ∙ ap (λ (h : LiveFact). h.marked) marks.1
      | inr stays ↦ absurd (stays.0 (subst P (sym is) goes))
    ]
step_marked P low f g first live rest id (suc k) rise either lt is goes same behind =
    let first_id : first.id.0 ≡ f.id.0 = elim either [ inl marks ↦ ap (λ (h : LiveFact). h.id.0) marks.1 | inr stays ↦ ap (λ (h : LiveFact). h.id.0) stays.1 ] in
    let above = rise_at f.id.0 live k g rise.1 (omega arith) in
    let place_is = ap (λ (h : LiveFact). h.id.0) is in
    let differs : eqb first.id.0 id.0 ≡ false = not_true _ (λ e. let equal = eqb-true first.id.0 id.0 e in omega (arith, equal, first_id, above, place_is, same)) in
    is_marked-behind first rest id differs ∙ behind (k, omega arith, is)

pub goes_marked : (P : LiveFact → Type 0) (n low : ℕ) (live now : List LiveFact) (d g : LiveFact) (id : FactId) → IsStage P n live now → Rise low (map (λ f. f.id.0) live) → n < length live
    → Contains live g → g.id.0 < (get_or live n d).id.0 → P g → g.id.0 ≡ id.0 → is_marked now id ≡ true
goes_marked P n low [] now d g id is rise lt there before goes same = absurd (omega arith)
goes_marked P zero low (f ∷ live) now d g id is rise lt there before goes same =
    absurd (first_below low f live g there.0 rise there.1 there.2 before)
goes_marked P (suc n) low (f ∷ live) now d g id is rise lt there before goes same =
    ap (λ (xs : List LiveFact). is_marked xs id) is.2
    ∙ step_marked P low f g is.0 live is.1 id there.0 rise is.3 there.1 there.2 goes same
    (λ inside. goes_marked P n f.id.0 live is.1 d g id is.4 rise.1 (omega arith) inside before goes same)
