-- What goes, by marks and by the definition.
use Rattle.std.proofs.Common.{◌≡◌, ℕ, zero, suc, ◌<◌, ◌⊎◌, inl, inr, eqb, eq-eqb, Bool, true, false, cond, ◌||◌, List, [], ◌∷◌, length, map, get_or, refl, ap, sym, ◌∙◌, subst, arith}
use Rattle.std.proofs.lemmas.Bool.{eqb-true}
use Rattle.std.specs.List.{AllByRecursion, Contains, list_any}
use Rattle.thr_base.specs.Held.{Rise}
use Rattle.thr_base.specs.declared.names.FactId.{FactId}
use Rattle.thr_base.specs.declared.names.HomeNo.{HomeNo}
use Rattle.fact_table.specs.declared.live_fact.LiveFact.{LiveFact}
use Rattle.fact_table.specs.Live.{IsLive, NoneIsMarked, is_marked, premises_of, with_mark}
use Rattle.fact_table.specs.Table.{FactTable}
use Rattle.withdraw.specs.Withdrawal.{CameBefore, IsWithdrawn, at_home, by_premise, IsWithout, RestOnEarlier}
use Rattle.withdraw.specs.inside.Gone.{goes, has_home, looked_at, marked_among}
use Rattle.withdraw.specs.inside.Stage.{IsStage}
use Rattle.withdraw.proofs.Stages.{IsStage-left, IsStage-marked, goes_marked, marked_goes, not_both, stage-next}

or_right : (a b : Bool) → b ≡ true → a || b ≡ true
or_right true b e = refl
or_right false b e = e

or_cases : (a b : Bool) → a || b ≡ true → (a ≡ true) ⊎ (b ≡ true)
or_cases true b e = inl refl
or_cases false b e = inr e

any_contains : {X : Type 0} (test : X → Bool) (xs : List X) (x : X) (k : ℕ) → k < length xs → get_or xs k x ≡ x → test x ≡ true → list_any test xs ≡ true
any_contains test [] x k lt is passes = absurd (omega arith)
any_contains test (y ∷ ys) x zero lt is passes = ap (λ (b : Bool). b || list_any test ys) (ap test is ∙ passes)
any_contains test (y ∷ ys) x (suc k) lt is passes = or_right (test y) (list_any test ys) (any_contains test ys x k (omega arith) is passes)

any_at : {X : Type 0} (test : X → Bool) (xs : List X) → list_any test xs ≡ true → (x : X) × Contains xs x × (test x ≡ true)
any_at test [] e = cc
any_at test (y ∷ ys) e =
    elim (or_cases (test y) (list_any test ys) e) [
      | inl here ↦ (y, (0, omega arith, refl), here)
      | inr behind ↦ let rest = any_at test ys behind in (rest.0, (suc rest.1.0, omega (arith, rest.1.1), rest.1.2), rest.2)
    ]

same_home : (one other : HomeNo) → eqb one.0 other.0 ≡ true → one ≡ other
same_home one other e = let made : ℕ → HomeNo = λ n. record { 0 = n } in ap made (eqb-true one.0 other.0 e)

same_id : (one other : FactId) → one.0 ≡ other.0 → one ≡ other
same_id one other e = let made : ℕ → FactId = λ n. record { 0 = n } in ap made e

-- what goes by marks is withdrawn
pub goes-withdrawn : (homes : List HomeNo) (n : ℕ) (live now : List LiveFact) (f : LiveFact) → IsStage (IsWithdrawn homes live) n live now → NoneIsMarked live
    → goes homes now f ≡ true → IsWithdrawn homes live f
goes-withdrawn homes n live now f is none e =
    elim (or_cases (has_home homes f.fact.home) (marked_among now f.kept) e) [
      | inl listed ↦
          let at = any_at (λ (h : HomeNo). eqb h.0 f.fact.home.0) homes listed in
          let Has : HomeNo → Type 0 = λ h. Contains homes h in
          at_home f (subst Has (same_home at.0 f.fact.home at.2) at.1)
      | inr rests ↦
          let at = any_at (is_marked now) (premises_of f.kept) rests in
          let marked = marked_goes (IsWithdrawn homes live) n live now at.0 is none at.2 in
          let Has : FactId → Type 0 = λ id. Contains (premises_of f.kept) id in
          by_premise f marked.fact marked.there (subst Has (sym (same_id marked.fact.id at.0 marked.same)) at.1) marked.goes
    ]

all_at : {X : Type 0} (P : X → Type 0) (xs : List X) (x : X) (k : ℕ) → AllByRecursion P xs → k < length xs → get_or xs k x ≡ x → P x
all_at P [] x k all lt is = absurd (omega arith)
all_at P (y ∷ ys) x zero all lt is = subst P is all.0
all_at P (y ∷ ys) x (suc k) all lt is = all_at P ys x k all.1 (omega arith) is

-- and what is withdrawn goes by marks
withdrawn-goes_by : (homes : List HomeNo) (n : ℕ) (live now : List LiveFact) (d f : LiveFact) → IsStage (IsWithdrawn homes live) n live now → Rise 0 (map (λ g. g.id.0) live)
    → n < length live → f ≡ get_or live n d → AllByRecursion (CameBefore live f) (premises_of f.kept) → IsWithdrawn homes live f → goes homes now f ≡ true
withdrawn-goes_by homes n live now d f is rise lt here early (at_home f' listed) =
    let found : has_home homes f.fact.home ≡ true = any_contains (λ (h : HomeNo). eqb h.0 f.fact.home.0) homes f.fact.home listed.0 listed.1 listed.2 (eq-eqb f.fact.home.0 f.fact.home.0 refl) in
    ap (λ (b : Bool). b || marked_among now f.kept) found
withdrawn-goes_by homes n live now d f is rise lt here early (by_premise f' g there premise withdrawn) =
    let before = all_at (CameBefore live f) (premises_of f.kept) g.id premise.0 early premise.1 premise.2 in
    let at : g.id.0 < (get_or live n d).id.0 = omega (arith, before.1, ap (λ (h : LiveFact). h.id.0) here) in
    let marked = goes_marked (IsWithdrawn homes live) n 0 live now d g g.id is rise lt there at withdrawn refl in
    or_right (has_home homes f.fact.home) (marked_among now f.kept) (any_contains (is_marked now) (premises_of f.kept) g.id premise.0 premise.1 premise.2 marked)

all_places : (P : LiveFact → Type 0) (live : List LiveFact) (n : ℕ) (d : LiveFact) → AllByRecursion P live → n < length live → P (get_or live n d)
all_places P [] n d all lt = absurd (omega arith)
all_places P (f ∷ live) zero d all lt = all.0
all_places P (f ∷ live) (suc n) d all lt = all_places P live n d all.1 (omega arith)

pub withdrawn-goes : (homes : List HomeNo) (n : ℕ) (live now : List LiveFact) (d : LiveFact) → IsStage (IsWithdrawn homes live) n live now → Rise 0 (map (λ g. g.id.0) live) → RestOnEarlier live
    → n < length live → IsWithdrawn homes live (get_or live n d) → goes homes now (get_or live n d) ≡ true
withdrawn-goes homes n live now d is rise early lt withdrawn =
    withdrawn-goes_by homes n live now d (get_or live n d) is rise lt refl (all_places (λ f. AllByRecursion (CameBefore live f) (premises_of f.kept)) live n d early lt) withdrawn

-- ---- what is left rests on what is left

pub without_keeps : (P : LiveFact → Type 0) (live left : List LiveFact) (g : LiveFact) (k : ℕ) → IsWithout P live left → k < length live → get_or live k g ≡ g → (P g → ⊥) → Contains left g
without_keeps P [] left g k is lt here stays = absurd (omega arith)
without_keeps P (f ∷ live) left g zero is lt here stays =
    elim is [
      | inl gone ↦ absurd (stays (subst P here gone.0))
      | inr kept ↦ let Has : List LiveFact → Type 0 = λ xs. Contains xs g in subst Has (sym kept.2) (0, omega arith, here)
    ]
without_keeps P (f ∷ live) left g (suc k) is lt here stays =
    elim is [
      | inl gone ↦ without_keeps P live left g k gone.1 (omega arith) here stays
      | inr kept ↦
          let rest = without_keeps P live kept.1 g k kept.3 (omega arith) here stays in
          let Has : List LiveFact → Type 0 = λ xs. Contains xs g in
          subst Has (sym kept.2) (suc rest.0, omega (arith, rest.1), rest.2)
    ]

premises_stay : (homes : List HomeNo) (all left : List LiveFact) (f : LiveFact) → IsWithout (IsWithdrawn homes all) all left → (IsWithdrawn homes all f → ⊥)
    → (ids : List FactId) → ((id : FactId) → Contains ids id → Contains (premises_of f.kept) id) → AllByRecursion (CameBefore all f) ids → AllByRecursion (CameBefore left f) ids
premises_stay homes all left f is stays [] inside early = tt
premises_stay homes all left f is stays (id ∷ ids) inside early =
    let g : LiveFact = early.0.0.0 in
    let there : Contains all g = early.0.0.1 in
    let same : g.id ≡ id = same_id g.id id early.0.0.2 in
    let Premise : FactId → Type 0 = λ x. Contains (premises_of f.kept) x in
    let is_premise : Contains (premises_of f.kept) g.id = subst Premise (sym same) (inside id (0, omega arith, refl)) in
    let kept = without_keeps (IsWithdrawn homes all) all left g there.0 is there.1 there.2 (λ gone. stays (by_premise f g there is_premise gone)) in
    (((g, kept, early.0.0.2), early.0.1), premises_stay homes all left f is stays ids (λ x has. inside x (suc has.0, omega (arith, has.1), has.2)) early.1)

rest_on_left : (homes : List HomeNo) (all left : List LiveFact) → IsWithout (IsWithdrawn homes all) all left → (live part : List LiveFact) → IsWithout (IsWithdrawn homes all) live part
    → AllByRecursion (λ f. AllByRecursion (CameBefore all f) (premises_of f.kept)) live → AllByRecursion (λ f. AllByRecursion (CameBefore left f) (premises_of f.kept)) part
rest_on_left homes all left whole [] part is early = let Rests : List LiveFact → Type 0 = λ xs. AllByRecursion (λ f. AllByRecursion (CameBefore left f) (premises_of f.kept)) xs in subst Rests (sym is) tt
rest_on_left homes all left whole (f ∷ live) part is early =
    elim is [
      | inl gone ↦ rest_on_left homes all left whole live part gone.1 early.1
      | inr kept ↦
          let Rests : List LiveFact → Type 0 = λ xs. AllByRecursion (λ g. AllByRecursion (CameBefore left g) (premises_of g.kept)) xs in
          subst Rests (sym kept.2) (premises_stay homes all left f whole kept.0 (premises_of f.kept) (λ id has. has) early.0, rest_on_left homes all left whole live kept.1 kept.3 early.1)
    ]

pub RestOnEarlier-left : (homes : List HomeNo) (live left : List LiveFact) → IsWithout (IsWithdrawn homes live) live left → RestOnEarlier live → RestOnEarlier left
RestOnEarlier-left homes live left is early = rest_on_left homes live left is live left is early

-- ---- a step

pub record Stepped (homes : List HomeNo) (n : ℕ) (live : List LiveFact) (now later : FactTable) : Type 0 where
  pub stage : IsStage (IsWithdrawn homes live) (suc n) live later.live
  pub same : later ≡ record now { live = later.live }

step_by : (homes : List HomeNo) (n : ℕ) (live : List LiveFact) (now : FactTable) (d f : LiveFact) (b : Bool) → IsStage (IsWithdrawn homes live) n live now.live → NoneIsMarked live
    → RestOnEarlier live → Rise 0 (map (λ g. g.id.0) live) → Rise 0 (map (λ g. g.id.0) now.live) → n < length live → f ≡ get_or now.live n d → goes homes now.live f ≡ b
    → Stepped homes n live now (cond b (record now { live = map (with_mark f.id.0) now.live }) now)
step_by homes n live now d f true is none early rise now_rise lt f_is b_is =
    let same : f ≡ get_or live n d = f_is ∙ stage-next (IsWithdrawn homes live) n live now.live d is lt in
    let withdrawn = goes-withdrawn homes n live now.live f is none b_is in
    let P : LiveFact → Type 0 = IsWithdrawn homes live in
    let marked = IsStage-marked P n 0 live now.live d is now_rise lt (subst P same withdrawn) in
    let Stage : LiveFact → Type 0 = λ g. IsStage P (suc n) live (map (with_mark g.id.0) now.live) in
    record { stage = subst Stage (sym f_is) marked; same = refl }
step_by homes n live now d f false is none early rise now_rise lt f_is b_is =
    let same : f ≡ get_or live n d = f_is ∙ stage-next (IsWithdrawn homes live) n live now.live d is lt in
    let P : LiveFact → Type 0 = IsWithdrawn homes live in
    let Goes : LiveFact → Type 0 = λ g. goes homes now.live g ≡ true in
    record {
      stage = IsStage-left P n live now.live d is lt (λ withdrawn. not_both (goes homes now.live f) (subst Goes (sym same) (withdrawn-goes homes n live now.live d is rise early lt withdrawn)) b_is);
      same = refl;
    }

pub step : (homes : List HomeNo) (n : ℕ) (live : List LiveFact) (now later : FactTable) (d f : LiveFact) → IsStage (IsWithdrawn homes live) n live now.live → NoneIsMarked live
    → RestOnEarlier live → Rise 0 (map (λ g. g.id.0) live) → Rise 0 (map (λ g. g.id.0) now.live) → n < length live → f ≡ get_or now.live n d → later ≡ looked_at homes now f
    → Stepped homes n live now later
step homes n live now later d f is none early rise now_rise lt f_is later_is =
    let After : FactTable → Type 0 = λ t. Stepped homes n live now t in
    subst After (sym later_is) (step_by homes n live now d f (goes homes now.live f) is none early rise now_rise lt f_is refl)

get_or_same : (live : List LiveFact) (n : ℕ) (d : LiveFact) → n < length live → get_or live n (get_or live n d) ≡ get_or live n d
get_or_same [] n d lt = absurd (omega arith)
get_or_same (f ∷ live) zero d lt = refl
get_or_same (f ∷ live) (suc n) d lt = get_or_same live n d (omega arith)

pub is_live-at : (live facts : List LiveFact) (n : ℕ) (d : LiveFact) → facts ≡ live → n < length live → IsLive live (get_or facts n d).id
is_live-at live facts n d is lt =
    let Live : List LiveFact → Type 0 = λ xs. IsLive live (get_or xs n d).id in
    subst Live (sym is) (get_or live n d, (n, lt, get_or_same live n d lt), refl)
