-- Heads that are looked for, one cursor after another.
use Rattle.std.proofs.Common.{◌≡◌, ℕ, zero, suc, ◌+◌, ◌<◌, ◌≤◌, ◌⊎◌, inl, inr, true, List, [], ◌∷◌, ◌++◌, length, get_or, set, Option, Some, None, refl, ap, sym, ◌∙◌, subst, arith}
use Rattle.std.proofs.Math.ListN.{length-set}
use Rattle.std.proofs.lemmas.Bool.{cases_lt}
use Rattle.std.specs.List.{Contains, slice_get}
use Rattle.std.specs.Option.{MatchOption}
use Rattle.fact_table.specs.declared.live_fact.LiveFact.{LiveFact}
use Rattle.instance_cursors.specs.declared.early.Early.{Early}
use Rattle.instance_cursors.specs.declared.key.Head.{Head}
use Rattle.instance_cursors.specs.declared.turns.Cursor.{Cursor}
use Rattle.instance_cursors.specs.Cursors.{AreHeads, IsHeadOf}
use Rattle.instance_cursors.specs.Turns.{AllArePassed, HoldsNoneAfter, IsHead, IsNextAfter, IsPassed, has_turn}
use Rattle.instance_cursors.specs.Ways.{Layout}
use Rattle.instance_cursors.specs.inside.Follows.{HeadFollows, HeadsFollow}
use Rattle.instance_cursors.proofs.Steps.{has_turn-zero, not_both}

-- ---- places of a list that is written

pub get-set-same : {X : Type 0} (xs : List X) (k : ℕ) (x : X) → k < length xs → slice_get (set xs k x) k ≡ Some x
get-set-same [] k x lt = absurd (omega arith)
get-set-same (y ∷ xs) zero x lt = refl
get-set-same (y ∷ xs) (suc k) x lt = get-set-same xs k x (omega arith)

pub get-set-other : {X : Type 0} (xs : List X) (k n : ℕ) (x : X) → (n ≡ k → ⊥) → slice_get (set xs k x) n ≡ slice_get xs n
get-set-other [] k n x apart = refl
get-set-other (y ∷ xs) zero zero x apart = absurd (apart refl)
get-set-other (y ∷ xs) zero (suc n) x apart = refl
get-set-other (y ∷ xs) (suc k) zero x apart = refl
get-set-other (y ∷ xs) (suc k) (suc n) x apart = get-set-other xs k n x (λ e. apart (omega (arith, e)))

pub get_within : {X : Type 0} (xs : List X) (k : ℕ) (x : X) → slice_get xs k ≡ Some x → k < length xs
get_within [] k x is = cc
get_within (y ∷ xs) zero x is = omega arith
get_within (y ∷ xs) (suc k) x is = let more = get_within xs k x is in omega (arith, more)

pub get-read : {X : Type 0} (xs : List X) (k : ℕ) (d : X) → k < length xs → slice_get xs k ≡ Some (get_or xs k d)
get-read [] k d lt = absurd (omega arith)
get-read (y ∷ xs) zero d lt = refl
get-read (y ∷ xs) (suc k) d lt = get-read xs k d (omega arith)

-- ---- from scratch

pub record AreFound (layout : Layout) (early : List Early) (live : List LiveFact) (cursors : List Cursor) (heads : List (Option Head)) (place : ℕ) : Type 0 where
  pub count : length heads ≡ length cursors
  pub are : (k : ℕ) (cursor : Cursor) (head : Option Head) → k < place → slice_get cursors k ≡ Some cursor → slice_get heads k ≡ Some head → IsHeadOf layout early live cursor head

pub AreFound-start : (layout : Layout) (early : List Early) (live : List LiveFact) (cursors : List Cursor) (heads : List (Option Head)) → length heads ≡ length cursors
    → AreFound layout early live cursors heads 0
AreFound-start layout early live cursors heads count = record { count = count; are = λ k cursor head lt at head_at. absurd (omega (arith, lt)) }

pub AreFound-more : (layout : Layout) (early : List Early) (live : List LiveFact) (cursors : List Cursor) (heads : List (Option Head)) (place : ℕ) (found : Option Head) (d : Cursor)
    → AreFound layout early live cursors heads place → place < length cursors → IsHeadOf layout early live (get_or cursors place d) found → AreFound layout early live cursors (set heads place found) (place + 1)
AreFound-more layout early live cursors heads place found d so_far lt is = record {
  count = length-set heads place found ∙ so_far.count;
  are = λ k cursor head less at head_at. elim (cases_lt k place) [
    | inl before ↦ so_far.are k cursor head before at (sym (get-set-other heads place k found (λ e. omega (arith, e, before))) ∙ head_at)
    | inr not_before ↦
        let here : k ≡ place = omega (arith, less, not_before) in
        let cursor_is : Some (get_or cursors place d) ≡ Some cursor = sym (get-read cursors place d lt) ∙ (ap (λ n. slice_get cursors n) (sym here) ∙ at) in
        let there : place < length heads = omega (arith, so_far.count, lt) in
        let head_is : Some found ≡ Some head = sym (get-set-same heads place found there) ∙ (ap (λ n. slice_get (set heads place found) n) (sym here) ∙ head_at) in
        let c_is : get_or cursors place d ≡ cursor = cc in
        let h_is : found ≡ head = cc in
        let Of : Cursor → Type 0 = λ c. IsHeadOf layout early live c found in
        let Is : Option Head → Type 0 = λ h. IsHeadOf layout early live cursor h in
        subst Is h_is (subst Of c_is is)
  ];
}

pub AreFound-all : (layout : Layout) (early : List Early) (live : List LiveFact) (cursors : List Cursor) (heads : List (Option Head)) (place : ℕ) → AreFound layout early live cursors heads place
    → length cursors ≤ place → AreHeads layout early live cursors heads
AreFound-all layout early live cursors heads place so_far le = record {
  count = so_far.count;
  are = λ k cursor head at head_at. so_far.are k cursor head (omega (arith, get_within cursors k cursor at, le)) at head_at;
}

-- ---- with one fact more

pub record AreLooked (layout : Layout) (early : List Early) (live : List LiveFact) (f : LiveFact) (cursors : List Cursor) (old new : List (Option Head)) (place : ℕ) : Type 0 where
  pub count : length new ≡ length cursors
  pub follow : HeadsFollow layout early live f cursors old new place

pub AreLooked-start : (layout : Layout) (early : List Early) (live : List LiveFact) (f : LiveFact) (cursors : List Cursor) (old : List (Option Head)) → length old ≡ length cursors
    → AreLooked layout early live f cursors old old 0
AreLooked-start layout early live f cursors old count = record {
  count = count;
  follow = record { below = λ k cursor one other lt at one_at other_at. absurd (omega (arith, lt)); others = λ k le. refl };
}

pub AreLooked-more : (layout : Layout) (early : List Early) (live : List LiveFact) (f : LiveFact) (cursors : List Cursor) (old new : List (Option Head)) (place : ℕ) (found : Option Head) (d : Cursor) (e : Option Head)
    → AreLooked layout early live f cursors old new place → place < length cursors → HeadFollows layout early live f (get_or cursors place d) (get_or new place e) found
    → AreLooked layout early live f cursors old (set new place found) (place + 1)
AreLooked-more layout early live f cursors old new place found d e so_far lt is =
    let there : place < length new = omega (arith, so_far.count, lt) in
    record {
      count = length-set new place found ∙ so_far.count;
      follow = record {
        below = λ k cursor one other less at one_at other_at. elim (cases_lt k place) [
          | inl before ↦ so_far.follow.below k cursor one other before at one_at (sym (get-set-other new place k found (λ e. omega (arith, e, before))) ∙ other_at)
          | inr not_before ↦
              let here : k ≡ place = omega (arith, less, not_before) in
              let cursor_is : Some (get_or cursors place d) ≡ Some cursor = sym (get-read cursors place d lt) ∙ (ap (λ n. slice_get cursors n) (sym here) ∙ at) in
              let one_is : Some (get_or new place e) ≡ Some one =
              sym (get-read new place e there) ∙ (so_far.follow.others place (omega arith) ∙ (ap (λ n. slice_get old n) (sym here) ∙ one_at)) in
              let other_is : Some found ≡ Some other = sym (get-set-same new place found there) ∙ (ap (λ n. slice_get (set new place found) n) (sym here) ∙ other_at) in
              let c_is : get_or cursors place d ≡ cursor = cc in
              let o_is : get_or new place e ≡ one = cc in
              let h_is : found ≡ other = cc in
              let Of : Cursor → Type 0 = λ c. HeadFollows layout early live f c (get_or new place e) found in
              let From : Option Head → Type 0 = λ h. HeadFollows layout early live f cursor h found in
              let Is : Option Head → Type 0 = λ h. HeadFollows layout early live f cursor one h in
              subst Is h_is (subst From o_is (subst Of c_is is))
        ];
        others = λ k le. get-set-other new place k found (λ e. omega (arith, e, le)) ∙ so_far.follow.others k (omega (arith, le));
      };
    }

-- ---- one head with one fact more

push_cases : (live : List LiveFact) (f g : LiveFact) (k : ℕ) → k < length (live ++ f ∷ []) → get_or (live ++ f ∷ []) k g ≡ g → Contains live g ⊎ (f ≡ g)
push_cases [] f g zero lt is = inr is
push_cases [] f g (suc k) lt is = absurd (omega arith)
push_cases (h ∷ live) f g zero lt is = inl (0, omega arith, is)
push_cases (h ∷ live) f g (suc k) lt is = elim (push_cases live f g k (omega arith) is) [ inl has ↦ inl (suc has.0, omega (arith, has.1), has.2) | inr same ↦ inr same ]

pub push_contains : (live : List LiveFact) (f g : LiveFact) → Contains (live ++ f ∷ []) g → Contains live g ⊎ (f ≡ g)
push_contains live f g has = push_cases live f g has.0 has.1 has.2

front_at : (live : List LiveFact) (f g : LiveFact) (k : ℕ) → k < length live → get_or live k g ≡ g → Contains (live ++ f ∷ []) g
front_at [] f g k lt is = absurd (omega arith)
front_at (h ∷ live) f g zero lt is = (0, omega arith, is)
front_at (h ∷ live) f g (suc k) lt is = let more = front_at live f g k (omega arith) is in (suc more.0, omega (arith, more.1), more.2)

pub front_contains : (live : List LiveFact) (f g : LiveFact) → Contains live g → Contains (live ++ f ∷ []) g
front_contains live f g has = front_at live f g has.0 has.1 has.2

pub back_contains : (live : List LiveFact) (f : LiveFact) → Contains (live ++ f ∷ []) f
back_contains [] f = (0, omega arith, refl)
back_contains (h ∷ live) f = let more = back_contains live f in (suc more.0, omega (arith, more.1), more.2)

-- a head stays the head: ids that come are above
head_stays : (layout : Layout) (early : List Early) (before : List LiveFact) (f : LiveFact) (cursor : Cursor) (found : Head) → ((g : LiveFact) → Contains before g → g.id.0 < f.id.0)
    → IsHead layout early cursor before found.turn → IsHead layout early cursor (before ++ f ∷ []) found.turn
head_stays layout early before f cursor found above is =
    let less = above is.fact is.is_live in
    let id_is = ap (λ (x : _). x.0) is.id_is in
    record {
      fact = is.fact;
      is_live = front_contains before f is.fact is.is_live;
      id_is = is.id_is;
      has_turn_there = is.has_turn_there;
      is_open = is.is_open;
      earlier = λ g step has turn comes. elim (push_contains before f g has) [
        | inl old ↦ is.earlier g step old turn comes
        | inr new ↦
            let same = ap (λ (x : LiveFact). x.id.0) new in
            absurd (elim comes [ inl lower ↦ omega (arith, lower, less, id_is, same) | inr equal ↦ omega (arith, equal.0, less, id_is, same) ])
      ];
    }

not_passed_above : (cursor : Cursor) (f : LiveFact) (step : ℕ) → cursor.passed.id.0 < f.id.0 → IsPassed cursor.passed f.id.0 step → ⊥
not_passed_above cursor f step less passed = elim passed [ inl lower ↦ omega (arith, lower, less) | inr equal ↦ omega (arith, equal.0, less) ]

new_head : (layout : Layout) (early : List Early) (before : List LiveFact) (f : LiveFact) (cursor : Cursor) (found : Head) → cursor.passed.id.0 < f.id.0
    → AllArePassed layout early cursor before → found.turn.id ≡ f.id → IsNextAfter (has_turn layout early cursor.series f) 0 found.turn.step → IsHead layout early cursor (before ++ f ∷ []) found.turn
new_head layout early before f cursor found less all id_is next =
    let same = ap (λ (x : _). x.0) id_is in
    record {
      fact = f;
      is_live = back_contains before f;
      id_is = sym id_is;
      has_turn_there = next.1;
      is_open = λ passed. elim passed [ inl lower ↦ omega (arith, lower, less, same) | inr equal ↦ omega (arith, equal.0, less, same) ];
      earlier = λ g step has turn comes. elim (push_contains before f g has) [
        | inl old ↦ all g step old turn
        | inr new ↦
            let g_id = ap (λ (x : LiveFact). x.id.0) new in
            let Turn_of : LiveFact → Type 0 = λ x. has_turn layout early cursor.series x step ≡ true in
            let turn_f : has_turn layout early cursor.series f step ≡ true = subst Turn_of (sym new) turn in
            let before_step : step < found.turn.step = elim comes [ inl lower ↦ absurd (omega (arith, lower, same, g_id)) | inr equal ↦ equal.1 ] in
            absurd (elim (cases_lt 0 step) [
              | inl after ↦ not_both (has_turn layout early cursor.series f step) turn_f (next.2 step after before_step)
              | inr none ↦
                  let zero_is : step ≡ 0 = omega (arith, none) in
                  not_both (has_turn layout early cursor.series f step) turn_f (ap (λ n. has_turn layout early cursor.series f n) zero_is ∙ has_turn-zero layout early cursor.series f)
            ])
      ];
    }

none_more : (layout : Layout) (early : List Early) (before : List LiveFact) (f : LiveFact) (cursor : Cursor) → AllArePassed layout early cursor before
    → HoldsNoneAfter (has_turn layout early cursor.series f) 0 → AllArePassed layout early cursor (before ++ f ∷ [])
none_more layout early before f cursor all none = λ g step has turn. elim (push_contains before f g has) [
  | inl old ↦ all g step old turn
  | inr new ↦
      let Turn_of : LiveFact → Type 0 = λ x. has_turn layout early cursor.series x step ≡ true in
      let turn_f : has_turn layout early cursor.series f step ≡ true = subst Turn_of (sym new) turn in
      absurd (elim (cases_lt 0 step) [
        | inl after ↦ not_both (has_turn layout early cursor.series f step) turn_f (none step after)
        | inr zero_step ↦
            let zero_is : step ≡ 0 = omega (arith, zero_step) in
            not_both (has_turn layout early cursor.series f step) turn_f (ap (λ n. has_turn layout early cursor.series f n) zero_is ∙ has_turn-zero layout early cursor.series f)
      ])
]

pub follows_some : (layout : Layout) (early : List Early) (live : List LiveFact) (f : LiveFact) (cursor : Cursor) (found : Head) → HeadFollows layout early live f cursor (Some found) (Some found)
follows_some layout early live f cursor found before is less above old =
    let Of : List LiveFact → Type 0 = λ l. IsHead layout early cursor l found.turn in
    subst Of (sym is) (head_stays layout early before f cursor found above old)

pub follows_none : (layout : Layout) (early : List Early) (live : List LiveFact) (f : LiveFact) (cursor : Cursor) (new : Option Head)
    → MatchOption new (HoldsNoneAfter (has_turn layout early cursor.series f) 0) (λ found. (found.turn.id ≡ f.id) × IsNextAfter (has_turn layout early cursor.series f) 0 found.turn.step)
    → HeadFollows layout early live f cursor None new
follows_none layout early live f cursor None says before is less above old =
    let Of : List LiveFact → Type 0 = λ l. AllArePassed layout early cursor l in
    subst Of (sym is) (none_more layout early before f cursor old says)
follows_none layout early live f cursor (Some found) says before is less above old =
    let Of : List LiveFact → Type 0 = λ l. IsHead layout early cursor l found.turn in
    subst Of (sym is) (new_head layout early before f cursor found less old says.0 says.1)
