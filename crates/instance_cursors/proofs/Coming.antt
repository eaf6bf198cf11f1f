-- What is open where a fact comes, and where nothing is live.
use Rattle.std.proofs.Common.{◌≡◌, ℕ, zero, suc, ◌+◌, ◌<◌, ◌≤◌, ◌⊎◌, inl, inr, true, false, List, [], ◌∷◌, ◌++◌, length, map, get_or, Some, refl, ap, sym, ◌∙◌, subst, arith, append_assoc}
use Rattle.std.proofs.lemmas.Bool.{cases_eq, false_from_ne_true}
use Rattle.std.proofs.lemmas.List.Folds.{Any-from_list_any}
use Rattle.std.specs.List.{Contains, slice_get}
use Rattle.thr_base.specs.Held.{Rise}
use Rattle.thr_base.specs.declared.names.FactId.{FactId}
use Rattle.thr_base.specs.declared.names.HomeNo.{HomeNo}
use Rattle.thr_base.specs.declared.names.Instance.{Instance}
use Rattle.fact_table.specs.declared.live_fact.LiveFact.{LiveFact}
use Rattle.fact_table.specs.Live.{premises_of}
use Rattle.instance_cursors.specs.declared.start.Start.{Start}
use Rattle.instance_cursors.specs.declared.turns.Cursor.{Cursor}
use Rattle.instance_cursors.specs.declared.turns.Series.{Series}
use Rattle.instance_cursors.specs.declared.turns.Series.TheVariants.{Own, Told, Beside}
use Rattle.instance_cursors.specs.declared.turns.Turn.{Turn}
use Rattle.instance_cursors.specs.Instances.{instance_of}
use Rattle.instance_cursors.specs.Layout.{target_of}
use Rattle.instance_cursors.specs.Ways.{AreApart, Layout}
use Rattle.instance_cursors.specs.Cursors.{AreDistinct, AreGiven, AreKept, HasCursor, all_series, at_beginning, edge_cursors, fact_series}
use Rattle.instance_cursors.specs.Turns.{IsPassed, beginning, has_turn, is_early, is_turn, turn_at}
use Rattle.instance_cursors.specs.Waiting as specs
use Rattle.instance_cursors.specs.Waiting.{Begins, IsAhead, IsSeries, IsTurn, LeadsTo, Opens, OpensTo, Waiting, untaken}
use Rattle.instance_cursors.proofs.Follow.{back_contains, front_contains, push_contains}
use Rattle.instance_cursors.proofs.Members.{distinct_push, push_at_end, push_before, push_cases}
use Rattle.instance_cursors.proofs.SameTurns.{FirstIs, has_first, has_last, has_one_of}
use Rattle.instance_cursors.proofs.Taken.{has_step-of, has_turn-from}
use Rattle.instance_cursors.proofs.TakenEarly.{is_turn-true}

-- ---- ids

rise_on : (last : ℕ) (live : List LiveFact) (f : LiveFact) → Rise last (map (λ g. g.id.0) live) → last < f.id.0 → ((g : LiveFact) → Contains live g → g.id.0 < f.id.0)
    → Rise last (map (λ (g : LiveFact). g.id.0) (live ++ f ∷ []))
rise_on last [] f rise less below = (less, tt)
rise_on last (g ∷ live) f rise less below =
    (rise.0, rise_on g.id.0 live f rise.1 (below g (0, omega arith, refl)) (λ h has. below h (suc has.0, omega (arith, has.1), has.2)))

positive_at : (last : ℕ) (live : List LiveFact) (f : LiveFact) (k : ℕ) → Rise last (map (λ g. g.id.0) live) → k < length live → get_or live k f ≡ f → 0 < f.id.0
positive_at last [] f k rise lt is = absurd (omega arith)
positive_at last (g ∷ live) f zero rise lt is = let same = ap (λ (x : LiveFact). x.id.0) is in let low = rise.0 in omega (arith, same, low)
positive_at last (g ∷ live) f (suc k) rise lt is = positive_at g.id.0 live f k rise.1 (omega arith) is

pub positive : (live : List LiveFact) (f : LiveFact) → Rise 0 (map (λ g. g.id.0) live) → Contains live f → 0 < f.id.0
positive live f rise has = positive_at 0 live f has.0 rise has.1 has.2

pub not_at_beginning : (id step : ℕ) → 0 < id → IsPassed beginning id step → ⊥
not_at_beginning id step less passed = elim passed [ inl lower ↦ omega (arith, lower) | inr equal ↦ omega (arith, equal.0, less) ]

-- ---- a fact comes

abbrev pub fact_cursor : LiveFact → Cursor
fact_cursor f = at_beginning (Beside f.fact.home f.id)

abbrev pub with_fact : Waiting → LiveFact → Waiting
with_fact w f = record w { given = f.id.0; live = w.live ++ f ∷ []; cursors = w.cursors ++ fact_cursor f ∷ [] }

pub record CanCome (w : Waiting) (f : LiveFact) : Type 0 where
  pub kept : AreKept w
  pub next : f.id.0 ≡ w.given + 1

below : (w : Waiting) (f : LiveFact) → CanCome w f → (g : LiveFact) → Contains w.live g → g.id.0 < f.id.0
below w f is g has = let given = is.kept.ids_given g has in let next = is.next in omega (arith, given, next)

pub rise_with : (w : Waiting) (f : LiveFact) → CanCome w f → Rise 0 (map (λ g. g.id.0) (w.live ++ f ∷ []))
rise_with w f is = let next = is.next in rise_on 0 w.live f is.kept.ids_rise (omega (arith, next)) (below w f is)

more_series : (layout : Layout) (live : List LiveFact) (f : LiveFact) (series : Series) → IsSeries layout live series → IsSeries layout (live ++ f ∷ []) series
more_series layout live f (Own edge) is = is
more_series layout live f (Told edge) is = is
more_series layout live f (Beside home id) is = (is.0, front_contains live f is.0 is.1, is.2, is.3)

beside_same : (home at : HomeNo) (id other : FactId) → home ≡ at → id ≡ other → Beside home id ≡ Beside at other
beside_same home at id other homes ids = cc

complete_with : (w : Waiting) (f : LiveFact) → CanCome w f → (series : Series) → IsSeries w.layout (w.live ++ f ∷ []) series → HasCursor (w.cursors ++ fact_cursor f ∷ []) series
complete_with w f is (Own edge) has = let old = is.kept.complete (Own edge) has in (old.0, old.1, push_before w.cursors (fact_cursor f) old.0 old.1 old.2, old.3)
complete_with w f is (Told edge) has = let old = is.kept.complete (Told edge) has in (old.0, old.1, push_before w.cursors (fact_cursor f) old.0 old.1 old.2, old.3)
complete_with w f is (Beside home id) has =
    elim (push_contains w.live f has.0 has.1) [
      | inl before ↦ let old = is.kept.complete (Beside home id) (has.0, before, has.2, has.3) in (old.0, old.1, push_before w.cursors (fact_cursor f) old.0 old.1 old.2, old.3)
      | inr new ↦ (
        length w.cursors,
        fact_cursor f,
        push_at_end w.cursors (fact_cursor f),
        beside_same f.fact.home home f.id id (ap (λ (x : LiveFact). x.fact.home) new ∙ has.2) (ap (λ (x : LiveFact). x.id) new ∙ has.3),
      )
    ]

sound_with : (w : Waiting) (f : LiveFact) → CanCome w f → (n : ℕ) (c : Cursor) → slice_get (w.cursors ++ fact_cursor f ∷ []) n ≡ Some c → IsSeries w.layout (w.live ++ f ∷ []) c.series
sound_with w f is n c at =
    elim (push_cases w.cursors (fact_cursor f) n c at) [
      | inl old ↦ more_series w.layout w.live f c.series (is.kept.sound n c old)
      | inr new ↦
          let Is : Cursor → Type 0 = λ x. IsSeries w.layout (w.live ++ f ∷ []) x.series in
          subst Is new.1 (f, back_contains w.live f, refl, refl)
    ]

no_other : (w : Waiting) (f : LiveFact) → CanCome w f → (n : ℕ) (c : Cursor) → slice_get w.cursors n ≡ Some c → (home : HomeNo) → Beside home f.id ≡ c.series → ⊥
no_other w f is n c at home same =
    let Is : Series → Type 0 = λ s. IsSeries w.layout w.live s in
    let there = subst Is (sym same) (is.kept.sound n c at) in
    let less = below w f is there.0 there.1 in
    let ids = ap (λ (x : FactId). x.0) there.3 in
    omega (arith, less, ids)

more_given : (given more : ℕ) (series : Series) (turn : Turn) → given ≤ more → AreGiven given series turn → AreGiven more series turn
more_given given more (Own edge) turn le is = omega (arith, le, is)
more_given given more (Told edge) turn le is = omega (arith, le, is)
more_given given more (Beside home id) turn le is = (omega (arith, le, is.0), omega (arith, le, is.1))

map_push : {X Y : Type 0} (give : X → Y) (xs : List X) (x : X) → map give (xs ++ x ∷ []) ≡ map give xs ++ give x ∷ []
map_push give [] x = refl
map_push give (y ∷ xs) x = ap (λ ys. give y ∷ ys) (map_push give xs x)

shape_with : (w : Waiting) (f : LiveFact) → CanCome w f → map (λ c. c.series) (w.cursors ++ fact_cursor f ∷ []) ≡ all_series (length w.layout.edges) (w.live ++ f ∷ [])
shape_with w f is =
    let edges : List Series = map (λ (c : Cursor). c.series) (edge_cursors (length w.layout.edges)) in
    map_push (λ (c : Cursor). c.series) w.cursors (fact_cursor f)
    ∙ (ap (λ (xs : List Series). xs ++ fact_series f ∷ []) is.kept.shape
    ∙ (append_assoc edges (map fact_series w.live) (fact_series f ∷ []) ∙ ap (λ (xs : List Series). edges ++ xs) (sym (map_push fact_series w.live f))))

pub kept_with : (w : Waiting) (f : LiveFact) → CanCome w f → AreKept (with_fact w f)
kept_with w f is =
    let kept = is.kept in
    let next = is.next in
    record {
      apart = kept.apart;
      ids_rise = rise_with w f is;
      ids_given = λ g has. elim (push_contains w.live f g has) [
        | inl old ↦ let less = below w f is g old in omega (arith, less)
        | inr new ↦ let same = ap (λ (x : LiveFact). x.id.0) new in omega (arith, same)
      ];
      complete = complete_with w f is;
      sound = sound_with w f is;
      distinct = distinct_push w.cursors (fact_cursor f) kept.distinct (λ n c at same. no_other w f is n c at f.fact.home same);
      shape = shape_with w f is;
      passed = λ n c at. elim (push_cases w.cursors (fact_cursor f) n c at) [
        | inl old ↦ let le = kept.passed n c old in omega (arith, le, next)
        | inr new ↦ let same = ap (λ (x : Cursor). x.passed.id.0) new.1 in omega (arith, same)
      ];
      early = λ each has. more_given w.given f.id.0 each.series each.turn (omega (arith, next)) (kept.early each has);
    }

-- which turns name the fact that came
record Names (w : Waiting) (f : LiveFact) (series : Series) (g : LiveFact) : Type 0 where
  either : FirstIs series f.id ⊎ (g.id ≡ f.id)

given_below : (w : Waiting) (f : LiveFact) → CanCome w f → (series : Series) (g : LiveFact) (step : ℕ) → FirstIs series f.id ⊎ (g.id ≡ f.id) → AreGiven w.given series (turn_at g step) → ⊥
given_below w f is (Own edge) g step either given =
    elim either [ inl first ↦ first | inr same ↦ let ids = ap (λ (x : FactId). x.0) same in let next = is.next in omega (arith, given, ids, next) ]
given_below w f is (Told edge) g step either given =
    elim either [ inl first ↦ first | inr same ↦ let ids = ap (λ (x : FactId). x.0) same in let next = is.next in omega (arith, given, ids, next) ]
given_below w f is (Beside home id) g step either given =
    let next = is.next in
    elim either [
      | inl first ↦ let ids = ap (λ (x : FactId). x.0) first in omega (arith, given.0, ids, next)
      | inr same ↦ let ids = ap (λ (x : FactId). x.0) same in omega (arith, given.1, ids, next)
    ]

not_early_yet : (w : Waiting) (f : LiveFact) → CanCome w f → (series : Series) (g : LiveFact) (step : ℕ) → FirstIs series f.id ⊎ (g.id ≡ f.id) → is_early w.early series (turn_at g step) ≡ false
not_early_yet w f is series g step either =
    false_from_ne_true (is_early w.early series (turn_at g step)) (λ early.
    let any = Any-from_list_any (is_turn series (turn_at g step)) w.early early in
    let same = is_turn-true series (turn_at g step) any.1 any.4 in
    let given = is.kept.early any.1 (any.0, any.2, any.3) in
    let Given : Series → Turn → Type 0 = λ s t. AreGiven w.given s t in
    let Series_is : Series → Type 0 = λ s. Given s any.1.turn in
    let Turn_is : Turn → Type 0 = λ t. Given series t in
    given_below w f is series g step either (subst Turn_is same.1 (subst Series_is same.0 given)))

first_beside : (w : Waiting) (f : LiveFact) → CanCome w f → (series : Series) → FirstIs series f.id → (n : ℕ) (c : Cursor) → slice_get w.cursors n ≡ Some c → c.series ≡ series → ⊥
first_beside w f is (Own edge) first n c at same = first
first_beside w f is (Told edge) first n c at same = first
first_beside w f is (Beside home id) first n c at same =
    no_other w f is n c at home (beside_same home home f.id id refl (sym first) ∙ sym same)

not_passed_yet : (w : Waiting) (f : LiveFact) → CanCome w f → (n : ℕ) (c : Cursor) (series : Series) (g : LiveFact) (step : ℕ) → slice_get (w.cursors ++ fact_cursor f ∷ []) n ≡ Some c → c.series ≡ series
    → Contains (w.live ++ f ∷ []) g → FirstIs series f.id ⊎ (g.id ≡ f.id) → IsPassed c.passed g.id.0 step → ⊥
not_passed_yet w f is n c series g step at same has either passed =
    elim (push_cases w.cursors (fact_cursor f) n c at) [
      | inl old ↦ elim either [
        | inl first ↦ first_beside w f is series first n c old same
        | inr here ↦
            let le = is.kept.passed n c old in
            let ids = ap (λ (x : FactId). x.0) here in
            let next = is.next in
            elim passed [ inl lower ↦ omega (arith, lower, le, ids, next) | inr equal ↦ omega (arith, equal.0, le, ids, next) ]
      ]
      | inr new ↦
          let Passed : Turn → Type 0 = λ t. IsPassed t g.id.0 step in
          not_at_beginning g.id.0 step (positive (w.live ++ f ∷ []) g (rise_with w f is) has) (subst Passed (ap (λ (x : Cursor). x.passed) (sym new.1)) passed)
    ]

abbrev Either : Waiting → LiveFact → Instance → HomeNo → Type 0
Either w f instance home = OpensTo w instance home ⊎ (LeadsTo w.layout w.starts (w.live ++ f ∷ []) instance home × Contains (premises_of instance) f.id)

leads_with : (w : Waiting) (f : LiveFact) → CanCome w f → (n : ℕ) (c : Cursor) (instance : Instance) (home : HomeNo) → slice_get (w.cursors ++ fact_cursor f ∷ []) n ≡ Some c
    → IsAhead w.layout w.early (w.live ++ f ∷ []) c instance → target_of w.layout c.series ≡ home → LeadsTo w.layout w.starts (w.live ++ f ∷ []) instance home
leads_with w f is n c instance home at ahead home_is =
    let turn : IsTurn w.layout (w.live ++ f ∷ []) c.series instance = record {
      fact = ahead.fact;
      step = ahead.step;
      is_live = ahead.is_live;
      has_step_there = has_step-of w.layout w.early c.series ahead.fact ahead.step ahead.has_turn_there;
      instance_is = ahead.instance_is;
    } in
    specs.continues c.series (sound_with w f is n c at) turn home_is

opens_forward : (w : Waiting) (f : LiveFact) → CanCome w f → (instance : Instance) (home : HomeNo) → OpensTo (with_fact w f) instance home → Either w f instance home
opens_forward w f is instance home (specs.begins s has not_taken s_is home_is) = inl (specs.begins s has not_taken s_is home_is)
opens_forward w f is instance home (specs.continues n c at ahead home_is) =
    let Has : Instance → Type 0 = λ i. Contains (premises_of i) f.id in
    elim (push_cases w.cursors (fact_cursor f) n c at) [
      | inl old ↦ elim (push_contains w.live f ahead.fact ahead.is_live) [
        | inl before ↦
            let there : IsAhead w.layout w.early w.live c instance = record {
              fact = ahead.fact;
              step = ahead.step;
              is_live = before;
              has_turn_there = ahead.has_turn_there;
              instance_is = ahead.instance_is;
              not_passed = ahead.not_passed;
            } in
            inl (specs.continues n c old there home_is)
        | inr new ↦
            let In : FactId → Type 0 = λ id. Contains (premises_of (instance_of w.layout c.series (turn_at ahead.fact ahead.step))) id in
            inr (
              leads_with w f is n c instance home at ahead home_is,
              subst Has ahead.instance_is (subst In (ap (λ (x : LiveFact). x.id) (sym new)) (has_last w.layout c.series (turn_at ahead.fact ahead.step))),
            )
      ]
      | inr new ↦
          let Of : Series → Type 0 = λ s. Contains (premises_of (instance_of w.layout s (turn_at ahead.fact ahead.step))) f.id in
          inr (
            leads_with w f is n c instance home at ahead home_is,
            subst Has ahead.instance_is (subst Of (ap (λ (x : Cursor). x.series) new.1) (has_first w.layout f.fact.home f.id (turn_at ahead.fact ahead.step))),
          )
    ]

opens_back : (w : Waiting) (f : LiveFact) → CanCome w f → (instance : Instance) (home : HomeNo) → Either w f instance home → OpensTo (with_fact w f) instance home
opens_back w f is instance home (inl (specs.begins s has not_taken s_is home_is)) = specs.begins s has not_taken s_is home_is
opens_back w f is instance home (inl (specs.continues n c at ahead home_is)) =
    let there : IsAhead w.layout w.early (w.live ++ f ∷ []) c instance = record {
      fact = ahead.fact;
      step = ahead.step;
      is_live = front_contains w.live f ahead.fact ahead.is_live;
      has_turn_there = ahead.has_turn_there;
      instance_is = ahead.instance_is;
      not_passed = ahead.not_passed;
    } in
    specs.continues n c (push_before w.cursors (fact_cursor f) n c at) there home_is
opens_back w f is instance home (inr leads) = leads_back w f is instance home leads.0 leads.1 where
  leads_back : (w : Waiting) (f : LiveFact) → CanCome w f → (instance : Instance) (home : HomeNo) → LeadsTo w.layout w.starts (w.live ++ f ∷ []) instance home
      → Contains (premises_of instance) f.id → OpensTo (with_fact w f) instance home
  leads_back w f is instance home (specs.begins s has s_is home_is) names =
      let Has : Instance → Type 0 = λ i. Contains (premises_of i) f.id in
      let none = subst Has (sym s_is) names in
      absurd (omega (arith, none.1))
  leads_back w f is instance home (specs.continues series there turn home_is) names =
      let Has : Instance → Type 0 = λ i. Contains (premises_of i) f.id in
      let either = has_one_of w.layout series (turn_at turn.fact turn.step) f.id (subst Has (sym turn.instance_is) names) in
      let cursor = complete_with w f is series there in
      let Turn_of : Series → Type 0 = λ s. has_turn w.layout w.early s turn.fact turn.step ≡ true in
      let Is : Series → Type 0 = λ s. instance_of w.layout s (turn_at turn.fact turn.step) ≡ instance in
      let ahead : IsAhead w.layout w.early (w.live ++ f ∷ []) cursor.1 instance = record {
        fact = turn.fact;
        step = turn.step;
        is_live = turn.is_live;
        has_turn_there = subst Turn_of (sym cursor.3)
            (has_turn-from w.layout w.early series turn.fact turn.step turn.has_step_there (not_early_yet w f is series turn.fact turn.step either));
        instance_is = subst Is (sym cursor.3) turn.instance_is;
        not_passed = not_passed_yet w f is cursor.0 cursor.1 series turn.fact turn.step cursor.2 cursor.3 turn.is_live either;
      } in
      specs.continues cursor.0 cursor.1 cursor.2 ahead (ap (λ s. target_of w.layout s) cursor.3 ∙ home_is)

pub opens_with : (w : Waiting) (f : LiveFact) → CanCome w f → Opens w f (with_fact w f)
opens_with w f is = record {
  stays = record { layout = refl; starts = refl; room = refl };
  given = refl;
  live = refl;
  opens = λ instance home. (opens_forward w f is instance home, opens_back w f is instance home);
}

-- ---- nothing is live

append_nil : {X : Type 0} (xs : List X) → xs ++ [] ≡ xs
append_nil [] = refl
append_nil (x ∷ xs) = ap (λ ys. x ∷ ys) (append_nil xs)

two_pushes : {X : Type 0} (xs : List X) (a b : X) → xs ++ (a ∷ b ∷ []) ≡ (xs ++ a ∷ []) ++ b ∷ []
two_pushes [] a b = refl
two_pushes (x ∷ xs) a b = ap (λ ys. x ∷ ys) (two_pushes xs a b)

abbrev own_cursor : ℕ → Cursor
own_cursor edge = at_beginning (Own edge)

abbrev told_cursor : ℕ → Cursor
told_cursor edge = at_beginning (Told edge)

-- what the cursors of so many edges have
record AreOfEdges (n : ℕ) (cursors : List Cursor) : Type 0 where
  own : (edge : ℕ) → edge < n → HasCursor cursors (Own edge)
  told : (edge : ℕ) → edge < n → HasCursor cursors (Told edge)
  sound : (k : ℕ) (c : Cursor) → slice_get cursors k ≡ Some c → (edge : ℕ) × (edge < n) × ((c ≡ own_cursor edge) ⊎ (c ≡ told_cursor edge))
  distinct : AreDistinct cursors

has_more : (cursors : List Cursor) (a : Cursor) (s : Series) → HasCursor cursors s → HasCursor (cursors ++ a ∷ []) s
has_more cursors a s has = (has.0, has.1, push_before cursors a has.0 has.1 has.2, has.3)

has_new : (cursors : List Cursor) (a : Cursor) (s : Series) → a.series ≡ s → HasCursor (cursors ++ a ∷ []) s
has_new cursors a s same = (length cursors, a, push_at_end cursors a, same)

own_new : (n : ℕ) (cursors : List Cursor) → AreOfEdges n cursors → (k : ℕ) (d : Cursor) → slice_get cursors k ≡ Some d → Own n ≡ d.series → ⊥
own_new n cursors is k d at same =
    let from = is.sound k d at in
    let less = from.1 in
    elim from.2 [
      | inl own ↦ let series : Own n ≡ Own from.0 = same ∙ ap (λ (x : Cursor). x.series) own in let places : n ≡ from.0 = cc in omega (arith, places, less)
      | inr told ↦ let series : Own n ≡ Told from.0 = same ∙ ap (λ (x : Cursor). x.series) told in cc
    ]

told_new : (n : ℕ) (cursors : List Cursor) → AreOfEdges n cursors → (k : ℕ) (d : Cursor) → slice_get (cursors ++ own_cursor n ∷ []) k ≡ Some d → Told n ≡ d.series → ⊥
told_new n cursors is k d at same =
    elim (push_cases cursors (own_cursor n) k d at) [
      | inl old ↦
          let from = is.sound k d old in
          let less = from.1 in
          elim from.2 [
            | inl own ↦ let series : Told n ≡ Own from.0 = same ∙ ap (λ (x : Cursor). x.series) own in cc
            | inr told ↦ let series : Told n ≡ Told from.0 = same ∙ ap (λ (x : Cursor). x.series) told in let places : n ≡ from.0 = cc in omega (arith, places, less)
          ]
      | inr new ↦ let series : Told n ≡ Own n = same ∙ ap (λ (x : Cursor). x.series) (sym new.1) in cc
    ]

of_edges-more : (n : ℕ) (cursors : List Cursor) → AreOfEdges n cursors → AreOfEdges (suc n) ((cursors ++ own_cursor n ∷ []) ++ told_cursor n ∷ [])
of_edges-more n cursors is =
    let with_own : List Cursor = cursors ++ own_cursor n ∷ [] in
    record {
      own = λ edge lt. elim (cases_eq edge n) [
        | inl here ↦ has_more with_own (told_cursor n) (Own edge) (has_new cursors (own_cursor n) (Own edge) (ap (λ k. Own k) (sym here)))
        | inr before ↦ has_more with_own (told_cursor n) (Own edge) (has_more cursors (own_cursor n) (Own edge) (is.own edge (omega (arith, lt, before))))
      ];
      told = λ edge lt. elim (cases_eq edge n) [
        | inl here ↦ has_new with_own (told_cursor n) (Told edge) (ap (λ k. Told k) (sym here))
        | inr before ↦ has_more with_own (told_cursor n) (Told edge) (has_more cursors (own_cursor n) (Told edge) (is.told edge (omega (arith, lt, before))))
      ];
      sound = λ k c at. elim (push_cases with_own (told_cursor n) k c at) [
        | inl old ↦ elim (push_cases cursors (own_cursor n) k c old) [
          | inl older ↦ let from = is.sound k c older in let less = from.1 in (from.0, omega (arith, less), from.2)
          | inr own ↦ (n, omega arith, inl (sym own.1))
        ]
        | inr told ↦ (n, omega arith, inr (sym told.1))
      ];
      distinct = distinct_push with_own (told_cursor n) (distinct_push cursors (own_cursor n) is.distinct (own_new n cursors is)) (told_new n cursors is);
    }

of_edges : (n : ℕ) → AreOfEdges n (edge_cursors n)
of_edges zero = record { own = λ edge lt. absurd (omega (arith, lt)); told = λ edge lt. absurd (omega (arith, lt)); sound = λ k c at. cc; distinct = tt }
of_edges (suc n) =
    let Are : List Cursor → Type 0 = λ cursors. AreOfEdges (suc n) cursors in
    subst Are (sym (two_pushes (edge_cursors n) (own_cursor n) (told_cursor n))) (of_edges-more n (edge_cursors n) (of_edges n))

abbrev pub nothing_live : Layout → ℕ → List Start → Waiting
nothing_live layout facts starts = record {
  layout = layout;
  room = facts;
  given = 0;
  live = [];
  starts = starts;
  cursors = edge_cursors (length layout.edges);
  early = [];
}

complete_first : (layout : Layout) (series : Series) → IsSeries layout [] series → HasCursor (edge_cursors (length layout.edges)) series
complete_first layout (Own edge) is = (of_edges (length layout.edges)).own edge is
complete_first layout (Told edge) is = (of_edges (length layout.edges)).told edge is
complete_first layout (Beside home id) is = absurd (omega (arith, is.1.1))

sound_first : (layout : Layout) (k : ℕ) (c : Cursor) → slice_get (edge_cursors (length layout.edges)) k ≡ Some c → IsSeries layout [] c.series
sound_first layout k c at =
    let from = (of_edges (length layout.edges)).sound k c at in
    let Is : Cursor → Type 0 = λ x. IsSeries layout [] x.series in
    elim from.2 [ inl own ↦ subst Is (sym own) from.1 | inr told ↦ subst Is (sym told) from.1 ]

pub kept_first : (layout : Layout) (facts : ℕ) (starts : List Start) → AreApart layout.edges → AreKept (nothing_live layout facts starts)
kept_first layout facts starts apart = record {
  apart = apart;
  ids_rise = tt;
  ids_given = λ f has. absurd (omega (arith, has.1));
  complete = complete_first layout;
  sound = sound_first layout;
  distinct = (of_edges (length layout.edges)).distinct;
  shape = sym (append_nil (map (λ (c : Cursor). c.series) (edge_cursors (length layout.edges))));
  passed = λ k c at.
      let from = (of_edges (length layout.edges)).sound k c at in
      elim from.2 [
        | inl own ↦ let same = ap (λ (x : Cursor). x.passed.id.0) own in omega (arith, same)
        | inr told ↦ let same = ap (λ (x : Cursor). x.passed.id.0) told in omega (arith, same)
      ];
  early = λ each has. absurd (omega (arith, has.1));
}

first_forward : (layout : Layout) (facts : ℕ) (starts : List Start) (instance : Instance) (home : HomeNo) → OpensTo (nothing_live layout facts starts) instance home → LeadsTo layout starts [] instance home
first_forward layout facts starts instance home (specs.begins s has not_taken s_is home_is) = specs.begins s has s_is home_is
first_forward layout facts starts instance home (specs.continues n c at ahead home_is) = absurd (omega (arith, ahead.is_live.1))

first_back : (layout : Layout) (facts : ℕ) (starts : List Start) (instance : Instance) (home : HomeNo) → ((s : Start) → Contains starts s → s.taken ≡ false)
    → LeadsTo layout starts [] instance home → OpensTo (nothing_live layout facts starts) instance home
first_back layout facts starts instance home none (specs.begins s has s_is home_is) = specs.begins s has (none s has) s_is home_is
first_back layout facts starts instance home none (specs.continues series is turn home_is) = absurd (omega (arith, turn.is_live.1))

pub begins_first : (layout : Layout) (facts : ℕ) (starts : List Start) → ((s : Start) → Contains starts s → s.taken ≡ false) → Begins layout starts facts (nothing_live layout facts starts)
begins_first layout facts starts none = record {
  layout_is = refl;
  starts_are = refl;
  room = refl;
  given = refl;
  live = refl;
  opens = λ instance home. (first_forward layout facts starts instance home, first_back layout facts starts instance home none);
}
