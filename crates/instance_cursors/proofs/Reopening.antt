-- What is open where facts went, and homes changed.
use Rattle.std.proofs.Common.{◌≡◌, ℕ, zero, suc, ◌<◌, ◌≤◌, ◌⊎◌, inl, inr, eqb, eq-eqb, Bool, true, false, cond, List, [], ◌∷◌, ◌++◌, length, map, Some, refl, ap, sym, ◌∙◌, subst, arith}
use Rattle.std.proofs.lemmas.Bool.{cases_Bool, eqb-true, false_from_ne_true, not-true, not_from_false}
use Rattle.std.proofs.lemmas.List.Folds.{Any-from_list_any, list_any-from_Any}
use Rattle.std.specs.List.{Contains, filter, slice_get}
use Rattle.thr_base.specs.Held.{Rise}
use Rattle.thr_base.specs.declared.names.FactId.{FactId}
use Rattle.thr_base.specs.declared.names.HomeNo.{HomeNo}
use Rattle.thr_base.specs.declared.names.Instance.{Instance}
use Rattle.thr_base.specs.declared.names.Instance.TheVariants.{Init}
use Rattle.fact_table.specs.declared.live_fact.LiveFact.{LiveFact}
use Rattle.instance_cursors.specs.declared.early.Early.{Early}
use Rattle.instance_cursors.specs.declared.start.Start.{Start}
use Rattle.instance_cursors.specs.declared.turns.Cursor.{Cursor}
use Rattle.instance_cursors.specs.declared.turns.Series.{Series}
use Rattle.instance_cursors.specs.declared.turns.Series.TheVariants.{Own, Told, Beside}
use Rattle.instance_cursors.specs.Instances.{instance_of}
use Rattle.instance_cursors.specs.Layout.{target_of}
use Rattle.instance_cursors.specs.Ways.{Layout}
use Rattle.instance_cursors.specs.Cursors.{AreKept, HasCursor, all_series, at_beginning, cursor_back, edge_cursors, fact_series, is_among, is_live, is_of_live, leads_to, series_is_of_live, start_back, stays_early}
use Rattle.instance_cursors.specs.Turns.{IsPassed, beginning, has_turn, is_early, is_turn, turn_at}
use Rattle.instance_cursors.specs.Waiting as specs
use Rattle.instance_cursors.specs.Waiting.{IsAhead, IsSeries, IsTurn, LeadsTo, OpensTo, Reopens, Waiting, untaken}
use Rattle.instance_cursors.proofs.Coming.{not_at_beginning, positive}
use Rattle.instance_cursors.proofs.Members.{contains_filter, contains_from_filter, contains_from_map, contains_map, contains_place, distinct_filter, distinct_same, place_of}
use Rattle.instance_cursors.proofs.SameTurns.{TwoTurns, never_begins, same_fact, turns_alike}
use Rattle.instance_cursors.proofs.Taken.{has_step-of, has_turn-from, not_early-of}
use Rattle.instance_cursors.proofs.TakenEarly.{is_turn-true}

abbrev pub back : Waiting → List LiveFact → List HomeNo → Waiting
back w left homes = record w {
  live = left;
  starts = map (start_back homes) w.starts;
  cursors = map (cursor_back w.layout homes) (filter (is_of_live left) w.cursors);
  early = filter (stays_early w.layout homes) w.early;
}

pub record AreLeft (w : Waiting) (left : List LiveFact) : Type 0 where
  pub kept : AreKept w
  pub within : (f : LiveFact) → Contains left f → Contains w.live f
  pub shape : all_series (length w.layout.edges) left ≡ filter (series_is_of_live left) (all_series (length w.layout.edges) w.live)
  pub rise : Rise 0 (map (λ f. f.id.0) left)

-- ---- filters keep the order

rise_lower : (low high : ℕ) (ks : List ℕ) → low ≤ high → Rise high ks → Rise low ks
rise_lower low high [] le rise = tt
rise_lower low high (k ∷ ks) le rise = let less = rise.0 in (omega (arith, le, less), rise.1)

cond_rise : (b : Bool) (last : ℕ) (f : LiveFact) (rest : List LiveFact) → last < f.id.0 → Rise f.id.0 (map (λ g. g.id.0) rest) → Rise last (map (λ (g : LiveFact). g.id.0) (cond b (f ∷ rest) rest))
cond_rise true last f rest less rise = (less, rise)
cond_rise false last f rest less rise = rise_lower last f.id.0 (map (λ (g : LiveFact). g.id.0) rest) (omega (arith, less)) rise

rise_filter : (keep : LiveFact → Bool) (last : ℕ) (live : List LiveFact) → Rise last (map (λ f. f.id.0) live) → Rise last (map (λ (f : LiveFact). f.id.0) (filter keep live))
rise_filter keep last [] rise = tt
rise_filter keep last (f ∷ live) rise = cond_rise (keep f) last f (filter keep live) rise.0 (rise_filter keep f.id.0 live rise.1)

-- ---- the series of what is left

cond_map : {X Y : Type 0} (give : X → Y) (b : Bool) (x : X) (xs : List X) → map give (cond b (x ∷ xs) xs) ≡ cond b (give x ∷ map give xs) (map give xs)
cond_map give true x xs = refl
cond_map give false x xs = refl

filter_map : {X Y : Type 0} (give : X → Y) (test : Y → Bool) (xs : List X) → filter test (map give xs) ≡ map give (filter (λ x. test (give x)) xs)
filter_map give test [] = refl
filter_map give test (x ∷ xs) =
    ap (λ ys. cond (test (give x)) (give x ∷ ys) ys) (filter_map give test xs) ∙ sym (cond_map give (test (give x)) x (filter (λ y. test (give y)) xs))

cond_append : {X : Type 0} (b : Bool) (x : X) (xs ys : List X) → cond b (x ∷ xs) xs ++ ys ≡ cond b (x ∷ (xs ++ ys)) (xs ++ ys)
cond_append true x xs ys = refl
cond_append false x xs ys = refl

filter_append : {X : Type 0} (test : X → Bool) (xs ys : List X) → filter test (xs ++ ys) ≡ filter test xs ++ filter test ys
filter_append test [] ys = refl
filter_append test (x ∷ xs) ys =
    ap (λ zs. cond (test x) (x ∷ zs) zs) (filter_append test xs ys) ∙ sym (cond_append (test x) x (filter test xs) (filter test ys))

filter_alike : {X : Type 0} (one other : X → Bool) (xs : List X) → ((x : X) → Contains xs x → one x ≡ other x) → filter one xs ≡ filter other xs
filter_alike one other [] same = refl
filter_alike one other (x ∷ xs) same =
    ap (λ (b : Bool). cond b (x ∷ filter one xs) (filter one xs)) (same x (0, omega arith, refl))
    ∙ ap (λ ys. cond (other x) (x ∷ ys) ys) (filter_alike one other xs (λ y has. same y (suc has.0, omega (arith, has.1), has.2)))

edges_stay : (left : List LiveFact) (n : ℕ) → filter (series_is_of_live left) (map (λ (c : Cursor). c.series) (edge_cursors n)) ≡ map (λ (c : Cursor). c.series) (edge_cursors n)
edges_stay left zero = refl
edges_stay left (suc n) =
    let two : List Cursor = at_beginning (Own n) ∷ at_beginning (Told n) ∷ [] in
    ap (filter (series_is_of_live left)) (map_both (edge_cursors n) two)
    ∙ (filter_append (series_is_of_live left) (map (λ (c : Cursor). c.series) (edge_cursors n)) (map (λ (c : Cursor). c.series) two)
    ∙ (ap (λ (xs : List Series). xs ++ map (λ (c : Cursor). c.series) two) (edges_stay left n) ∙ sym (map_both (edge_cursors n) two))) where
      map_both : (xs ys : List Cursor) → map (λ (c : Cursor). c.series) (xs ++ ys) ≡ map (λ (c : Cursor). c.series) xs ++ map (λ (c : Cursor). c.series) ys
      map_both [] ys = refl
      map_both (x ∷ xs) ys = ap (λ (s : List Series). x.series ∷ s) (map_both xs ys)

live_is_kept : (w : Waiting) (keep : LiveFact → Bool) → AreKept w → (f : LiveFact) → Contains w.live f → keep f ≡ is_live (filter keep w.live) f.id
live_is_kept w keep kept f has =
    elim (cases_Bool (keep f)) [
      | inl stays ↦
          let there = contains_filter keep w.live f has stays in
          stays ∙ sym (list_any-from_Any (λ g. eqb g.id.0 f.id.0) (filter keep w.live) (there.0, f, there.1, there.2, eq-eqb f.id.0 f.id.0 refl))
      | inr goes ↦
          goes ∙ sym (false_from_ne_true (is_live (filter keep w.live) f.id) (λ live.
          let any = Any-from_list_any (λ (g : LiveFact). eqb g.id.0 f.id.0) (filter keep w.live) live in
          let from = contains_from_filter keep w.live any.1 (any.0, any.2, any.3) in
          let same = same_fact w.live any.1 f kept.ids_rise from.0 has (eqb-true any.1.id.0 f.id.0 any.4) in
          let both : true ≡ false = sym from.1 ∙ (ap keep same ∙ goes) in
          cc))
    ]

shape_left : (w : Waiting) (keep : LiveFact → Bool) → AreKept w
    → all_series (length w.layout.edges) (filter keep w.live) ≡ filter (series_is_of_live (filter keep w.live)) (all_series (length w.layout.edges) w.live)
shape_left w keep kept =
    let left : List LiveFact = filter keep w.live in
    let edges : List Series = map (λ (c : Cursor). c.series) (edge_cursors (length w.layout.edges)) in
    sym (filter_append (series_is_of_live left) edges (map fact_series w.live)
    ∙ (ap (λ (xs : List Series). xs ++ filter (series_is_of_live left) (map fact_series w.live)) (edges_stay left (length w.layout.edges))
    ∙ ap (λ (xs : List Series). edges ++ xs) (filter_map fact_series (series_is_of_live left) w.live
    ∙ ap (map fact_series) (sym (filter_alike keep (λ (f : LiveFact). is_live left f.id) w.live (live_is_kept w keep kept))))))

pub left_of : (w : Waiting) (keep : LiveFact → Bool) → AreKept w → AreLeft w (filter keep w.live)
left_of w keep kept = record {
  kept = kept;
  within = λ f has. (contains_from_filter keep w.live f has).0;
  shape = shape_left w keep kept;
  rise = rise_filter keep 0 w.live kept.ids_rise;
}

-- ---- a cursor that was set back, or not

cond_series : (b : Bool) (c : Cursor) → (cond b (at_beginning c.series) c).series ≡ c.series
cond_series true c = refl
cond_series false c = refl

series-back : (layout : Layout) (homes : List HomeNo) (c : Cursor) → (cursor_back layout homes c).series ≡ c.series
series-back layout homes c = cond_series (leads_to layout homes c.series) c

map_series : (layout : Layout) (homes : List HomeNo) (cursors : List Cursor) → map (λ (c : Cursor). c.series) (map (cursor_back layout homes) cursors) ≡ map (λ (c : Cursor). c.series) cursors
map_series layout homes [] = refl
map_series layout homes (c ∷ cursors) =
    ap (λ (s : Series). s ∷ map (λ (x : Cursor). x.series) (map (cursor_back layout homes) cursors)) (series-back layout homes c)
    ∙ ap (λ (s : List Series). c.series ∷ s) (map_series layout homes cursors)

cond_true : (b : Bool) (c : Cursor) → b ≡ true → cond b (at_beginning c.series) c ≡ at_beginning c.series
cond_true true c is = refl
cond_true false c is = cc

cond_false : (b : Bool) (c : Cursor) → b ≡ false → cond b (at_beginning c.series) c ≡ c
cond_false true c is = cc
cond_false false c is = refl

-- where a cursor of the list came from
record From (w : Waiting) (left : List LiveFact) (homes : List HomeNo) (c : Cursor) : Type 0 where
  old : Cursor
  place : ℕ
  old_at : slice_get w.cursors place ≡ Some old
  of_live : is_of_live left old ≡ true
  back_is : cursor_back w.layout homes old ≡ c
  series_is : old.series ≡ c.series

from_old : (w : Waiting) (left : List LiveFact) (homes : List HomeNo) (n : ℕ) (c : Cursor) → slice_get (map (cursor_back w.layout homes) (filter (is_of_live left) w.cursors)) n ≡ Some c → From w left homes c
from_old w left homes n c at =
    let has = contains_place (map (cursor_back w.layout homes) (filter (is_of_live left) w.cursors)) n c at in
    let from = contains_from_map (cursor_back w.layout homes) (filter (is_of_live left) w.cursors) c has in
    let kept = contains_from_filter (is_of_live left) w.cursors from.0 from.1 in
    let place = place_of w.cursors from.0 kept.0 in
    record {
      old = from.0;
      place = place.0;
      old_at = place.1;
      of_live = kept.1;
      back_is = from.2;
      series_is = sym (series-back w.layout homes from.0) ∙ ap (λ (x : Cursor). x.series) from.2;
    }

-- ---- what is kept

less_series : (w : Waiting) (left : List LiveFact) → AreLeft w left → (series : Series) → IsSeries w.layout left series → IsSeries w.layout w.live series
less_series w left is (Own edge) has = has
less_series w left is (Told edge) has = has
less_series w left is (Beside home id) has = (has.0, is.within has.0 has.1, has.2, has.3)

live_of : (layout : Layout) (left : List LiveFact) (series : Series) → IsSeries layout left series → series_is_of_live left series ≡ true
live_of layout left (Own edge) has = refl
live_of layout left (Told edge) has = refl
live_of layout left (Beside home id) has =
    let same = ap (λ (x : FactId). x.0) has.3 in
    list_any-from_Any (λ f. eqb f.id.0 id.0) left (has.1.0, has.0, has.1.1, has.1.2, eq-eqb has.0.id.0 id.0 same)

series_left : (w : Waiting) (left : List LiveFact) → AreLeft w left → (series : Series) → IsSeries w.layout w.live series → series_is_of_live left series ≡ true → IsSeries w.layout left series
series_left w left is (Own edge) has live = has
series_left w left is (Told edge) has live = has
series_left w left is (Beside home id) has live =
    let any = Any-from_list_any (λ (f : LiveFact). eqb f.id.0 id.0) left live in
    let there : Contains left any.1 = (any.0, any.2, any.3) in
    let ids = eqb-true any.1.id.0 id.0 any.4 ∙ ap (λ (x : FactId). x.0) (sym has.3) in
    let same = same_fact w.live any.1 has.0 is.kept.ids_rise (is.within any.1 there) has.1 ids in
    (any.1, there, ap (λ (x : LiveFact). x.fact.home) same ∙ has.2, ap (λ (x : LiveFact). x.id) same ∙ has.3)

complete_back : (w : Waiting) (left : List LiveFact) (homes : List HomeNo) → AreLeft w left → (series : Series) → IsSeries w.layout left series
    → HasCursor (map (cursor_back w.layout homes) (filter (is_of_live left) w.cursors)) series
complete_back w left homes is series has =
    let old = is.kept.complete series (less_series w left is series has) in
    let there = contains_place w.cursors old.0 old.1 old.2 in
    let live : is_of_live left old.1 ≡ true = ap (λ s. series_is_of_live left s) old.3 ∙ live_of w.layout left series has in
    let kept = contains_filter (is_of_live left) w.cursors old.1 there live in
    let place = place_of (map (cursor_back w.layout homes) (filter (is_of_live left) w.cursors)) (cursor_back w.layout homes old.1)
    (contains_map (cursor_back w.layout homes) (filter (is_of_live left) w.cursors) old.1 kept) in
    (place.0, cursor_back w.layout homes old.1, place.1, series-back w.layout homes old.1 ∙ old.3)

sound_back : (w : Waiting) (left : List LiveFact) (homes : List HomeNo) → AreLeft w left → (n : ℕ) (c : Cursor)
    → slice_get (map (cursor_back w.layout homes) (filter (is_of_live left) w.cursors)) n ≡ Some c → IsSeries w.layout left c.series
sound_back w left homes is n c at =
    let from = from_old w left homes n c at in
    let Is : Series → Type 0 = λ s. IsSeries w.layout left s in
    subst Is from.series_is (series_left w left is from.old.series (is.kept.sound from.place from.old from.old_at) from.of_live)

-- a cursor that was set back is at its beginning; another is the old one
record SetBack (layout : Layout) (homes : List HomeNo) (old c : Cursor) : Type 0 where
  leads : leads_to layout homes c.series ≡ true
  at_start : c.passed ≡ beginning

record LeftAlone (layout : Layout) (homes : List HomeNo) (old c : Cursor) : Type 0 where
  leads : leads_to layout homes c.series ≡ false
  same : old ≡ c

back_or_not : (w : Waiting) (left : List LiveFact) (homes : List HomeNo) (c : Cursor) → (from : From w left homes c) → SetBack w.layout homes from.old c ⊎ LeftAlone w.layout homes from.old c
back_or_not w left homes c from =
    elim (cases_Bool (leads_to w.layout homes from.old.series)) [
      | inl leads ↦ inl (record {
        leads = ap (λ s. leads_to w.layout homes s) (sym from.series_is) ∙ leads;
        at_start = ap (λ (x : Cursor). x.passed) (sym from.back_is ∙ cond_true (leads_to w.layout homes from.old.series) from.old leads);
      })
      | inr leads ↦ inr (record {
        leads = ap (λ s. leads_to w.layout homes s) (sym from.series_is) ∙ leads;
        same = sym (cond_false (leads_to w.layout homes from.old.series) from.old leads) ∙ from.back_is;
      })
    ]

pub kept_back : (w : Waiting) (left : List LiveFact) (homes : List HomeNo) → AreLeft w left → AreKept (back w left homes)
kept_back w left homes is =
    let kept = is.kept in
    record {
      apart = kept.apart;
      ids_rise = is.rise;
      ids_given = λ f has. kept.ids_given f (is.within f has);
      complete = complete_back w left homes is;
      sound = sound_back w left homes is;
      distinct = distinct_same (filter (is_of_live left) w.cursors) (map (cursor_back w.layout homes) (filter (is_of_live left) w.cursors))
          (sym (map_series w.layout homes (filter (is_of_live left) w.cursors))) (distinct_filter (is_of_live left) w.cursors kept.distinct);
      shape = map_series w.layout homes (filter (is_of_live left) w.cursors)
          ∙ (sym (filter_map (λ (c : Cursor). c.series) (series_is_of_live left) w.cursors) ∙ (ap (filter (series_is_of_live left)) kept.shape ∙ sym is.shape));
      passed = λ n c at.
          let from = from_old w left homes n c at in
          elim (back_or_not w left homes c from) [
            | inl set ↦ let same = ap (λ (t : _). t.id.0) set.at_start in omega (arith, same)
            | inr alone ↦ let le = kept.passed from.place from.old from.old_at in let same = ap (λ (x : Cursor). x.passed.id.0) alone.same in omega (arith, le, same)
          ];
      early = λ each has. kept.early each (contains_from_filter (stays_early w.layout homes) w.early each has).0;
    }

-- ---- turns taken early

early_any : (early : List Early) (series : Series) (turn : _) (each : Early) → Contains early each → is_turn series turn each ≡ true → is_early early series turn ≡ true
early_any early series turn each has is = list_any-from_Any (is_turn series turn) early (has.0, each, has.1, has.2, is)

-- none is left that leads to these homes
early_gone : (layout : Layout) (homes : List HomeNo) (early : List Early) (series : Series) (turn : _) → leads_to layout homes series ≡ true
    → is_early (filter (stays_early layout homes) early) series turn ≡ false
early_gone layout homes early series turn leads =
    false_from_ne_true (is_early (filter (stays_early layout homes) early) series turn) (λ is.
    let any = Any-from_list_any (is_turn series turn) (filter (stays_early layout homes) early) is in
    let kept = contains_from_filter (stays_early layout homes) early any.1 (any.0, any.2, any.3) in
    let same = is_turn-true series turn any.1 any.4 in
    let not_leads = not-true (leads_to layout homes any.1.series) kept.1 in
    let both : true ≡ false = sym leads ∙ (ap (λ s. leads_to layout homes s) (sym same.0) ∙ not_leads) in
    cc)

-- the others are as before
early_less : (layout : Layout) (homes : List HomeNo) (early : List Early) (series : Series) (turn : _) → is_early early series turn ≡ false
    → is_early (filter (stays_early layout homes) early) series turn ≡ false
early_less layout homes early series turn none =
    false_from_ne_true (is_early (filter (stays_early layout homes) early) series turn) (λ is.
    let any = Any-from_list_any (is_turn series turn) (filter (stays_early layout homes) early) is in
    let kept = contains_from_filter (stays_early layout homes) early any.1 (any.0, any.2, any.3) in
    let there = early_any early series turn any.1 kept.0 any.4 in
    let both : true ≡ false = sym there ∙ none in
    cc)

early_still : (layout : Layout) (homes : List HomeNo) (early : List Early) (series : Series) (turn : _) → leads_to layout homes series ≡ false
    → is_early (filter (stays_early layout homes) early) series turn ≡ false → is_early early series turn ≡ false
early_still layout homes early series turn leads none =
    false_from_ne_true (is_early early series turn) (λ is.
    let any = Any-from_list_any (is_turn series turn) early is in
    let same = is_turn-true series turn any.1 any.4 in
    let stays : stays_early layout homes any.1 ≡ true = not_from_false (leads_to layout homes any.1.series) (ap (λ s. leads_to layout homes s) same.0 ∙ leads) in
    let kept = contains_filter (stays_early layout homes) early any.1 (any.0, any.2, any.3) stays in
    let there = early_any (filter (stays_early layout homes) early) series turn any.1 kept any.4 in
    let both : true ≡ false = sym there ∙ none in
    cc)

-- ---- starts

cond_start : (b : Bool) (s : Start) → untaken (cond b (record s { taken = false }) s) ≡ untaken s
cond_start true s = refl
cond_start false s = refl

starts_same : (homes : List HomeNo) (starts : List Start) → map untaken (map (start_back homes) starts) ≡ map untaken starts
starts_same homes [] = refl
starts_same homes (s ∷ starts) =
    ap (λ (x : Start). x ∷ map untaken (map (start_back homes) starts)) (cond_start (is_among homes s.home) s) ∙ ap (λ (xs : List Start). untaken s ∷ xs) (starts_same homes starts)

cond_home : (b : Bool) (s : Start) → (cond b (record s { taken = false }) s).home ≡ s.home
cond_home true s = refl
cond_home false s = refl

cond_thread : (b : Bool) (s : Start) → (cond b (record s { taken = false }) s).thread ≡ s.thread
cond_thread true s = refl
cond_thread false s = refl

cond_open : (b : Bool) (s : Start) → b ≡ true → (cond b (record s { taken = false }) s).taken ≡ false
cond_open true s is = refl
cond_open false s is = cc

cond_stays : (b : Bool) (s : Start) → s.taken ≡ false → (cond b (record s { taken = false }) s).taken ≡ false
cond_stays true s is = refl
cond_stays false s is = is

cond_alone : (b : Bool) (s : Start) → b ≡ false → cond b (record s { taken = false }) s ≡ s
cond_alone true s is = cc
cond_alone false s is = refl

-- ---- open

abbrev Either : Waiting → List HomeNo → Instance → HomeNo → Type 0
Either w homes instance home = OpensTo w instance home ⊎ (is_among homes home ≡ true)

abbrev Leads : Waiting → List LiveFact → List HomeNo → Instance → HomeNo → Type 0
Leads w left homes instance home = LeadsTo w.layout (map (start_back homes) w.starts) left instance home

start_forward : (w : Waiting) (left : List LiveFact) (homes : List HomeNo) (instance : Instance) (home : HomeNo) (s : Start) → Contains (map (start_back homes) w.starts) s → s.taken ≡ false
    → Init s.thread ≡ instance → s.home ≡ home → Either w homes instance home
start_forward w left homes instance home s has not_taken s_is home_is =
    let from = contains_from_map (start_back homes) w.starts s has in
    let old_home : from.0.home ≡ s.home = sym (cond_home (is_among homes from.0.home) from.0) ∙ ap (λ (x : Start). x.home) from.2 in
    elim (cases_Bool (is_among homes from.0.home)) [
      | inl among ↦ inr (ap (λ h. is_among homes h) (sym (old_home ∙ home_is)) ∙ among)
      | inr not_among ↦
          let same : from.0 ≡ s = sym (cond_alone (is_among homes from.0.home) from.0 not_among) ∙ from.2 in
          let Has : Start → Type 0 = λ x. Contains w.starts x in
          inl (specs.begins s (subst Has same from.1) not_taken s_is home_is)
    ]

cursor_forward : (w : Waiting) (left : List LiveFact) (homes : List HomeNo) → AreLeft w left → (instance : Instance) (home : HomeNo) (n : ℕ) (c : Cursor)
    → slice_get (map (cursor_back w.layout homes) (filter (is_of_live left) w.cursors)) n ≡ Some c
    → IsAhead w.layout (filter (stays_early w.layout homes) w.early) left c instance → target_of w.layout c.series ≡ home → Either w homes instance home
cursor_forward w left homes is instance home n c at ahead home_is =
    let from = from_old w left homes n c at in
    elim (back_or_not w left homes c from) [
      | inl set ↦ inr (ap (λ h. is_among homes h) (sym home_is) ∙ set.leads)
      | inr alone ↦
          let there : IsAhead w.layout w.early w.live c instance = record {
            fact = ahead.fact;
            step = ahead.step;
            is_live = is.within ahead.fact ahead.is_live;
            has_turn_there = has_turn-from w.layout w.early c.series ahead.fact ahead.step
                (has_step-of w.layout (filter (stays_early w.layout homes) w.early) c.series ahead.fact ahead.step ahead.has_turn_there)
                (early_still w.layout homes w.early c.series (turn_at ahead.fact ahead.step) alone.leads
                (not_early-of w.layout (filter (stays_early w.layout homes) w.early) c.series ahead.fact ahead.step ahead.has_turn_there));
            instance_is = ahead.instance_is;
            not_passed = ahead.not_passed;
          } in
          inl (specs.continues from.place c (from.old_at ∙ ap (λ x. Some x) alone.same) there home_is)
    ]

opens_forward : (w : Waiting) (left : List LiveFact) (homes : List HomeNo) → AreLeft w left → (instance : Instance) (home : HomeNo) → OpensTo (back w left homes) instance home
    → Leads w left homes instance home × Either w homes instance home
opens_forward w left homes is instance home (specs.begins s has not_taken s_is home_is) =
    (specs.begins s has s_is home_is, start_forward w left homes instance home s has not_taken s_is home_is)
opens_forward w left homes is instance home (specs.continues n c at ahead home_is) =
    let turn : IsTurn w.layout left c.series instance = record {
      fact = ahead.fact;
      step = ahead.step;
      is_live = ahead.is_live;
      has_step_there = has_step-of w.layout (filter (stays_early w.layout homes) w.early) c.series ahead.fact ahead.step ahead.has_turn_there;
      instance_is = ahead.instance_is;
    } in
    (specs.continues c.series (sound_back w left homes is n c at) turn home_is, cursor_forward w left homes is instance home n c at ahead home_is)

-- what leads and is of a home that changed is open
among_back : (w : Waiting) (left : List LiveFact) (homes : List HomeNo) → AreLeft w left → (instance : Instance) (home : HomeNo) → Leads w left homes instance home → is_among homes home ≡ true
    → OpensTo (back w left homes) instance home
among_back w left homes is instance home (specs.begins s has s_is home_is) among =
    let from = contains_from_map (start_back homes) w.starts s has in
    let old_home : from.0.home ≡ home = sym (cond_home (is_among homes from.0.home) from.0) ∙ (ap (λ (x : Start). x.home) from.2 ∙ home_is) in
    let here : is_among homes from.0.home ≡ true = ap (λ h. is_among homes h) old_home ∙ among in
    let not_taken : s.taken ≡ false = ap (λ (x : Start). x.taken) (sym from.2) ∙ cond_open (is_among homes from.0.home) from.0 here in
    specs.begins s has not_taken s_is home_is
among_back w left homes is instance home (specs.continues series there turn home_is) among =
    let cursor = complete_back w left homes is series there in
    let from = from_old w left homes cursor.0 cursor.1 cursor.2 in
    let leads : leads_to w.layout homes series ≡ true = ap (λ h. is_among homes h) home_is ∙ among in
    let Turn_of : Series → Type 0 = λ s. has_turn w.layout (filter (stays_early w.layout homes) w.early) s turn.fact turn.step ≡ true in
    let Is : Series → Type 0 = λ s. instance_of w.layout s (turn_at turn.fact turn.step) ≡ instance in
    let start : cursor.1.passed ≡ beginning = elim (back_or_not w left homes cursor.1 from) [
      | inl set ↦ set.at_start
      | inr alone ↦ let both : true ≡ false = sym leads ∙ (ap (λ s. leads_to w.layout homes s) (sym cursor.3) ∙ alone.leads) in cc
    ] in
    let Passed : _ → Type 0 = λ t. IsPassed t turn.fact.id.0 turn.step in
    let ahead : IsAhead w.layout (filter (stays_early w.layout homes) w.early) left cursor.1 instance = record {
      fact = turn.fact;
      step = turn.step;
      is_live = turn.is_live;
      has_turn_there = subst Turn_of (sym cursor.3)
          (has_turn-from w.layout (filter (stays_early w.layout homes) w.early) series turn.fact turn.step turn.has_step_there (early_gone w.layout homes w.early series (turn_at turn.fact turn.step) leads));
      instance_is = subst Is (sym cursor.3) turn.instance_is;
      not_passed = λ passed. not_at_beginning turn.fact.id.0 turn.step (positive left turn.fact is.rise turn.is_live) (subst Passed start passed);
    } in
    specs.continues cursor.0 cursor.1 cursor.2 ahead (ap (λ s. target_of w.layout s) cursor.3 ∙ home_is)

-- a cursor that stays has what was ahead of it
ahead_back : (w : Waiting) (left : List LiveFact) (homes : List HomeNo) → AreLeft w left → (instance : Instance) (n : ℕ) (c : Cursor) → slice_get w.cursors n ≡ Some c
    → (ahead : IsAhead w.layout w.early w.live c instance) → Contains left ahead.fact → IsAhead w.layout (filter (stays_early w.layout homes) w.early) left (cursor_back w.layout homes c) instance
ahead_back w left homes is instance n c at ahead there =
    let early : List Early = filter (stays_early w.layout homes) w.early in
    let has : has_turn w.layout early c.series ahead.fact ahead.step ≡ true =
    has_turn-from w.layout early c.series ahead.fact ahead.step (has_step-of w.layout w.early c.series ahead.fact ahead.step ahead.has_turn_there)
    (early_less w.layout homes w.early c.series (turn_at ahead.fact ahead.step) (not_early-of w.layout w.early c.series ahead.fact ahead.step ahead.has_turn_there)) in
    let Turn_of : Series → Type 0 = λ s. has_turn w.layout early s ahead.fact ahead.step ≡ true in
    let Is : Series → Type 0 = λ s. instance_of w.layout s (turn_at ahead.fact ahead.step) ≡ instance in
    let Passed : Cursor → Type 0 = λ x. IsPassed x.passed ahead.fact.id.0 ahead.step in
    record {
      fact = ahead.fact;
      step = ahead.step;
      is_live = there;
      has_turn_there = subst Turn_of (sym (series-back w.layout homes c)) has;
      instance_is = subst Is (sym (series-back w.layout homes c)) ahead.instance_is;
      not_passed = λ passed. elim (cases_Bool (leads_to w.layout homes c.series)) [
        | inl leads ↦ not_at_beginning ahead.fact.id.0 ahead.step (positive left ahead.fact is.rise there) (subst Passed (cond_true (leads_to w.layout homes c.series) c leads) passed)
        | inr leads ↦ ahead.not_passed (subst Passed (cond_false (leads_to w.layout homes c.series) c leads) passed)
      ];
    }

-- the turn ahead of a cursor is the one by which the instance leads
alike : (w : Waiting) (left : List LiveFact) → AreLeft w left → (instance : Instance) (n : ℕ) (c : Cursor) → slice_get w.cursors n ≡ Some c → (ahead : IsAhead w.layout w.early w.live c instance)
    → (series : Series) → IsSeries w.layout left series → (turn : IsTurn w.layout left series instance) → (c.series ≡ series) × (ahead.fact ≡ turn.fact)
alike w left is instance n c at ahead series there turn =
    let two : TwoTurns w.layout w.live c.series series ahead.fact turn.fact ahead.step turn.step = record {
      apart = is.kept.apart;
      rise = is.kept.ids_rise;
      one_is = is.kept.sound n c at;
      two_is = less_series w left is series there;
      f_live = ahead.is_live;
      g_live = is.within turn.fact turn.is_live;
      f_has = has_step-of w.layout w.early c.series ahead.fact ahead.step ahead.has_turn_there;
      g_has = turn.has_step_there;
      same = ahead.instance_is ∙ sym turn.instance_is;
    } in
    let same = turns_alike w.layout w.live c.series series ahead.fact turn.fact ahead.step turn.step two in
    (same.0, same.1)

-- what leads and was open is open
open_back : (w : Waiting) (left : List LiveFact) (homes : List HomeNo) → AreLeft w left → (instance : Instance) (home : HomeNo) → Leads w left homes instance home → OpensTo w instance home
    → OpensTo (back w left homes) instance home
open_back w left homes is instance home leads (specs.begins s has not_taken s_is home_is) =
    specs.begins (start_back homes s) (contains_map (start_back homes) w.starts s has) (cond_stays (is_among homes s.home) s not_taken)
    (ap (λ t. Init t) (cond_thread (is_among homes s.home) s) ∙ s_is) (cond_home (is_among homes s.home) s ∙ home_is)
open_back w left homes is instance home (specs.begins t has t_is h_is) (specs.continues n c at ahead home_is) =
    absurd (never_begins w.layout c.series (turn_at ahead.fact ahead.step) t.thread (t_is ∙ sym ahead.instance_is))
open_back w left homes is instance home (specs.continues series there turn h_is) (specs.continues n c at ahead home_is) =
    let same = alike w left is instance n c at ahead series there turn in
    let In : LiveFact → Type 0 = λ f. Contains left f in
    let live : is_of_live left c ≡ true = ap (λ s. series_is_of_live left s) same.0 ∙ live_of w.layout left series there in
    let kept = contains_filter (is_of_live left) w.cursors c (contains_place w.cursors n c at) live in
    let place = place_of (map (cursor_back w.layout homes) (filter (is_of_live left) w.cursors)) (cursor_back w.layout homes c)
    (contains_map (cursor_back w.layout homes) (filter (is_of_live left) w.cursors) c kept) in
    specs.continues place.0 (cursor_back w.layout homes c) place.1 (ahead_back w left homes is instance n c at ahead (subst In (sym same.1) turn.is_live))
    (ap (λ s. target_of w.layout s) (series-back w.layout homes c) ∙ home_is)

pub reopens_back : (w : Waiting) (left : List LiveFact) (homes : List HomeNo) → AreLeft w left → Reopens w left homes (back w left homes)
reopens_back w left homes is = record {
  stays = record { layout = refl; starts = starts_same homes w.starts; room = refl };
  given = refl;
  live = refl;
  opens = λ instance home. (
    opens_forward w left homes is instance home,
    λ both. elim both.1 [
      | inl old ↦ open_back w left homes is instance home both.0 old
      | inr among ↦ among_back w left homes is instance home both.0 among
    ],
  );
}
