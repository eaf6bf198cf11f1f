-- What is open where a start is taken, or a turn before its cursor comes to it.
use Rattle.std.proofs.Common.{◌≡◌, ◌≢◌, ℕ, zero, suc, ◌<◌, ◌≤◌, ◌⊎◌, inl, inr, eqb, eq-eqb, Bool, true, false, cond, List, [], ◌∷◌, ◌++◌, length, map, get_or, Option, Some, None, refl, ap, sym, ◌∙◌, subst, arith}
use Rattle.std.proofs.lemmas.Bool.{and_from, and_left, and_parts, and_right, cases_Bool, eqb-true, or_from, or_parts}
use Rattle.std.proofs.lemmas.List.Folds.{list_any-append}
use Rattle.std.specs.List.{Contains, slice_get}
use Rattle.thr_base.specs.declared.names.FactId.{FactId}
use Rattle.thr_base.specs.declared.names.HomeNo.{HomeNo}
use Rattle.thr_base.specs.declared.names.ThreadNo.{ThreadNo}
use Rattle.thr_base.specs.declared.names.Instance.{Instance}
use Rattle.thr_base.specs.declared.names.Instance.TheVariants.{Init}
use Rattle.fact_table.specs.declared.live_fact.LiveFact.{LiveFact}
use Rattle.instance_cursors.specs.declared.early.Early.{Early}
use Rattle.instance_cursors.specs.declared.key.Head.{Head}
use Rattle.instance_cursors.specs.declared.start.Start.{Start}
use Rattle.instance_cursors.specs.declared.turns.Cursor.{Cursor}
use Rattle.instance_cursors.specs.declared.turns.Series.{Series}
use Rattle.instance_cursors.specs.declared.turns.Series.TheVariants.{Own, Told, Beside}
use Rattle.instance_cursors.specs.declared.turns.Turn.{Turn}
use Rattle.instance_cursors.specs.Cursors.{AreGiven, AreHeads, AreKept, IsHeadOf, start_taken}
use Rattle.instance_cursors.specs.Instances.{instance_of}
use Rattle.instance_cursors.specs.Layout.{has_step}
use Rattle.instance_cursors.specs.Turns.{IsHead, has_turn, is_early, is_turn, same_series, same_turn, turn_at}
use Rattle.instance_cursors.specs.Waiting.{Closes, IsAhead, IsSeries, OpensTo, begins, continues, Waiting, untaken}
use Rattle.instance_cursors.specs.Ways.{Layout}
use Rattle.instance_cursors.proofs.Members.{contains_from_map, contains_map, distinct_at}
use Rattle.instance_cursors.proofs.SameTurns.{never_begins}
use Rattle.instance_cursors.proofs.Steps.{not_both}
use Rattle.instance_cursors.proofs.Taken.{Meet, has_step-of, has_turn-from, meet_once, not_early-of, turn_is}

-- ---- which turn is which

home_same : (one other : HomeNo) → one.0 ≡ other.0 → one ≡ other
home_same one other e = let made : ℕ → HomeNo = λ n. record { 0 = n } in ap made e

id_same : (one other : FactId) → one.0 ≡ other.0 → one ≡ other
id_same one other e = let made : ℕ → FactId = λ n. record { 0 = n } in ap made e

beside_same : (home at : HomeNo) (id other : FactId) → home ≡ at → id ≡ other → Beside home id ≡ Beside at other
beside_same home at id other homes ids = cc

pub same_series-true : (one other : Series) → same_series one other ≡ true → one ≡ other
same_series-true (Own edge) (Own other) same = ap (λ k. Own k) (eqb-true edge other same)
same_series-true (Own edge) (Told other) same = cc
same_series-true (Own edge) (Beside at other) same = cc
same_series-true (Told edge) (Own other) same = cc
same_series-true (Told edge) (Told other) same = ap (λ k. Told k) (eqb-true edge other same)
same_series-true (Told edge) (Beside at other) same = cc
same_series-true (Beside home id) (Own other) same = cc
same_series-true (Beside home id) (Told other) same = cc
same_series-true (Beside home id) (Beside at other) same =
    let both = and_parts (eqb home.0 at.0) (eqb id.0 other.0) same in
    beside_same home at id other (home_same home at (eqb-true home.0 at.0 both.0)) (id_same id other (eqb-true id.0 other.0 both.1))

same_series-self : (one : Series) → same_series one one ≡ true
same_series-self (Own edge) = eq-eqb edge edge refl
same_series-self (Told edge) = eq-eqb edge edge refl
same_series-self (Beside home id) = and_from (eqb home.0 home.0) (eqb id.0 id.0) (eq-eqb home.0 home.0 refl) (eq-eqb id.0 id.0 refl)

turn_same : (one other : Turn) → one.id ≡ other.id → one.step ≡ other.step → one ≡ other
turn_same one other ids steps =
    let made : FactId → ℕ → Turn = λ i n. record { id = i; step = n } in
    ap (λ i. made i one.step) ids ∙ ap (λ n. made other.id n) steps

pub same_turn-true : (one other : Turn) → same_turn one other ≡ true → one ≡ other
same_turn-true one other same =
    let both = and_parts (eqb one.id.0 other.id.0) (eqb one.step other.step) same in
    turn_same one other (id_same one.id other.id (eqb-true one.id.0 other.id.0 both.0)) (eqb-true one.step other.step both.1)

pub same_turn-self : (one : Turn) → same_turn one one ≡ true
same_turn-self one = and_from (eqb one.id.0 one.id.0) (eqb one.step one.step) (eq-eqb one.id.0 one.id.0 refl) (eq-eqb one.step one.step refl)

pub is_turn-true : (series : Series) (turn : Turn) (early : Early) → is_turn series turn early ≡ true → (early.series ≡ series) × (early.turn ≡ turn)
is_turn-true series turn early same =
    let both = and_parts (same_series early.series series) (same_turn early.turn turn) same in
    (same_series-true early.series series both.0, same_turn-true early.turn turn both.1)

is_turn-self : (early : Early) → is_turn early.series early.turn early ≡ true
is_turn-self early = and_from (same_series early.series early.series) (same_turn early.turn early.turn) (same_series-self early.series) (same_turn-self early.turn)

-- ---- one more

pub early_more : (early : List Early) (each : Early) (series : Series) (turn : Turn) → is_early (early ++ each ∷ []) series turn ≡ false
    → (is_early early series turn ≡ false) × (is_turn series turn each ≡ false)
early_more early each series turn none =
    let parts = or_parts (is_early early series turn) (is_early (each ∷ []) series turn) (sym (list_any-append (is_turn series turn) early (each ∷ [])) ∙ none) in
    (parts.0, (or_parts (is_turn series turn each) false parts.1).0)

pub early_from : (early : List Early) (each : Early) (series : Series) (turn : Turn) → is_early early series turn ≡ false → is_turn series turn each ≡ false
    → is_early (early ++ each ∷ []) series turn ≡ false
early_from early each series turn none apart =
    list_any-append (is_turn series turn) early (each ∷ []) ∙ or_from (is_early early series turn) (is_early (each ∷ []) series turn) none (or_from (is_turn series turn each) false apart refl)

less_turns : (layout : Layout) (early : List Early) (each : Early) (series : Series) (f : LiveFact) (step : ℕ) → has_turn layout (early ++ each ∷ []) series f step ≡ true → has_turn layout early series f step ≡ true
less_turns layout early each series f step has =
    has_turn-from layout early series f step (has_step-of layout (early ++ each ∷ []) series f step has)
    ((early_more early each series (turn_at f step) (not_early-of layout (early ++ each ∷ []) series f step has)).0)

-- ---- a turn is taken early

abbrev pub early_with : Waiting → Early → Waiting
early_with w each = record w { early = w.early ++ each ∷ [] }

pub record Comes (w : Waiting) (place : ℕ) (cursor : Cursor) (each : Early) (f : LiveFact) (step : ℕ) (instance : Instance) : Type 0 where
  pub kept : AreKept w
  pub cursor_at : slice_get w.cursors place ≡ Some cursor
  pub series_is : each.series ≡ cursor.series
  pub turn_there : each.turn ≡ turn_at f step
  pub f_live : Contains w.live f
  pub f_has : has_step w.layout cursor.series f.fact.home.0 step ≡ true
  pub instance_is : instance_of w.layout cursor.series (turn_at f step) ≡ instance

early_meets : (w : Waiting) (place : ℕ) (cursor : Cursor) (each : Early) (f : LiveFact) (step : ℕ) (instance : Instance) → Comes w place cursor each f step instance
    → (n : ℕ) (c : Cursor) (g : LiveFact) (other : ℕ) → slice_get w.cursors n ≡ Some c → Contains w.live g → has_step w.layout c.series g.fact.home.0 other ≡ true
    → instance_of w.layout c.series (turn_at g other) ≡ instance → (c.series ≡ cursor.series) × (turn_at g other ≡ turn_at f step)
early_meets w place cursor each f step instance is n c g other c_at g_live g_has same =
    let meet : Meet w n place c cursor g f other step = record {
      kept = is.kept;
      c_at = c_at;
      d_at = is.cursor_at;
      f_live = g_live;
      g_live = is.f_live;
      f_has = g_has;
      g_has = is.f_has;
      same = same ∙ sym is.instance_is;
    } in
    let once = meet_once w n place c cursor g f other step meet in
    (once.1, turn_is g other (turn_at f step) (ap (λ (x : LiveFact). x.id) once.2) once.3)

early_closes : (w : Waiting) (place : ℕ) (cursor : Cursor) (each : Early) (f : LiveFact) (step : ℕ) (instance other : Instance) (home : HomeNo) → Comes w place cursor each f step instance
    → OpensTo (early_with w each) other home → OpensTo w other home × (other ≢ instance)
early_closes w place cursor each f step instance other home is (begins s has not_taken s_is home_is) =
    (begins s has not_taken s_is home_is, (λ e. never_begins w.layout cursor.series (turn_at f step) s.thread (s_is ∙ (e ∙ sym is.instance_is))))
early_closes w place cursor each f step instance other home is (continues n c at ahead home_is) =
    let old : IsAhead w.layout w.early w.live c other = record {
      fact = ahead.fact;
      step = ahead.step;
      is_live = ahead.is_live;
      has_turn_there = less_turns w.layout w.early each c.series ahead.fact ahead.step ahead.has_turn_there;
      instance_is = ahead.instance_is;
      not_passed = ahead.not_passed;
    } in
    let apart : is_turn c.series (turn_at ahead.fact ahead.step) each ≡ false =
    (early_more w.early each c.series (turn_at ahead.fact ahead.step) (not_early-of w.layout (w.early ++ each ∷ []) c.series ahead.fact ahead.step ahead.has_turn_there)).1 in (
      continues n c at old home_is,
      (λ e.
          let alike = early_meets w place cursor each f step instance is n c ahead.fact ahead.step at ahead.is_live
          (has_step-of w.layout (w.early ++ each ∷ []) c.series ahead.fact ahead.step ahead.has_turn_there) (ahead.instance_is ∙ e) in
          let Is : Series → Turn → Bool = λ s t. is_turn s t each in
          let here : is_turn c.series (turn_at ahead.fact ahead.step) each ≡ true =
          ap (λ s. Is s (turn_at ahead.fact ahead.step)) (alike.0 ∙ sym is.series_is) ∙ (ap (λ t. Is each.series t) (alike.1 ∙ sym is.turn_there) ∙ is_turn-self each) in
          not_both (is_turn c.series (turn_at ahead.fact ahead.step) each) here apart),
    )

early_leaves : (w : Waiting) (place : ℕ) (cursor : Cursor) (each : Early) (f : LiveFact) (step : ℕ) (instance other : Instance) (home : HomeNo) → Comes w place cursor each f step instance
    → OpensTo w other home → (other ≢ instance) → OpensTo (early_with w each) other home
early_leaves w place cursor each f step instance other home is (begins s has not_taken s_is home_is) apart = begins s has not_taken s_is home_is
early_leaves w place cursor each f step instance other home is (continues n c at ahead home_is) apart =
    elim (cases_Bool (is_turn c.series (turn_at ahead.fact ahead.step) each)) [
      | inl same ↦
          let both = is_turn-true c.series (turn_at ahead.fact ahead.step) each same in
          let Of : Series → Turn → Instance = λ s t. instance_of w.layout s t in
          absurd (apart (sym ahead.instance_is ∙ (ap (λ s. Of s (turn_at ahead.fact ahead.step)) (sym both.0 ∙ is.series_is) ∙ (ap (λ t. Of cursor.series t) (sym both.1 ∙ is.turn_there) ∙ is.instance_is))))
      | inr differ ↦
          let new : IsAhead w.layout (w.early ++ each ∷ []) w.live c other = record {
            fact = ahead.fact;
            step = ahead.step;
            is_live = ahead.is_live;
            has_turn_there = has_turn-from w.layout (w.early ++ each ∷ []) c.series ahead.fact ahead.step (has_step-of w.layout w.early c.series ahead.fact ahead.step ahead.has_turn_there)
                (early_from w.early each c.series (turn_at ahead.fact ahead.step) (not_early-of w.layout w.early c.series ahead.fact ahead.step ahead.has_turn_there) differ);
            instance_is = ahead.instance_is;
            not_passed = ahead.not_passed;
          } in
          continues n c at new home_is
    ]

pub closes_early : (w : Waiting) (place : ℕ) (cursor : Cursor) (each : Early) (f : LiveFact) (step : ℕ) (instance : Instance) → Comes w place cursor each f step instance → Closes w instance (early_with w each)
closes_early w place cursor each f step instance is = record {
  stays = record { layout = refl; starts = refl; room = refl };
  given = refl;
  live = refl;
  opens = λ other home. (early_closes w place cursor each f step instance other home is, λ both. early_leaves w place cursor each f step instance other home is both.0 both.1);
}

are_given : (given : ℕ) (layout : Layout) (live : List LiveFact) (series : Series) (turn : Turn) → ((f : LiveFact) → Contains live f → f.id.0 ≤ given) → IsSeries layout live series → turn.id.0 ≤ given
    → AreGiven given series turn
are_given given layout live (Own edge) turn all is le = le
are_given given layout live (Told edge) turn all is le = le
are_given given layout live (Beside home id) turn all is le =
    let first = all is.0 is.1 in
    let same = ap (λ (x : FactId). x.0) is.3 in
    (omega (arith, first, same), le)

push_early : (early : List Early) (each x : Early) (k : ℕ) → k < length (early ++ each ∷ []) → get_or (early ++ each ∷ []) k x ≡ x → Contains early x ⊎ (each ≡ x)
push_early [] each x zero lt is = inr is
push_early [] each x (suc k) lt is = absurd (omega arith)
push_early (y ∷ early) each x zero lt is = inl (0, omega arith, is)
push_early (y ∷ early) each x (suc k) lt is = elim (push_early early each x k (omega arith) is) [ inl old ↦ inl (suc old.0, omega (arith, old.1), old.2) | inr new ↦ inr new ]

pub kept_early : (w : Waiting) (place : ℕ) (cursor : Cursor) (each : Early) (f : LiveFact) (step : ℕ) (instance : Instance) → Comes w place cursor each f step instance → AreKept (early_with w each)
kept_early w place cursor each f step instance is =
    let kept = is.kept in
    record {
      apart = kept.apart;
      ids_rise = kept.ids_rise;
      ids_given = kept.ids_given;
      complete = kept.complete;
      sound = kept.sound;
      distinct = kept.distinct;
      shape = kept.shape;
      passed = kept.passed;
      early = λ x has. elim (push_early w.early each x has.0 has.1 has.2) [
        | inl old ↦ kept.early x old
        | inr new ↦
            let Given : Early → Type 0 = λ e. AreGiven w.given e.series e.turn in
            let given = kept.ids_given f is.f_live in
            let ids = ap (λ (t : Turn). t.id.0) is.turn_there in
            let Is : Series → Type 0 = λ s. IsSeries w.layout w.live s in
            subst Given new (are_given w.given w.layout w.live each.series each.turn kept.ids_given (subst Is (sym is.series_is) (kept.sound place cursor is.cursor_at)) (omega (arith, given, ids)))
      ];
    }

-- ---- heads stay where another turn is taken early

-- the turn is no cursor's head
abbrev IsElsewhere : List (Option Head) → ℕ → Turn → Type 0
IsElsewhere heads place turn = (head : Head) → slice_get heads place ≡ Some (Some head) → same_turn turn head.turn ≡ false

head_beside : (w : Waiting) (place : ℕ) (cursor : Cursor) (each : Early) (f : LiveFact) (step : ℕ) (instance : Instance) (heads : List (Option Head)) → Comes w place cursor each f step instance
    → IsElsewhere heads place each.turn → (n : ℕ) (c : Cursor) (head : Head) → slice_get w.cursors n ≡ Some c → slice_get heads n ≡ Some (Some head)
    → IsHead w.layout w.early c w.live head.turn → IsHead w.layout (w.early ++ each ∷ []) c w.live head.turn
head_beside w place cursor each f step instance heads is elsewhere n c head c_at head_at old =
    let turn_there : turn_at old.fact head.turn.step ≡ head.turn = turn_is old.fact head.turn.step head.turn old.id_is refl in
    let apart : is_turn c.series (turn_at old.fact head.turn.step) each ≡ false =
    elim (cases_Bool (same_series each.series c.series)) [
      | inl same ↦
          let series = same_series-true each.series c.series same in
          let here : n ≡ place = distinct_at w.cursors n place c cursor is.kept.distinct c_at is.cursor_at (sym series ∙ is.series_is) in
          let differ = elsewhere head (ap (λ k. slice_get heads k) (sym here) ∙ head_at) in
          and_right (same_series each.series c.series) (same_turn each.turn (turn_at old.fact head.turn.step)) (ap (λ t. same_turn each.turn t) turn_there ∙ differ)
      | inr differ ↦ and_left (same_series each.series c.series) (same_turn each.turn (turn_at old.fact head.turn.step)) differ
    ] in
    record {
      fact = old.fact;
      is_live = old.is_live;
      id_is = old.id_is;
      has_turn_there = has_turn-from w.layout (w.early ++ each ∷ []) c.series old.fact head.turn.step (has_step-of w.layout w.early c.series old.fact head.turn.step old.has_turn_there)
          (early_from w.early each c.series (turn_at old.fact head.turn.step) (not_early-of w.layout w.early c.series old.fact head.turn.step old.has_turn_there) apart);
      is_open = old.is_open;
      earlier = λ g s there has before. old.earlier g s there (less_turns w.layout w.early each c.series g s has) before;
    }

head_or_none : (w : Waiting) (place : ℕ) (cursor : Cursor) (each : Early) (f : LiveFact) (step : ℕ) (instance : Instance) (heads : List (Option Head)) → Comes w place cursor each f step instance
    → IsElsewhere heads place each.turn → (n : ℕ) (c : Cursor) (head : Option Head) → slice_get w.cursors n ≡ Some c → slice_get heads n ≡ Some head
    → IsHeadOf w.layout w.early w.live c head → IsHeadOf w.layout (w.early ++ each ∷ []) w.live c head
head_or_none w place cursor each f step instance heads is elsewhere n c None c_at head_at old = λ g s there has. old g s there (less_turns w.layout w.early each c.series g s has)
head_or_none w place cursor each f step instance heads is elsewhere n c (Some head) c_at head_at old = head_beside w place cursor each f step instance heads is elsewhere n c head c_at head_at old

pub heads_early : (w : Waiting) (place : ℕ) (cursor : Cursor) (each : Early) (f : LiveFact) (step : ℕ) (instance : Instance) (heads : List (Option Head)) → Comes w place cursor each f step instance
    → ((head : Head) → slice_get heads place ≡ Some (Some head) → same_turn each.turn head.turn ≡ false) → AreHeads w.layout w.early w.live w.cursors heads
    → AreHeads w.layout (w.early ++ each ∷ []) w.live w.cursors heads
heads_early w place cursor each f step instance heads is elsewhere old = record {
  count = old.count;
  are = λ n c head c_at head_at. head_or_none w place cursor each f step instance heads is elsewhere n c head c_at head_at (old.are n c head c_at head_at);
}

-- ---- a start is taken

abbrev pub starting : Waiting → ThreadNo → Waiting
starting w thread = record w { starts = map (start_taken thread) w.starts }

untaken_cond : (b : Bool) (s : Start) → untaken (cond b (record s { taken = true }) s) ≡ untaken s
untaken_cond true s = refl
untaken_cond false s = refl

starts_same : (thread : ThreadNo) (starts : List Start) → map untaken (map (start_taken thread) starts) ≡ map untaken starts
starts_same thread [] = refl
starts_same thread (s ∷ starts) =
    ap (λ (x : Start). x ∷ map untaken (map (start_taken thread) starts)) (untaken_cond (eqb s.thread.0 thread.0) s) ∙ ap (λ (xs : List Start). untaken s ∷ xs) (starts_same thread starts)

record Untaken (b : Bool) (s t : Start) : Type 0 where
  differs : b ≡ false
  same : s ≡ t

not_taken_there : (b : Bool) (s t : Start) → cond b (record s { taken = true }) s ≡ t → t.taken ≡ false → Untaken b s t
not_taken_there true s t is not_taken =
    let flag : true ≡ t.taken = ap (λ (x : Start). x.taken) is in
    let never : true ≡ false = flag ∙ not_taken in
    cc
not_taken_there false s t is not_taken = record { differs = refl; same = is }

thread_same : (one other : ThreadNo) → Init one ≡ Init other → one.0 ≡ other.0
thread_same one other same = let threads : one ≡ other = cc in ap (λ (x : ThreadNo). x.0) threads

start_closes : (w : Waiting) (thread : ThreadNo) (other : Instance) (home : HomeNo) → OpensTo (starting w thread) other home → OpensTo w other home × (other ≢ Init thread)
start_closes w thread other home (begins s has not_taken s_is home_is) =
    let from = contains_from_map (start_taken thread) w.starts s has in
    let old = not_taken_there (eqb from.0.thread.0 thread.0) from.0 s from.2 not_taken in
    let Has : Start → Type 0 = λ x. Contains w.starts x in (
      begins s (subst Has old.same from.1) not_taken s_is home_is,
      (λ e.
          let threads = ap (λ (x : Start). x.thread.0) old.same ∙ thread_same s.thread thread (s_is ∙ e) in
          not_both (eqb from.0.thread.0 thread.0) (eq-eqb from.0.thread.0 thread.0 threads) old.differs),
    )
start_closes w thread other home (continues n c at ahead home_is) =
    (continues n c at ahead home_is, (λ e. never_begins w.layout c.series (turn_at ahead.fact ahead.step) thread (sym e ∙ sym ahead.instance_is)))

cond_other : (b : Bool) (s : Start) → b ≡ false → cond b (record s { taken = true }) s ≡ s
cond_other true s differs = cc
cond_other false s differs = refl

init_same : (one other : ThreadNo) → one.0 ≡ other.0 → Init one ≡ Init other
init_same one other e = let made : ℕ → Instance = λ n. Init (record { 0 = n }) in ap made e

start_leaves : (w : Waiting) (thread : ThreadNo) (other : Instance) (home : HomeNo) → OpensTo w other home → (other ≢ Init thread) → OpensTo (starting w thread) other home
start_leaves w thread other home (begins s has not_taken s_is home_is) apart =
    elim (cases_Bool (eqb s.thread.0 thread.0)) [
      | inl same ↦ absurd (apart (sym s_is ∙ init_same s.thread thread (eqb-true s.thread.0 thread.0 same)))
      | inr differ ↦
          let stays : start_taken thread s ≡ s = cond_other (eqb s.thread.0 thread.0) s differ in
          let Has : Start → Type 0 = λ x. Contains (map (start_taken thread) w.starts) x in
          begins s (subst Has stays (contains_map (start_taken thread) w.starts s has)) not_taken s_is home_is
    ]
start_leaves w thread other home (continues n c at ahead home_is) apart = continues n c at ahead home_is

pub closes_start : (w : Waiting) (thread : ThreadNo) → Closes w (Init thread) (starting w thread)
closes_start w thread = record {
  stays = record { layout = refl; starts = starts_same thread w.starts; room = refl };
  given = refl;
  live = refl;
  opens = λ other home. (start_closes w thread other home, λ both. start_leaves w thread other home both.0 both.1);
}

pub kept_start : (w : Waiting) (thread : ThreadNo) → AreKept w → AreKept (starting w thread)
kept_start w thread kept = record {
  apart = kept.apart;
  ids_rise = kept.ids_rise;
  ids_given = kept.ids_given;
  complete = kept.complete;
  sound = kept.sound;
  distinct = kept.distinct;
  shape = kept.shape;
  passed = kept.passed;
  early = kept.early;
}
