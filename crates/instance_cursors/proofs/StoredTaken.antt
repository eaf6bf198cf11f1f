-- What is stored where an instance is taken, and at the beginning.
use Rattle.std.proofs.Common.{◌≡◌, ℕ, ◌+◌, ◌≤◌, ◌⊎◌, inl, inr, false, List, [], ◌∷◌, ◌++◌, length, map, Option, Some, ap, sym, subst, arith}
use Rattle.std.specs.Prelude.{Result, Ok, Err, IfOk, IfErr}
use Rattle.std.specs.List.{Contains, slice_get}
use Rattle.std.specs.Vec.{vec_capacity}
use Rattle.thr_base.specs.declared.names.ThreadNo.{ThreadNo}
use Rattle.thr_base.specs.declared.names.Instance.{Instance}
use Rattle.thr_base.specs.declared.names.Instance.TheVariants.{Init}
use Rattle.fact_table.specs.declared.live_fact.LiveFact.{LiveFact}
use Rattle.instance_cursors.specs.declared.cursors.Cursors.TheInside.{Inside}
use Rattle.instance_cursors.specs.declared.early.Early.{Early}
use Rattle.instance_cursors.specs.declared.key.Head.{Head}
use Rattle.instance_cursors.specs.declared.start.Start.{Start}
use Rattle.instance_cursors.specs.declared.turns.Cursor.{Cursor}
use Rattle.instance_cursors.specs.declared.turns.Turn.{Turn}
use Rattle.instance_cursors.specs.Cursors.{AreHeads, AreKept, edge_cursors, passed_at, start_taken}
use Rattle.instance_cursors.specs.Turns.{same_turn}
use Rattle.instance_cursors.specs.Waiting.{Begins, Closes, Waiting}
use Rattle.instance_cursors.specs.Ways.{AreApart, Layout}
use Rattle.instance_cursors.specs.inside.Stored.{IsStored, seen}
use Rattle.instance_cursors.proofs.Coming.{begins_first, kept_first, nothing_live}
use Rattle.instance_cursors.proofs.StoredCursors.{same_waiting}
use Rattle.instance_cursors.proofs.Taken.{Heads, closes_by_passing, kept_by_passing, passing}
use Rattle.instance_cursors.proofs.TakenEarly.{Comes, closes_early, closes_start, heads_early, kept_early, starting}

-- ---- the head is taken

pub record Moved (old new : Inside) (place : ℕ) (turn : Turn) : Type 0 where
  pub layout : new.layout ≡ old.layout
  pub room : new.room ≡ old.room
  pub given : new.given ≡ old.given
  pub facts : new.facts ≡ old.facts
  pub starts : new.starts ≡ old.starts
  pub early : new.early ≡ old.early
  pub cursors : new.cursors.items ≡ passed_at old.cursors.items place turn
  pub heads : AreHeads old.layout old.early.items old.facts.items new.cursors.items new.heads.items
  pub cursors_room : vec_capacity new.cursors ≡ vec_capacity old.cursors
  pub heads_room : vec_capacity new.heads ≡ vec_capacity old.heads

moved_seen : (old new : Inside) (place : ℕ) (turn : Turn) → Moved old new place turn → seen new ≡ passing (seen old) place turn
moved_seen old new place turn is =
    same_waiting (seen new) (passing (seen old) place turn) is.layout is.room is.given (ap (λ v. v.items) is.facts) (ap (λ v. v.items) is.starts) is.cursors (ap (λ v. v.items) is.early)

pub moved_stored : (old new : Inside) (place : ℕ) (cursor : Cursor) (turn : Turn) (instance : Instance) → IsStored old → Moved old new place turn → Heads (seen old) place cursor turn instance → IsStored new
moved_stored old new place cursor turn instance stored is heads =
    let Kept : Waiting → Type 0 = λ w. AreKept w in
    let Layouts : Layout → Type 0 = λ x. AreHeads x old.early.items old.facts.items new.cursors.items new.heads.items in
    let Earlies : List Early → Type 0 = λ x. AreHeads new.layout x old.facts.items new.cursors.items new.heads.items in
    let Facts : List LiveFact → Type 0 = λ x. AreHeads new.layout new.early.items x new.cursors.items new.heads.items in
    let edges = ap (λ (l : Layout). length (edge_cursors (length l.edges))) is.layout in
    let rooms = is.room in
    let facts_room = ap (λ v. vec_capacity v) is.facts in
    let facts_count = ap (λ v. length v.items) is.facts in
    let few = stored.few in
    let one = stored.facts_room in
    let two = stored.cursors_room in
    let three = stored.heads_room in
    let more_two = is.cursors_room in
    let more_three = is.heads_room in
    record {
      kept = subst Kept (sym (moved_seen old new place turn is)) (kept_by_passing (seen old) place cursor turn instance heads);
      heads = subst Facts (sym (ap (λ v. v.items) is.facts)) (subst Earlies (sym (ap (λ v. v.items) is.early)) (subst Layouts (sym is.layout) is.heads));
      few = omega (arith, few, facts_count, rooms);
      facts_room = omega (arith, one, facts_room, rooms);
      cursors_room = omega (arith, two, more_two, rooms, edges);
      heads_room = omega (arith, three, more_three, rooms, edges);
    }

pub moved_closes : (old new : Inside) (place : ℕ) (cursor : Cursor) (turn : Turn) (instance : Instance) → Moved old new place turn → Heads (seen old) place cursor turn instance → Closes (seen old) instance (seen new)
moved_closes old new place cursor turn instance is heads =
    let To : Waiting → Type 0 = λ w. Closes (seen old) instance w in subst To (sym (moved_seen old new place turn is)) (closes_by_passing (seen old) place cursor turn instance heads)

-- ---- a turn is taken early

pub record Rests (old new : Inside) : Type 0 where
  pub layout : new.layout ≡ old.layout
  pub room : new.room ≡ old.room
  pub given : new.given ≡ old.given
  pub facts : new.facts ≡ old.facts
  pub starts : new.starts ≡ old.starts
  pub cursors : new.cursors ≡ old.cursors
  pub heads : new.heads ≡ old.heads

rest_seen : (old new : Inside) (early : List Early) → Rests old new → new.early.items ≡ early → seen new ≡ record (seen old) { early = early }
rest_seen old new early is same =
    same_waiting (seen new) (record (seen old) { early = early }) is.layout is.room is.given (ap (λ v. v.items) is.facts) (ap (λ v. v.items) is.starts) (ap (λ v. v.items) is.cursors) same

rest_stored : (old new : Inside) (early : List Early) → IsStored old → Rests old new → new.early.items ≡ early → AreKept (record (seen old) { early = early })
    → AreHeads old.layout early old.facts.items old.cursors.items old.heads.items → IsStored new
rest_stored old new early stored is same kept heads =
    let Kept : Waiting → Type 0 = λ w. AreKept w in
    let Layouts : Layout → Type 0 = λ x. AreHeads x early old.facts.items old.cursors.items old.heads.items in
    let Earlies : List Early → Type 0 = λ x. AreHeads new.layout x old.facts.items old.cursors.items old.heads.items in
    let Facts : List LiveFact → Type 0 = λ x. AreHeads new.layout new.early.items x old.cursors.items old.heads.items in
    let Moves : List Cursor → Type 0 = λ x. AreHeads new.layout new.early.items new.facts.items x old.heads.items in
    let Tops : List (Option Head) → Type 0 = λ x. AreHeads new.layout new.early.items new.facts.items new.cursors.items x in
    let edges = ap (λ (l : Layout). length (edge_cursors (length l.edges))) is.layout in
    let rooms = is.room in
    let facts_room = ap (λ v. vec_capacity v) is.facts in
    let facts_count = ap (λ v. length v.items) is.facts in
    let few = stored.few in
    let one = stored.facts_room in
    let two = stored.cursors_room in
    let three = stored.heads_room in
    let more_two = ap (λ v. vec_capacity v) is.cursors in
    let more_three = ap (λ v. vec_capacity v) is.heads in
    record {
      kept = subst Kept (sym (rest_seen old new early is same)) kept;
      heads = subst Tops (sym (ap (λ v. v.items) is.heads)) (subst Moves (sym (ap (λ v. v.items) is.cursors)) (subst Facts (sym (ap (λ v. v.items) is.facts)) (subst Earlies (sym same) (subst Layouts (sym is.layout) heads))));
      few = omega (arith, few, facts_count, rooms);
      facts_room = omega (arith, one, facts_room, rooms);
      cursors_room = omega (arith, two, more_two, rooms, edges);
      heads_room = omega (arith, three, more_three, rooms, edges);
    }

-- What is asked of a turn that is taken early.
pub record Added (old : Inside) (place : ℕ) (cursor : Cursor) (each : Early) (f : LiveFact) (step : ℕ) (instance : Instance) : Type 0 where
  pub comes : Comes (seen old) place cursor each f step instance
  pub elsewhere : (head : Head) → slice_get old.heads.items place ≡ Some (Some head) → same_turn each.turn head.turn ≡ false

early_same : {A E : Type 0} (r : Result A E) (old new added : List Early) → IfOk r (λ _. new ≡ added) → IfErr r (λ _. new ≡ old) → (new ≡ old) ⊎ (new ≡ added)
early_same (Ok x) old new added taken kept = inr taken
early_same (Err e) old new added taken kept = inl kept

pub added_stored : {A E : Type 0} (r : Result A E) (old new : Inside) (place : ℕ) (cursor : Cursor) (each : Early) (f : LiveFact) (step : ℕ) (instance : Instance) → IsStored old → Rests old new
    → Added old place cursor each f step instance → IfOk r (λ _. new.early.items ≡ old.early.items ++ each ∷ []) → IfErr r (λ _. new.early.items ≡ old.early.items) → IsStored new
added_stored r old new place cursor each f step instance stored is added taken kept =
    elim (early_same r old.early.items new.early.items (old.early.items ++ each ∷ []) taken kept) [
      | inl same ↦ rest_stored old new old.early.items stored is same stored.kept stored.heads
      | inr more ↦
          rest_stored old new (old.early.items ++ each ∷ []) stored is more (kept_early (seen old) place cursor each f step instance added.comes)
          (heads_early (seen old) place cursor each f step instance old.heads.items added.comes added.elsewhere stored.heads)
    ]

pub added_closes : {A E : Type 0} (r : Result A E) (old new : Inside) (place : ℕ) (cursor : Cursor) (each : Early) (f : LiveFact) (step : ℕ) (instance : Instance) → Rests old new
    → Added old place cursor each f step instance → IfOk r (λ _. new.early.items ≡ old.early.items ++ each ∷ []) → IfOk r (λ _. Closes (seen old) instance (seen new))
added_closes (Ok x) old new place cursor each f step instance is added taken =
    let To : Waiting → Type 0 = λ w. Closes (seen old) instance w in
    subst To (sym (rest_seen old new (old.early.items ++ each ∷ []) is taken)) (closes_early (seen old) place cursor each f step instance added.comes)
added_closes (Err e) old new place cursor each f step instance is added taken = tt

pub added_not : {A E : Type 0} (r : Result A E) (old new : Inside) → Rests old new → IfErr r (λ _. new.early.items ≡ old.early.items) → IfErr r (λ _. seen new ≡ seen old)
added_not (Ok x) old new is kept = tt
added_not (Err e) old new is kept = rest_seen old new old.early.items is kept

pub items_kept : {A E : Type 0} (r : Result A E) (P Q : Type 0) → (P → Q) → IfErr r (λ _. P) → IfErr r (λ _. Q)
items_kept (Ok x) P Q to is = tt
items_kept (Err e) P Q to is = to is

pub items_taken : {A E : Type 0} (r : Result A E) (P Q : Type 0) → (P → Q) → IfOk r (λ _. P) → IfOk r (λ _. Q)
items_taken (Ok x) P Q to is = to is
items_taken (Err e) P Q to is = tt

-- ---- a start is taken

pub started_closes : (old new : Inside) (thread : ThreadNo) → new.layout ≡ old.layout → new.room ≡ old.room → new.given ≡ old.given → new.facts ≡ old.facts → new.cursors ≡ old.cursors → new.early ≡ old.early
    → new.starts.items ≡ map (start_taken thread) old.starts.items → Closes (seen old) (Init thread) (seen new)
started_closes old new thread layout room given facts cursors early starts =
    let To : Waiting → Type 0 = λ w. Closes (seen old) (Init thread) w in
    let same = same_waiting (seen new) (starting (seen old) thread) layout room given (ap (λ v. v.items) facts) starts (ap (λ v. v.items) cursors) (ap (λ v. v.items) early) in
    subst To (sym same) (closes_start (seen old) thread)

-- ---- the beginning

pub record Made (new : Inside) (layout : Layout) (starts : List Start) (facts : ℕ) : Type 0 where
  pub layout_is : new.layout ≡ layout
  pub room : new.room ≡ facts
  pub given : new.given ≡ 0
  pub live : new.facts.items ≡ []
  pub starts_are : new.starts.items ≡ starts
  pub cursors : new.cursors.items ≡ edge_cursors (length layout.edges)
  pub early : new.early.items ≡ []
  pub heads : AreHeads new.layout new.early.items new.facts.items new.cursors.items new.heads.items
  pub facts_room : facts ≤ vec_capacity new.facts
  pub cursors_room : length (edge_cursors (length layout.edges)) + facts ≤ vec_capacity new.cursors
  pub heads_room : length (edge_cursors (length layout.edges)) + facts ≤ vec_capacity new.heads

made_seen : (new : Inside) (layout : Layout) (starts : List Start) (facts : ℕ) → Made new layout starts facts → seen new ≡ nothing_live layout facts starts
made_seen new layout starts facts is = same_waiting (seen new) (nothing_live layout facts starts) is.layout_is is.room is.given is.live is.starts_are is.cursors is.early

pub made_stored : (new : Inside) (layout : Layout) (starts : List Start) (facts : ℕ) → AreApart layout.edges → Made new layout starts facts → IsStored new
made_stored new layout starts facts apart is =
    let Kept : Waiting → Type 0 = λ w. AreKept w in
    let edges = ap (λ (l : Layout). length (edge_cursors (length l.edges))) is.layout_is in
    let rooms = is.room in
    let facts_count = ap (λ (xs : List LiveFact). length xs) is.live in
    let one = is.facts_room in
    let two = is.cursors_room in
    let three = is.heads_room in
    record {
      kept = subst Kept (sym (made_seen new layout starts facts is)) (kept_first layout facts starts apart);
      heads = is.heads;
      few = omega (arith, facts_count);
      facts_room = omega (arith, one, rooms);
      cursors_room = omega (arith, two, rooms, edges);
      heads_room = omega (arith, three, rooms, edges);
    }

pub made_begins : (new : Inside) (layout : Layout) (starts : List Start) (facts : ℕ) → ((s : Start) → Contains starts s → s.taken ≡ false) → Made new layout starts facts → Begins layout starts facts (seen new)
made_begins new layout starts facts none is = let To : Waiting → Type 0 = λ w. Begins layout starts facts w in subst To (sym (made_seen new layout starts facts is)) (begins_first layout facts starts none)
