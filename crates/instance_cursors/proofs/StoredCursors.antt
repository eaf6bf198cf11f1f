-- What is stored where instances are taken, facts come, and facts go.
use Rattle.std.proofs.Common.{◌≡◌, ℕ, zero, suc, ◌+◌, ◌<◌, ◌≤◌, inl, inr, Bool, true, false, cond, List, [], ◌∷◌, ◌++◌, length, map, get_or, set, Option, Some, refl, ap, sym, ◌∙◌, subst, arith, length-append}
use Rattle.std.proofs.Math.ListN.{length-set}
use Rattle.std.proofs.lemmas.Bool.{cases_eq}
use Rattle.std.proofs.lemmas.List.{length-map}
use Rattle.std.specs.List.{filter, slice_get}
use Rattle.std.specs.Vec.{vec_capacity}
use Rattle.thr_base.specs.declared.names.HomeNo.{HomeNo}
use Rattle.fact_table.specs.declared.live_fact.LiveFact.{LiveFact}
use Rattle.instance_cursors.specs.declared.cursors.Cursors.TheInside.{Inside}
use Rattle.instance_cursors.specs.declared.early.Early.{Early}
use Rattle.instance_cursors.specs.declared.key.Head.{Head}
use Rattle.instance_cursors.specs.declared.start.Start.{Start}
use Rattle.instance_cursors.specs.declared.turns.Cursor.{Cursor}
use Rattle.instance_cursors.specs.declared.turns.Series.{Series}
use Rattle.instance_cursors.specs.declared.turns.Turn.{Turn}
use Rattle.instance_cursors.specs.Cursors.{AreHeads, AreKept, IsHeadOf, cursor_back, edge_cursors, fact_series, is_of_live, passed_at, start_back, stays_early}
use Rattle.instance_cursors.specs.Waiting.{Opens, Reopens, Waiting}
use Rattle.instance_cursors.specs.Ways.{Layout}
use Rattle.instance_cursors.specs.inside.Follows.{HeadsFollow}
use Rattle.instance_cursors.specs.inside.Stored.{IsStored, seen}
use Rattle.instance_cursors.proofs.Coming.{CanCome, fact_cursor, kept_with, opens_with, with_fact}
use Rattle.instance_cursors.proofs.Follow.{get-read, get-set-other, get-set-same, get_within}
use Rattle.instance_cursors.proofs.Members.{passed_at-other, push_cases}
use Rattle.instance_cursors.proofs.Reopening.{AreLeft, back, kept_back, reopens_back}

-- ---- lengths

pub length-passed_at : (cursors : List Cursor) (place : ℕ) (turn : Turn) → length (passed_at cursors place turn) ≡ length cursors
length-passed_at [] place turn = refl
length-passed_at (c ∷ cursors) zero turn = refl
length-passed_at (c ∷ cursors) (suc place) turn = ap (λ n. suc n) (length-passed_at cursors place turn)

cond_shorter : {X : Type 0} (b : Bool) (x : X) (xs : List X) (n : ℕ) → length xs ≤ n → length (cond b (x ∷ xs) xs) ≤ suc n
cond_shorter true x xs n le = omega (arith, le)
cond_shorter false x xs n le = omega (arith, le)

pub shorter : {X : Type 0} (test : X → Bool) (xs : List X) → length (filter test xs) ≤ length xs
shorter test [] = omega arith
shorter test (x ∷ xs) = cond_shorter (test x) x (filter test xs) (length xs) (shorter test xs)

pub length-cursors : (w : Waiting) → AreKept w → length w.cursors ≡ length (edge_cursors (length w.layout.edges)) + length w.live
length-cursors w kept =
    let edges : List Cursor = edge_cursors (length w.layout.edges) in
    sym (length-map w.cursors (λ (c : Cursor). c.series))
    ∙ (ap (λ (xs : List Series). length xs) kept.shape
    ∙ (length-append (map (λ (c : Cursor). c.series) edges) (map fact_series w.live)
    ∙ (ap (λ n. n + length (map fact_series w.live)) (length-map edges (λ (c : Cursor). c.series)) ∙ ap (λ n. length edges + n) (length-map w.live fact_series))))

-- ---- heads

pub heads_moved : (layout : Layout) (early : List Early) (live : List LiveFact) (cursors : List Cursor) (heads : List (Option Head)) (place : ℕ) (turn : Turn) (found : Option Head) (d : Cursor)
    → place < length cursors → IsHeadOf layout early live (get_or (passed_at cursors place turn) place d) found → AreHeads layout early live cursors heads
    → AreHeads layout early live (passed_at cursors place turn) (set heads place found)
heads_moved layout early live cursors heads place turn found d lt is old = record {
  count = length-set heads place found ∙ (old.count ∙ sym (length-passed_at cursors place turn));
  are = λ k c h c_at h_at. elim (cases_eq k place) [
    | inl here ↦
        let count = old.count in
        let moved = length-passed_at cursors place turn in
        let within : place < length (passed_at cursors place turn) = omega (arith, lt, moved) in
        let there : place < length heads = omega (arith, count, lt) in
        let c_is : Some (get_or (passed_at cursors place turn) place d) ≡ Some c =
        sym (get-read (passed_at cursors place turn) place d within) ∙ (ap (λ n. slice_get (passed_at cursors place turn) n) (sym here) ∙ c_at) in
        let h_is : Some found ≡ Some h = sym (get-set-same heads place found there) ∙ (ap (λ n. slice_get (set heads place found) n) (sym here) ∙ h_at) in
        let c_same : get_or (passed_at cursors place turn) place d ≡ c = cc in
        let h_same : found ≡ h = cc in
        let Of : Cursor → Type 0 = λ x. IsHeadOf layout early live x found in
        let Is : Option Head → Type 0 = λ x. IsHeadOf layout early live c x in
        subst Is h_same (subst Of c_same is)
    | inr apart ↦ old.are k c h (sym (passed_at-other cursors place k turn apart) ∙ c_at) (sym (get-set-other heads place k found apart) ∙ h_at)
  ];
}

some_at : {X : Type 0} (xs : List X) (k : ℕ) → k < length xs → (x : X) × (slice_get xs k ≡ Some x)
some_at [] k lt = absurd (omega arith)
some_at (x ∷ xs) zero lt = (x, refl)
some_at (x ∷ xs) (suc k) lt = some_at xs k (omega arith)

heads_come : (w : Waiting) (f : LiveFact) (old new : List (Option Head)) → CanCome w f → AreHeads w.layout w.early w.live w.cursors old → length new ≡ length w.cursors
    → HeadsFollow w.layout w.early (w.live ++ f ∷ []) f w.cursors old new (length w.cursors) → AreHeads w.layout w.early (w.live ++ f ∷ []) w.cursors new
heads_come w f old new is heads count follow = record {
  count = count;
  are = λ k c h c_at h_at.
      let lt = get_within w.cursors k c c_at in
      let old_count = heads.count in
      let before = some_at old k (omega (arith, lt, old_count)) in
      let le = is.kept.passed k c c_at in
      let next = is.next in
      follow.below k c before.0 h lt c_at before.1 h_at w.live refl (omega (arith, le, next)) (λ g has. let given = is.kept.ids_given g has in omega (arith, given, next))
      (heads.are k c before.0 c_at before.1);
}

heads_push : (layout : Layout) (early : List Early) (live : List LiveFact) (cursors : List Cursor) (heads : List (Option Head)) (cursor : Cursor) (head : Option Head) → AreHeads layout early live cursors heads
    → IsHeadOf layout early live cursor head → AreHeads layout early live (cursors ++ cursor ∷ []) (heads ++ head ∷ [])
heads_push layout early live cursors heads cursor head old is =
    let count = old.count in
    record {
      count = length-append heads (head ∷ []) ∙ (ap (λ n. n + 1) count ∙ sym (length-append cursors (cursor ∷ [])));
      are = λ k c h c_at h_at. elim (push_cases cursors cursor k c c_at) [
        | inl c_old ↦ elim (push_cases heads head k h h_at) [
          | inl h_old ↦ old.are k c h c_old h_old
          | inr h_new ↦ let lt = get_within cursors k c c_old in absurd (omega (arith, lt, count, h_new.0))
        ]
        | inr c_new ↦ elim (push_cases heads head k h h_at) [
          | inl h_old ↦ let lt = get_within heads k h h_old in absurd (omega (arith, lt, count, c_new.0))
          | inr h_new ↦
              let Of : Cursor → Type 0 = λ x. IsHeadOf layout early live x head in
              let Is : Option Head → Type 0 = λ x. IsHeadOf layout early live c x in
              subst Is h_new.1 (subst Of c_new.1 is)
        ]
      ];
    }

-- ---- a fact came

-- what was written where a fact came
pub record Came (old new : Inside) (f : LiveFact) : Type 0 where
  pub layout : new.layout ≡ old.layout
  pub room : new.room ≡ old.room
  pub given : new.given ≡ f.id.0
  pub facts : new.facts.items ≡ old.facts.items ++ f ∷ []
  pub starts : new.starts.items ≡ old.starts.items
  pub cursors : new.cursors.items ≡ old.cursors.items ++ fact_cursor f ∷ []
  pub early : new.early.items ≡ old.early.items
  pub looked : List (Option Head)
  pub count : length looked ≡ length old.cursors.items
  pub follow : HeadsFollow old.layout old.early.items (old.facts.items ++ f ∷ []) f old.cursors.items old.heads.items looked (length old.cursors.items)
  pub head : Option Head
  pub head_is : IsHeadOf old.layout old.early.items (old.facts.items ++ f ∷ []) (fact_cursor f) head
  pub heads : new.heads.items ≡ looked ++ head ∷ []
  pub facts_room : vec_capacity old.facts ≤ vec_capacity new.facts
  pub cursors_room : vec_capacity old.cursors ≤ vec_capacity new.cursors
  pub heads_room : vec_capacity old.heads ≤ vec_capacity new.heads

pub same_waiting : (one other : Waiting) → one.layout ≡ other.layout → one.room ≡ other.room → one.given ≡ other.given → one.live ≡ other.live → one.starts ≡ other.starts → one.cursors ≡ other.cursors
    → one.early ≡ other.early → one ≡ other
same_waiting one other layout room given live starts cursors early =
    let made : Layout → ℕ → ℕ → List LiveFact → List Start → List Cursor → List Early → Waiting =
    λ a b c d e f g. record { layout = a; room = b; given = c; live = d; starts = e; cursors = f; early = g } in
    ap (λ x. made x one.room one.given one.live one.starts one.cursors one.early) layout
    ∙ (ap (λ x. made other.layout x one.given one.live one.starts one.cursors one.early) room
    ∙ (ap (λ x. made other.layout other.room x one.live one.starts one.cursors one.early) given
    ∙ (ap (λ x. made other.layout other.room other.given x one.starts one.cursors one.early) live
    ∙ (ap (λ x. made other.layout other.room other.given other.live x one.cursors one.early) starts
    ∙ (ap (λ x. made other.layout other.room other.given other.live other.starts x one.early) cursors
    ∙ ap (λ x. made other.layout other.room other.given other.live other.starts other.cursors x) early)))))

pub came_seen : (old new : Inside) (f : LiveFact) → Came old new f → seen new ≡ with_fact (seen old) f
came_seen old new f is = same_waiting (seen new) (with_fact (seen old) f) is.layout is.room is.given is.facts is.starts is.cursors is.early

pub came_stored : (old new : Inside) (f : LiveFact) → IsStored old → Came old new f → CanCome (seen old) f → length old.facts.items < old.room → IsStored new
came_stored old new f stored is can room =
    let Kept : Waiting → Type 0 = λ w. AreKept w in
    let heads = heads_push old.layout old.early.items (old.facts.items ++ f ∷ []) old.cursors.items is.looked (fact_cursor f) is.head
    (heads_come (seen old) f old.heads.items is.looked can stored.heads is.count is.follow) is.head_is in
    let Layouts : Layout → Type 0 = λ x. AreHeads x old.early.items (old.facts.items ++ f ∷ []) (old.cursors.items ++ fact_cursor f ∷ []) (is.looked ++ is.head ∷ []) in
    let Earlies : List Early → Type 0 = λ x. AreHeads new.layout x (old.facts.items ++ f ∷ []) (old.cursors.items ++ fact_cursor f ∷ []) (is.looked ++ is.head ∷ []) in
    let Facts : List LiveFact → Type 0 = λ x. AreHeads new.layout new.early.items x (old.cursors.items ++ fact_cursor f ∷ []) (is.looked ++ is.head ∷ []) in
    let Moves : List Cursor → Type 0 = λ x. AreHeads new.layout new.early.items new.facts.items x (is.looked ++ is.head ∷ []) in
    let Heads : List (Option Head) → Type 0 = λ x. AreHeads new.layout new.early.items new.facts.items new.cursors.items x in
    let few = length-append old.facts.items (f ∷ []) in
    let facts_count = ap (λ (xs : List LiveFact). length xs) is.facts in
    let edges = ap (λ (l : Layout). length (edge_cursors (length l.edges))) is.layout in
    let rooms = is.room in
    let one = stored.facts_room in
    let two = stored.cursors_room in
    let three = stored.heads_room in
    let more_one = is.facts_room in
    let more_two = is.cursors_room in
    let more_three = is.heads_room in
    record {
      kept = subst Kept (sym (came_seen old new f is)) (kept_with (seen old) f can);
      heads = subst Heads (sym is.heads) (subst Moves (sym is.cursors) (subst Facts (sym is.facts) (subst Earlies (sym is.early) (subst Layouts (sym is.layout) heads))));
      few = omega (arith, room, few, facts_count, rooms);
      facts_room = omega (arith, one, more_one, rooms);
      cursors_room = omega (arith, two, more_two, rooms, edges);
      heads_room = omega (arith, three, more_three, rooms, edges);
    }

pub came_opens : (old new : Inside) (f : LiveFact) → Came old new f → CanCome (seen old) f → Opens (seen old) f (seen new)
came_opens old new f is can = let To : Waiting → Type 0 = λ w. Opens (seen old) f w in subst To (sym (came_seen old new f is)) (opens_with (seen old) f can)

-- ---- facts went

pub record Went (old new : Inside) (left : List LiveFact) (homes : List HomeNo) : Type 0 where
  pub layout : new.layout ≡ old.layout
  pub room : new.room ≡ old.room
  pub given : new.given ≡ old.given
  pub facts : new.facts.items ≡ left
  pub starts : new.starts.items ≡ map (start_back homes) old.starts.items
  pub cursors : new.cursors.items ≡ map (cursor_back old.layout homes) (filter (is_of_live left) old.cursors.items)
  pub early : new.early.items ≡ filter (stays_early old.layout homes) old.early.items
  pub heads : AreHeads new.layout new.early.items new.facts.items new.cursors.items new.heads.items
  pub facts_room : vec_capacity old.facts ≤ vec_capacity new.facts
  pub cursors_room : vec_capacity old.cursors ≤ vec_capacity new.cursors
  pub heads_room : vec_capacity old.heads ≤ vec_capacity new.heads

pub went_seen : (old new : Inside) (left : List LiveFact) (homes : List HomeNo) → Went old new left homes → seen new ≡ back (seen old) left homes
went_seen old new left homes is = same_waiting (seen new) (back (seen old) left homes) is.layout is.room is.given is.facts is.starts is.cursors is.early

pub went_stored : (old new : Inside) (left : List LiveFact) (homes : List HomeNo) → IsStored old → Went old new left homes → AreLeft (seen old) left → length left ≤ length old.facts.items → IsStored new
went_stored old new left homes stored is are less =
    let Kept : Waiting → Type 0 = λ w. AreKept w in
    let facts_count = ap (λ (xs : List LiveFact). length xs) is.facts in
    let edges = ap (λ (l : Layout). length (edge_cursors (length l.edges))) is.layout in
    let rooms = is.room in
    let few = stored.few in
    let one = stored.facts_room in
    let two = stored.cursors_room in
    let three = stored.heads_room in
    let more_one = is.facts_room in
    let more_two = is.cursors_room in
    let more_three = is.heads_room in
    record {
      kept = subst Kept (sym (went_seen old new left homes is)) (kept_back (seen old) left homes are);
      heads = is.heads;
      few = omega (arith, few, less, facts_count, rooms);
      facts_room = omega (arith, one, more_one, rooms);
      cursors_room = omega (arith, two, more_two, rooms, edges);
      heads_room = omega (arith, three, more_three, rooms, edges);
    }

pub went_reopens : (old new : Inside) (left : List LiveFact) (homes : List HomeNo) → Went old new left homes → AreLeft (seen old) left → Reopens (seen old) left homes (seen new)
went_reopens old new left homes is are = let To : Waiting → Type 0 = λ w. Reopens (seen old) left homes w in subst To (sym (went_seen old new left homes is)) (reopens_back (seen old) left homes are)
