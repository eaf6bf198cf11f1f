-- Each step keeps the rule, and tells what it promises.
use Rattle.std.proofs.Common.{◌≡◌, ◌≢◌, ℕ, ◌+◌, ◌*◌, ◌%◌, ◌≤◌, ◌==◌, ◌⊎◌, Bool, true, false, cond, nat_le, List, [], ◌∷◌, ◌++◌, length, set, slice_index, MatchBool, sym, refl, ap, ◌∙◌, subst, ⊎_elim, inl, inr, arith, eq-eqb, Option, Some}
use Rattle.std.proofs.lemmas.Bool.Decides.{nat_tests}
use mathlib.Core.Option.{none, some, some-injective, some-ne-none}
use mathlib.Core.List.{IsPrefix}
use lib.ListN.{get_elem?}
use prog.Atomic.{either}
use Rattle.atomic_table.specs.Table.{State, Me, Act, keeps, takes, gives, step, stepped, Valid, carried_after, rest, Allows, Splits, Joins, opening}
use Rattle.atomic_table.proofs.Lists.{at_set, at_snoc, set_else, set_again}
use Rattle.board_lock.specs.declared.view.View.{View}
use Rattle.board_lock.specs.inside.Rule.{resting, AllKnow, IsFree, IsTaken, IsKeptBy, IsKept}
use Rattle.board_lock.specs.inside.Steps.{longer, shorter, merged, unseen, Compares, Takes, Tries, Gives}
use Rattle.board_lock.proofs.Prefixes.{prefix_self, prefix_shorter}
use Rattle.board_lock.proofs.Kept.{set_there, set_only, known_set, known_longer, not_both, unchanged, rest_set, rest_more}

-- what both have, a choice of them has
by_cond : {A : Type 0} (P : A → Type 0) (b : Bool) (x y : A) → P x → P y → P (cond b x y)
by_cond P true x y p q = p
by_cond P false x y p q = q

-- the shorter one is no longer than the longer
length-shorter : {E : Type 0} (xs ys : List E) → length (shorter xs ys) ≤ length (longer xs ys)
length-shorter {E} xs ys = by_test (nat_le (length xs) (length ys)) refl
  where
    by_test : (b : Bool) → nat_le (length xs) (length ys) ≡ b → length (cond b xs ys) ≤ length (cond b ys xs)
    by_test true is = grind (arith, nat_tests)
    by_test false is = grind (arith, nat_tests)

-- where the shorter begins the longer, both begin the longer, which is one of them
pub longer-both : {E : Type 0} (xs ys : List E) → IsPrefix (shorter xs ys) (longer xs ys)
    → ((longer xs ys ≡ xs) ⊎ (longer xs ys ≡ ys)) × IsPrefix xs (longer xs ys) × IsPrefix ys (longer xs ys)
longer-both {E} xs ys = by_test (nat_le (length xs) (length ys))
  where
    by_test : (b : Bool) → IsPrefix (cond b xs ys) (cond b ys xs) → ((cond b ys xs ≡ xs) ⊎ (cond b ys xs ≡ ys)) × IsPrefix xs (cond b ys xs) × IsPrefix ys (cond b ys xs)
    by_test true begins = (inr refl, begins, prefix_self ys)
    by_test false begins = (inl refl, prefix_self xs, begins)

-- a slot that is held has one value
slot_value : {M : Type 0} (x y : M) → ◌≡◌ {A = List (ℕ × Option M)} ((0, Some x) ∷ []) ((0, Some y) ∷ []) → x ≡ y
slot_value {M} x y e = let same : Some x ≡ Some y = ap (first (Some x)) e in cc same
  where
    first : Option M → List (ℕ × Option M) → Option M
    first d [] = d
    first d (z ∷ zs) = z.1

module _ {M E : Type 0} (history : M → List E) where
  -- the table at first
  pub opens : (value : M) (word : ℕ) → word ≡ 2 * length (history value) → IsKept history (opening (word ∷ []) (Some value ∷ []) (resting (history value)))
  opens value word is = (
    history value,
    record {
      known = λ seat v at. ⊎_elim (λ (e : get_elem? [] seat ≡ some v). absurd (some-ne-none v (sym e)))
          (λ (same : resting (history value) ≡ v). subst (λ (u : View E). IsPrefix u.seen (history value) × IsPrefix u.told (history value)) same (prefix_self (history value), (history value, refl)))
          (at_snoc [] (resting (history value)) v seat at);
      turn = inl record {
        word = ap (λ n. n ∷ []) is;
        value = value;
        home = refl;
        recorded = refl;
        idle = λ seat v at. ⊎_elim (λ (e : get_elem? [] seat ≡ some v). absurd (some-ne-none v (sym e))) (λ (same : resting (history value) ≡ v). subst (λ (u : View E). u.has_turn ≡ false) same refl)
            (at_snoc [] (resting (history value)) v seat at);
      };
    },
  )

  -- a seat with the view v tries to take the turn, and finds the word that it expects or not
  abbrev TryGoes : State (Option M) (View E) → ℕ → ℕ → View E → Bool → Type 0
  TryGoes s id old v b =
      (w : View E) × (a : Act (Option M)) × Valid s.homes [] a × IsKept history (stepped s 0 (either b (old + 1) (slice_index s.words 0)) id [] w a)
      × MatchBool b (Takes history (v, []) (w, carried_after [] a)) (◌≡◌ {A = Me (Option M) (View E)} (w, carried_after [] a) (v, []))

  -- it finds the turn free
  takes_free : (s : State (Option M) (View E)) (log : List E) (id old : ℕ) (v : View E) → AllKnow s.views log → IsFree history log s → get_elem? s.views id ≡ some v → slice_index s.words 0 ≡ old → TryGoes s id old v true
  takes_free s log id old v known f at found =
      let log' = history f.value in
      let w : View E = record { seen = log'; told = v.told; has_turn = true } in
      let mine = known id v at in
      let n : old ≡ 2 * length log = sym found ∙ ap (λ (ws : List ℕ). slice_index ws 0) f.word in (
        w,
        takes 0 (Some f.value),
        ap (λ hs. get_elem? hs 0) f.home,
        (
          log,
          record {
            known = known_set s.views log id w known (subst (λ (l : List E). IsPrefix l log) (sym f.recorded) (prefix_self log)) mine.1;
            turn = inr record {
              word = ap (λ (ws : List ℕ). set ws 0 (old + 1)) f.word ∙ ap (λ (k : ℕ). (k + 1) ∷ []) n;
              holder = id;
              view = w;
              there = set_there s.views id w v at;
              has = refl;
              seen = f.recorded;
              alone = λ seat u there has. ⊎_elim (λ (t : (seat ≡ id) × (w ≡ u)). t.0) (λ (t : (seat ≢ id) × (get_elem? s.views seat ≡ some u)). not_both u u refl (f.idle seat u t.1) has)
                  (at_set s.views id seat w u there);
            };
          },
        ),
        record { value = f.value; has = refl; sees = refl; slot = refl; begins = subst (λ (l : List E). IsPrefix v.seen l) (sym f.recorded) mine.0 },
      )

  try_goes : (s : State (Option M) (View E)) (log : List E) (id old : ℕ) (v : View E) → IsKeptBy history log s → get_elem? s.views id ≡ some v → old % 2 ≡ 0
      → (b : Bool) → (slice_index s.words 0 == old) ≡ b → TryGoes s id old v b
  try_goes s log id old v kept at even true is =
      let found : slice_index s.words 0 ≡ old = grind (arith, nat_tests) in
      ⊎_elim (λ (f : IsFree history log s). takes_free s log id old v kept.known f at found)
      (λ (t : IsTaken history log s). let n : old ≡ 2 * length log + 1 = sym found ∙ ap (λ (ws : List ℕ). slice_index ws 0) t.word in absurd (omega arith)) kept.turn
  try_goes s log id old v kept at even false is = (v, keeps, tt, (log, unchanged history s log id v kept at), refl)

  -- a try at an even word takes the turn or changes nothing
  pub tries : (slots id old : ℕ) (me : Me (Option M) (View E)) → me.1 ≡ [] → old % 2 ≡ 0 → Allows (IsKept history) slots id me 0 (λ n. either (n == old) (old + 1) n) (Tries history (step slots 0 old (old + 1) none) me)
  tries slots id old me bare even =
      subst (λ (held : List (ℕ × Option M)). Allows (IsKept history) slots id (me.0, held) 0 (λ n. either (n == old) (old + 1) n) (Tries history (step slots 0 old (old + 1) none) (me.0, held))) (sym bare)
      (λ s kept sized at small. try_goes s kept.0 id old me.0 kept.1 at even (slice_index s.words 0 == old) refl)

  -- a try that found the word that it expected took the turn
  pub took : (slots old found : ℕ) (before after : Me (Option M) (View E)) → Tries history (step slots 0 old (old + 1) none) before found after → found ≡ old → Takes history before after
  took slots old found before after told same = subst (λ (b : Bool). MatchBool b (Takes history before after) (after ≡ before)) (eq-eqb found old same) told

  -- the slot of a seat that took the turn
  pub took_slot : (before after : Me (Option M) (View E)) → Takes history before after → (held : Option M) × (after.1 ≡ (0, held) ∷ rest after.1)
  took_slot before after won = (Some won.value, won.slot ∙ ap (λ (held : List (ℕ × Option M)). (0, Some won.value) ∷ rest held) (sym won.slot))

  -- the same where the seat is spelled out
  gives_held : (slots id new : ℕ) (v : View E) (value : M) → slots ≡ 1 → v.has_turn ≡ true → IsPrefix v.seen (history value) → new ≡ 2 * length (history value)
      → Allows (IsKept history) slots id (v, (0, Some value) ∷ []) 0 (λ _. new) (λ _. Gives history (step slots 0 new 0 none) (v, (0, Some value) ∷ []) new)
  gives_held slots id new v value one has grown is s kept sized at small =
      let log = kept.0 in
      let more = history value in
      let w : View E = resting more in
      ⊎_elim (λ (f : IsFree history log s). not_both v v refl (f.idle id v at) has)
      (λ (t : IsTaken history log s).
      let here : id ≡ t.holder = t.alone id v at has in
      let same : v ≡ t.view = some-injective v t.view (sym at ∙ (ap (get_elem? s.views) here ∙ t.there)) in
      let longer' : IsPrefix log more = subst (λ (l : List E). IsPrefix l more) (ap (λ u. u.seen) same ∙ t.seen) grown in (
        w,
        gives,
        tt,
        (
          more,
          record {
            known = known_set s.views more id w (known_longer s.views log more kept.1.known longer') (prefix_self more) (more, refl);
            turn = inl record {
              word = ap (λ (ws : List ℕ). set ws 0 new) t.word ∙ ap (λ (k : ℕ). k ∷ []) is;
              value = value;
              home = set_only s.homes (some (Some value)) (sized ∙ one);
              recorded = refl;
              idle = λ seat u there. ⊎_elim (λ (x : (seat ≡ id) × (w ≡ u)). subst (λ (y : View E). y.has_turn ≡ false) x.1 refl)
                  (λ (x : (seat ≢ id) × (get_elem? s.views seat ≡ some u)). others u.has_turn refl (λ yes. x.0 (t.alone seat u x.1 yes ∙ sym here))) (at_set s.views id seat w u there);
            };
          },
        ),
        λ value' slot. (let e = slot_value value value' slot in ap (λ (x : M). (resting (history x), [])) e),
      ))
      kept.1.turn
    where
      others : (b : Bool) {c : Bool} → c ≡ b → (c ≡ true → ⊥) → c ≡ false
      others true e lacks = absurd (lacks e)
      others false e lacks = e

  -- the holder gives the turn back, with a value whose history begins with the one at the taking
  pub gives_back : (slots id new : ℕ) (me : Me (Option M) (View E)) (value : M) → me.1 ≡ (0, Some value) ∷ [] → slots ≡ 1 → me.0.has_turn ≡ true → IsPrefix me.0.seen (history value) → new ≡ 2 * length (history value)
      → Allows (IsKept history) slots id me 0 (λ _. new) (λ _. Gives history (step slots 0 new 0 none) me new)
  gives_back slots id new me value slot one has grown is =
      subst (λ (held : List (ℕ × Option M)). Allows (IsKept history) slots id (me.0, held) 0 (λ _. new) (λ _. Gives history (step slots 0 new 0 none) (me.0, held) new)) (sym slot)
      (gives_held slots id new me.0 value one has grown is)

  -- a look tells that what was told begins what was seen
  pub compares : (slots id : ℕ) (me : Me (Option M) (View E)) → Allows (IsKept history) slots id me 0 (λ n. n) (Compares (step slots 0 0 0 none) me)
  compares slots id me s kept sized at small = let mine = kept.1.known id me.0 at in (
    me.0,
    keeps,
    tt,
    (kept.0, unchanged history s kept.0 id me.0 kept.1 at),
    (refl, λ le. prefix_shorter me.0.told me.0.seen kept.0 mine.1 mine.0 le),
  )

  -- a view at rest is cut into two of the same
  pub splits : (id : ℕ) (v : View E) → v.has_turn ≡ false → Splits (IsKept history) id v v v
  splits id v rest s kept at = let mine = kept.1.known id v at in (
    kept.0,
    subst (λ (views : List (View E)). IsKeptBy history kept.0 record { words = s.words; homes = s.homes; views = views ++ v ∷ [] }) (sym (set_again s.views id v at))
        (rest_more history s kept.0 v kept.1 rest mine.0 mine.1),
  )

  -- a view at rest takes in another
  pub joins : (id : ℕ) (v : View E) (other : ℕ) (w : View E) → v.has_turn ≡ false → w.has_turn ≡ false → Joins (IsKept history) id v other w (merged v w) unseen
  joins id v other w rest rest' s kept at apart there =
      let log = kept.0 in
      let mine = kept.1.known id v at in
      let was : get_elem? s.views other ≡ some w = sym (set_else s.views id other (merged v w) apart) ∙ there in
      let its = kept.1.known other w was in
      let test = nat_le (length v.seen) (length w.seen) in
      let begins : List E → Type 0 = λ l. IsPrefix l log in
      let first = rest_set history s log id v (merged v w) kept.1 at rest refl (by_cond begins test w.seen v.seen its.0 mine.0) (by_cond begins test v.seen w.seen mine.0 its.0) in (
        log,
        rest_set history record { words = s.words; homes = s.homes; views = set s.views id (merged v w) } log other w unseen first there rest' refl (log, refl) (log, refl),
      )
