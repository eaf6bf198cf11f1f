-- What changes of the views leave so.
use Rattle.std.proofs.Common.{◌≡◌, ◌≢◌, ℕ, zero, suc, true, false, List, [], ◌∷◌, ◌++◌, length, get_or, set, sym, refl, ap, ◌∙◌, subst, ⊎_elim, inl, inr, arith, Option}
use mathlib.Core.Option.{some, some-injective, some-ne-none}
use mathlib.Core.List.{IsPrefix}
use lib.ListN.{get_elem?}
use lib.Seq.{set-get_or}
use Rattle.atomic_table.specs.Table.{State}
use Rattle.atomic_table.proofs.Lists.{at_set, at_snoc, at_longer, set_else, set_again}
use Rattle.board_lock.specs.declared.view.View.{View}
use Rattle.board_lock.specs.inside.Rule.{AllKnow, IsFree, IsTaken, IsKeptBy}
use Rattle.board_lock.specs.inside.Views.{IsAtRest}
use Rattle.board_lock.proofs.Prefixes.{prefix_trans}

-- what was set at a place that there is
pub set_there : {A : Type 0} (l : List A) (i : ℕ) (a b : A) → get_elem? l i ≡ some b → get_elem? (set l i a) i ≡ some a
set_there [] i a b e = absurd (some-ne-none b (sym e))
set_there (x ∷ xs) zero a b e = refl
set_there (x ∷ xs) (suc i) a b e = set_there xs i a b e

-- a list of one
pub set_only : {A : Type 0} (l : List A) (a : A) → length l ≡ 1 → set l 0 a ≡ a ∷ []
set_only [] a one = absurd (omega arith)
set_only (x ∷ []) a one = refl
set_only (x ∷ y ∷ zs) a one = absurd (omega arith)

module _ {E : Type 0} where
  -- the views after one has changed
  pub known_set : (views : List (View E)) (log : List E) (id : ℕ) (w : View E) → AllKnow views log → IsPrefix w.seen log → IsPrefix w.told log → AllKnow (set views id w) log
  known_set views log id w known seen told seat v at =
      ⊎_elim (λ (t : (seat ≡ id) × (w ≡ v)). subst (λ (u : View E). IsPrefix u.seen log × IsPrefix u.told log) t.1 (seen, told))
      (λ (t : (seat ≢ id) × (get_elem? views seat ≡ some v)). known seat v t.1) (at_set views id seat w v at)

  -- the views with one more
  pub known_more : (views : List (View E)) (log : List E) (w : View E) → AllKnow views log → IsPrefix w.seen log → IsPrefix w.told log → AllKnow (views ++ w ∷ []) log
  known_more views log w known seen told seat v at =
      ⊎_elim (known seat v) (λ (same : w ≡ v). subst (λ (u : View E). IsPrefix u.seen log × IsPrefix u.told log) same (seen, told)) (at_snoc views w v seat at)

  -- the views where the history has grown
  pub known_longer : (views : List (View E)) (log more : List E) → AllKnow views log → IsPrefix log more → AllKnow views more
  known_longer views log more known grown seat v at = let k = known seat v at in (prefix_trans v.seen log more k.0 grown, prefix_trans v.told log more k.1 grown)

  -- no view both has the turn and has it not
  pub not_both : {A : Type 0} (v w : View E) → v ≡ w → v.has_turn ≡ false → w.has_turn ≡ true → A
  not_both v w same lacks has = absurd (cc (same, lacks, has))

-- the one view of a seat between turns
pub at_rest : {E : Type 0} (views : List (View E)) (v : View E) → IsAtRest views → views ≡ v ∷ [] → v.has_turn ≡ false
at_rest {E} views v rest is = let same : rest.0 ≡ v = cc (rest.1, is) in subst (λ (w : View E). w.has_turn ≡ false) same rest.2

module _ {M E : Type 0} (history : M → List E) where
  abbrev S : Type 0
  S = State (Option M) (View E)

  -- nothing changed
  pub unchanged : (s : S) (log : List E) (id : ℕ) (v : View E) → IsKeptBy history log s → get_elem? s.views id ≡ some v
      → IsKeptBy history log record { words = set s.words 0 (get_or s.words 0 0); homes = s.homes; views = set s.views id v }
  unchanged s log id v kept at =
      subst (λ (z : List ℕ × List (View E)). IsKeptBy history log record { words = z.0; homes = s.homes; views = z.1 }) (λ i. (sym (set-get_or s.words 0 0) i, sym (set_again s.views id v at) i)) kept

  -- a view at rest changed to another at rest
  pub rest_set : (s : S) (log : List E) (id : ℕ) (v w : View E) → IsKeptBy history log s → get_elem? s.views id ≡ some v → v.has_turn ≡ false → w.has_turn ≡ false
      → IsPrefix w.seen log → IsPrefix w.told log → IsKeptBy history log record { words = s.words; homes = s.homes; views = set s.views id w }
  rest_set s log id v w kept at before after seen told = record {
    known = known_set s.views log id w kept.known seen told;
    turn = ⊎_elim
        (λ (f : IsFree history log s). inl record {
          word = f.word;
          value = f.value;
          home = f.home;
          recorded = f.recorded;
          idle = λ seat u there. ⊎_elim (λ (t : (seat ≡ id) × (w ≡ u)). subst (λ (x : View E). x.has_turn ≡ false) t.1 after)
              (λ (t : (seat ≢ id) × (get_elem? s.views seat ≡ some u)). f.idle seat u t.1) (at_set s.views id seat w u there);
        })
        (λ (t : IsTaken history log s). inr record {
          word = t.word;
          holder = t.holder;
          view = t.view;
          there = set_else s.views id t.holder w
              (λ (same : t.holder ≡ id). not_both v t.view (some-injective v t.view (sym at ∙ (ap (get_elem? s.views) (sym same) ∙ t.there))) before t.has) ∙ t.there;
          has = t.has;
          seen = t.seen;
          alone = λ seat u there has. ⊎_elim (λ (x : (seat ≡ id) × (w ≡ u)). not_both w u x.1 after has)
              (λ (x : (seat ≢ id) × (get_elem? s.views seat ≡ some u)). t.alone seat u x.1 has) (at_set s.views id seat w u there);
        })
        kept.turn;
  }

  -- one more view at rest
  pub rest_more : (s : S) (log : List E) (w : View E) → IsKeptBy history log s → w.has_turn ≡ false → IsPrefix w.seen log → IsPrefix w.told log
      → IsKeptBy history log record { words = s.words; homes = s.homes; views = s.views ++ w ∷ [] }
  rest_more s log w kept after seen told = record {
    known = known_more s.views log w kept.known seen told;
    turn = ⊎_elim
        (λ (f : IsFree history log s). inl record {
          word = f.word;
          value = f.value;
          home = f.home;
          recorded = f.recorded;
          idle = λ seat u there. ⊎_elim (f.idle seat u) (λ (same : w ≡ u). subst (λ (x : View E). x.has_turn ≡ false) same after) (at_snoc s.views w u seat there);
        })
        (λ (t : IsTaken history log s). inr record {
          word = t.word;
          holder = t.holder;
          view = t.view;
          there = at_longer s.views (w ∷ []) t.holder t.view t.there;
          has = t.has;
          seen = t.seen;
          alone = λ seat u there has. ⊎_elim (λ (x : get_elem? s.views seat ≡ some u). t.alone seat u x has) (λ (same : w ≡ u). not_both w u same after has) (at_snoc s.views w u seat there);
        })
        kept.turn;
  }
