-- The best head so far.
use Rattle.std.proofs.Common.{◌≡◌, ℕ, ◌+◌, ◌<◌, inl, inr, List, length, Option, Some, None, refl, sym, subst, arith}
use Rattle.std.proofs.lemmas.Bool.{cases_lt}
use Rattle.std.specs.Option.{MatchOption}
use Rattle.thr_base.specs.declared.names.ThreadNo.{ThreadNo}
use Rattle.instance_cursors.specs.declared.choosing.Found.{Found}
use Rattle.instance_cursors.specs.declared.key.Head.{Head}
use Rattle.instance_cursors.specs.declared.turns.Cursor.{Cursor}
use Rattle.instance_cursors.specs.Choice.{HasHead, HasNoHead, NoneHasHead}
use Rattle.instance_cursors.specs.Ways.{Layout}
use Rattle.instance_cursors.specs.inside.Found.{IsEither}

pub record IsBest (layout : Layout) (only : Option ThreadNo) (cursors : List Cursor) (heads : List (Option Head)) (place : ℕ) (best : Option Found) : Type 0 where
  pub none : best ≡ None → (k : ℕ) → k < place → HasNoHead layout only cursors heads k
  pub some : (found : Found) → best ≡ Some found → HasHead layout only cursors heads found.place found.head

pub IsBest-start : (layout : Layout) (only : Option ThreadNo) (cursors : List Cursor) (heads : List (Option Head)) → IsBest layout only cursors heads 0 None
IsBest-start layout only cursors heads = record { none = λ e k lt. absurd (omega (arith, lt)); some = λ found e. cc }

abbrev Says : Layout → Option ThreadNo → List Cursor → List (Option Head) → ℕ → Option Found → Type 0
Says layout only cursors heads place found = MatchOption found (HasNoHead layout only cursors heads place) (λ found. HasHead layout only cursors heads found.place found.head)

pub IsBest-more : (layout : Layout) (only : Option ThreadNo) (cursors : List Cursor) (heads : List (Option Head)) (place : ℕ) (best found next : Option Found) → IsBest layout only cursors heads place best
    → Says layout only cursors heads place found → IsEither best found next → IsBest layout only cursors heads (place + 1) next
IsBest-more layout only cursors heads place best found None is says either = record {
  none = λ e k lt. elim (cases_lt k place) [
    | inl before ↦ is.none either.0 k before
    | inr not_before ↦
        let here : k ≡ place = omega (arith, lt, not_before) in
        let Not : ℕ → Type 0 = λ n. HasNoHead layout only cursors heads n in
        let Said : Option Found → Type 0 = λ o. Says layout only cursors heads place o in
        subst Not (sym here) (subst Said either.1 says)
  ];
  some = λ x e. cc;
}
IsBest-more layout only cursors heads place best found (Some x) is says either = record {
  none = λ e k lt. cc;
  some = λ y e.
      let Open : Option Found → Type 0 = λ o. MatchOption o (Unit {0}) (λ z. HasHead layout only cursors heads z.place z.head) in
      let Said : Option Found → Type 0 = λ o. Says layout only cursors heads place o in
      let open_x : HasHead layout only cursors heads x.place x.head = elim either [ inl old ↦ is.some x old | inr new ↦ subst Said new says ] in
      subst Open e open_x;
}

pub best_in_all : (layout : Layout) (only : Option ThreadNo) (cursors : List Cursor) (heads : List (Option Head)) (place : ℕ) (best : Option Found) → IsBest layout only cursors heads place best
    → length cursors ≡ place → MatchOption best (NoneHasHead layout only cursors heads) (λ found. HasHead layout only cursors heads found.place found.head)
best_in_all layout only cursors heads place None is all = λ k lt. is.none refl k (omega (arith, lt, all))
best_in_all layout only cursors heads place (Some found) is all = is.some found refl
