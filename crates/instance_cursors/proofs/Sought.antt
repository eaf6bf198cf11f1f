-- The turn that an instance is.
use Rattle.std.proofs.Common.{◌≡◌, ℕ, ◌+◌, ◌<◌, ◌≤◌, inl, inr, List, length, map, get_or, Some, refl, ap, sym, ◌∙◌, subst, arith}
use Rattle.std.proofs.lemmas.Bool.{cases_lt}
use Rattle.std.specs.List.{Contains, slice_get}
use Rattle.thr_base.specs.Held.{Rise}
use Rattle.thr_base.specs.declared.names.FactId.{FactId}
use Rattle.thr_base.specs.declared.names.Instance.{Instance}
use Rattle.fact_table.specs.declared.live_fact.LiveFact.{LiveFact}
use Rattle.instance_cursors.specs.declared.turns.Cursor.{Cursor}
use Rattle.instance_cursors.specs.Turns.{turn_at}
use Rattle.instance_cursors.specs.Waiting.{IsTurn}
use Rattle.instance_cursors.specs.Ways.{Layout}
use Rattle.instance_cursors.specs.inside.Found.{HasNoId, HasNoStep, IsAt, IsNowhere, IsStep, last_id}
use Rattle.instance_cursors.proofs.Follow.{get-read, get_within}
use Rattle.instance_cursors.proofs.SameTurns.{last_id-instance_of, same_fact}

-- the fact of an instance's turn has the instance's last id
turn_id : (layout : Layout) (live : List LiveFact) (c : Cursor) (instance : Instance) (turn : IsTurn layout live c.series instance) → turn.fact.id ≡ last_id instance
turn_id layout live c instance turn = sym (last_id-instance_of layout c.series (turn_at turn.fact turn.step)) ∙ ap last_id turn.instance_is

pub nowhere_without : (layout : Layout) (live : List LiveFact) (cursors : List Cursor) (instance : Instance) → HasNoId live (last_id instance) → IsNowhere layout live cursors instance
nowhere_without layout live cursors instance none place c at turn = none turn.fact turn.is_live (turn_id layout live c instance turn)

pub record IsSought (layout : Layout) (live : List LiveFact) (cursors : List Cursor) (instance : Instance) (f : LiveFact) (place : ℕ) : Type 0 where
  pub is_live : Contains live f
  pub id_is : f.id ≡ last_id instance
  pub none : (k : ℕ) (c : Cursor) → k < place → slice_get cursors k ≡ Some c → HasNoStep layout c.series f instance

pub nowhere_in_all : (layout : Layout) (live : List LiveFact) (cursors : List Cursor) (instance : Instance) (f : LiveFact) (place : ℕ) → Rise 0 (map (λ g. g.id.0) live)
    → IsSought layout live cursors instance f place → length cursors ≤ place → IsNowhere layout live cursors instance
nowhere_in_all layout live cursors instance f place rise so_far le k c at turn =
    let ids = ap (λ (x : FactId). x.0) (turn_id layout live c instance turn ∙ sym so_far.id_is) in
    let same = same_fact live turn.fact f rise turn.is_live so_far.is_live ids in
    let Is : LiveFact → Type 0 = λ g. IsStep layout c.series g instance turn.step in
    so_far.none k c (omega (arith, get_within cursors k c at, le)) at turn.step (subst Is same (turn.has_step_there, turn.instance_is))

pub sought_first : (layout : Layout) (live : List LiveFact) (cursors : List Cursor) (instance : Instance) (f : LiveFact) → Contains live f → f.id ≡ last_id instance → IsSought layout live cursors instance f 0
sought_first layout live cursors instance f has ids = record { is_live = has; id_is = ids; none = λ k c lt at. absurd (omega (arith, lt)) }

pub sought_more : (layout : Layout) (live : List LiveFact) (cursors : List Cursor) (instance : Instance) (f : LiveFact) (place : ℕ) (d : Cursor) → IsSought layout live cursors instance f place
    → place < length cursors → HasNoStep layout (get_or cursors place d).series f instance → IsSought layout live cursors instance f (place + 1)
sought_more layout live cursors instance f place d so_far lt none = record {
  is_live = so_far.is_live;
  id_is = so_far.id_is;
  none = λ k c less at. elim (cases_lt k place) [
    | inl before ↦ so_far.none k c before at
    | inr not_before ↦
        let here : k ≡ place = omega (arith, less, not_before) in
        let both : Some (get_or cursors place d) ≡ Some c = sym (get-read cursors place d lt) ∙ (ap (λ n. slice_get cursors n) (sym here) ∙ at) in
        let same : get_or cursors place d ≡ c = cc in
        let None_of : Cursor → Type 0 = λ x. HasNoStep layout x.series f instance in
        subst None_of same none
  ];
}

pub sought_at : (layout : Layout) (live : List LiveFact) (cursors : List Cursor) (instance : Instance) (f : LiveFact) (place step : ℕ) (d : Cursor) → IsSought layout live cursors instance f place
    → place < length cursors → IsStep layout (get_or cursors place d).series f instance step → IsAt layout live cursors instance (record { place = place; turn = record { id = f.id; step = step } })
sought_at layout live cursors instance f place step d so_far lt is = record {
  cursor = get_or cursors place d;
  cursor_at = get-read cursors place d lt;
  fact = f;
  is_live = so_far.is_live;
  turn_is = refl;
  is_step = is;
}
