-- Which steps series have.
use Rattle.std.proofs.Common.{◌≡◌, ℕ, zero, suc, ◌<◌, ◌≤◌, eqb, Bool, true, false, not, ◌&&◌, List, [], ◌∷◌, length, refl, ap, arith}
use Rattle.std.proofs.lemmas.Bool.{eqb-true}
use Rattle.std.specs.List.{slice_get}
use Rattle.thr_base.specs.declared.names.RuleName.{RuleName}
use Rattle.thr_base.specs.declared.names.RuleName.TheVariants.{Rg, Og}
use Rattle.instance_cursors.specs.declared.layout.EdgeHomes.{EdgeHomes}
use Rattle.instance_cursors.specs.declared.early.Early.{Early}
use Rattle.instance_cursors.specs.declared.turns.Series.{Series}
use Rattle.instance_cursors.specs.declared.turns.Series.TheVariants.{Own, Told, Beside}
use Rattle.fact_table.specs.declared.live_fact.LiveFact.{LiveFact}
use Rattle.instance_cursors.specs.Turns.{has_turn, is_early, turn_at}
use Rattle.instance_cursors.specs.Ways.{Layout}
use Rattle.instance_cursors.specs.Layout.{are_apart, has_source, has_step, home_at, is_step_home, is_told, last_beside_by, last_step, leads_from, leaves}

pub not_true : (b : Bool) → (b ≡ true → ⊥) → b ≡ false
not_true true never = absurd (never refl)
not_true false never = refl

and_right : (a b : Bool) → b ≡ false → (a && b) ≡ false
and_right true b e = e
and_right false b e = refl

and_left : (a b : Bool) → a ≡ false → (a && b) ≡ false
and_left a b e = ap (λ (x : Bool). x && b) e

not_one : (step : ℕ) → (step ≡ 1 → ⊥) → eqb step 1 ≡ false
not_one step apart = not_true (eqb step 1) (λ e. apart (eqb-true step 1 e))

past : (edges : List EdgeHomes) (k home : ℕ) → length edges ≤ k → leads_from (slice_get edges k) home ≡ false
past [] k home le = refl
past (edge ∷ edges) zero home le = absurd (omega arith)
past (edge ∷ edges) (suc k) home le = past edges k home (omega arith)

leaves-above : (rule : RuleName) (layout : Layout) (home step : ℕ) → last_beside_by rule layout < step → leaves rule layout home step ≡ false
leaves-above Rg layout home step lt = and_right (is_step_home (home_at layout home)) (eqb step 1) (not_one step (λ e. omega (arith, e, lt)))
leaves-above Og layout home zero lt = refl
leaves-above Og layout home (suc edge) lt = past layout.edges edge home (omega arith)

pub has_step-above : (layout : Layout) (series : Series) (home step : ℕ) → last_step layout series < step → has_step layout series home step ≡ false
has_step-above layout (Own edge) home step lt = and_left (eqb step 1) (has_source layout edge home) (not_one step (λ e. omega (arith, e, lt)))
has_step-above layout (Told edge) home step lt = and_left (eqb step 1) (is_told layout.rule && has_source layout edge home) (not_one step (λ e. omega (arith, e, lt)))
has_step-above layout (Beside at id) home step lt = and_right (are_apart (home_at layout at.0) (home_at layout home)) (leaves layout.rule layout home step) (leaves-above layout.rule layout home step lt)

leaves-zero : (rule : RuleName) (layout : Layout) (home : ℕ) → leaves rule layout home 0 ≡ false
leaves-zero Rg layout home = and_right (is_step_home (home_at layout home)) (eqb 0 1) refl
leaves-zero Og layout home = refl

pub has_step-zero : (layout : Layout) (series : Series) (home : ℕ) → has_step layout series home 0 ≡ false
has_step-zero layout (Own edge) home = refl
has_step-zero layout (Told edge) home = refl
has_step-zero layout (Beside at id) home = and_right (are_apart (home_at layout at.0) (home_at layout home)) (leaves layout.rule layout home 0) (leaves-zero layout.rule layout home)

pub not_both : (b : Bool) → b ≡ true → b ≡ false → ⊥
not_both b passes fails = cc

-- ---- turns

pub has_turn-zero : (layout : Layout) (early : List Early) (series : Series) (f : LiveFact) → has_turn layout early series f 0 ≡ false
has_turn-zero layout early series f = and_left (has_step layout series f.fact.home.0 0) (not (is_early early series (turn_at f 0))) (has_step-zero layout series f.fact.home.0)

pub has_turn-above : (layout : Layout) (early : List Early) (series : Series) (f : LiveFact) (step : ℕ) → last_step layout series < step → has_turn layout early series f step ≡ false
has_turn-above layout early series f step lt =
    and_left (has_step layout series f.fact.home.0 step) (not (is_early early series (turn_at f step))) (has_step-above layout series f.fact.home.0 step lt)
