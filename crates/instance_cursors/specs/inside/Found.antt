-- The best of the heads that were found, and the turn that an instance is.
use Rattle.std.specs.Prelude.{◌≡◌, ℕ, ◌⊎◌, true, List, slice_get, Option, Some, None}
use Rattle.std.specs.List.{Contains}
use Rattle.thr_base.specs.declared.names.FactId.{FactId}
use Rattle.thr_base.specs.declared.names.Instance.{Instance}
use Rattle.thr_base.specs.declared.names.Instance.TheVariants.{Init, Own as OwnStep, Guar, Env, Inter}
use Rattle.fact_table.specs.declared.live_fact.LiveFact.{LiveFact}
use Rattle.instance_cursors.specs.declared.choosing.Found.{Found}
use Rattle.instance_cursors.specs.declared.finding.Place.{Place}
use Rattle.instance_cursors.specs.declared.turns.Cursor.{Cursor}
use Rattle.instance_cursors.specs.declared.turns.Series.{Series}
use Rattle.instance_cursors.specs.Instances.{instance_of}
use Rattle.instance_cursors.specs.Layout.{has_step}
use Rattle.instance_cursors.specs.Turns.{turn_at}
use Rattle.instance_cursors.specs.Waiting.{IsTurn}
use Rattle.instance_cursors.specs.Ways.{Layout}

-- The result is one of two, and nothing only where both are.
abbrev pub IsEither : Option Found → Option Found → Option Found → Type 0
IsEither one other None = (one ≡ None) × (other ≡ None)
IsEither one other (Some found) = (one ≡ Some found) ⊎ (other ≡ Some found)

-- the id of the last premise of an instance: cursors go over it
abbrev pub last_id : Instance → FactId
last_id (Init i) = record { 0 = 0 }
last_id (OwnStep f e) = f
last_id (Guar f e) = f
last_id (Env f t) = t
last_id (Inter f g e) = g

-- No live fact has this id.
abbrev pub HasNoId : List LiveFact → FactId → Type 0
HasNoId live id = (f : LiveFact) → Contains live f → f.id ≡ id → ⊥

-- The fact's step in the series is this instance.
abbrev pub IsStep : Layout → Series → LiveFact → Instance → ℕ → Type 0
IsStep layout series f instance step = (has_step layout series f.fact.home.0 step ≡ true) × (instance_of layout series (turn_at f step) ≡ instance)

abbrev pub HasNoStep : Layout → Series → LiveFact → Instance → Type 0
HasNoStep layout series f instance = (step : ℕ) → IsStep layout series f instance step → ⊥

-- No cursor has the instance in its series.
abbrev pub IsNowhere : Layout → List LiveFact → List Cursor → Instance → Type 0
IsNowhere layout live cursors instance = (place : ℕ) (cursor : Cursor) → slice_get cursors place ≡ Some cursor → IsTurn layout live cursor.series instance → ⊥

-- The cursor at the place has it, as this turn.
pub record IsAt (layout : Layout) (live : List LiveFact) (cursors : List Cursor) (instance : Instance) (at : Place) : Type 0 where
  pub cursor : Cursor
  pub cursor_at : slice_get cursors at.place ≡ Some cursor
  pub fact : LiveFact
  pub is_live : Contains live fact
  pub turn_is : at.turn ≡ turn_at fact at.turn.step
  pub is_step : IsStep layout cursor.series fact instance at.turn.step
