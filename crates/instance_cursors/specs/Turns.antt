-- Where a cursor stands in its series.
use Rattle.std.specs.Prelude.{◌≡◌, ℕ, ◌<◌, ◌≤◌, ◌⊎◌, nat_eq, Bool, true, false, not, ◌&&◌, List}
use Rattle.std.specs.List.{Contains, list_any}
use Rattle.fact_table.specs.declared.live_fact.LiveFact.{LiveFact}
use Rattle.instance_cursors.specs.declared.early.Early.{Early}
use Rattle.instance_cursors.specs.declared.turns.Cursor.{Cursor}
use Rattle.instance_cursors.specs.declared.turns.Series.{Series}
use Rattle.instance_cursors.specs.declared.turns.Series.TheVariants.{Own, Told, Beside}
use Rattle.instance_cursors.specs.declared.turns.Turn.{Turn}
use Rattle.instance_cursors.specs.Layout.{has_step}
use Rattle.instance_cursors.specs.Ways.{Layout}

-- A turn of this fact and step is passed.
abbrev pub IsPassed : Turn → ℕ → ℕ → Type 0
IsPassed passed id step = (id < passed.id.0) ⊎ ((id ≡ passed.id.0) × (step ≤ passed.step))

-- A turn of this fact and step comes before another one.
abbrev pub ComesBefore : ℕ → ℕ → Turn → Type 0
ComesBefore id step turn = (id < turn.id.0) ⊎ ((id ≡ turn.id.0) × (step < turn.step))

-- before all turns
abbrev pub beginning : Turn
beginning = record { id = record { 0 = 0 }; step = 0 }

-- the turn of a fact at a step
abbrev pub turn_at : LiveFact → ℕ → Turn
turn_at f step = record { id = f.id; step = step }

-- ---- turns that were taken early

abbrev pub same_series : Series → Series → Bool
same_series (Own edge) (Own other) = nat_eq edge other
same_series (Told edge) (Told other) = nat_eq edge other
same_series (Beside home id) (Beside at other) = nat_eq home.0 at.0 && nat_eq id.0 other.0
same_series one other = false

abbrev pub same_turn : Turn → Turn → Bool
same_turn one other = nat_eq one.id.0 other.id.0 && nat_eq one.step other.step

abbrev pub is_turn : Series → Turn → Early → Bool
is_turn series turn early = same_series early.series series && same_turn early.turn turn

abbrev pub is_early : List Early → Series → Turn → Bool
is_early early series turn = list_any (is_turn series turn) early

-- the live fact has this turn in the series, and it was not taken early
abbrev pub has_turn : Layout → List Early → Series → LiveFact → ℕ → Bool
has_turn layout early series f step = has_step layout series f.fact.home.0 step && not (is_early early series (turn_at f step))

-- ---- heads

-- All turns that live facts have in the cursor's series are passed.
abbrev pub AllArePassed : Layout → List Early → Cursor → List LiveFact → Type 0
AllArePassed layout early cursor live =
    (f : LiveFact) (step : ℕ) → Contains live f → has_turn layout early cursor.series f step ≡ true → IsPassed cursor.passed f.id.0 step

-- The turn is the first of the cursor's series that is not passed.
pub record IsHead (layout : Layout) (early : List Early) (cursor : Cursor) (live : List LiveFact) (turn : Turn) : Type 0 where
  pub fact : LiveFact
  pub is_live : Contains live fact
  pub id_is : fact.id ≡ turn.id
  pub has_turn_there : has_turn layout early cursor.series fact turn.step ≡ true
  pub is_open : IsPassed cursor.passed turn.id.0 turn.step → ⊥
  pub earlier : (f : LiveFact) (step : ℕ) → Contains live f → has_turn layout early cursor.series f step ≡ true → ComesBefore f.id.0 step turn → IsPassed cursor.passed f.id.0 step

-- Of the steps after one, the test holds of none; it holds of this one, and of none between.
abbrev pub HoldsNoneAfter : (ℕ → Bool) → ℕ → Type 0
HoldsNoneAfter test after = (step : ℕ) → after < step → test step ≡ false

abbrev pub IsNextAfter : (ℕ → Bool) → ℕ → ℕ → Type 0
IsNextAfter test after next = (after < next) × (test next ≡ true) × ((step : ℕ) → after < step → step < next → test step ≡ false)
