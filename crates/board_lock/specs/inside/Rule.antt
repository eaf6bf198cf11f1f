-- What is so between any two steps. No public clause cites this file.
use Rattle.std.specs.Prelude.{◌≡◌, ℕ, ◌+◌, ◌*◌, ◌⊎◌, true, false, List, [], ◌∷◌, length, Option, Some}
use mathlib.Core.Option.{some}
use mathlib.Core.List.{IsPrefix}
use lib.ListN.{get_elem?}
use Rattle.atomic_table.specs.Table.{State}
use Rattle.board_lock.specs.declared.view.View.{View}

-- a view at rest: this history was seen, and no other told
abbrev pub resting : {E : Type 0} → List E → View E
resting seen = record { seen = seen; told = []; has_turn = false }

-- all views have seen, and were told, beginnings of the history
abbrev pub AllKnow : {E : Type 0} → List (View E) → List E → Type 0
AllKnow {E} views log = (seat : ℕ) (v : View E) → get_elem? views seat ≡ some v → IsPrefix v.seen log × IsPrefix v.told log

module _ {M E : Type 0} (history : M → List E) (log : List E) (s : State (Option M) (View E)) where
  -- the turn is free: the slot has a value with this history, and no view has the turn
  pub record IsFree : Type 0 where
    pub word : s.words ≡ (2 * length log) ∷ []
    pub value : M
    pub home : s.homes ≡ some (Some value) ∷ []
    pub recorded : history value ≡ log
    pub idle : (seat : ℕ) (v : View E) → get_elem? s.views seat ≡ some v → v.has_turn ≡ false

  -- the turn is taken: one view has it, and has seen just this history. What is in the slot its holder knows
  pub record IsTaken : Type 0 where
    pub word : s.words ≡ (2 * length log + 1) ∷ []
    pub holder : ℕ
    pub view : View E
    pub there : get_elem? s.views holder ≡ some view
    pub has : view.has_turn ≡ true
    pub seen : view.seen ≡ log
    pub alone : (seat : ℕ) (v : View E) → get_elem? s.views seat ≡ some v → v.has_turn ≡ true → seat ≡ holder

  -- this is the one history
  pub record IsKeptBy : Type 0 where
    pub known : AllKnow s.views log
    pub turn : IsFree ⊎ IsTaken

-- there is one history, of which all views know a beginning
abbrev pub IsKept : {M E : Type 0} → (M → List E) → State (Option M) (View E) → Type 0
IsKept {M} {E} history s = (log : List E) × IsKeptBy history log s
