-- What each step tells. No public clause cites this file.
use Rattle.std.specs.Prelude.{◌≡◌, ℕ, ◌==◌, nat_le, ◌≤◌, true, false, List, [], ◌∷◌, length, Option, Some, MatchBool, cond}
use mathlib.Core.List.{IsPrefix}
use Rattle.atomic_table.specs.Table.{Me, Step}
use Rattle.board_lock.specs.declared.view.View.{View}
use Rattle.board_lock.specs.inside.Rule.{resting}

-- the longer of two histories
abbrev pub longer : {E : Type 0} → List E → List E → List E
longer xs ys = cond (nat_le (length xs) (length ys)) ys xs

-- the shorter of two histories
abbrev pub shorter : {E : Type 0} → List E → List E → List E
shorter xs ys = cond (nat_le (length xs) (length ys)) xs ys

-- a view that takes in another has seen the longer history, and was told the shorter
abbrev pub merged : {E : Type 0} → View E → View E → View E
merged v w = record { seen = longer v.seen w.seen; told = shorter v.seen w.seen; has_turn = false }

-- a view that was taken in has seen nothing
abbrev pub unseen : {E : Type 0} → View E
unseen = resting []

module _ {M E : Type 0} where
  -- what was told begins what was seen
  abbrev pub Compares : Step (Option M) → Me (Option M) (View E) → ℕ → Me (Option M) (View E) → Type 0
  Compares step before found after = (after ≡ before) × (length before.0.told ≤ length before.0.seen → IsPrefix before.0.told before.0.seen)

module _ {M E : Type 0} (history : M → List E) where
  -- the turn was taken: the slot is the seat's, the history of its value has been seen and begins with all that had been
  pub record Takes (before after : Me (Option M) (View E)) : Type 0 where
    pub value : M
    pub has : after.0.has_turn ≡ true
    pub sees : after.0.seen ≡ history value
    pub slot : after.1 ≡ (0, Some value) ∷ []
    pub begins : IsPrefix before.0.seen (history value)

  -- a try takes the turn where it finds the word that it expects, and else changes nothing
  abbrev pub Tries : Step (Option M) → Me (Option M) (View E) → ℕ → Me (Option M) (View E) → Type 0
  Tries step before found after = MatchBool (found == step.first) (Takes before after) (after ≡ before)

  -- the value is back in its place, and the seat is at rest and has seen its history
  abbrev pub Gives : Step (Option M) → Me (Option M) (View E) → ℕ → Me (Option M) (View E) → Type 0
  Gives step before found after = (value : M) → before.1 ≡ (0, Some value) ∷ [] → after ≡ (resting (history value), [])
