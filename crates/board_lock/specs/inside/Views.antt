-- The views of a seat between turns. No public clause cites this file.
use Rattle.std.specs.Prelude.{◌≡◌, false, List, [], ◌∷◌}
use Rattle.board_lock.specs.declared.view.View.{View}

-- the history that the one view has seen
abbrev pub seen_of : {E : Type 0} → List (View E) → List E
seen_of [] = []
seen_of (v ∷ vs) = v.seen

-- there is one view, which has no turn
abbrev pub IsAtRest : {E : Type 0} → List (View E) → Type 0
IsAtRest {E} views = (v : View E) × (views ≡ v ∷ []) × (v.has_turn ≡ false)
