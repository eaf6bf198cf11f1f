-- Writes at a place.
use Rattle.std.proofs.Common.{◌≡◌, ℕ, zero, suc, ◌<◌, List, [], ◌∷◌, length, get_or, set, ap, arith}
use Rattle.instance_cursors.specs.declared.turns.Cursor.{Cursor}
use Rattle.instance_cursors.specs.declared.turns.Turn.{Turn}
use Rattle.instance_cursors.specs.Cursors.{passed_at}

pub set-passed : (cursors : List Cursor) (place : ℕ) (cursor : Cursor) (turn : Turn) → place < length cursors → cursor ≡ get_or cursors place cursor
    → set cursors place (record cursor { passed = turn }) ≡ passed_at cursors place turn
set-passed [] place cursor turn lt is = absurd (omega arith)
set-passed (other ∷ cursors) zero cursor turn lt is = ap (λ (c : Cursor). record c { passed = turn } ∷ cursors) is
set-passed (other ∷ cursors) (suc place) cursor turn lt is = ap (λ (xs : List Cursor). other ∷ xs) (set-passed cursors place cursor turn (omega arith) is)
