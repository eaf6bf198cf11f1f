-- What callers see of the turn that is held.
use Rattle.std.specs.Prelude.{List}
use Rattle.board_lock.specs.Seats.{TableId}
use Rattle.board_lock.specs.declared.held.Held.{Held}

module _ {M E : Type 0} where
  -- the board that the turn is of
  abbrev pub board_of : Held M E → TableId
  board_of held = held.grip.board

  -- the history of the value when the turn was taken
  abbrev pub taken_of : Held M E → List E
  taken_of held = held.grip.seen

  -- the value
  abbrev pub value_of : Held M E → M
  value_of held = held.value

  -- the same turn with this value
  abbrev pub with_value : Held M E → M → Held M E
  with_value held value = record held { value = value }
