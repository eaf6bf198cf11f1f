-- What callers see of a seat.
use Rattle.std.specs.Prelude.{List}
pub use Rattle.atomic_table.specs.Seated.{TableId}

-- the board that the seat is of, and the history that its owner has seen
pub record SeatView (E : Type 0) : Type 0 where
  pub board : TableId
  pub seen : List E
