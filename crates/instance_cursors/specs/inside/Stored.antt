-- How cursors are held.
use Rattle.std.specs.Prelude.{◌+◌, ◌≤◌, length}
use Rattle.std.specs.Vec.{vec_capacity}
use Rattle.instance_cursors.specs.declared.cursors.Cursors.TheInside.{Inside}
use Rattle.instance_cursors.specs.Cursors.{AreHeads, AreKept, edge_cursors}
use Rattle.instance_cursors.specs.Waiting.{Waiting}

abbrev pub seen : Inside → Waiting
seen inside = record {
  layout = inside.layout;
  room = inside.room;
  given = inside.given;
  live = inside.facts.items;
  starts = inside.starts.items;
  cursors = inside.cursors.items;
  early = inside.early.items;
}

-- There is room for so many facts, and for a cursor of each beside those of edges.
pub record IsStored (inside : Inside) : Type 0 where
  pub kept : AreKept (seen inside)
  pub heads : AreHeads inside.layout inside.early.items inside.facts.items inside.cursors.items inside.heads.items
  pub few : length inside.facts.items ≤ inside.room
  pub facts_room : inside.room ≤ vec_capacity inside.facts
  pub cursors_room : length (edge_cursors (length inside.layout.edges)) + inside.room ≤ vec_capacity inside.cursors
  pub heads_room : length (edge_cursors (length inside.layout.edges)) + inside.room ≤ vec_capacity inside.heads
