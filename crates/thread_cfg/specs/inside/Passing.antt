-- What the code holds while it goes from the last instruction to the first.
use Rattle.std.specs.Prelude.{ℕ, zero, suc, ◌-◌, List, [], map, reverse, take, drop, option_map}
use Rattle.thr_base.specs.declared.names.Loc.{Loc}
use Rattle.c_check.specs.declared.instruction.Instruction.{Instruction}
use Rattle.thread_cfg.specs.declared.part.Part.{Part}
use Rattle.thread_cfg.specs.declared.part.Part.TheVariants as part
use Rattle.thread_cfg.specs.declared.sides.Target.{Target as StoredTarget}
use Rattle.thread_cfg.specs.declared.sides.Target.TheVariants as stored
use Rattle.thread_cfg.specs.declared.sides.Sides.{Sides as StoredSides}
use Rattle.thread_cfg.specs.declared.pass.Opened.{Opened as StoredOpened}
use Rattle.thread_cfg.specs.declared.pass.Pass.{Pass}
use Rattle.thread_cfg.specs.inside.Parts.{Written}
use Rattle.thread_cfg.specs.inside.Pass.{Opened, Passed, Sides, Target, Testing}

-- the number of a location
abbrev pub location_of : Loc → ℕ
location_of l = l.0

-- a part as it is written down
abbrev pub written_of : Part → Written
written_of (part.Assign a next) = Written.Assign a.now next.0
written_of (part.AssignAny from v next) = Written.AssignAny from v next.0
written_of (part.Choice from t f) = Written.Choice from t.0 f.0
written_of (part.Compare c t f) = Written.Compare c.now (option_map location_of t) (option_map location_of f)
written_of (part.Jump from to) = Written.Jump from to.0
written_of (part.Lock from lock next) = Written.Lock from lock next.0
written_of (part.Unlock from lock next) = Written.Unlock from lock next.0
written_of (part.Block from inner next) = Written.Block from inner.now next.0

-- parts that were put down from the last one to the first
abbrev pub parts_held : List Part → List Written
parts_held parts = reverse (map written_of parts)

-- where a side leads
abbrev pub target_of : StoredTarget → Target
target_of stored.Nowhere = Target.Nowhere
target_of (stored.At l) = Target.At l.0
target_of stored.Behind = Target.Behind

-- where two sides lead
abbrev pub sides_of : StoredSides → Sides
sides_of sides = record { on_true = target_of sides.on_true; on_false = target_of sides.on_false }

-- the sides of tests, of which the innermost is held last
abbrev pub sides_held : List StoredSides → List Sides
sides_held sides = reverse (map sides_of sides)

-- what is known behind an operation
abbrev pub testing_of : Loc → List StoredSides → List Part → Testing
testing_of at sides parts = record { at = at.0; sides = sides_held sides; parts = parts_held parts }

-- ---- of instructions

-- what is known of one that is open
abbrev pub opened_of : StoredOpened → Opened
opened_of o = record { next = o.next.0; other = o.other.0 }

-- what is open, the innermost one last
abbrev pub opened_held : List StoredOpened → List Opened
opened_held opened = reverse (map opened_of opened)

-- locations, of which the last is held first
abbrev pub locations_held : List Loc → List ℕ
locations_held locations = reverse (map location_of locations)

-- what is known behind an instruction, with those of the block that it is in
abbrev pub passed_of : Pass → List Instruction → Passed
passed_of pass block = record {
  at = pass.at.0;
  next = pass.next.0;
  out = pass.out.0;
  opened = opened_held pass.opened.items;
  loops = locations_held pass.loops.items;
  depth = pass.depth;
  block = block;
  parts = parts_held pass.parts.items;
}

-- In an atomic block the instructions are put together, outside none are.
abbrev pub block_by : ℕ → List Instruction → List Instruction
block_by zero block = []
block_by (suc more) block = block

-- the instructions from this index on, up to the end of the block
abbrev pub block_from : List Instruction → ℕ → ℕ → List Instruction
block_from code index end = take (end - index) (drop index code)

-- behind the instruction at an index
abbrev pub passed_at : Pass → List Instruction → ℕ → Passed
passed_at pass code index = passed_of pass (block_by pass.depth (block_from code index pass.end))
