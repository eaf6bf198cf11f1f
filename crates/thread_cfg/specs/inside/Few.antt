-- The paths of an atomic body where they are not too many, found from its last instruction to its first.
use Rattle.std.specs.Prelude.{ℕ, zero, suc, Bool, true, false, nat_lt, List, [], ◌∷◌, ◌++◌, length, map, Option, Some, None, option_map, if◌then◌else◌}
use Rattle.thr_base.specs.Limits.{most_paths}
use Rattle.c_check.specs.declared.meaning.Variable.{Variable}
use Rattle.c_check.specs.declared.operation.Operation.{Operation}
use Rattle.c_check.specs.declared.test.Comparison.{Comparison}
use Rattle.c_check.specs.declared.test.TestOperation.{TestOperation}
use Rattle.c_check.specs.declared.test.TestOperation.TheVariants as test_operation
use Rattle.c_check.specs.declared.test.Condition as stored_condition
use Rattle.c_check.specs.declared.test.Condition.TheVariants as stored
use Rattle.c_check.specs.declared.instruction.Instruction.{Instruction}
use Rattle.c_check.specs.declared.instruction.Instruction.TheVariants as instruction
use Rattle.c_check.specs.Plan.{postfix}
use Rattle.thread_cfg.specs.declared.relation.Relation.{Relation}
use Rattle.thread_cfg.specs.Path.{Event, Path, when_false, when_true}

-- ---- events and paths as a plan writes them down

-- an event, its expressions as operations
pub data WrittenEvent : Type 0 where
  Requires : ℕ → Relation → Option (List Operation) → Option (List Operation) → WrittenEvent
  Sets : ℕ → Variable → Option (List Operation) → WrittenEvent
  SetsAny : Variable → WrittenEvent

-- a path, its events so
pub record WrittenPath : Type 0 where
  pub events : List WrittenEvent
  pub fails : Bool

-- how an event is written down
abbrev pub event_written : Event → WrittenEvent
event_written (Event.Requires from r a b) = WrittenEvent.Requires from r (Some (postfix a)) (Some (postfix b))
event_written (Event.Sets at v e) = WrittenEvent.Sets at v (Some (postfix e))
event_written (Event.SetsAny v) = WrittenEvent.SetsAny v

-- how a path is written down
abbrev pub path_written : Path → WrittenPath
path_written path = record { events = map event_written path.events; fails = path.fails }

-- an event, and then the path
abbrev pub after : WrittenEvent → WrittenPath → WrittenPath
after event path = record path { events = event ∷ path.events }

-- a path on which nothing happens
abbrev pub bare : Bool → WrittenPath
bare fails = record { events = []; fails = fails }

-- ---- paths, or none where they are too many

-- these paths, unless they are too many
abbrev pub few : List WrittenPath → Option (List WrittenPath)
few paths = if nat_lt most_paths (length paths) then None else Some paths

-- the one and the other, unless they are too many
abbrev pub both : Option (List WrittenPath) → Option (List WrittenPath) → Option (List WrittenPath)
both (Some one) (Some other) = few (one ++ other)
both _ _ = None

-- where others are too many, so are all
abbrev pub where_few : Option (List WrittenPath) → Option (List WrittenPath) → Option (List WrittenPath)
where_few (Some one) other = other
where_few None other = None

-- an event, and then one of the paths
abbrev pub all_after : WrittenEvent → Option (List WrittenPath) → Option (List WrittenPath)
all_after event paths = option_map (map (after event)) paths

-- a relation is asked of a comparison
abbrev pub required : Comparison → Relation → WrittenEvent
required c r = WrittenEvent.Requires c.from r (Some c.left) (Some c.right)

-- one of the relations, and then one of the paths
abbrev pub all_picked : Comparison → List Relation → Option (List WrittenPath) → Option (List WrittenPath)
all_picked c [] paths = Some []
all_picked c (r ∷ []) paths = all_after (required c r) paths
all_picked c (r ∷ (s ∷ rs)) paths = both (all_after (required c r) paths) (all_picked c (s ∷ rs) paths)

-- the paths of a comparison, with those of its sides
abbrev pub compared : Comparison → Option (List WrittenPath) → Option (List WrittenPath) → Option (List WrittenPath)
compared c t f = both (all_picked c (when_true c.mark) t) (all_picked c (when_false c.mark) f)

-- ---- tests

-- the paths of a side, or those of what stands behind the test
pub data Branch : Type 0 where
  Ways : Option (List WrittenPath) → Branch
  Behind : Branch

-- the paths of a branch
abbrev pub taken : Option (List WrittenPath) → Branch → Option (List WrittenPath)
taken behind (Branch.Ways paths) = paths
taken behind Branch.Behind = behind

-- the branches of a test
pub record Branches : Type 0 where
  pub on_true : Branch
  pub on_false : Branch

-- What is known behind an operation: the paths from there on, and the branches of the tests that end there, the innermost one first.
pub record Parting : Type 0 where
  pub behind : Option (List WrittenPath)
  pub branches : List Branches

-- what is known of them once a branch took them
abbrev pub left_by : Option (List WrittenPath) → Branch → Option (List WrittenPath)
left_by behind (Branch.Ways paths) = behind
left_by behind Branch.Behind = Some []

-- what is known in front of an operation that ends a test with these paths of its sides
abbrev pub parted_by : TestOperation → Option (List WrittenPath) → Option (List WrittenPath) → List Branches → Option (List WrittenPath) → Parting
parted_by (test_operation.Compare c) t f more left = record { behind = compared c t f; branches = more }
parted_by test_operation.Not t f more left = record { behind = left; branches = record { on_true = Branch.Ways f; on_false = Branch.Ways t } ∷ more }
parted_by test_operation.And t f more left = record {
  behind = left;
  branches = record { on_true = Branch.Ways t; on_false = Branch.Ways (where_few t f) } ∷ (record { on_true = Branch.Behind; on_false = Branch.Ways (where_few t f) } ∷ more);
}
parted_by test_operation.Or t f more left = record {
  behind = left;
  branches = record { on_true = Branch.Ways (where_few f t); on_false = Branch.Ways f } ∷ (record { on_true = Branch.Ways (where_few f t); on_false = Branch.Behind } ∷ more);
}

-- the innermost of the tests that end there
abbrev pub parted_with : TestOperation → List Branches → Parting → Parting
parted_with o [] s = s
parted_with o (b ∷ more) s =
    parted_by o (taken s.behind b.on_true) (taken (left_by s.behind b.on_true) b.on_false) more (left_by (left_by s.behind b.on_true) b.on_false)

-- in front of an operation
abbrev pub parted : TestOperation → Parting → Parting
parted o s = parted_with o s.branches s

-- in front of all operations
abbrev pub parted_all : List TestOperation → Parting → Parting
parted_all [] s = s
parted_all (o ∷ os) s = parted o (parted_all os s)

-- the paths of a test, with those of its sides
abbrev pub test_ways : List TestOperation → Option (List WrittenPath) → Option (List WrittenPath) → Option (List WrittenPath)
test_ways tests t f =
    (parted_all tests (record { behind = Some []; branches = record { on_true = Branch.Ways t; on_false = Branch.Ways f } ∷ [] })).behind

-- the paths of a condition, with those of its sides
abbrev pub condition_ways : stored_condition.Condition → Option (List WrittenPath) → Option (List WrittenPath) → Option (List WrittenPath)
condition_ways (stored.Choice from) t f = both t f
condition_ways (stored.Test from tests) t f = test_ways tests t f

-- ---- instructions

-- What is known behind an instruction: the paths from there on; for each choice around it those of its other side, the innermost
-- one first; and in how many loops and blocks it is, which have no paths.
pub record Going : Type 0 where
  pub ways : Option (List WrittenPath)
  pub opened : List (Option (List WrittenPath))
  pub depth : ℕ

-- at the end of the true side of the innermost choice
abbrev pub gone_else : List (Option (List WrittenPath)) → Going → Going
gone_else [] s = s
gone_else (o ∷ os) s = record s { ways = o; opened = s.ways ∷ os }

-- in front of the innermost choice
abbrev pub gone_if : stored_condition.Condition → List (Option (List WrittenPath)) → Going → Going
gone_if c [] s = s
gone_if c (o ∷ os) s = record s { ways = condition_ways c s.ways o; opened = os }

-- outside loops and blocks
abbrev pub gone_outside : Instruction → Going → Going
gone_outside (instruction.Assign a) s = record s { ways = all_after (WrittenEvent.Sets a.at a.variable (Some a.value)) s.ways }
gone_outside (instruction.AssignAny from v) s = record s { ways = all_after (WrittenEvent.SetsAny v) s.ways }
gone_outside (instruction.If from c) s = gone_if c s.opened s
gone_outside instruction.Else s = gone_else s.opened s
gone_outside instruction.EndIf s = record s { opened = s.ways ∷ s.opened }
gone_outside (instruction.Loop from c) s = s
gone_outside instruction.Last s = s
gone_outside instruction.EndLoop s = record s { depth = 1 }
gone_outside (instruction.Break from) s = record s { ways = Some [] }
gone_outside (instruction.Exit from) s = record s { ways = Some [] }
gone_outside (instruction.Lock from lock) s = record s { ways = Some [] }
gone_outside (instruction.Unlock from lock) s = record s { ways = Some [] }
gone_outside (instruction.Assert from tests) s = record s { ways = test_ways tests s.ways (Some (bare true ∷ [])) }
gone_outside (instruction.Assume from tests) s = record s { ways = test_ways tests s.ways (Some []) }
gone_outside (instruction.Atomic from) s = s
gone_outside instruction.EndAtomic s = record s { depth = 1 }

-- in front of a loop or block, with so many around it
abbrev pub gone_out : ℕ → Going → Going
gone_out zero s = record s { ways = Some []; depth = 0 }
gone_out (suc more) s = record s { depth = suc more }

-- within, with so many more of them around the instruction
abbrev pub gone_inside : ℕ → Instruction → Going → Going
gone_inside more (instruction.Loop from c) s = gone_out more s
gone_inside more (instruction.Atomic from) s = gone_out more s
gone_inside more instruction.EndLoop s = record s { depth = suc (suc more) }
gone_inside more instruction.EndAtomic s = record s { depth = suc (suc more) }
gone_inside more i s = s

-- outside or within
abbrev pub gone_by : ℕ → Instruction → Going → Going
gone_by zero i s = gone_outside i s
gone_by (suc more) i s = gone_inside more i s

-- in front of an instruction
abbrev pub gone : Instruction → Going → Going
gone i s = gone_by s.depth i s

-- in front of all instructions
abbrev pub gone_all : List Instruction → Going → Going
gone_all [] s = s
gone_all (i ∷ is) s = gone i (gone_all is s)

-- behind all
abbrev pub going_start : Going
going_start = record { ways = Some (bare false ∷ []); opened = []; depth = 0 }
