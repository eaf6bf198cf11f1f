-- What the code holds while it finds the paths of an atomic body.
use Rattle.std.specs.Prelude.{nat_lt, Bool, true, false, List, length, map, reverse, Option, Some, None}
use Rattle.thr_base.specs.Limits.{most_tests}
use Rattle.c_check.specs.declared.operation.Operation.{Operation}
use Rattle.thread_cfg.specs.declared.event.Expression.{Expression}
use Rattle.thread_cfg.specs.declared.event.Expression.TheVariants as expression
use Rattle.thread_cfg.specs.declared.event.Event.{Event}
use Rattle.thread_cfg.specs.declared.event.Event.TheVariants as event
use Rattle.thread_cfg.specs.declared.paths.Ending.{Ending}
use Rattle.thread_cfg.specs.declared.paths.Ending.TheVariants as ending
use Rattle.thread_cfg.specs.declared.paths.Path.{Path}
use Rattle.thread_cfg.specs.declared.paths.Ways.{Ways}
use Rattle.thread_cfg.specs.declared.paths.Ways.TheVariants as ways
use Rattle.thread_cfg.specs.declared.branches.Branch.{Branch as StoredBranch}
use Rattle.thread_cfg.specs.declared.branches.Branch.TheVariants as stored
use Rattle.thread_cfg.specs.declared.branches.Branches.{Branches as StoredBranches}
use Rattle.thread_cfg.specs.declared.branches.Parting.{Parting as StoredParting}
use Rattle.thread_cfg.specs.declared.going.Going.{Going as StoredGoing}
use Rattle.thread_cfg.specs.inside.Few.{Branch, Branches, Going, Parting, WrittenEvent, WrittenPath}

-- the operations of an expression that is made at once
abbrev pub whole : Expression → Option (List Operation)
whole (expression.Whole operations) = Some operations.now
whole _ = None

-- an event as it is written down
abbrev pub event_of : Event → WrittenEvent
event_of (event.Requires from r left right) = WrittenEvent.Requires from r (whole left) (whole right)
event_of (event.Sets at v value) = WrittenEvent.Sets at v (whole value)
event_of (event.SetsAny v) = WrittenEvent.SetsAny v

-- it ends at an assertion that is false
abbrev pub is_failing : Ending → Bool
is_failing ending.Through = false
is_failing ending.Failing = true

-- a path as it is written down, the last event of which is held first
abbrev pub path_of : Path → WrittenPath
path_of path = record { events = reverse (map event_of path.events.items); fails = is_failing path.ending }

-- the paths that are held, or none where they are too many
abbrev pub ways_of : Ways → Option (List WrittenPath)
ways_of (ways.Few paths) = Some (map path_of paths.items)
ways_of ways.Many = None

-- a branch that is held
abbrev pub branch_of : StoredBranch → Branch
branch_of (stored.Ways w) = Branch.Ways (ways_of w)
branch_of stored.Behind = Branch.Behind

-- the branches of a test that are held
abbrev pub branches_of : StoredBranches → Branches
branches_of b = record { on_true = branch_of b.on_true; on_false = branch_of b.on_false }

-- the innermost one last
abbrev pub branches_held : List StoredBranches → List Branches
branches_held bs = reverse (map branches_of bs)

-- what is known behind an operation
abbrev pub parting_of : StoredParting → Parting
parting_of s = record { behind = ways_of s.behind; branches = branches_held s.branches.items }

-- paths of several kinds, the last of which is held first
abbrev pub ways_held : List Ways → List (Option (List WrittenPath))
ways_held ws = reverse (map ways_of ws)

-- what is known behind an instruction
abbrev pub going_of : StoredGoing → Going
going_of s = record { ways = ways_of s.ways; opened = ways_held s.opened.items; depth = s.depth }

-- more happens on it than an edge may have tests or inputs
abbrev pub is_long_path : Path → Bool
is_long_path path = nat_lt most_tests (length path.events.items)
