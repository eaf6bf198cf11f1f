-- How many locations instructions have, and where loops begin: one instruction after another, from the first to the last.
use Rattle.std.specs.Prelude.{ℕ, zero, suc, pred, ◌+◌, Bool, true, false, List, [], ◌∷◌, ◌++◌, filter, flat_map, length, replicate}
use Rattle.c_check.specs.declared.meaning.Variable.{Variable}
use Rattle.c_check.specs.declared.meaning.Variable.TheVariants as variable
use Rattle.c_check.specs.declared.operation.Operation.{Operation}
use Rattle.c_check.specs.declared.operation.Operation.TheVariants as operation
use Rattle.c_check.specs.declared.test.Comparison.{Comparison}
use Rattle.c_check.specs.declared.test.TestOperation.{TestOperation}
use Rattle.c_check.specs.declared.test.TestOperation.TheVariants as test_operation
use Rattle.c_check.specs.declared.test.Condition.{Condition}
use Rattle.c_check.specs.declared.test.Condition.TheVariants as stored
use Rattle.c_check.specs.declared.instruction.Assignment.{Assignment}
use Rattle.c_check.specs.declared.instruction.Instruction.{Instruction}
use Rattle.c_check.specs.declared.instruction.Instruction.TheVariants as instruction
use Rattle.c_check.specs.Items.{few, written}
use Rattle.thread_cfg.specs.inside.Parts.{Written}

-- the operation reads what all threads share
abbrev pub is_shared : Operation → Bool
is_shared (operation.Value (variable.Shared n)) = true
is_shared _ = false

-- how many variables that all threads share operations name
abbrev pub shared_operations : List Operation → ℕ
shared_operations operations = length (filter is_shared operations)

-- the variables that all threads share which operations name
abbrev pub shared_of : Operation → List Variable
shared_of (operation.Value (variable.Shared n)) = variable.Shared n ∷ []
shared_of _ = []

-- those of all operations, from the left
abbrev pub shared_variables : List Operation → List Variable
shared_variables operations = flat_map shared_of operations

-- so many reads in front, where the accesses are more than one
abbrev pub locations_by : Bool → ℕ → ℕ
locations_by true count = 1
locations_by false count = count + 1

-- the number of locations of so many accesses, of which so many are reads
abbrev pub locations : ℕ → ℕ → ℕ
locations accesses count = locations_by (few accesses) count

-- how many locations an assignment has
abbrev pub assignment_size : Assignment → ℕ
assignment_size a = locations (written a.variable (shared_operations a.value)) (shared_operations a.value)

-- how many locations a comparison has
abbrev pub comparison_size : Comparison → ℕ
comparison_size c = locations (shared_operations c.left + shared_operations c.right) (shared_operations c.left + shared_operations c.right)

-- how many locations an operation of a test has
abbrev pub operation_size : TestOperation → ℕ
operation_size (test_operation.Compare c) = comparison_size c
operation_size test_operation.Not = 0
operation_size test_operation.And = 0
operation_size test_operation.Or = 0

-- how many locations a test has
abbrev pub tests_size : List TestOperation → ℕ
tests_size [] = 0
tests_size (o ∷ os) = operation_size o + tests_size os

-- how many locations a condition has
abbrev pub stored_condition_size : Condition → ℕ
stored_condition_size (stored.Choice from) = 1
stored_condition_size (stored.Test from tests) = tests_size tests

-- how many locations the instruction itself has, outside atomic blocks
abbrev pub instruction_size : Instruction → ℕ
instruction_size (instruction.Assign a) = assignment_size a
instruction_size (instruction.AssignAny from v) = 1
instruction_size (instruction.If from c) = stored_condition_size c
instruction_size instruction.Else = 0
instruction_size instruction.EndIf = 0
instruction_size (instruction.Loop from c) = stored_condition_size c
instruction_size instruction.Last = 0
instruction_size instruction.EndLoop = 0
instruction_size (instruction.Break from) = 1
instruction_size (instruction.Exit from) = 1
instruction_size (instruction.Lock from lock) = 1
instruction_size (instruction.Unlock from lock) = 1
instruction_size (instruction.Assert from tests) = tests_size tests
instruction_size (instruction.Assume from tests) = tests_size tests
instruction_size (instruction.Atomic from) = 1
instruction_size instruction.EndAtomic = 0

-- What is known in front of an instruction: its location, where the loops around it begin, where those begin that have ended, the
-- last one first, and how many atomic blocks are around it.
pub record Counted : Type 0 where
  pub at : ℕ
  pub around : List ℕ
  pub loops : List ℕ
  pub depth : ℕ

-- a loop ends
abbrev pub loop_ended : List ℕ → Counted → Counted
loop_ended [] s = s
loop_ended (l ∷ ls) s = record s { around = ls; loops = l ∷ s.loops }

-- outside atomic blocks
abbrev pub counted_outside : Instruction → Counted → Counted
counted_outside (instruction.Loop from c) s = record s { at = s.at + stored_condition_size c; around = s.at ∷ s.around }
counted_outside instruction.EndLoop s = loop_ended s.around s
counted_outside (instruction.Atomic from) s = record s { at = s.at + 1; depth = 1 }
counted_outside i s = record s { at = s.at + instruction_size i }

-- within, with so many more of them around the instruction
abbrev pub counted_inside : ℕ → Instruction → Counted → Counted
counted_inside more (instruction.Atomic from) s = record s { depth = suc (suc more) }
counted_inside more instruction.EndAtomic s = record s { depth = more }
counted_inside more i s = s

-- outside or within
abbrev pub counted_by : ℕ → Instruction → Counted → Counted
counted_by zero i s = counted_outside i s
counted_by (suc more) i s = counted_inside more i s

-- behind an instruction
abbrev pub counted : Counted → Instruction → Counted
counted s i = counted_by s.depth i s

-- behind all instructions
abbrev pub counted_all : List Instruction → Counted → Counted
counted_all [] s = s
counted_all (i ∷ is) s = counted_all is (counted s i)

-- in front of all
abbrev pub count_start : Counted
count_start = record { at = 1; around = []; loops = []; depth = 0 }

-- how many locations a part has
abbrev pub written_size : Written → ℕ
written_size (Written.Assign a next) = assignment_size a
written_size (Written.Compare c t f) = comparison_size c
written_size _ = 1

-- ---- the places of locations

-- as many times as it has locations
abbrev pub places_of : TestOperation → List ℕ
places_of (test_operation.Compare c) = replicate (comparison_size c) c.from
places_of test_operation.Not = []
places_of test_operation.And = []
places_of test_operation.Or = []

-- the places of a test
abbrev pub test_places : List TestOperation → List ℕ
test_places tests = flat_map places_of tests

-- the places of a condition
abbrev pub condition_places : Condition → List ℕ
condition_places (stored.Choice from) = from ∷ []
condition_places (stored.Test from tests) = test_places tests

-- the places of the instruction's own locations, outside atomic blocks
abbrev pub instruction_places : Instruction → List ℕ
instruction_places (instruction.Assign a) = replicate (assignment_size a) a.from
instruction_places (instruction.AssignAny from v) = from ∷ []
instruction_places (instruction.If from c) = condition_places c
instruction_places instruction.Else = []
instruction_places instruction.EndIf = []
instruction_places (instruction.Loop from c) = condition_places c
instruction_places instruction.Last = []
instruction_places instruction.EndLoop = []
instruction_places (instruction.Break from) = from ∷ []
instruction_places (instruction.Exit from) = from ∷ []
instruction_places (instruction.Lock from lock) = from ∷ []
instruction_places (instruction.Unlock from lock) = from ∷ []
instruction_places (instruction.Assert from tests) = test_places tests
instruction_places (instruction.Assume from tests) = test_places tests
instruction_places (instruction.Atomic from) = from ∷ []
instruction_places instruction.EndAtomic = []

-- so many atomic blocks are around what is behind the instruction
abbrev pub deeper : ℕ → Instruction → ℕ
deeper depth (instruction.Atomic from) = suc depth
deeper depth instruction.EndAtomic = pred depth
deeper depth i = depth

-- in an atomic block there are none
abbrev pub places_at : ℕ → Instruction → List ℕ
places_at zero i = instruction_places i
places_at (suc more) i = []

-- the places of all locations, with so many atomic blocks around the first instruction
abbrev pub places_from : ℕ → List Instruction → List ℕ
places_from depth [] = []
places_from depth (i ∷ is) = places_at depth i ++ places_from (deeper depth i) is
