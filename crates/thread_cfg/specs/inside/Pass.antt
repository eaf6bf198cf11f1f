-- The parts of instructions, found from the last instruction to the first: behind each it is known where it leads.
use Rattle.std.specs.Prelude.{ℕ, zero, suc, ◌-◌, List, [], ◌∷◌, Option, Some, None}
use Rattle.c_check.specs.declared.test.TestOperation.{TestOperation}
use Rattle.c_check.specs.declared.test.TestOperation.TheVariants as test_operation
use Rattle.c_check.specs.declared.test.Condition as stored_condition
use Rattle.c_check.specs.declared.test.Condition.TheVariants as stored
use Rattle.c_check.specs.declared.instruction.Instruction.{Instruction}
use Rattle.c_check.specs.declared.instruction.Instruction.TheVariants as instruction
use Rattle.thread_cfg.specs.inside.Parts.{Written}
use Rattle.thread_cfg.specs.inside.Sizes.{assignment_size, comparison_size}

-- ---- tests

-- where a side of a test leads
pub data Target : Type 0 where
  Nowhere : Target
  At : ℕ → Target
  -- to what stands behind the test
  Behind : Target

-- where what stands behind is at this location
abbrev pub settled : ℕ → Target → Option ℕ
settled at Target.Nowhere = None
settled at (Target.At l) = Some l
settled at Target.Behind = Some at

-- a location, or nowhere
abbrev pub target : Option ℕ → Target
target None = Target.Nowhere
target (Some l) = Target.At l

-- where the two sides of a test lead
pub record Sides : Type 0 where
  pub on_true : Target
  pub on_false : Target

-- What is known behind an operation of a test: its location, the sides of the tests that end there, the innermost one first, and the
-- parts.
pub record Testing : Type 0 where
  pub at : ℕ
  pub sides : List Sides
  pub parts : List Written

-- the operation ends a test with these sides
abbrev pub tested_by : TestOperation → Option ℕ → Option ℕ → List Sides → Testing → Testing
tested_by (test_operation.Compare c) t f more s = record { at = s.at - comparison_size c; sides = more; parts = Written.Compare c t f ∷ s.parts }
tested_by test_operation.Not t f more s = record s { sides = record { on_true = target f; on_false = target t } ∷ more }
tested_by test_operation.And t f more s = record s {
  sides = record { on_true = target t; on_false = target f } ∷ (record { on_true = Target.Behind; on_false = target f } ∷ more);
}
tested_by test_operation.Or t f more s = record s {
  sides = record { on_true = target t; on_false = target f } ∷ (record { on_true = target t; on_false = Target.Behind } ∷ more);
}

-- the innermost of the tests that end there
abbrev pub tested_with : TestOperation → List Sides → Testing → Testing
tested_with o [] s = s
tested_with o (sides ∷ more) s = tested_by o (settled s.at sides.on_true) (settled s.at sides.on_false) more s

-- in front of an operation
abbrev pub tested : TestOperation → Testing → Testing
tested o s = tested_with o s.sides s

-- in front of all operations
abbrev pub tested_all : List TestOperation → Testing → Testing
tested_all [] s = s
tested_all (o ∷ os) s = tested o (tested_all os s)

-- ---- instructions

-- What is known at the end of what is open: for a choice, where both sides lead, and where its false side begins; for a loop, where it
-- leads, and the location behind the loop around it.
pub record Opened : Type 0 where
  pub next : ℕ
  pub other : ℕ

-- What is known behind an instruction: its location, where it leads, the location behind the innermost loop, what is open, where the
-- loops begin that were not come to, the last one first; in how many atomic blocks it is, with the instructions of the outermost; and the
-- parts.
pub record Passed : Type 0 where
  pub at : ℕ
  pub next : ℕ
  pub out : ℕ
  pub opened : List Opened
  pub loops : List ℕ
  pub depth : ℕ
  pub block : List Instruction
  pub parts : List Written

-- a part with so many locations
abbrev pub with_part : ℕ → Written → Passed → Passed
with_part count part s = record s { at = s.at - count; next = s.at - count; parts = part ∷ s.parts }

-- what is known behind an instruction, with the location and the parts of a test in front
abbrev pub behind_tests : Testing → Passed → Passed
behind_tests t s = record s { at = t.at; next = t.at; parts = t.parts }

-- a test, with its sides
abbrev pub with_test : List TestOperation → Option ℕ → Option ℕ → Passed → Passed
with_test tests t f s = behind_tests (tested_all tests (record { at = s.at; sides = record { on_true = target t; on_false = target f } ∷ []; parts = s.parts })) s

-- a condition, with its sides
abbrev pub with_condition : stored_condition.Condition → ℕ → ℕ → Passed → Passed
with_condition (stored.Choice from) t f s = with_part 1 (Written.Choice from t f) s
with_condition (stored.Test from tests) t f s = with_test tests (Some t) (Some f) s

-- at the end of the true side of the innermost choice
abbrev pub passed_else : List Opened → Passed → Passed
passed_else [] s = s
passed_else (o ∷ os) s = record s { next = o.next; opened = record { next = o.next; other = s.next } ∷ os }

-- in front of the innermost choice
abbrev pub passed_if : stored_condition.Condition → List Opened → Passed → Passed
passed_if c [] s = s
passed_if c (o ∷ os) s = with_condition c s.next o.other (record s { opened = os })

-- at the end of a loop, which leads to where it begins
abbrev pub passed_end_loop : List ℕ → Passed → Passed
passed_end_loop [] s = s
passed_end_loop (l ∷ ls) s = record s { next = l; out = s.next; loops = ls; opened = record { next = s.next; other = s.out } ∷ s.opened }

-- in front of the innermost loop
abbrev pub passed_loop : stored_condition.Condition → List Opened → Passed → Passed
passed_loop c [] s = s
passed_loop c (o ∷ os) s = with_condition c s.next o.next (record s { opened = os; out = o.other })

-- outside atomic blocks; with the last location of the thread
abbrev pub passed_outside : ℕ → Instruction → Passed → Passed
passed_outside exit (instruction.Assign a) s = with_part (assignment_size a) (Written.Assign a s.next) s
passed_outside exit (instruction.AssignAny from v) s = with_part 1 (Written.AssignAny from v s.next) s
passed_outside exit (instruction.If from c) s = passed_if c s.opened s
passed_outside exit instruction.Else s = passed_else s.opened s
passed_outside exit instruction.EndIf s = record s { opened = record { next = s.next; other = s.next } ∷ s.opened }
passed_outside exit (instruction.Loop from c) s = passed_loop c s.opened s
passed_outside exit instruction.Last s = s
passed_outside exit instruction.EndLoop s = passed_end_loop s.loops s
passed_outside exit (instruction.Break from) s = with_part 1 (Written.Jump from s.out) s
passed_outside exit (instruction.Exit from) s = with_part 1 (Written.Jump from exit) s
passed_outside exit (instruction.Lock from lock) s = with_part 1 (Written.Lock from lock s.next) s
passed_outside exit (instruction.Unlock from lock) s = with_part 1 (Written.Unlock from lock s.next) s
passed_outside exit (instruction.Assert from tests) s = with_test tests (Some s.next) (Some 0) s
passed_outside exit (instruction.Assume from tests) s = with_test tests (Some s.next) None s
passed_outside exit (instruction.Atomic from) s = s
passed_outside exit instruction.EndAtomic s = record s { depth = 1; block = [] }

-- in front of the first word of a block, with so many blocks around it
abbrev pub passed_atomic : ℕ → ℕ → Passed → Passed
passed_atomic from zero s = with_part 1 (Written.Block from s.block s.next) (record s { depth = 0; block = [] })
passed_atomic from (suc more) s = record s { depth = suc more; block = instruction.Atomic from ∷ s.block }

-- within, with so many more of them around the instruction
abbrev pub passed_inside : ℕ → Instruction → Passed → Passed
passed_inside more (instruction.Atomic from) s = passed_atomic from more s
passed_inside more instruction.EndAtomic s = record s { depth = suc (suc more); block = instruction.EndAtomic ∷ s.block }
passed_inside more i s = record s { block = i ∷ s.block }

-- outside or within
abbrev pub passed_by : ℕ → ℕ → Instruction → Passed → Passed
passed_by exit zero i s = passed_outside exit i s
passed_by exit (suc more) i s = passed_inside more i s

-- in front of an instruction
abbrev pub passed : ℕ → Instruction → Passed → Passed
passed exit i s = passed_by exit s.depth i s

-- in front of all instructions
abbrev pub passed_all : ℕ → List Instruction → Passed → Passed
passed_all exit [] s = s
passed_all exit (i ∷ is) s = passed exit i (passed_all exit is s)

-- behind all
abbrev pub pass_start : ℕ → List ℕ → Passed
pass_start exit loops = record { at = exit; next = exit; out = exit; opened = []; loops = loops; depth = 0; block = []; parts = [] }
