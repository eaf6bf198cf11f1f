-- A thread as a list of parts: each is what is done at one location, with the reads in front of it, and where it leads.
use Rattle.std.specs.Prelude.{ℕ, ◌+◌, List, [], ◌∷◌, ◌++◌, length, Option, Some, None}
use Rattle.c_check.specs.declared.meaning.Variable.{Variable}
use Rattle.c_check.specs.declared.operation.Mark.{Mark}
use Rattle.c_check.specs.declared.test.Comparison as stored_comparison
use Rattle.c_check.specs.declared.instruction.Assignment as stored_assignment
use Rattle.c_check.specs.declared.instruction.Instruction.{Instruction}
use Rattle.c_check.specs.Plan.{Arithmetic, Test, Condition, Stmt, Stmts, code, postfix}
use Rattle.thread_cfg.specs.Source.{Frame}
use Rattle.thread_cfg.specs.Action.{Action, assign_actions, block_action, choice, compare_action, compare_reads, assign_reads, condition_size, entry, jump, lock_action, read_actions, simple, size, stmt_size, test_size, unlock_action}
use Rattle.thread_cfg.specs.Path.{Event}

-- ---- parts

-- each with the place of its first token first, and the locations that it leads to last
pub data Part : Type 0 where
  Assign : ℕ → ℕ → Variable → Arithmetic → ℕ → Part
  AssignAny : ℕ → Variable → ℕ → Part
  -- where it is true, and where it is false
  Choice : ℕ → ℕ → ℕ → Part
  Compare : ℕ → Mark → Arithmetic → Arithmetic → Option ℕ → Option ℕ → Part
  Jump : ℕ → ℕ → Part
  Lock : ℕ → ℕ → ℕ → Part
  Unlock : ℕ → ℕ → ℕ → Part
  Block : ℕ → Stmts → ℕ → Part

-- how many locations it has
abbrev pub part_size : Part → ℕ
part_size (Part.Assign from at v e next) = length (assign_reads 0 v e) + 1
part_size (Part.Compare from m a b t f) = length (compare_reads 0 a b) + 1
part_size _ = 1

-- how many locations parts have
abbrev pub parts_size : List Part → ℕ
parts_size [] = 0
parts_size (p ∷ ps) = part_size p + parts_size ps

-- the actions of a part, the first of which is at this location
abbrev pub part_actions : Frame → ℕ → ℕ → Part → List Action
part_actions frame temporary at (Part.Assign from place v e next) = assign_actions temporary at next from place v e
part_actions frame temporary at (Part.AssignAny from v next) = simple from (Event.SetsAny v) next ∷ []
part_actions frame temporary at (Part.Choice from t f) = choice from t f ∷ []
part_actions frame temporary at (Part.Compare from m a b t f) =
    read_actions from (compare_reads temporary a b) at ++ compare_action temporary from m a b t f ∷ []
part_actions frame temporary at (Part.Jump from to) = jump from to ∷ []
part_actions frame temporary at (Part.Lock from lock next) = lock_action frame from lock next ∷ []
part_actions frame temporary at (Part.Unlock from lock next) = unlock_action frame from lock next ∷ []
part_actions frame temporary at (Part.Block from inner next) = block_action from inner next ∷ []

-- the actions of parts, the first of which is at this location
abbrev pub parts_actions : Frame → ℕ → ℕ → List Part → List Action
parts_actions frame temporary at [] = []
parts_actions frame temporary at (p ∷ ps) = part_actions frame temporary at p ++ parts_actions frame temporary (at + part_size p) ps

-- ---- the parts of statements, as their actions are

-- the parts of a test, with the locations of its two sides
abbrev pub test_parts : ℕ → Option ℕ → Option ℕ → Test → List Part
test_parts at t f (Test.Compare from m a b) = Part.Compare from m a b t f ∷ []
test_parts at t f (Test.Not u) = test_parts at f t u
test_parts at t f (Test.And u v) = test_parts at (Some (at + test_size u)) f u ++ test_parts (at + test_size u) t f v
test_parts at t f (Test.Or u v) = test_parts at t (Some (at + test_size u)) u ++ test_parts (at + test_size u) t f v

-- the parts of a condition, with the locations of its two sides
abbrev pub condition_parts : ℕ → ℕ → ℕ → Condition → List Part
condition_parts at t f (Condition.Choice from) = Part.Choice from t f ∷ []
condition_parts at t f (Condition.Tested from test) = test_parts at (Some t) (Some f) test

abbrev mutual
  -- with the last location of the thread, the one behind the innermost loop, that of the statement, and the next one
  pub stmt_parts : ℕ → ℕ → ℕ → ℕ → Stmt → List Part
  stmt_parts exit out at next (Stmt.Assign from place v e) = Part.Assign from place v e next ∷ []
  stmt_parts exit out at next (Stmt.AssignAny from v) = Part.AssignAny from v next ∷ []
  stmt_parts exit out at next (Stmt.If from c ts es) =
      condition_parts at (entry ts (at + condition_size c) next) (entry es (at + condition_size c + size ts) next) c
      ++ (parts exit out (at + condition_size c) next ts ++ parts exit out (at + condition_size c + size ts) next es)
  stmt_parts exit out at next (Stmt.Loop from c body last) =
      condition_parts at (entry body (at + condition_size c) (entry last (at + condition_size c + size body) at)) next c
      ++ (parts exit next (at + condition_size c) (entry last (at + condition_size c + size body) at) body
      ++ parts exit next (at + condition_size c + size body) at last)
  stmt_parts exit out at next (Stmt.Break from) = Part.Jump from out ∷ []
  stmt_parts exit out at next (Stmt.Exit from) = Part.Jump from exit ∷ []
  stmt_parts exit out at next (Stmt.Lock from lock) = Part.Lock from lock next ∷ []
  stmt_parts exit out at next (Stmt.Unlock from lock) = Part.Unlock from lock next ∷ []
  stmt_parts exit out at next (Stmt.Assert from t) = test_parts at (Some next) (Some 0) t
  stmt_parts exit out at next (Stmt.Assume from t) = test_parts at (Some next) None t
  stmt_parts exit out at next (Stmt.Atomic from inner) = Part.Block from inner next ∷ []

  -- of statements
  pub parts : ℕ → ℕ → ℕ → ℕ → Stmts → List Part
  parts exit out at next Stmts.End = []
  parts exit out at next (Stmts.Then s rest) =
      stmt_parts exit out at (entry rest (at + stmt_size s) next) s ++ parts exit out (at + stmt_size s) next rest

-- ---- parts as a plan writes them down

-- a part, its expressions as operations
pub data Written : Type 0 where
  Assign : stored_assignment.Assignment → ℕ → Written
  AssignAny : ℕ → Variable → ℕ → Written
  Choice : ℕ → ℕ → ℕ → Written
  Compare : stored_comparison.Comparison → Option ℕ → Option ℕ → Written
  Jump : ℕ → ℕ → Written
  Lock : ℕ → ℕ → ℕ → Written
  Unlock : ℕ → ℕ → ℕ → Written
  Block : ℕ → List Instruction → ℕ → Written

-- how a part is written down
abbrev pub written : Part → Written
written (Part.Assign from at v e next) = Written.Assign (record { from = from; at = at; variable = v; value = postfix e }) next
written (Part.AssignAny from v next) = Written.AssignAny from v next
written (Part.Choice from t f) = Written.Choice from t f
written (Part.Compare from m a b t f) = Written.Compare (record { from = from; mark = m; left = postfix a; right = postfix b }) t f
written (Part.Jump from to) = Written.Jump from to
written (Part.Lock from lock next) = Written.Lock from lock next
written (Part.Unlock from lock next) = Written.Unlock from lock next
written (Part.Block from inner next) = Written.Block from (code inner) next
