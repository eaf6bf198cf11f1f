-- What a thread does, with every name resolved: expressions and conditions as trees, statements in order; and how a plan
-- writes them down.
use Rattle.std.specs.Prelude.{ℕ, ℤ, List, [], ◌∷◌, ◌++◌}
use Rattle.c_check.specs.declared.meaning.Variable.{Variable}
use Rattle.c_check.specs.declared.operation.Operation.{Operation}
use Rattle.c_check.specs.declared.operation.Operation.TheVariants as operation
use Rattle.c_check.specs.declared.operation.Mark.{Mark}
use Rattle.c_check.specs.declared.test.TestOperation.{TestOperation}
use Rattle.c_check.specs.declared.test.TestOperation.TheVariants as test_operation
use Rattle.c_check.specs.declared.test.Condition as stored_condition
use Rattle.c_check.specs.declared.test.Condition.TheVariants as stored
use Rattle.c_check.specs.declared.instruction.Instruction.{Instruction}
use Rattle.c_check.specs.declared.instruction.Instruction.TheVariants as instruction

-- ---- expressions

pub data Arithmetic : Type 0 where
  Number : ℤ → Arithmetic
  Value : Variable → Arithmetic
  Negated : Arithmetic → Arithmetic
  Sum : Arithmetic → Arithmetic → Arithmetic
  Difference : Arithmetic → Arithmetic → Arithmetic
  Product : Arithmetic → Arithmetic → Arithmetic

-- a tree of comparisons, each at the place of its first token
pub data Test : Type 0 where
  Compare : ℕ → Mark → Arithmetic → Arithmetic → Test
  Not : Test → Test
  And : Test → Test → Test
  Or : Test → Test → Test

-- what is tested, or a choice of the environment, at the place of its first token
pub data Condition : Type 0 where
  Choice : ℕ → Condition
  Tested : ℕ → Test → Condition

-- ---- statements, each at the place of its first token

mutual
  pub data Stmt : Type 0 where
    -- with the place of what is computed
    Assign : ℕ → ℕ → Variable → Arithmetic → Stmt
    AssignAny : ℕ → Variable → Stmt
    If : ℕ → Condition → Stmts → Stmts → Stmt
    -- the condition, the body, and the last part of a `for`
    Loop : ℕ → Condition → Stmts → Stmts → Stmt
    Break : ℕ → Stmt
    Exit : ℕ → Stmt
    Lock : ℕ → ℕ → Stmt
    Unlock : ℕ → ℕ → Stmt
    Assert : ℕ → Test → Stmt
    Assume : ℕ → Test → Stmt
    Atomic : ℕ → Stmts → Stmt

  -- statements in order
  pub data Stmts : Type 0 where
    End : Stmts
    Then : Stmt → Stmts → Stmts

abbrev pub one : Stmt → Stmts
one s = Stmts.Then s Stmts.End

-- statements behind others
abbrev pub joined : Stmts → Stmts → Stmts
joined Stmts.End more = more
joined (Stmts.Then s rest) more = Stmts.Then s (joined rest more)

-- ---- how a plan writes them down: operands in front of their operation, and what is in a statement between its two ends

abbrev pub postfix : Arithmetic → List Operation
postfix (Arithmetic.Number value) = operation.Number value ∷ []
postfix (Arithmetic.Value v) = operation.Value v ∷ []
postfix (Arithmetic.Negated a) = postfix a ++ operation.Negate ∷ []
postfix (Arithmetic.Sum a b) = (postfix a ++ postfix b) ++ operation.Add ∷ []
postfix (Arithmetic.Difference a b) = (postfix a ++ postfix b) ++ operation.Subtract ∷ []
postfix (Arithmetic.Product a b) = (postfix a ++ postfix b) ++ operation.Multiply ∷ []

abbrev pub test_postfix : Test → List TestOperation
test_postfix (Test.Compare from mark left right) = test_operation.Compare (record { from = from; mark = mark; left = postfix left; right = postfix right }) ∷ []
test_postfix (Test.Not t) = test_postfix t ++ test_operation.Not ∷ []
test_postfix (Test.And t u) = (test_postfix t ++ test_postfix u) ++ test_operation.And ∷ []
test_postfix (Test.Or t u) = (test_postfix t ++ test_postfix u) ++ test_operation.Or ∷ []

abbrev pub stored_condition_of : Condition → stored_condition.Condition
stored_condition_of (Condition.Choice from) = stored.Choice from
stored_condition_of (Condition.Tested from t) = stored.Test from (test_postfix t)

abbrev mutual
  pub stmt_code : Stmt → List Instruction
  stmt_code (Stmt.Assign from at v e) = instruction.Assign (record { from = from; at = at; variable = v; value = postfix e }) ∷ []
  stmt_code (Stmt.AssignAny from v) = instruction.AssignAny from v ∷ []
  stmt_code (Stmt.If from c ts es) = instruction.If from (stored_condition_of c) ∷ (code ts ++ instruction.Else ∷ (code es ++ instruction.EndIf ∷ []))
  stmt_code (Stmt.Loop from c body last) = instruction.Loop from (stored_condition_of c) ∷ (code body ++ instruction.Last ∷ (code last ++ instruction.EndLoop ∷ []))
  stmt_code (Stmt.Break from) = instruction.Break from ∷ []
  stmt_code (Stmt.Exit from) = instruction.Exit from ∷ []
  stmt_code (Stmt.Lock from lock) = instruction.Lock from lock ∷ []
  stmt_code (Stmt.Unlock from lock) = instruction.Unlock from lock ∷ []
  stmt_code (Stmt.Assert from t) = instruction.Assert from (test_postfix t) ∷ []
  stmt_code (Stmt.Assume from t) = instruction.Assume from (test_postfix t) ∷ []
  stmt_code (Stmt.Atomic from inner) = instruction.Atomic from ∷ (code inner ++ instruction.EndAtomic ∷ [])

  -- the instructions of statements
  pub code : Stmts → List Instruction
  code Stmts.End = []
  code (Stmts.Then s rest) = stmt_code s ++ code rest
