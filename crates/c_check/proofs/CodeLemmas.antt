-- What a plan writes down is read again as what it was: so different statements have different code.
use Rattle.std.proofs.Common.{◌≡◌, pos, List, [], ◌∷◌, ◌++◌, refl, sym, ap, ◌∙◌, append_assoc}
use Rattle.std.proofs.lemmas.List.{append-nil}
use Rattle.c_check.specs.declared.operation.Operation.{Operation}
use Rattle.c_check.specs.declared.operation.Operation.TheVariants as operation
use Rattle.c_check.specs.declared.operation.Mark.TheVariants as mark
use Rattle.c_check.specs.declared.test.TestOperation.{TestOperation}
use Rattle.c_check.specs.declared.test.TestOperation.TheVariants as test_operation
use Rattle.c_check.specs.declared.test.Condition as stored_condition
use Rattle.c_check.specs.declared.test.Condition.TheVariants as stored
use Rattle.c_check.specs.declared.instruction.Instruction.{Instruction}
use Rattle.c_check.specs.declared.instruction.Instruction.TheVariants as instruction
use Rattle.c_check.specs.Plan.{Arithmetic, Test, Condition, Stmt, Stmts, code, joined, postfix, stmt_code, stored_condition_of, test_postfix}

-- ---- expressions, left to right on a stack

abbrev computed : Operation → List Arithmetic → List Arithmetic
computed (operation.Number value) below = Arithmetic.Number value ∷ below
computed (operation.Value v) below = Arithmetic.Value v ∷ below
computed operation.Negate (a ∷ below) = Arithmetic.Negated a ∷ below
computed operation.Add (b ∷ (a ∷ below)) = Arithmetic.Sum a b ∷ below
computed operation.Subtract (b ∷ (a ∷ below)) = Arithmetic.Difference a b ∷ below
computed operation.Multiply (b ∷ (a ∷ below)) = Arithmetic.Product a b ∷ below
computed _ _ = []

abbrev run : List Operation → List Arithmetic → List Arithmetic
run [] below = below
run (o ∷ os) below = run os (computed o below)

run-two : (p q : List Operation) (a b : Arithmetic) (o : Operation) (rest : List Operation) (below : List Arithmetic)
    → ((more : List Operation) (bs : List Arithmetic) → run (p ++ more) bs ≡ run more (a ∷ bs)) → ((more : List Operation) (bs : List Arithmetic) → run (q ++ more) bs ≡ run more (b ∷ bs))
    → run (((p ++ q) ++ o ∷ []) ++ rest) below ≡ run rest (computed o (b ∷ (a ∷ below)))
run-two p q a b o rest below left right =
    ap (λ os. run os below) (append_assoc (p ++ q) (o ∷ []) rest ∙ append_assoc p q (o ∷ rest)) ∙ left (q ++ o ∷ rest) below ∙ right (o ∷ rest) (a ∷ below)

run-postfix : (a : Arithmetic) (rest : List Operation) (below : List Arithmetic) → run (postfix a ++ rest) below ≡ run rest (a ∷ below)
run-postfix (Arithmetic.Number value) rest below = refl
run-postfix (Arithmetic.Value v) rest below = refl
run-postfix (Arithmetic.Negated a) rest below = ap (λ os. run os below) (append_assoc (postfix a) (operation.Negate ∷ []) rest) ∙ run-postfix a (operation.Negate ∷ rest) below
run-postfix (Arithmetic.Sum a b) rest below = run-two (postfix a) (postfix b) a b operation.Add rest below (run-postfix a) (run-postfix b)
run-postfix (Arithmetic.Difference a b) rest below = run-two (postfix a) (postfix b) a b operation.Subtract rest below (run-postfix a) (run-postfix b)
run-postfix (Arithmetic.Product a b) rest below = run-two (postfix a) (postfix b) a b operation.Multiply rest below (run-postfix a) (run-postfix b)

abbrev top : List Arithmetic → Arithmetic
top [] = Arithmetic.Number (pos 0)
top (a ∷ below) = a

abbrev read_arithmetic : List Operation → Arithmetic
read_arithmetic os = top (run os [])

read-postfix : (a : Arithmetic) → read_arithmetic (postfix a) ≡ a
read-postfix a = ap read_arithmetic (sym (append-nil (postfix a))) ∙ ap top (run-postfix a [] [])

-- ---- tests, likewise

abbrev combined : TestOperation → List Test → List Test
combined (test_operation.Compare c) ts = Test.Compare c.from c.mark (read_arithmetic c.left) (read_arithmetic c.right) ∷ ts
combined test_operation.Not (t ∷ ts) = Test.Not t ∷ ts
combined test_operation.And (u ∷ (t ∷ ts)) = Test.And t u ∷ ts
combined test_operation.Or (u ∷ (t ∷ ts)) = Test.Or t u ∷ ts
combined _ _ = []

abbrev run_tests : List TestOperation → List Test → List Test
run_tests [] ts = ts
run_tests (o ∷ os) ts = run_tests os (combined o ts)

run_tests-two : (p q : List TestOperation) (t u : Test) (o : TestOperation) (rest : List TestOperation) (ts : List Test)
    → ((more : List TestOperation) (us : List Test) → run_tests (p ++ more) us ≡ run_tests more (t ∷ us)) → ((more : List TestOperation) (us : List Test) → run_tests (q ++ more) us ≡ run_tests more (u ∷ us))
    → run_tests (((p ++ q) ++ o ∷ []) ++ rest) ts ≡ run_tests rest (combined o (u ∷ (t ∷ ts)))
run_tests-two p q t u o rest ts left right =
    ap (λ os. run_tests os ts) (append_assoc (p ++ q) (o ∷ []) rest ∙ append_assoc p q (o ∷ rest)) ∙ left (q ++ o ∷ rest) ts ∙ right (o ∷ rest) (t ∷ ts)

run_tests-postfix : (t : Test) (rest : List TestOperation) (ts : List Test) → run_tests (test_postfix t ++ rest) ts ≡ run_tests rest (t ∷ ts)
run_tests-postfix (Test.Compare from m a b) rest ts = λ i. run_tests rest (Test.Compare from m (read-postfix a i) (read-postfix b i) ∷ ts)
run_tests-postfix (Test.Not t) rest ts = ap (λ os. run_tests os ts) (append_assoc (test_postfix t) (test_operation.Not ∷ []) rest) ∙ run_tests-postfix t (test_operation.Not ∷ rest) ts
run_tests-postfix (Test.And t u) rest ts = run_tests-two (test_postfix t) (test_postfix u) t u test_operation.And rest ts (run_tests-postfix t) (run_tests-postfix u)
run_tests-postfix (Test.Or t u) rest ts = run_tests-two (test_postfix t) (test_postfix u) t u test_operation.Or rest ts (run_tests-postfix t) (run_tests-postfix u)

abbrev top_test : List Test → Test
top_test [] = Test.Compare 0 mark.Equal (Arithmetic.Number (pos 0)) (Arithmetic.Number (pos 0))
top_test (t ∷ ts) = t

abbrev read_test : List TestOperation → Test
read_test os = top_test (run_tests os [])

read-test_postfix : (t : Test) → read_test (test_postfix t) ≡ t
read-test_postfix t = ap read_test (sym (append-nil (test_postfix t))) ∙ ap top_test (run_tests-postfix t [] [])

abbrev read_condition : stored_condition.Condition → Condition
read_condition (stored.Choice from) = Condition.Choice from
read_condition (stored.Test from os) = Condition.Tested from (read_test os)

read-stored_condition : (c : Condition) → read_condition (stored_condition_of c) ≡ c
read-stored_condition (Condition.Choice from) = refl
read-stored_condition (Condition.Tested from t) = ap (Condition.Tested from) (read-test_postfix t)

-- ---- statements, right to left: the statements in front of each end that was come to, the innermost first

abbrev in_front : Stmt → List Stmts → List Stmts
in_front s [] = []
in_front s (ss ∷ more) = Stmts.Then s ss ∷ more

abbrev all_in_front : Stmts → List Stmts → List Stmts
all_in_front ss [] = []
all_in_front ss (us ∷ more) = joined ss us ∷ more

abbrev with_two : (Stmts → Stmts → Stmt) → List Stmts → List Stmts
with_two s (one ∷ (two ∷ more)) = in_front (s one two) more
with_two s _ = []

abbrev with_one : (Stmts → Stmt) → List Stmts → List Stmts
with_one s (one ∷ more) = in_front (s one) more
with_one s [] = []

abbrev read : List Instruction → List Stmts
read [] = Stmts.End ∷ []
read (instruction.Assign a ∷ is) = in_front (Stmt.Assign a.from a.at a.variable (read_arithmetic a.value)) (read is)
read (instruction.AssignAny from v ∷ is) = in_front (Stmt.AssignAny from v) (read is)
read (instruction.If from c ∷ is) = with_two (Stmt.If from (read_condition c)) (read is)
read (instruction.Else ∷ is) = Stmts.End ∷ read is
read (instruction.EndIf ∷ is) = Stmts.End ∷ read is
read (instruction.Loop from c ∷ is) = with_two (Stmt.Loop from (read_condition c)) (read is)
read (instruction.Last ∷ is) = Stmts.End ∷ read is
read (instruction.EndLoop ∷ is) = Stmts.End ∷ read is
read (instruction.Break from ∷ is) = in_front (Stmt.Break from) (read is)
read (instruction.Exit from ∷ is) = in_front (Stmt.Exit from) (read is)
read (instruction.Lock from lock ∷ is) = in_front (Stmt.Lock from lock) (read is)
read (instruction.Unlock from lock ∷ is) = in_front (Stmt.Unlock from lock) (read is)
read (instruction.Assert from os ∷ is) = in_front (Stmt.Assert from (read_test os)) (read is)
read (instruction.Assume from os ∷ is) = in_front (Stmt.Assume from (read_test os)) (read is)
read (instruction.Atomic from ∷ is) = with_one (Stmt.Atomic from) (read is)
read (instruction.EndAtomic ∷ is) = Stmts.End ∷ read is

joined-end : (ss : Stmts) → joined ss Stmts.End ≡ ss
joined-end Stmts.End = refl
joined-end (Stmts.Then s ss) = ap (Stmts.Then s) (joined-end ss)

in_front-all : (s : Stmt) (ss : Stmts) (more : List Stmts) → in_front s (all_in_front ss more) ≡ all_in_front (Stmts.Then s ss) more
in_front-all s ss [] = refl
in_front-all s ss (us ∷ more) = refl

all-end : (more : List Stmts) → all_in_front Stmts.End more ≡ more
all-end [] = refl
all-end (us ∷ more) = refl

-- what is read of code with two parts, each of which is read
read-two : (p q is : List Instruction) (one two : Stmts) (middle last : Instruction) (s : Stmts → Stmts → Stmt)
    → ((more : List Instruction) → read (p ++ more) ≡ all_in_front one (read more)) → ((more : List Instruction) → read (q ++ more) ≡ all_in_front two (read more))
    → ((more : List Instruction) → read (middle ∷ more) ≡ Stmts.End ∷ read more) → ((more : List Instruction) → read (last ∷ more) ≡ Stmts.End ∷ read more)
    → with_two s (read ((p ++ middle ∷ (q ++ last ∷ [])) ++ is)) ≡ in_front (s one two) (read is)
read-two p q is one two middle last s left right at_middle at_last =
    ap (λ more. with_two s (read more)) (append_assoc p (middle ∷ (q ++ last ∷ [])) is ∙ ap (λ more. p ++ (middle ∷ more)) (append_assoc q (last ∷ []) is))
    ∙ ap (with_two s) (left (middle ∷ (q ++ (last ∷ is))) ∙ ap (all_in_front one) (at_middle (q ++ (last ∷ is)) ∙ ap (λ more. Stmts.End ∷ more) (right (last ∷ is) ∙ ap (all_in_front two) (at_last is))))
    ∙ (λ i. in_front (s (joined-end one i) (joined-end two i)) (read is))

mutual
  read-stmt_code : (s : Stmt) (is : List Instruction) → read (stmt_code s ++ is) ≡ in_front s (read is)
  read-stmt_code (Stmt.Assign from at v e) is = ap (λ a. in_front (Stmt.Assign from at v a) (read is)) (read-postfix e)
  read-stmt_code (Stmt.AssignAny from v) is = refl
  read-stmt_code (Stmt.If from c ts es) is =
      read-two (code ts) (code es) is ts es instruction.Else instruction.EndIf (Stmt.If from (read_condition (stored_condition_of c))) (read-code ts) (read-code es) (λ more. refl) (λ more. refl)
      ∙ ap (λ d. in_front (Stmt.If from d ts es) (read is)) (read-stored_condition c)
  read-stmt_code (Stmt.Loop from c body last) is =
      read-two (code body) (code last) is body last instruction.Last instruction.EndLoop (Stmt.Loop from (read_condition (stored_condition_of c))) (read-code body) (read-code last) (λ more. refl) (λ more. refl)
      ∙ ap (λ d. in_front (Stmt.Loop from d body last) (read is)) (read-stored_condition c)
  read-stmt_code (Stmt.Break from) is = refl
  read-stmt_code (Stmt.Exit from) is = refl
  read-stmt_code (Stmt.Lock from lock) is = refl
  read-stmt_code (Stmt.Unlock from lock) is = refl
  read-stmt_code (Stmt.Assert from t) is = ap (λ u. in_front (Stmt.Assert from u) (read is)) (read-test_postfix t)
  read-stmt_code (Stmt.Assume from t) is = ap (λ u. in_front (Stmt.Assume from u) (read is)) (read-test_postfix t)
  read-stmt_code (Stmt.Atomic from inner) is =
      ap (λ more. with_one (Stmt.Atomic from) (read more)) (append_assoc (code inner) (instruction.EndAtomic ∷ []) is)
      ∙ ap (with_one (Stmt.Atomic from)) (read-code inner (instruction.EndAtomic ∷ is)) ∙ ap (λ ss. in_front (Stmt.Atomic from ss) (read is)) (joined-end inner)

  read-code : (ss : Stmts) (is : List Instruction) → read (code ss ++ is) ≡ all_in_front ss (read is)
  read-code Stmts.End is = sym (all-end (read is))
  read-code (Stmts.Then s ss) is =
      ap read (append_assoc (stmt_code s) (code ss) is) ∙ read-stmt_code s (code ss ++ is) ∙ ap (in_front s) (read-code ss is) ∙ in_front-all s ss (read is)

abbrev first_stmts : List Stmts → Stmts
first_stmts [] = Stmts.End
first_stmts (ss ∷ more) = ss

read-all : (ss : Stmts) → first_stmts (read (code ss)) ≡ ss
read-all ss = ap (λ is. first_stmts (read is)) (sym (append-nil (code ss))) ∙ ap first_stmts (read-code ss []) ∙ joined-end ss

-- different statements have different code
pub code-injective : (ss us : Stmts) → code ss ≡ code us → ss ≡ us
code-injective ss us same = sym (read-all ss) ∙ ap (λ is. first_stmts (read is)) same ∙ read-all us
