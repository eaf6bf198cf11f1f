-- The locations of instructions are those of the statements, and so are the places where loops begin.
use Rattle.std.proofs.Common.{◌≡◌, ℕ, zero, suc, ◌+◌, ◌<◌, ◌≤◌, Bool, true, false, List, [], ◌∷◌, ◌++◌, length, filter, drop, get_or, take, if◌then◌else◌, refl, sym, ap, ap₂, ◌∙◌, arith}
use Rattle.std.proofs.lemmas.List.{append_assoc, drop_more, length-append, take_more}
use Rattle.std.proofs.lemmas.List.Elements.{filter-append}
use Rattle.thr_base.specs.Limits.{most_locations}
use Rattle.c_check.specs.declared.meaning.Variable.{Variable}
use Rattle.c_check.specs.declared.meaning.Variable.TheVariants as variable
use Rattle.c_check.specs.declared.operation.Operation.{Operation}
use Rattle.c_check.specs.declared.operation.Operation.TheVariants as operation
use Rattle.c_check.specs.declared.operation.Mark.{Mark}
use Rattle.c_check.specs.declared.test.TestOperation.{TestOperation}
use Rattle.c_check.specs.declared.test.TestOperation.TheVariants as test_operation
use Rattle.c_check.specs.declared.instruction.Instruction.{Instruction}
use Rattle.c_check.specs.declared.instruction.Instruction.TheVariants as instruction
use Rattle.c_check.specs.Plan.{Arithmetic, Test, Condition, Stmt, Stmts, code, postfix, stmt_code, stored_condition_of, test_postfix}
use Rattle.c_check.specs.Items.{few, reads, shared_in, written}
use Rattle.thread_cfg.specs.Action.{assign_reads, compare_reads, condition_size, reads_before, size, stmt_size, test_size}
use Rattle.thread_cfg.specs.inside.Sizes.{Counted, assignment_size, comparison_size, count_start, counted, counted_all, counted_by, counted_inside, counted_outside, is_shared, loop_ended, locations, operation_size, shared_operations, stored_condition_size, tests_size}

-- ---- shared accesses

-- joined operations name so many shared variables as both
shared_operations-append : (xs ys : List Operation) → shared_operations (xs ++ ys) ≡ shared_operations xs + shared_operations ys
shared_operations-append xs ys = ap length (filter-append is_shared xs ys) ∙ length-append (filter is_shared xs) (filter is_shared ys)

-- one operation more
pub shared_operations-next : (xs : List Operation) (i : ℕ) (d : Operation) → i < length xs → shared_operations (take (i + 1) xs) ≡ shared_operations (take i xs) + (if is_shared (get_or xs i d) then 1 else 0)
shared_operations-next xs i d within =
    ap shared_operations (take_more xs i d within) ∙ shared_operations-append (take i xs) (get_or xs i d ∷ []) ∙ ap (λ n. shared_operations (take i xs) + n) (by_test (is_shared (get_or xs i d)))
  where
    by_test : (t : Bool) → length (if t then get_or xs i d ∷ [] else []) ≡ (if t then 1 else 0)
    by_test true = refl
    by_test false = refl

-- an operation on two expressions names the shared variables of both
of_two : (a b : Arithmetic) (o : Operation) → is_shared o ≡ false → shared_operations (postfix a) ≡ length (shared_in a) → shared_operations (postfix b) ≡ length (shared_in b) →
    shared_operations ((postfix a ++ postfix b) ++ o ∷ []) ≡ length (shared_in a ++ shared_in b)
of_two a b o none a-is b-is =
    let last : shared_operations (o ∷ []) ≡ 0 = rw none refl in
    shared_operations-append (postfix a ++ postfix b) (o ∷ []) ∙ ap (λ n. n + shared_operations (o ∷ [])) (shared_operations-append (postfix a) (postfix b))
    ∙ omega (arith, last, a-is, b-is, length-append (shared_in a) (shared_in b))

-- The operations that read what all threads share are as many as the shared variables of the expression.
pub shared_operations-postfix : (a : Arithmetic) → shared_operations (postfix a) ≡ length (shared_in a)
shared_operations-postfix (Arithmetic.Number k) = refl
shared_operations-postfix (Arithmetic.Value (variable.Shared n)) = refl
shared_operations-postfix (Arithmetic.Value (variable.Own n)) = refl
shared_operations-postfix (Arithmetic.Negated a) =
    shared_operations-append (postfix a) (operation.Negate ∷ []) ∙ omega (arith, shared_operations-postfix a)
shared_operations-postfix (Arithmetic.Sum a b) = of_two a b operation.Add refl (shared_operations-postfix a) (shared_operations-postfix b)
shared_operations-postfix (Arithmetic.Difference a b) = of_two a b operation.Subtract refl (shared_operations-postfix a) (shared_operations-postfix b)
shared_operations-postfix (Arithmetic.Product a b) = of_two a b operation.Multiply refl (shared_operations-postfix a) (shared_operations-postfix b)

-- one read a variable
pub length-reads : (t : ℕ) (vs : List Variable) → length (reads t vs) ≡ length vs
length-reads t [] = refl
length-reads t (v ∷ vs) = ap suc (length-reads (t + 1) vs)

-- the reads in front of an action, and the action
pub locations-reads : (t accesses : ℕ) (vs : List Variable) → length (reads_before t accesses vs) + 1 ≡ locations accesses (length vs)
locations-reads t accesses vs = by (few accesses) refl
  where
    by : (b : Bool) → few accesses ≡ b → length (reads_before t accesses vs) + 1 ≡ locations accesses (length vs)
    by true e = rw e refl
    by false e = rw e (ap (λ n. n + 1) (length-reads t vs))

-- the size that the code counts of an assignment is one more than its reads
pub assignment_size-postfix : (from at : ℕ) (v : Variable) (e : Arithmetic)
    → assignment_size (record { from = from; at = at; variable = v; value = postfix e }) ≡ length (assign_reads 0 v e) + 1
assignment_size-postfix from at v e =
    ap (λ n. locations (written v n) n) (shared_operations-postfix e) ∙ sym (locations-reads 0 (written v (length (shared_in e))) (shared_in e))

-- the size that the code counts of a comparison is one more than its reads
pub comparison_size-postfix : (from : ℕ) (m : Mark) (a b : Arithmetic)
    → comparison_size (record { from = from; mark = m; left = postfix a; right = postfix b }) ≡ length (compare_reads 0 a b) + 1
comparison_size-postfix from m a b =
    let both : shared_operations (postfix a) + shared_operations (postfix b) ≡ length (shared_in a ++ shared_in b) =
    ap₂ (λ n k. n + k) (shared_operations-postfix a) (shared_operations-postfix b) ∙ sym (length-append (shared_in a) (shared_in b)) in
    ap (λ n. locations n n) both ∙ sym (locations-reads 0 (length (shared_in a ++ shared_in b)) (shared_in a ++ shared_in b))

-- ---- tests

-- joined operations have the sizes of both
tests_size-append : (xs ys : List TestOperation) → tests_size (xs ++ ys) ≡ tests_size xs + tests_size ys
tests_size-append [] ys = omega arith
tests_size-append (x ∷ xs) ys = ap (λ n. operation_size x + n) (tests_size-append xs ys) ∙ omega arith

-- the operations of a test have its size
pub tests_size-postfix : (t : Test) → tests_size (test_postfix t) ≡ test_size t
tests_size-postfix (Test.Compare from m a b) = omega (arith, comparison_size-postfix from m a b)
tests_size-postfix (Test.Not t) = tests_size-append (test_postfix t) (test_operation.Not ∷ []) ∙ omega (arith, tests_size-postfix t)
tests_size-postfix (Test.And t u) =
    tests_size-append (test_postfix t ++ test_postfix u) (test_operation.And ∷ [])
    ∙ omega (arith, tests_size-append (test_postfix t) (test_postfix u), tests_size-postfix t, tests_size-postfix u)
tests_size-postfix (Test.Or t u) =
    tests_size-append (test_postfix t ++ test_postfix u) (test_operation.Or ∷ [])
    ∙ omega (arith, tests_size-append (test_postfix t) (test_postfix u), tests_size-postfix t, tests_size-postfix u)

-- a condition of a plan has the size of the condition
pub condition_size-stored : (c : Condition) → stored_condition_size (stored_condition_of c) ≡ condition_size c
condition_size-stored (Condition.Choice from) = refl
condition_size-stored (Condition.Tested from t) = tests_size-postfix t

-- ---- counting

-- joined instructions are counted one after another
pub counted_all-append : (xs ys : List Instruction) (s : Counted) → counted_all (xs ++ ys) s ≡ counted_all ys (counted_all xs s)
counted_all-append [] ys s = refl
counted_all-append (x ∷ xs) ys s = counted_all-append xs ys (counted s x)

-- outside atomic blocks
abbrev count : ℕ → List ℕ → List ℕ → Counted
count at around loops = record { at = at; around = around; loops = loops; depth = 0 }

-- within
abbrev deep : ℕ → List ℕ → List ℕ → ℕ → Counted
deep at around loops depth = record { at = at; around = around; loops = loops; depth = depth }

-- within an atomic block nothing is counted
mutual
  -- a statement in an atomic block adds no location
  stmt-deep : (s : Stmt) (at : ℕ) (around loops : List ℕ) (more : ℕ) → counted_all (stmt_code s) (deep at around loops (suc more)) ≡ deep at around loops (suc more)
  stmt-deep (Stmt.Assign from place v e) at around loops more = refl
  stmt-deep (Stmt.AssignAny from v) at around loops more = refl
  stmt-deep (Stmt.If from c ts es) at around loops more =
      counted_all-append (code ts) (instruction.Else ∷ (code es ++ instruction.EndIf ∷ [])) (deep at around loops (suc more))
      ∙ ap (counted_all (instruction.Else ∷ (code es ++ instruction.EndIf ∷ []))) (deep-stmts ts at around loops more)
      ∙ counted_all-append (code es) (instruction.EndIf ∷ []) (deep at around loops (suc more))
      ∙ ap (counted_all (instruction.EndIf ∷ [])) (deep-stmts es at around loops more)
  stmt-deep (Stmt.Loop from c body last) at around loops more =
      counted_all-append (code body) (instruction.Last ∷ (code last ++ instruction.EndLoop ∷ [])) (deep at around loops (suc more))
      ∙ ap (counted_all (instruction.Last ∷ (code last ++ instruction.EndLoop ∷ []))) (deep-stmts body at around loops more)
      ∙ counted_all-append (code last) (instruction.EndLoop ∷ []) (deep at around loops (suc more))
      ∙ ap (counted_all (instruction.EndLoop ∷ [])) (deep-stmts last at around loops more)
  stmt-deep (Stmt.Break from) at around loops more = refl
  stmt-deep (Stmt.Exit from) at around loops more = refl
  stmt-deep (Stmt.Lock from lock) at around loops more = refl
  stmt-deep (Stmt.Unlock from lock) at around loops more = refl
  stmt-deep (Stmt.Assert from t) at around loops more = refl
  stmt-deep (Stmt.Assume from t) at around loops more = refl
  stmt-deep (Stmt.Atomic from inner) at around loops more =
      counted_all-append (code inner) (instruction.EndAtomic ∷ []) (deep at around loops (suc (suc more)))
      ∙ ap (counted_all (instruction.EndAtomic ∷ [])) (deep-stmts inner at around loops (suc more))

  -- statements in an atomic block add no location
  deep-stmts : (ss : Stmts) (at : ℕ) (around loops : List ℕ) (more : ℕ) → counted_all (code ss) (deep at around loops (suc more)) ≡ deep at around loops (suc more)
  deep-stmts Stmts.End at around loops more = refl
  deep-stmts (Stmts.Then s rest) at around loops more =
      counted_all-append (stmt_code s) (code rest) (deep at around loops (suc more))
      ∙ ap (counted_all (code rest)) (stmt-deep s at around loops more) ∙ deep-stmts rest at around loops more

-- where the loops of statements begin, the one first that ends last
abbrev mutual
  pub stmt_loops : ℕ → Stmt → List ℕ
  stmt_loops at (Stmt.If from c ts es) = loops_of (at + condition_size c + size ts) es ++ loops_of (at + condition_size c) ts
  stmt_loops at (Stmt.Loop from c body last) =
      at ∷ (loops_of (at + condition_size c + size body) last ++ loops_of (at + condition_size c) body)
  stmt_loops at _ = []

  pub loops_of : ℕ → Stmts → List ℕ
  loops_of at Stmts.End = []
  loops_of at (Stmts.Then s rest) = loops_of (at + stmt_size s) rest ++ stmt_loops at s

-- one more location
counted-at : (at n k : ℕ) (around loops : List ℕ) → n ≡ k → count (at + n) around loops ≡ count (at + k) around loops
counted-at at n k around loops e = ap (λ x. count (at + x) around loops) e

-- nothing more
plus_zero : (at : ℕ) (around loops : List ℕ) → count (at + 0) around loops ≡ count at around loops
plus_zero at around loops = ap (λ x. count x around loops) (omega arith)

mutual
  -- a statement adds its locations
  stmt-counted : (s : Stmt) (at : ℕ) (around loops : List ℕ)
      → counted_all (stmt_code s) (count at around loops) ≡ count (at + stmt_size s) around (stmt_loops at s ++ loops)
  stmt-counted (Stmt.Assign from place v e) at around loops = counted-at at _ _ around loops (assignment_size-postfix from place v e)
  stmt-counted (Stmt.AssignAny from v) at around loops = refl
  stmt-counted (Stmt.If from c ts es) at around loops =
      let k = at + condition_size c in
      let back = instruction.Else ∷ (code es ++ instruction.EndIf ∷ []) in
      ap (counted_all (code ts ++ back)) (counted-at at _ _ around loops (condition_size-stored c))
      ∙ counted_all-append (code ts) back (count k around loops)
      ∙ ap (counted_all back) (counted-stmts ts k around loops)
      ∙ ap (counted_all (code es ++ instruction.EndIf ∷ [])) (plus_zero (k + size ts) around (loops_of k ts ++ loops))
      ∙ counted_all-append (code es) (instruction.EndIf ∷ []) (count (k + size ts) around (loops_of k ts ++ loops))
      ∙ ap (counted_all (instruction.EndIf ∷ [])) (counted-stmts es (k + size ts) around (loops_of k ts ++ loops))
      ∙ plus_zero (k + size ts + size es) around (loops_of (k + size ts) es ++ (loops_of k ts ++ loops))
      ∙ ap₂ (λ a l. count a around l) (omega arith) (sym (append_assoc (loops_of (k + size ts) es) (loops_of k ts) loops))
  stmt-counted (Stmt.Loop from c body last) at around loops =
      let k = at + condition_size c in
      let back = instruction.Last ∷ (code last ++ instruction.EndLoop ∷ []) in
      ap (counted_all (code body ++ back)) (counted-at at _ _ (at ∷ around) loops (condition_size-stored c))
      ∙ counted_all-append (code body) back (count k (at ∷ around) loops)
      ∙ ap (counted_all back) (counted-stmts body k (at ∷ around) loops)
      ∙ ap (counted_all (code last ++ instruction.EndLoop ∷ [])) (plus_zero (k + size body) (at ∷ around) (loops_of k body ++ loops))
      ∙ counted_all-append (code last) (instruction.EndLoop ∷ []) (count (k + size body) (at ∷ around) (loops_of k body ++ loops))
      ∙ ap (counted_all (instruction.EndLoop ∷ [])) (counted-stmts last (k + size body) (at ∷ around) (loops_of k body ++ loops))
      ∙ ap₂ (λ a l. count a around (at ∷ l)) (omega arith) (sym (append_assoc (loops_of (k + size body) last) (loops_of k body) loops))
  stmt-counted (Stmt.Break from) at around loops = refl
  stmt-counted (Stmt.Exit from) at around loops = refl
  stmt-counted (Stmt.Lock from lock) at around loops = refl
  stmt-counted (Stmt.Unlock from lock) at around loops = refl
  stmt-counted (Stmt.Assert from t) at around loops = counted-at at _ _ around loops (tests_size-postfix t)
  stmt-counted (Stmt.Assume from t) at around loops = counted-at at _ _ around loops (tests_size-postfix t)
  stmt-counted (Stmt.Atomic from inner) at around loops =
      counted_all-append (code inner) (instruction.EndAtomic ∷ []) (deep (at + 1) around loops 1)
      ∙ ap (counted_all (instruction.EndAtomic ∷ [])) (deep-stmts inner (at + 1) around loops 0)

  -- statements add their locations
  counted-stmts : (ss : Stmts) (at : ℕ) (around loops : List ℕ)
      → counted_all (code ss) (count at around loops) ≡ count (at + size ss) around (loops_of at ss ++ loops)
  counted-stmts Stmts.End at around loops = ap (λ x. count x around loops) (omega arith)
  counted-stmts (Stmts.Then s rest) at around loops =
      counted_all-append (stmt_code s) (code rest) (count at around loops)
      ∙ ap (counted_all (code rest)) (stmt-counted s at around loops)
      ∙ counted-stmts rest (at + stmt_size s) around (stmt_loops at s ++ loops)
      ∙ ap₂ (λ a l. count a around l) (omega arith) (sym (append_assoc (loops_of (at + stmt_size s) rest) (stmt_loops at s) loops))

-- What is counted of statements from location 1 on.
pub counted-code : (ss : Stmts) → counted_all (code ss) count_start ≡ count (1 + size ss) [] (loops_of 1 ss ++ [])
counted-code ss = counted-stmts ss 1 [] []

-- no location is given up
loop_ended-grows : (around : List ℕ) (s : Counted) → s.at ≤ (loop_ended around s).at
loop_ended-grows [] s = omega arith
loop_ended-grows (l ∷ ls) s = omega arith

-- an instruction outside of blocks takes no location away
counted_outside-grows : (i : Instruction) (s : Counted) → s.at ≤ (counted_outside i s).at
counted_outside-grows (instruction.Loop from c) s = omega arith
counted_outside-grows instruction.EndLoop s = loop_ended-grows s.around s
counted_outside-grows (instruction.Atomic from) s = omega arith
counted_outside-grows _ s = omega arith

-- an instruction inside of blocks takes no location away
counted_inside-grows : (more : ℕ) (i : Instruction) (s : Counted) → s.at ≤ (counted_inside more i s).at
counted_inside-grows more (instruction.Atomic from) s = omega arith
counted_inside-grows more instruction.EndAtomic s = omega arith
counted_inside-grows more _ s = omega arith

-- an instruction takes no location away
counted_by-grows : (depth : ℕ) (i : Instruction) (s : Counted) → s.at ≤ (counted_by depth i s).at
counted_by-grows zero i s = counted_outside-grows i s
counted_by-grows (suc more) i s = counted_inside-grows more i s

-- instructions take no location away
pub counted-grows : (is : List Instruction) (s : Counted) → s.at ≤ (counted_all is s).at
counted-grows [] s = omega arith
counted-grows (i ∷ is) s = omega (arith, counted_by-grows s.depth i s, counted-grows is (counted s i))

-- too many at one instruction are too many
pub counted-over : (is : List Instruction) (index : ℕ) (d : Instruction) (s whole : Counted) → index < length is
    → most_locations ≤ (counted s (get_or is index d)).at → counted_all (drop index is) s ≡ whole → most_locations ≤ whole.at
counted-over is index d s whole within over e =
    let rest = drop (index + 1) is in
    let front : drop index is ≡ get_or is index d ∷ rest = drop_more is index d within in
    let all : (counted_all rest (counted s (get_or is index d))).at ≡ whole.at =
    ap (λ s. s.at) (sym (ap (λ l. counted_all l s) front) ∙ e) in
    omega (arith, all, counted-grows rest (counted s (get_or is index d)))
