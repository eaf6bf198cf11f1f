-- The parts that are found from the last instruction to the first are those of the statements.
use Rattle.std.proofs.Common.{◌≡◌, ℕ, suc, ◌+◌, ◌-◌, List, [], ◌∷◌, ◌++◌, map, Option, Some, None, refl, sym, ap, ap₂, ◌∙◌, arith}
use Rattle.std.proofs.lemmas.List.{append-nil, append_assoc, map-append}
use Rattle.c_check.specs.declared.test.Comparison.{Comparison}
use Rattle.c_check.specs.declared.test.TestOperation.{TestOperation}
use Rattle.c_check.specs.declared.test.TestOperation.TheVariants as test_operation
use Rattle.c_check.specs.declared.instruction.Assignment.{Assignment}
use Rattle.c_check.specs.declared.instruction.Instruction.{Instruction}
use Rattle.c_check.specs.declared.instruction.Instruction.TheVariants as instruction
use Rattle.c_check.specs.Plan.{Test, Condition, Stmt, Stmts, code, postfix, stmt_code, stored_condition_of, test_postfix}
use Rattle.thread_cfg.specs.Action.{condition_size, entry, exit_of, size, stmt_size, test_size}
use Rattle.thread_cfg.specs.inside.Parts.{Part, Written, condition_parts, parts, stmt_parts, test_parts, written}
use Rattle.thread_cfg.specs.inside.Sizes.{count_start, counted_all}
use Rattle.thread_cfg.specs.inside.Pass.{Opened, Passed, Sides, Target, Testing, pass_start, passed, passed_all, settled, target, tested, tested_all, with_condition, with_test}
use Rattle.thread_cfg.proofs.SizeLemmas.{assignment_size-postfix, comparison_size-postfix, counted-code, loops_of, stmt_loops}

-- ---- tests

-- joined operations are gone through from the last one on
tested_all-append : (xs ys : List TestOperation) (s : Testing) → tested_all (xs ++ ys) s ≡ tested_all xs (tested_all ys s)
tested_all-append [] ys s = refl
tested_all-append (x ∷ xs) ys s = ap (tested x) (tested_all-append xs ys s)

-- a location leads where it leads
settled-target : (at : ℕ) (o : Option ℕ) → settled at (target o) ≡ o
settled-target at None = refl
settled-target at (Some l) = refl

-- the two sides of a test
abbrev sides_of : Target → Target → Sides
sides_of t f = record { on_true = t; on_false = f }

-- what is known behind an operation
abbrev testing : ℕ → List Sides → List Written → Testing
testing at sides ps = record { at = at; sides = sides; parts = ps }

-- parts in front of others
map-in_front : (xs ys : List Part) (ps : List Written) → map written xs ++ (map written ys ++ ps) ≡ map written (xs ++ ys) ++ ps
map-in_front xs ys ps = sym (append_assoc (map written xs) (map written ys) ps) ∙ ap (λ l. l ++ ps) (sym (map-append written xs ys))

-- sides that were settled are so
test_parts-settled : (at k : ℕ) (t f : Option ℕ) (u : Test)
    → test_parts at (settled k (target t)) (settled k (target f)) u ≡ test_parts at t f u
test_parts-settled at k t f u = ap₂ (λ x y. test_parts at x y u) (settled-target k t) (settled-target k f)

-- a test, from its end to its beginning
tested-postfix : (test : Test) (at : ℕ) (t f : Target) (more : List Sides) (ps : List Written)
    → tested_all (test_postfix test) (testing (at + test_size test) (sides_of t f ∷ more) ps)
    ≡ testing at more (map written (test_parts at (settled (at + test_size test) t) (settled (at + test_size test) f) test) ++ ps)
tested-postfix (Test.Compare from m a b) at t f more ps =
    let k = at + test_size (Test.Compare from m a b) in
    let c : Comparison = record { from = from; mark = m; left = postfix a; right = postfix b } in
    ap (λ x. testing x more (Written.Compare c (settled k t) (settled k f) ∷ ps)) (omega (arith, comparison_size-postfix from m a b))
tested-postfix (Test.Not u) at t f more ps =
    let k = at + test_size u in
    let t' = settled k t in let f' = settled k f in
    tested_all-append (test_postfix u) (test_operation.Not ∷ []) (testing k (sides_of t f ∷ more) ps)
    ∙ tested-postfix u at (target f') (target t') more ps
    ∙ ap (λ l. testing at more (map written l ++ ps)) (test_parts-settled at k f' t' u)
tested-postfix (Test.And u v) at t f more ps =
    let k = at + (test_size u + test_size v) in
    let m = at + test_size u in
    let t' = settled k t in let f' = settled k f in
    let left = sides_of Target.Behind (target f') in
    let vs = test_parts m t' f' v in
    tested_all-append (test_postfix u ++ test_postfix v) (test_operation.And ∷ []) (testing k (sides_of t f ∷ more) ps)
    ∙ tested_all-append (test_postfix u) (test_postfix v) (testing k (sides_of (target t') (target f') ∷ (left ∷ more)) ps)
    ∙ ap (tested_all (test_postfix u)) (
    ap (λ x. tested_all (test_postfix v) (testing x (sides_of (target t') (target f') ∷ (left ∷ more)) ps)) (omega arith)
    ∙ tested-postfix v m (target t') (target f') (left ∷ more) ps
    ∙ ap (λ l. testing m (left ∷ more) (map written l ++ ps)) (test_parts-settled m (m + test_size v) t' f' v))
    ∙ tested-postfix u at Target.Behind (target f') more (map written vs ++ ps)
    ∙ ap (λ x. testing at more (map written (test_parts at (Some m) x u) ++ (map written vs ++ ps))) (settled-target m f')
    ∙ ap (testing at more) (map-in_front (test_parts at (Some m) f' u) vs ps)
tested-postfix (Test.Or u v) at t f more ps =
    let k = at + (test_size u + test_size v) in
    let m = at + test_size u in
    let t' = settled k t in let f' = settled k f in
    let left = sides_of (target t') Target.Behind in
    let vs = test_parts m t' f' v in
    tested_all-append (test_postfix u ++ test_postfix v) (test_operation.Or ∷ []) (testing k (sides_of t f ∷ more) ps)
    ∙ tested_all-append (test_postfix u) (test_postfix v) (testing k (sides_of (target t') (target f') ∷ (left ∷ more)) ps)
    ∙ ap (tested_all (test_postfix u)) (
    ap (λ x. tested_all (test_postfix v) (testing x (sides_of (target t') (target f') ∷ (left ∷ more)) ps)) (omega arith)
    ∙ tested-postfix v m (target t') (target f') (left ∷ more) ps
    ∙ ap (λ l. testing m (left ∷ more) (map written l ++ ps)) (test_parts-settled m (m + test_size v) t' f' v))
    ∙ tested-postfix u at (target t') Target.Behind more (map written vs ++ ps)
    ∙ ap (λ x. testing at more (map written (test_parts at x (Some m) u) ++ (map written vs ++ ps))) (settled-target m t')
    ∙ ap (testing at more) (map-in_front (test_parts at t' (Some m) u) vs ps)

-- ---- instructions

-- joined instructions are gone through from the last one on
passed_all-append : (exit : ℕ) (xs ys : List Instruction) (s : Passed) → passed_all exit (xs ++ ys) s ≡ passed_all exit xs (passed_all exit ys s)
passed_all-append exit [] ys s = refl
passed_all-append exit (x ∷ xs) ys s = ap (passed exit x) (passed_all-append exit xs ys s)

-- outside atomic blocks
abbrev pass : ℕ → ℕ → ℕ → List Opened → List ℕ → List Written → Passed
pass at next out opened loops ps =
    record { at = at; next = next; out = out; opened = opened; loops = loops; depth = 0; block = []; parts = ps }

-- within
abbrev deep : ℕ → ℕ → ℕ → List Opened → List ℕ → List Written → ℕ → List Instruction → Passed
deep at next out opened loops ps depth block =
    record { at = at; next = next; out = out; opened = opened; loops = loops; depth = depth; block = block; parts = ps }

-- the parts of a test
with_test-postfix : (at next out : ℕ) (opened : List Opened) (loops : List ℕ) (ps : List Written) (t f : Option ℕ) (test : Test)
    → with_test (test_postfix test) t f (pass (at + test_size test) next out opened loops ps)
    ≡ pass at at out opened loops (map written (test_parts at t f test) ++ ps)
with_test-postfix at next out opened loops ps t f test =
    ap (λ (s : Testing). pass s.at s.at out opened loops s.parts)
    (tested-postfix test at (target t) (target f) [] ps
    ∙ ap (λ l. testing at [] (map written l ++ ps)) (test_parts-settled at (at + test_size test) t f test))

-- the parts of a condition
with_condition-stored : (at next out : ℕ) (opened : List Opened) (loops : List ℕ) (ps : List Written) (t f : ℕ) (c : Condition)
    → with_condition (stored_condition_of c) t f (pass (at + condition_size c) next out opened loops ps)
    ≡ pass at at out opened loops (map written (condition_parts at t f c) ++ ps)
with_condition-stored at next out opened loops ps t f (Condition.Choice from) =
    ap (λ x. pass x x out opened loops (Written.Choice from t f ∷ ps)) (omega arith)
with_condition-stored at next out opened loops ps t f (Condition.Tested from test) =
    with_test-postfix at next out opened loops ps (Some t) (Some f) test

-- Within an atomic block the instructions are put together.
mutual
  -- a statement in an atomic block is passed
  stmt-deep : (s : Stmt) (exit at next out : ℕ) (opened : List Opened) (loops : List ℕ) (ps : List Written) (more : ℕ) (block : List Instruction)
      → passed_all exit (stmt_code s) (deep at next out opened loops ps (suc more) block) ≡ deep at next out opened loops ps (suc more) (stmt_code s ++ block)
  stmt-deep (Stmt.Assign from place v e) exit at next out opened loops ps more block = refl
  stmt-deep (Stmt.AssignAny from v) exit at next out opened loops ps more block = refl
  stmt-deep (Stmt.If from c ts es) exit at next out opened loops ps more block =
      let first = instruction.If from (stored_condition_of c) in
      let back = instruction.Else ∷ (code es ++ instruction.EndIf ∷ []) in
      ap (passed exit first) (
      passed_all-append exit (code ts) back (deep at next out opened loops ps (suc more) block)
      ∙ ap (λ s. passed_all exit (code ts) (passed exit instruction.Else s)) (
      passed_all-append exit (code es) (instruction.EndIf ∷ []) (deep at next out opened loops ps (suc more) block)
      ∙ deep-stmts es exit at next out opened loops ps more (instruction.EndIf ∷ block))
      ∙ deep-stmts ts exit at next out opened loops ps more (instruction.Else ∷ (code es ++ instruction.EndIf ∷ block)))
      ∙ ap (λ l. deep at next out opened loops ps (suc more) (first ∷ l)) (
      ap (λ l. code ts ++ instruction.Else ∷ l) (sym (append_assoc (code es) (instruction.EndIf ∷ []) block))
      ∙ sym (append_assoc (code ts) back block))
  stmt-deep (Stmt.Loop from c body last) exit at next out opened loops ps more block =
      let first = instruction.Loop from (stored_condition_of c) in
      let back = instruction.Last ∷ (code last ++ instruction.EndLoop ∷ []) in
      ap (passed exit first) (
      passed_all-append exit (code body) back (deep at next out opened loops ps (suc more) block)
      ∙ ap (λ s. passed_all exit (code body) (passed exit instruction.Last s)) (
      passed_all-append exit (code last) (instruction.EndLoop ∷ []) (deep at next out opened loops ps (suc more) block)
      ∙ deep-stmts last exit at next out opened loops ps more (instruction.EndLoop ∷ block))
      ∙ deep-stmts body exit at next out opened loops ps more (instruction.Last ∷ (code last ++ instruction.EndLoop ∷ block)))
      ∙ ap (λ l. deep at next out opened loops ps (suc more) (first ∷ l)) (
      ap (λ l. code body ++ instruction.Last ∷ l) (sym (append_assoc (code last) (instruction.EndLoop ∷ []) block))
      ∙ sym (append_assoc (code body) back block))
  stmt-deep (Stmt.Break from) exit at next out opened loops ps more block = refl
  stmt-deep (Stmt.Exit from) exit at next out opened loops ps more block = refl
  stmt-deep (Stmt.Lock from lock) exit at next out opened loops ps more block = refl
  stmt-deep (Stmt.Unlock from lock) exit at next out opened loops ps more block = refl
  stmt-deep (Stmt.Assert from t) exit at next out opened loops ps more block = refl
  stmt-deep (Stmt.Assume from t) exit at next out opened loops ps more block = refl
  stmt-deep (Stmt.Atomic from inner) exit at next out opened loops ps more block =
      let first = instruction.Atomic from in
      ap (passed exit first) (
      passed_all-append exit (code inner) (instruction.EndAtomic ∷ []) (deep at next out opened loops ps (suc more) block)
      ∙ deep-stmts inner exit at next out opened loops ps (suc more) (instruction.EndAtomic ∷ block))
      ∙ ap (λ l. deep at next out opened loops ps (suc more) (first ∷ l)) (sym (append_assoc (code inner) (instruction.EndAtomic ∷ []) block))

  -- statements in an atomic block are passed
  deep-stmts : (ss : Stmts) (exit at next out : ℕ) (opened : List Opened) (loops : List ℕ) (ps : List Written) (more : ℕ) (block : List Instruction)
      → passed_all exit (code ss) (deep at next out opened loops ps (suc more) block) ≡ deep at next out opened loops ps (suc more) (code ss ++ block)
  deep-stmts Stmts.End exit at next out opened loops ps more block = refl
  deep-stmts (Stmts.Then s rest) exit at next out opened loops ps more block =
      passed_all-append exit (stmt_code s) (code rest) (deep at next out opened loops ps (suc more) block)
      ∙ ap (passed_all exit (stmt_code s)) (deep-stmts rest exit at next out opened loops ps more block)
      ∙ stmt-deep s exit at next out opened loops ps more (code rest ++ block)
      ∙ ap (deep at next out opened loops ps (suc more)) (sym (append_assoc (stmt_code s) (code rest) block))

-- one location
one-passed : (at out : ℕ) (opened : List Opened) (loops : List ℕ) (ps : List Written)
    → pass (at + 1 - 1) (at + 1 - 1) out opened loops ps ≡ pass at at out opened loops ps
one-passed at out opened loops ps = ap (λ x. pass x x out opened loops ps) (omega arith)

mutual
  -- the pass over a statement gives its parts
  stmt-passed : (s : Stmt) (exit at next out : ℕ) (opened : List Opened) (loops : List ℕ) (ps : List Written)
      → passed_all exit (stmt_code s) (pass (at + stmt_size s) next out opened (stmt_loops at s ++ loops) ps)
      ≡ pass at at out opened loops (map written (stmt_parts exit out at next s) ++ ps)
  stmt-passed (Stmt.Assign from place v e) exit at next out opened loops ps =
      let a : Assignment = record { from = from; at = place; variable = v; value = postfix e } in
      ap (λ x. pass x x out opened loops (Written.Assign a next ∷ ps)) (omega (arith, assignment_size-postfix from place v e))
  stmt-passed (Stmt.AssignAny from v) exit at next out opened loops ps = one-passed at out opened loops _
  stmt-passed (Stmt.If from c ts es) exit at next out opened loops ps =
      let k = at + condition_size c in
      let m = k + size ts in
      let end = at + (condition_size c + (size ts + size es)) in
      let back = instruction.Else ∷ (code es ++ instruction.EndIf ∷ []) in
      let all = (loops_of m es ++ loops_of k ts) ++ loops in
      let joins : Opened = record { next = next; other = next } in
      let within : Opened = record { next = next; other = entry es m next } in
      let e-parts = parts exit out m next es in
      let t-parts = parts exit out k next ts in
      let c-parts = condition_parts at (entry ts k next) (entry es m next) c in
      ap (passed exit (instruction.If from (stored_condition_of c))) (
      passed_all-append exit (code ts) back (pass end next out opened all ps)
      ∙ ap (λ s. passed_all exit (code ts) (passed exit instruction.Else s)) (
      passed_all-append exit (code es) (instruction.EndIf ∷ []) (pass end next out opened all ps)
      ∙ ap₂ (λ x l. passed_all exit (code es) (pass x next out (joins ∷ opened) l ps)) (omega arith) (append_assoc (loops_of m es) (loops_of k ts) loops)
      ∙ stmts-passed es exit m next out (joins ∷ opened) (loops_of k ts ++ loops) ps)
      ∙ stmts-passed ts exit k next out (within ∷ opened) loops (map written e-parts ++ ps))
      ∙ with_condition-stored at (entry ts k next) out opened loops (map written t-parts ++ (map written e-parts ++ ps)) (entry ts k next) (entry es m next) c
      ∙ ap (pass at at out opened loops) (
      ap (λ l. map written c-parts ++ l) (map-in_front t-parts e-parts ps) ∙ map-in_front c-parts (t-parts ++ e-parts) ps)
  stmt-passed (Stmt.Loop from c body last) exit at next out opened loops ps =
      let k = at + condition_size c in
      let m = k + size body in
      let end = at + (condition_size c + (size body + size last)) in
      let back = instruction.Last ∷ (code last ++ instruction.EndLoop ∷ []) in
      let all = (at ∷ (loops_of m last ++ loops_of k body)) ++ loops in
      let within : Opened = record { next = next; other = out } in
      let begins = entry last m at in
      let l-parts = parts exit next m at last in
      let b-parts = parts exit next k begins body in
      let c-parts = condition_parts at (entry body k begins) next c in
      ap (passed exit (instruction.Loop from (stored_condition_of c))) (
      passed_all-append exit (code body) back (pass end next out opened all ps)
      ∙ ap (λ s. passed_all exit (code body) (passed exit instruction.Last s)) (
      passed_all-append exit (code last) (instruction.EndLoop ∷ []) (pass end next out opened all ps)
      ∙ ap₂ (λ x l. passed_all exit (code last) (pass x at next (within ∷ opened) l ps)) (omega arith) (append_assoc (loops_of m last) (loops_of k body) loops)
      ∙ stmts-passed last exit m at next (within ∷ opened) (loops_of k body ++ loops) ps)
      ∙ stmts-passed body exit k begins next (within ∷ opened) loops (map written l-parts ++ ps))
      ∙ with_condition-stored at (entry body k begins) out opened loops (map written b-parts ++ (map written l-parts ++ ps)) (entry body k begins) next c
      ∙ ap (pass at at out opened loops) (
      ap (λ l. map written c-parts ++ l) (map-in_front b-parts l-parts ps) ∙ map-in_front c-parts (b-parts ++ l-parts) ps)
  stmt-passed (Stmt.Break from) exit at next out opened loops ps = one-passed at out opened loops _
  stmt-passed (Stmt.Exit from) exit at next out opened loops ps = one-passed at out opened loops _
  stmt-passed (Stmt.Lock from lock) exit at next out opened loops ps = one-passed at out opened loops _
  stmt-passed (Stmt.Unlock from lock) exit at next out opened loops ps = one-passed at out opened loops _
  stmt-passed (Stmt.Assert from t) exit at next out opened loops ps = with_test-postfix at next out opened loops ps (Some next) (Some 0) t
  stmt-passed (Stmt.Assume from t) exit at next out opened loops ps = with_test-postfix at next out opened loops ps (Some next) None t
  stmt-passed (Stmt.Atomic from inner) exit at next out opened loops ps =
      ap (passed exit (instruction.Atomic from)) (
      passed_all-append exit (code inner) (instruction.EndAtomic ∷ []) (pass (at + 1) next out opened loops ps)
      ∙ deep-stmts inner exit (at + 1) next out opened loops ps 0 [])
      ∙ ap (λ l. pass (at + 1 - 1) (at + 1 - 1) out opened loops (Written.Block from l next ∷ ps)) (append-nil (code inner))
      ∙ one-passed at out opened loops _

  -- the pass over statements gives their parts
  stmts-passed : (ss : Stmts) (exit at next out : ℕ) (opened : List Opened) (loops : List ℕ) (ps : List Written)
      → passed_all exit (code ss) (pass (at + size ss) next out opened (loops_of at ss ++ loops) ps)
      ≡ pass at (entry ss at next) out opened loops (map written (parts exit out at next ss) ++ ps)
  stmts-passed Stmts.End exit at next out opened loops ps = ap (λ x. pass x next out opened loops ps) (omega arith)
  stmts-passed (Stmts.Then s rest) exit at next out opened loops ps =
      let k = at + stmt_size s in
      let r-parts = parts exit out k next rest in
      let begins = entry rest k next in
      passed_all-append exit (stmt_code s) (code rest) (pass (at + (stmt_size s + size rest)) next out opened ((loops_of k rest ++ stmt_loops at s) ++ loops) ps)
      ∙ ap (passed_all exit (stmt_code s)) (
      ap₂ (λ x l. passed_all exit (code rest) (pass x next out opened l ps)) (omega arith) (append_assoc (loops_of k rest) (stmt_loops at s) loops)
      ∙ stmts-passed rest exit k next out opened (stmt_loops at s ++ loops) ps)
      ∙ stmt-passed s exit at begins out opened loops (map written r-parts ++ ps)
      ∙ ap (pass at at out opened loops) (map-in_front (stmt_parts exit out at begins s) r-parts ps)

-- The parts of a thread are found from behind, with what was counted of it.
pub passed-code : (ss : Stmts) → (passed_all (exit_of ss) (code ss) (pass_start (exit_of ss) (counted_all (code ss) count_start).loops)).parts
    ≡ map written (parts (exit_of ss) (exit_of ss) 1 (exit_of ss) ss)
passed-code ss =
    let exit = exit_of ss in
    let all = parts exit exit 1 exit ss in
    ap (λ s. (passed_all exit (code ss) (pass_start exit s.loops)).parts) (counted-code ss)
    ∙ ap (λ x. (passed_all exit (code ss) (pass x exit exit [] (loops_of 1 ss ++ []) [])).parts) (omega arith)
    ∙ ap (λ s. s.parts) (stmts-passed ss exit 1 exit exit [] [] [])
    ∙ append-nil (map written all)
