-- The places of a thread's locations are those of its code.
use Rattle.std.proofs.Common.{◌≡◌, ℕ, suc, ◌+◌, List, [], ◌∷◌, ◌++◌, length, map, replicate, Option, Some, None, refl, sym, ap, ap₂, ◌∙◌}
use Rattle.std.specs.Prelude.{flat_map}
use Rattle.std.proofs.lemmas.List.{append-nil, append_assoc, map-append, replicate_more}
use Rattle.c_check.specs.declared.meaning.Variable.{Variable}
use Rattle.c_check.specs.declared.test.TestOperation.{TestOperation}
use Rattle.c_check.specs.declared.test.TestOperation.TheVariants as test_operation
use Rattle.c_check.specs.declared.instruction.Instruction.{Instruction}
use Rattle.c_check.specs.declared.instruction.Instruction.TheVariants as instruction
use Rattle.c_check.specs.Plan.{Test, Condition, Stmt, Stmts, code, stmt_code, stored_condition_of, test_postfix}
use Rattle.c_check.specs.Items.{shared_in}
use Rattle.thread_cfg.specs.Source.{Frame}
use Rattle.thread_cfg.specs.Action.{Action, assign_accesses, assign_reads, compare_accesses, compare_reads, condition_size, entry, exit_of, read_actions, size, stmt_size, test_size}
use Rattle.thread_cfg.specs.Threads.{Running}
use Rattle.thread_cfg.specs.Places.{location_places}
use Rattle.thread_cfg.specs.inside.Parts.{Part, condition_parts, part_actions, part_size, parts, parts_actions, stmt_parts, test_parts}
use Rattle.thread_cfg.specs.inside.Sizes.{condition_places, places_from, places_of, test_places}
use Rattle.thread_cfg.proofs.PartLemmas.{thread_actions-parts}
use Rattle.thread_cfg.proofs.SizeLemmas.{assignment_size-postfix, comparison_size-postfix, locations-reads}

-- ---- of parts

-- the place of a part
abbrev part_place : Part → ℕ
part_place (Part.Assign from at v e next) = from
part_place (Part.AssignAny from v next) = from
part_place (Part.Choice from t f) = from
part_place (Part.Compare from m a b t f) = from
part_place (Part.Jump from to) = from
part_place (Part.Lock from lock next) = from
part_place (Part.Unlock from lock next) = from
part_place (Part.Block from inner next) = from

-- the place of a part for each of its locations
abbrev part_places : Part → List ℕ
part_places p = replicate (part_size p) (part_place p)

-- the places of parts for their locations
abbrev parts_places : List Part → List ℕ
parts_places ps = flat_map part_places ps

-- the place of an action
abbrev place : Action → ℕ
place a = a.from

-- joined parts have the places of both
parts_places-append : (ps qs : List Part) → parts_places (ps ++ qs) ≡ parts_places ps ++ parts_places qs
parts_places-append [] qs = refl
parts_places-append (p ∷ ps) qs = ap (λ l. part_places p ++ l) (parts_places-append ps qs) ∙ sym (append_assoc (part_places p) (parts_places ps) (parts_places qs))

-- reads, and an action at the same place
places-reads : (from at : ℕ) (rs : List (Variable × Variable)) → map place (read_actions from rs at) ≡ replicate (length rs) from
places-reads from at [] = refl
places-reads from at (r ∷ rs) = ap (λ l. from ∷ l) (places-reads from (at + 1) rs)

-- reads and the action behind them stand at one place
places-behind_reads : (from at n : ℕ) (rs : List (Variable × Variable)) (a : Action) → a.from ≡ from → length rs + 1 ≡ n
    → map place (read_actions from rs at ++ a ∷ []) ≡ replicate n from
places-behind_reads from at n rs a e h =
    map-append place (read_actions from rs at) (a ∷ [])
    ∙ ap₂ (λ l x. l ++ x ∷ []) (places-reads from at rs) e
    ∙ replicate_more (length rs) from
    ∙ ap (λ k. replicate k from) h

-- the actions of a part stand at its places
places-part : (frame : Frame) (t at : ℕ) (p : Part) → map place (part_actions frame t at p) ≡ part_places p
places-part frame t at (Part.Assign from spot v e next) =
    places-behind_reads from at _ (assign_reads t v e) _ refl
    (locations-reads t (assign_accesses v e) (shared_in e) ∙ sym (locations-reads 0 (assign_accesses v e) (shared_in e)))
places-part frame t at (Part.AssignAny from v next) = refl
places-part frame t at (Part.Choice from x y) = refl
places-part frame t at (Part.Compare from m a b x y) =
    let vs = shared_in a ++ shared_in b in
    places-behind_reads from at _ (compare_reads t a b) _ refl
    (locations-reads t (compare_accesses a b) vs ∙ sym (locations-reads 0 (compare_accesses a b) vs))
places-part frame t at (Part.Jump from to) = refl
places-part frame t at (Part.Lock from lock next) = refl
places-part frame t at (Part.Unlock from lock next) = refl
places-part frame t at (Part.Block from inner next) = refl

-- the actions of parts stand at their places
places-parts : (frame : Frame) (t at : ℕ) (ps : List Part) → map place (parts_actions frame t at ps) ≡ parts_places ps
places-parts frame t at [] = refl
places-parts frame t at (p ∷ ps) =
    map-append place (part_actions frame t at p) (parts_actions frame t (at + part_size p) ps)
    ∙ ap₂ (λ x y. x ++ y) (places-part frame t at p) (places-parts frame t (at + part_size p) ps)

-- ---- of tests

-- joined operations have the places of both
test_places-append : (xs ys : List TestOperation) → test_places (xs ++ ys) ≡ test_places xs ++ test_places ys
test_places-append [] ys = refl
test_places-append (x ∷ xs) ys = ap (λ l. places_of x ++ l) (test_places-append xs ys) ∙ sym (append_assoc (places_of x) (test_places xs) (test_places ys))

-- two tests, and what is made of them
places-two : (xs ys : List TestOperation) (o : TestOperation) (ps qs : List Part) → places_of o ≡ [] → test_places xs ≡ parts_places ps → test_places ys ≡ parts_places qs
    → test_places ((xs ++ ys) ++ o ∷ []) ≡ parts_places (ps ++ qs)
places-two xs ys o ps qs none e f =
    test_places-append (xs ++ ys) (o ∷ [])
    ∙ ap (λ l. test_places (xs ++ ys) ++ (l ++ [])) none
    ∙ append-nil (test_places (xs ++ ys))
    ∙ test_places-append xs ys
    ∙ ap₂ (λ x y. x ++ y) e f
    ∙ sym (parts_places-append ps qs)

-- the operations of a test have the places of its parts
places-test : (test : Test) (at : ℕ) (t f : Option ℕ) → test_places (test_postfix test) ≡ parts_places (test_parts at t f test)
places-test (Test.Compare from m a b) at t f = ap (λ n. replicate n from ++ []) (comparison_size-postfix from m a b)
places-test (Test.Not u) at t f =
    test_places-append (test_postfix u) (test_operation.Not ∷ []) ∙ append-nil (test_places (test_postfix u)) ∙ places-test u at f t
places-test (Test.And u v) at t f =
    let k = at + test_size u in
    places-two (test_postfix u) (test_postfix v) test_operation.And (test_parts at (Some k) f u) (test_parts k t f v) refl (places-test u at (Some k) f) (places-test v k t f)
places-test (Test.Or u v) at t f =
    let k = at + test_size u in
    places-two (test_postfix u) (test_postfix v) test_operation.Or (test_parts at t (Some k) u) (test_parts k t f v) refl (places-test u at t (Some k)) (places-test v k t f)

-- a condition of a plan has the places of its parts
places-condition : (c : Condition) (at t f : ℕ) → condition_places (stored_condition_of c) ≡ parts_places (condition_parts at t f c)
places-condition (Condition.Choice from) at t f = refl
places-condition (Condition.Tested from test) at t f = places-test test at (Some t) (Some f)

-- ---- of instructions

-- in an atomic block there are none
mutual
  -- a statement in an atomic block has no places of its own
  stmt-none : (s : Stmt) (more : ℕ) (rest : List Instruction) → places_from (suc more) (stmt_code s ++ rest) ≡ places_from (suc more) rest
  stmt-none (Stmt.Assign from at v e) more rest = refl
  stmt-none (Stmt.AssignAny from v) more rest = refl
  stmt-none (Stmt.If from c ts es) more rest =
      let back = instruction.Else ∷ (code es ++ instruction.EndIf ∷ []) in
      ap (places_from (suc more)) (append_assoc (code ts) back rest) ∙ stmts-none ts more (back ++ rest)
      ∙ ap (places_from (suc more)) (append_assoc (code es) (instruction.EndIf ∷ []) rest) ∙ stmts-none es more (instruction.EndIf ∷ rest)
  stmt-none (Stmt.Loop from c body last) more rest =
      let back = instruction.Last ∷ (code last ++ instruction.EndLoop ∷ []) in
      ap (places_from (suc more)) (append_assoc (code body) back rest) ∙ stmts-none body more (back ++ rest)
      ∙ ap (places_from (suc more)) (append_assoc (code last) (instruction.EndLoop ∷ []) rest) ∙ stmts-none last more (instruction.EndLoop ∷ rest)
  stmt-none (Stmt.Break from) more rest = refl
  stmt-none (Stmt.Exit from) more rest = refl
  stmt-none (Stmt.Lock from lock) more rest = refl
  stmt-none (Stmt.Unlock from lock) more rest = refl
  stmt-none (Stmt.Assert from t) more rest = refl
  stmt-none (Stmt.Assume from t) more rest = refl
  stmt-none (Stmt.Atomic from inner) more rest =
      ap (places_from (suc (suc more))) (append_assoc (code inner) (instruction.EndAtomic ∷ []) rest) ∙ stmts-none inner (suc more) (instruction.EndAtomic ∷ rest)

  -- statements in an atomic block have no places of their own
  stmts-none : (ss : Stmts) (more : ℕ) (rest : List Instruction) → places_from (suc more) (code ss ++ rest) ≡ places_from (suc more) rest
  stmts-none Stmts.End more rest = refl
  stmts-none (Stmts.Then s ss) more rest =
      ap (places_from (suc more)) (append_assoc (stmt_code s) (code ss) rest) ∙ stmt-none s more (code ss ++ rest) ∙ stmts-none ss more rest

-- what stands in front, and what is behind
in_front : (front : List ℕ) (ps qs : List Part) (rest : List Instruction) → front ≡ parts_places ps
    → front ++ (parts_places qs ++ places_from 0 rest) ≡ parts_places (ps ++ qs) ++ places_from 0 rest
in_front front ps qs rest e =
    ap (λ l. l ++ (parts_places qs ++ places_from 0 rest)) e
    ∙ sym (append_assoc (parts_places ps) (parts_places qs) (places_from 0 rest))
    ∙ ap (λ l. l ++ places_from 0 rest) (sym (parts_places-append ps qs))

mutual
  -- the code of a statement has the places of its parts
  stmt-places : (s : Stmt) (exit out at next : ℕ) (rest : List Instruction)
      → places_from 0 (stmt_code s ++ rest) ≡ parts_places (stmt_parts exit out at next s) ++ places_from 0 rest
  stmt-places (Stmt.Assign from spot v e) exit out at next rest =
      ap (λ n. replicate n from ++ places_from 0 rest) (assignment_size-postfix from spot v e)
      ∙ ap (λ l. l ++ places_from 0 rest) (sym (append-nil (part_places (Part.Assign from spot v e next))))
  stmt-places (Stmt.AssignAny from v) exit out at next rest = refl
  stmt-places (Stmt.If from c ts es) exit out at next rest =
      let k = at + condition_size c in
      let m = k + size ts in
      let back = instruction.Else ∷ (code es ++ instruction.EndIf ∷ []) in
      let c-parts = condition_parts at (entry ts k next) (entry es m next) c in
      let t-parts = parts exit out k next ts in
      let e-parts = parts exit out m next es in
      ap (λ l. condition_places (stored_condition_of c) ++ l) (
      ap (places_from 0) (append_assoc (code ts) back rest) ∙ stmts-places ts exit out k next (back ++ rest)
      ∙ ap (λ l. parts_places t-parts ++ l) (
      ap (places_from 0) (append_assoc (code es) (instruction.EndIf ∷ []) rest) ∙ stmts-places es exit out m next (instruction.EndIf ∷ rest))
      ∙ in_front (parts_places t-parts) t-parts e-parts rest refl)
      ∙ in_front (condition_places (stored_condition_of c)) c-parts (t-parts ++ e-parts) rest (places-condition c at (entry ts k next) (entry es m next))
  stmt-places (Stmt.Loop from c body last) exit out at next rest =
      let k = at + condition_size c in
      let m = k + size body in
      let begins = entry last m at in
      let back = instruction.Last ∷ (code last ++ instruction.EndLoop ∷ []) in
      let c-parts = condition_parts at (entry body k begins) next c in
      let b-parts = parts exit next k begins body in
      let l-parts = parts exit next m at last in
      ap (λ l. condition_places (stored_condition_of c) ++ l) (
      ap (places_from 0) (append_assoc (code body) back rest) ∙ stmts-places body exit next k begins (back ++ rest)
      ∙ ap (λ l. parts_places b-parts ++ l) (
      ap (places_from 0) (append_assoc (code last) (instruction.EndLoop ∷ []) rest) ∙ stmts-places last exit next m at (instruction.EndLoop ∷ rest))
      ∙ in_front (parts_places b-parts) b-parts l-parts rest refl)
      ∙ in_front (condition_places (stored_condition_of c)) c-parts (b-parts ++ l-parts) rest (places-condition c at (entry body k begins) next)
  stmt-places (Stmt.Break from) exit out at next rest = refl
  stmt-places (Stmt.Exit from) exit out at next rest = refl
  stmt-places (Stmt.Lock from lock) exit out at next rest = refl
  stmt-places (Stmt.Unlock from lock) exit out at next rest = refl
  stmt-places (Stmt.Assert from t) exit out at next rest = ap (λ l. l ++ places_from 0 rest) (places-test t at (Some next) (Some 0))
  stmt-places (Stmt.Assume from t) exit out at next rest = ap (λ l. l ++ places_from 0 rest) (places-test t at (Some next) None)
  stmt-places (Stmt.Atomic from inner) exit out at next rest =
      ap (λ l. from ∷ l) (ap (places_from 1) (append_assoc (code inner) (instruction.EndAtomic ∷ []) rest) ∙ stmts-none inner 0 (instruction.EndAtomic ∷ rest))

  -- the code of statements has the places of their parts
  stmts-places : (ss : Stmts) (exit out at next : ℕ) (rest : List Instruction)
      → places_from 0 (code ss ++ rest) ≡ parts_places (parts exit out at next ss) ++ places_from 0 rest
  stmts-places Stmts.End exit out at next rest = refl
  stmts-places (Stmts.Then s ss) exit out at next rest =
      let k = at + stmt_size s in
      let s-parts = stmt_parts exit out at (entry ss k next) s in
      let r-parts = parts exit out k next ss in
      ap (places_from 0) (append_assoc (stmt_code s) (code ss) rest)
      ∙ stmt-places s exit out at (entry ss k next) (code ss ++ rest)
      ∙ ap (λ l. parts_places s-parts ++ l) (stmts-places ss exit out k next rest)
      ∙ in_front (parts_places s-parts) s-parts r-parts rest refl

-- The places of a thread's locations are those of its code.
pub places-code : (t : Running) → places_from 0 (code t.function.body) ≡ location_places t
places-code t =
    let body = t.function.body in
    let exit = exit_of body in
    let all = parts exit exit 1 exit body in
    ap (places_from 0) (sym (append-nil (code body)))
    ∙ stmts-places body exit exit 1 exit []
    ∙ append-nil (parts_places all)
    ∙ sym (places-parts t.frame (length t.function.locals) 1 all)
    ∙ ap (map place) (sym (thread_actions-parts t.frame (length t.function.locals) body))
