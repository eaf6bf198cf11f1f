-- The actions of statements are those of their parts.
use Rattle.std.proofs.Common.{◌≡◌, ℕ, ◌+◌, List, [], ◌∷◌, ◌++◌, Option, Some, None, refl, sym, ap, ap₂, ◌∙◌, arith}
use Rattle.std.proofs.lemmas.List.{append-nil, append_assoc}
use Rattle.c_check.specs.Plan.{Test, Condition, Stmt, Stmts}
use Rattle.thread_cfg.specs.Source.{Frame}
use Rattle.thread_cfg.specs.Action.{Action, Around, actions, condition_actions, condition_size, entry, exit_of, size, stmt_actions, stmt_size, test_actions, test_size, thread_actions}
use Rattle.thread_cfg.specs.inside.Parts.{Part, condition_parts, part_actions, part_size, parts, parts_actions, parts_size, stmt_parts, test_parts}

-- joined parts have the sizes of both
parts_size-append : (ps qs : List Part) → parts_size (ps ++ qs) ≡ parts_size ps + parts_size qs
parts_size-append [] qs = omega arith
parts_size-append (p ∷ ps) qs = omega (arith, parts_size-append ps qs)

-- the actions of parts behind others
parts_actions-append : (frame : Frame) (temporary at : ℕ) (ps qs : List Part)
    → parts_actions frame temporary at (ps ++ qs) ≡ parts_actions frame temporary at ps ++ parts_actions frame temporary (at + parts_size ps) qs
parts_actions-append frame temporary at [] qs = ap (λ x. parts_actions frame temporary x qs) (omega arith)
parts_actions-append frame temporary at (p ∷ ps) qs =
    ap (λ l. part_actions frame temporary at p ++ l) (
    parts_actions-append frame temporary (at + part_size p) ps qs
    ∙ ap (λ x. parts_actions frame temporary (at + part_size p) ps ++ parts_actions frame temporary x qs) (omega arith))
    ∙ sym (append_assoc (part_actions frame temporary at p) (parts_actions frame temporary (at + part_size p) ps) (parts_actions frame temporary (at + (part_size p + parts_size ps)) qs))

-- where the size is another number that is equal
parts_actions-behind : (frame : Frame) (temporary at n : ℕ) (ps qs : List Part) (first then : List Action) → parts_size ps ≡ n
    → first ≡ parts_actions frame temporary at ps → then ≡ parts_actions frame temporary (at + n) qs
    → first ++ then ≡ parts_actions frame temporary at (ps ++ qs)
parts_actions-behind frame temporary at n ps qs first then e f t =
    ap₂ (λ x y. x ++ y) f (t ∙ ap (λ k. parts_actions frame temporary (at + k) qs) (sym e)) ∙ sym (parts_actions-append frame temporary at ps qs)

-- ---- sizes

-- the parts of a test have its size
test_parts-size : (t : Test) (at : ℕ) (on_true on_false : Option ℕ) → parts_size (test_parts at on_true on_false t) ≡ test_size t
test_parts-size (Test.Compare from m a b) at x y = omega arith
test_parts-size (Test.Not u) at x y = test_parts-size u at y x
test_parts-size (Test.And u v) at x y =
    parts_size-append (test_parts at (Some (at + test_size u)) y u) (test_parts (at + test_size u) x y v)
    ∙ omega (arith, test_parts-size u at (Some (at + test_size u)) y, test_parts-size v (at + test_size u) x y)
test_parts-size (Test.Or u v) at x y =
    parts_size-append (test_parts at x (Some (at + test_size u)) u) (test_parts (at + test_size u) x y v)
    ∙ omega (arith, test_parts-size u at x (Some (at + test_size u)), test_parts-size v (at + test_size u) x y)

-- the parts of a condition have its size
condition_parts-size : (c : Condition) (at t f : ℕ) → parts_size (condition_parts at t f c) ≡ condition_size c
condition_parts-size (Condition.Choice from) at t f = omega arith
condition_parts-size (Condition.Tested from test) at t f = test_parts-size test at (Some t) (Some f)

mutual
  -- the parts of a statement have its size
  stmt_parts-size : (s : Stmt) (exit out at next : ℕ) → parts_size (stmt_parts exit out at next s) ≡ stmt_size s
  stmt_parts-size (Stmt.Assign from place v e) exit out at next = omega arith
  stmt_parts-size (Stmt.AssignAny from v) exit out at next = omega arith
  stmt_parts-size (Stmt.If from c ts es) exit out at next =
      let k = at + condition_size c in
      let m = k + size ts in
      parts_size-append (condition_parts at (entry ts k next) (entry es m next) c) (parts exit out k next ts ++ parts exit out m next es)
      ∙ omega (
        arith,
        condition_parts-size c at (entry ts k next) (entry es m next),
        parts_size-append (parts exit out k next ts) (parts exit out m next es),
        parts-size ts exit out k next,
        parts-size es exit out m next,
      )
  stmt_parts-size (Stmt.Loop from c body last) exit out at next =
      let k = at + condition_size c in
      let m = k + size body in
      let begins = entry last m at in
      parts_size-append (condition_parts at (entry body k begins) next c) (parts exit next k begins body ++ parts exit next m at last)
      ∙ omega (
        arith,
        condition_parts-size c at (entry body k begins) next,
        parts_size-append (parts exit next k begins body) (parts exit next m at last),
        parts-size body exit next k begins,
        parts-size last exit next m at,
      )
  stmt_parts-size (Stmt.Break from) exit out at next = omega arith
  stmt_parts-size (Stmt.Exit from) exit out at next = omega arith
  stmt_parts-size (Stmt.Lock from lock) exit out at next = omega arith
  stmt_parts-size (Stmt.Unlock from lock) exit out at next = omega arith
  stmt_parts-size (Stmt.Assert from t) exit out at next = test_parts-size t at (Some next) (Some 0)
  stmt_parts-size (Stmt.Assume from t) exit out at next = test_parts-size t at (Some next) None
  stmt_parts-size (Stmt.Atomic from inner) exit out at next = omega arith

  -- the parts of statements have their size
  pub parts-size : (ss : Stmts) (exit out at next : ℕ) → parts_size (parts exit out at next ss) ≡ size ss
  parts-size Stmts.End exit out at next = refl
  parts-size (Stmts.Then s rest) exit out at next =
      let k = at + stmt_size s in
      parts_size-append (stmt_parts exit out at (entry rest k next) s) (parts exit out k next rest)
      ∙ omega (arith, stmt_parts-size s exit out at (entry rest k next), parts-size rest exit out k next)

-- ---- actions

-- one part
parts_actions-one : (frame : Frame) (temporary at : ℕ) (p : Part) → part_actions frame temporary at p ≡ parts_actions frame temporary at (p ∷ [])
parts_actions-one frame temporary at p = sym (append-nil (part_actions frame temporary at p))

-- the actions of a test are those of its parts
test_actions-parts : (t : Test) (frame : Frame) (temporary at : ℕ) (on_true on_false : Option ℕ)
    → test_actions temporary at on_true on_false t ≡ parts_actions frame temporary at (test_parts at on_true on_false t)
test_actions-parts (Test.Compare from m a b) frame temporary at x y = parts_actions-one frame temporary at (Part.Compare from m a b x y)
test_actions-parts (Test.Not u) frame temporary at x y = test_actions-parts u frame temporary at y x
test_actions-parts (Test.And u v) frame temporary at x y =
    let k = at + test_size u in
    parts_actions-behind frame temporary at (test_size u) (test_parts at (Some k) y u) (test_parts k x y v) _ _ (test_parts-size u at (Some k) y)
    (test_actions-parts u frame temporary at (Some k) y) (test_actions-parts v frame temporary k x y)
test_actions-parts (Test.Or u v) frame temporary at x y =
    let k = at + test_size u in
    parts_actions-behind frame temporary at (test_size u) (test_parts at x (Some k) u) (test_parts k x y v) _ _ (test_parts-size u at x (Some k))
    (test_actions-parts u frame temporary at x (Some k)) (test_actions-parts v frame temporary k x y)

-- the actions of a condition are those of its parts
condition_actions-parts : (c : Condition) (frame : Frame) (temporary at t f : ℕ)
    → condition_actions temporary at t f c ≡ parts_actions frame temporary at (condition_parts at t f c)
condition_actions-parts (Condition.Choice from) frame temporary at t f = parts_actions-one frame temporary at (Part.Choice from t f)
condition_actions-parts (Condition.Tested from test) frame temporary at t f = test_actions-parts test frame temporary at (Some t) (Some f)

mutual
  -- the actions of a statement are those of its parts
  stmt_actions-parts : (s : Stmt) (around : Around) (at next : ℕ)
      → stmt_actions around at next s ≡ parts_actions around.frame around.temporary at (stmt_parts around.exit around.out at next s)
  stmt_actions-parts (Stmt.Assign from place v e) around at next = parts_actions-one around.frame around.temporary at (Part.Assign from place v e next)
  stmt_actions-parts (Stmt.AssignAny from v) around at next = refl
  stmt_actions-parts (Stmt.If from c ts es) around at next =
      let k = at + condition_size c in
      let m = k + size ts in
      let t-parts = parts around.exit around.out k next ts in
      parts_actions-behind around.frame around.temporary at (condition_size c) (condition_parts at (entry ts k next) (entry es m next) c) (t-parts ++ parts around.exit around.out m next es) _ _
      (condition_parts-size c at (entry ts k next) (entry es m next))
      (condition_actions-parts c around.frame around.temporary at (entry ts k next) (entry es m next))
      (parts_actions-behind around.frame around.temporary k (size ts) t-parts (parts around.exit around.out m next es) _ _ (parts-size ts around.exit around.out k next)
      (actions-parts ts around k next) (actions-parts es around m next))
  stmt_actions-parts (Stmt.Loop from c body last) around at next =
      let k = at + condition_size c in
      let m = k + size body in
      let begins = entry last m at in
      let inner : Around = record around { out = next } in
      let b-parts = parts around.exit next k begins body in
      parts_actions-behind around.frame around.temporary at (condition_size c) (condition_parts at (entry body k begins) next c) (b-parts ++ parts around.exit next m at last) _ _
      (condition_parts-size c at (entry body k begins) next)
      (condition_actions-parts c around.frame around.temporary at (entry body k begins) next)
      (parts_actions-behind around.frame around.temporary k (size body) b-parts (parts around.exit next m at last) _ _ (parts-size body around.exit next k begins)
      (actions-parts body inner k begins) (actions-parts last inner m at))
  stmt_actions-parts (Stmt.Break from) around at next = refl
  stmt_actions-parts (Stmt.Exit from) around at next = refl
  stmt_actions-parts (Stmt.Lock from lock) around at next = refl
  stmt_actions-parts (Stmt.Unlock from lock) around at next = refl
  stmt_actions-parts (Stmt.Assert from t) around at next = test_actions-parts t around.frame around.temporary at (Some next) (Some 0)
  stmt_actions-parts (Stmt.Assume from t) around at next = test_actions-parts t around.frame around.temporary at (Some next) None
  stmt_actions-parts (Stmt.Atomic from inner) around at next = refl

  -- the actions of statements are those of their parts
  actions-parts : (ss : Stmts) (around : Around) (at next : ℕ)
      → actions around at next ss ≡ parts_actions around.frame around.temporary at (parts around.exit around.out at next ss)
  actions-parts Stmts.End around at next = refl
  actions-parts (Stmts.Then s rest) around at next =
      let k = at + stmt_size s in
      parts_actions-behind around.frame around.temporary at (stmt_size s) (stmt_parts around.exit around.out at (entry rest k next) s) (parts around.exit around.out k next rest) _ _
      (stmt_parts-size s around.exit around.out at (entry rest k next)) (stmt_actions-parts s around at (entry rest k next)) (actions-parts rest around k next)

-- The actions of a thread are those of its parts.
pub thread_actions-parts : (frame : Frame) (temporary : ℕ) (body : Stmts)
    → thread_actions frame temporary body ≡ parts_actions frame temporary 1 (parts (exit_of body) (exit_of body) 1 (exit_of body) body)
thread_actions-parts frame temporary body =
    actions-parts body (record { frame = frame; temporary = temporary; exit = exit_of body; out = exit_of body }) 1 (exit_of body)
