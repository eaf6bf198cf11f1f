-- What is found of each compound statement, from the steps of the walk over it.
use Rattle.std.proofs.Common.{◌≡◌, ℕ, ◌+◌, List, [], ◌∷◌, ◌++◌, length, Option, Some, None, refl, ap, ◌∙◌, append-nil}
use Rattle.thr_base.specs.declared.stops.Refusal.{Refusal}
use Rattle.c_tree.specs.Plain as plain
use Rattle.c_tree.specs.Seen.{if_layer}
use Rattle.c_check.specs.declared.body.Body.{Body}
use Rattle.c_check.specs.declared.place.Place.{Place}
use Rattle.c_check.specs.declared.uses.Use.TheVariants as use_as
use Rattle.c_check.specs.declared.test.Condition as stored_condition
use Rattle.c_check.specs.declared.instruction.Instruction.{Instruction}
use Rattle.c_check.specs.declared.instruction.Instruction.TheVariants as instruction
use Rattle.c_check.specs.Scope.{Scopes, open_scope}
use Rattle.c_check.specs.Broken.{assign_if_broken, first_broken, in_atomic, not_in_atomic, stmt_broken, stmts_broken, value_broken, value_if_broken}
use Rattle.c_check.specs.Plan.{Condition}
use Rattle.c_check.specs.Resolve.{behind, behind_all, condition, condition_if, first, first_locals, past, past_first, stmt, stmt_locals, stmts, stmts_locals, with_first}
use Rattle.c_check.specs.First.{first_of}
use Rattle.c_check.specs.inside.Found.{atomic_end, first_found, found, locals_found, loop_end, nothing, other_found, outside_atomic, refused, stmt_found, stmts_found, tested, together, written}
use Rattle.c_check.proofs.Found.{after_two, after_three, after_four, length-found, length-refused, length-written, nothing-together, together_assoc, together-found, together-none}
use Rattle.c_check.proofs.Compound.{atomic_found, for_found, if_alone_found, if_found, loop_found}

length-tested : (b : Body) (d : Option Refusal) (i : stored_condition.Condition → Instruction) (k : Condition) → length (together (together b (refused d)) (tested i k)).locals ≡ length b.locals
unfolding tested
length-tested b d i k = length-written _ _ _ ∙ length-refused b d

pub length-outside : (b : Body) (p : Place) (from : ℕ) (i : Instruction) → length (together b (outside_atomic p from i)).locals ≡ length b.locals
unfolding together outside_atomic
length-outside b p from i = simp append-nil

pub block_found : (p : Place) (ss : Scopes) (next : ℕ) (from : ℕ) (inner : plain.Stmts) → stmts_found p (open_scope ss) next inner ≡ stmt_found p ss next (plain.Stmt.Block from inner)
unfolding stmts_found stmt_found
block_found p ss next from inner = refl

pub declares_found : (p : Place) (ss : Scopes) (next : ℕ) (from : ℕ) (ls : List plain.Local) → locals_found ss next ls ≡ stmt_found p ss next (plain.Stmt.Locals from ls)
unfolding locals_found stmt_found
declares_found p ss next from ls = refl

pub if_done : (p : Place) (ss : Scopes) (b0 : Body) (from : ℕ) (v : plain.Value) (s : plain.Stmt) {b1 b2 b3 b4 : Body}
    → b1 ≡ together (together b0 (refused (first_of (value_broken ss use_as.Condition v)))) (tested (instruction.If from) (condition ss v))
    → b2 ≡ together b1 (stmt_found p (open_scope ss) (length b1.locals) s)
    → b3 ≡ together b2 (written 0 (instruction.Else ∷ []))
    → b4 ≡ together b3 (written 0 (instruction.EndIf ∷ []))
    → b4 ≡ together b0 (stmt_found p ss (length b0.locals) (plain.Stmt.If from v s))
unfolding stmt_found
if_done p ss b0 from v s {b1 = b1} e1 e2 e3 e4 =
    let n = length b0.locals in
    let n_is : length b1.locals ≡ n = ap (λ b. length b.locals) e1 ∙ length-tested b0 _ _ _ in
    let inner = stmt_found p (open_scope ss) n s in
    let e2' = e2 ∙ ap (λ m. together b1 (stmt_found p (open_scope ss) m s)) n_is in
    let e1' = after_two b0 _ _ refl e1 in
    after_four b0 _ inner _ _ e1' e2' e3 e4
    ∙ ap (together b0) (if_alone_found from (condition ss v) (stmt_locals s) (stmt (open_scope ss) n s) (value_broken ss use_as.Condition v) (stmt_broken p (open_scope ss) n s))

pub if_else_done : (p : Place) (ss : Scopes) (b0 : Body) (from : ℕ) (v : plain.Value) (s t : plain.Stmt) {b1 b2 b3 b4 b5 : Body}
    → b1 ≡ together (together b0 (refused (first_of (value_broken ss use_as.Condition v)))) (tested (instruction.If from) (condition ss v))
    → b2 ≡ together b1 (stmt_found p (open_scope ss) (length b1.locals) s)
    → b3 ≡ together b2 (written 0 (instruction.Else ∷ []))
    → b4 ≡ together b3 (stmt_found p (open_scope ss) (length b3.locals) t)
    → b5 ≡ together b4 (written 0 (instruction.EndIf ∷ []))
    → b5 ≡ together b0 (stmt_found p ss (length b0.locals) (plain.Stmt.IfElse from v s t))
unfolding stmt_found
if_else_done p ss b0 from v s t {b1 = b1} {b2 = b2} {b3 = b3} e1 e2 e3 e4 e5 =
    let n = length b0.locals in
    let n_is : length b1.locals ≡ n = ap (λ b. length b.locals) e1 ∙ length-tested b0 _ _ _ in
    let inner = stmt_found p (open_scope ss) n s in
    let e2' : b2 ≡ together b1 inner = e2 ∙ ap (λ m. together b1 (stmt_found p (open_scope ss) m s)) n_is in
    let m_is : length b3.locals ≡ past n s =
    ap (λ b. length b.locals) e3 ∙ length-written b2 _ _ ∙ ap (λ b. length b.locals) e2' ∙ length-found b1 _ _ _ ∙ ap (λ m. m + length (stmt_locals s)) n_is in
    let other = stmt_found p (open_scope ss) (past n s) t in
    let e4' = e4 ∙ ap (λ m. together b3 (stmt_found p (open_scope ss) m t)) m_is in
    let e1' = after_two b0 _ _ refl e1 in
    after_two b0 _ _ (after_four b0 _ inner _ other e1' e2' e3 e4') e5
    ∙ ap (together b0) (if_found from (condition ss v) (stmt_locals s) (stmt_locals t) (stmt (open_scope ss) n s) (stmt (open_scope ss) (past n s) t)
    (value_broken ss use_as.Condition v) (stmt_broken p (open_scope ss) n s) (stmt_broken p (open_scope ss) (past n s) t))

-- an `if`, perhaps with an `else`
pub if_layer_done : (p : Place) (ss : Scopes) (b0 : Body) (from : ℕ) (v : plain.Value) (s : plain.Stmt) (other : Option plain.Stmt) {b1 b2 b3 b4 b5 : Body}
    → b1 ≡ together (together b0 (refused (first_of (value_broken ss use_as.Condition v)))) (tested (instruction.If from) (condition ss v))
    → b2 ≡ together b1 (stmt_found p (open_scope ss) (length b1.locals) s)
    → b3 ≡ together b2 (written 0 (instruction.Else ∷ []))
    → b4 ≡ together b3 (other_found p (open_scope ss) (length b3.locals) other)
    → b5 ≡ together b4 (written 0 (instruction.EndIf ∷ []))
    → b5 ≡ together b0 (stmt_found p ss (length b0.locals) (if_layer from v s other))
unfolding found
if_layer_done p ss b0 from v s None {b3 = b3} e1 e2 e3 e4 e5 =
    if_done p ss b0 from v s e1 e2 e3 (e5 ∙ ap (λ b. together b (written 0 (instruction.EndIf ∷ []))) (e4 ∙ together-none b3))
if_layer_done p ss b0 from v s (Some t) e1 e2 e3 e4 e5 = if_else_done p ss b0 from v s t e1 e2 e3 e4 e5

pub behind-if_layer : (ss : Scopes) (next from : ℕ) (v : plain.Value) (s : plain.Stmt) (other : Option plain.Stmt) → behind ss next (if_layer from v s other) ≡ ss
behind-if_layer ss next from v s None = refl
behind-if_layer ss next from v s (Some t) = refl

pub while_done : (p : Place) (ss : Scopes) (b0 : Body) (from : ℕ) (v : plain.Value) (s : plain.Stmt) {b1 b2 b3 : Body}
    → b1 ≡ together (together b0 (refused (first_of (not_in_atomic p from ++ value_broken ss use_as.Condition v)))) (tested (instruction.Loop from) (condition ss v))
    → b2 ≡ together b1 (stmt_found p (open_scope ss) (length b1.locals) s)
    → b3 ≡ together b2 (loop_end ss None)
    → b3 ≡ together b0 (stmt_found p ss (length b0.locals) (plain.Stmt.While from v s))
unfolding stmt_found
while_done p ss b0 from v s {b1 = b1} e1 e2 e3 =
    let n = length b0.locals in
    let n_is : length b1.locals ≡ n = ap (λ b. length b.locals) e1 ∙ length-tested b0 _ _ _ in
    let inner = stmt_found p (open_scope ss) n s in
    let e2' = e2 ∙ ap (λ m. together b1 (stmt_found p (open_scope ss) m s)) n_is in
    let e1' = after_two b0 _ _ refl e1 in
    after_three b0 _ inner _ e1' e2' e3
    ∙ ap (together b0) (loop_found ss None from (condition ss v) (stmt_locals s) (stmt (open_scope ss) n s) (not_in_atomic p from ++ value_broken ss use_as.Condition v) (stmt_broken p (open_scope ss) n s))

pub for_done : (p : Place) (ss : Scopes) (b0 : Body) (from : ℕ) (f : plain.First) (v : Option plain.Value) (last : Option plain.Assign) (s : plain.Stmt) {inside : Scopes} {b1 b2 b3 b4 : Body}
    → inside ≡ with_first (open_scope ss) (length b0.locals) f
    → b1 ≡ together (together b0 (refused (first_of (not_in_atomic p from)))) (first_found (open_scope ss) (length b0.locals) f)
    → b2 ≡ together (together b1 (refused (first_of (value_if_broken inside use_as.Condition v ++ assign_if_broken inside last)))) (tested (instruction.Loop from) (condition_if inside from v))
    → b3 ≡ together b2 (stmt_found p (open_scope inside) (length b2.locals) s)
    → b4 ≡ together b3 (loop_end inside last)
    → b4 ≡ together b0 (stmt_found p ss (length b0.locals) (plain.Stmt.For from f v last s))
unfolding stmt_found first_found
for_done p ss b0 from f v last s {b1 = b1} {b2 = b2} i_is e1 e2 e3 e4 =
    let n = length b0.locals in
    let visible : Scopes = with_first (open_scope ss) n f in
    let m_is : length b2.locals ≡ past_first n f =
    ap (λ b. length b.locals) e2 ∙ length-tested b1 _ _ _ ∙ ap (λ b. length b.locals) e1 ∙ length-found (together b0 (refused (first_of (not_in_atomic p from)))) _ _ _ ∙ ap (λ m. m + length (first_locals f)) (length-refused b0 _) in
    let inner = stmt_found p (open_scope visible) (past_first n f) s in
    let e1' = after_two b0 _ _ refl e1 in
    let e2' = rw i_is at e2 in
    let e3' = rw (i_is, m_is) at e3 in
    let e4' = rw i_is at e4 in
    after_two b0 _ _ (after_two b0 _ inner (after_two b0 _ _ (after_two b0 _ _ e1' refl) e2') e3') e4'
    ∙ ap (together b0) (for_found visible last from (condition_if visible from v) (first_locals f) (stmt_locals s) (first (open_scope ss) n f) (stmt (open_scope visible) (past_first n f) s)
    (not_in_atomic p from) (first_broken (open_scope ss) n f) (value_if_broken visible use_as.Condition v) (assign_if_broken visible last) (stmt_broken p (open_scope visible) (past_first n f) s))

pub atomic_done : (p : Place) (ss : Scopes) (b0 : Body) (from : ℕ) (inner : plain.Stmts) {b1 b2 b3 : Body}
    → b1 ≡ together b0 (outside_atomic p from (instruction.Atomic from))
    → b2 ≡ together b1 (stmts_found (in_atomic p) ss (length b1.locals) inner)
    → b3 ≡ atomic_end b0.temporaries b2
    → b3 ≡ together b0 (stmt_found p ss (length b0.locals) (plain.Stmt.Atomic from inner))
unfolding stmt_found stmts_found
atomic_done p ss b0 from inner {b1 = b1} e1 e2 e3 =
    let n = length b0.locals in
    let n_is : length b1.locals ≡ n = ap (λ b. length b.locals) e1 ∙ length-outside b0 p from _ in
    let e2' = rw n_is at e2 in
    e3 ∙ ap (atomic_end b0.temporaries) (e2' ∙ ap (λ b. together b (stmts_found (in_atomic p) ss n inner)) e1)
    ∙ atomic_found b0 p from (stmts_locals inner) (stmts ss n inner) (stmts_broken (in_atomic p) ss n inner)

-- ---- one statement after another

pub stmts_scopes : (p : Place) (b : Body) (ss : Scopes) (s : plain.Stmt) (rest : plain.Stmts) {b' : Body} {ss' : Scopes}
    → ss' ≡ behind ss (length b.locals) s → b' ≡ together b (stmt_found p ss (length b.locals) s)
    → behind_all ss' (length b'.locals) rest ≡ behind_all ss (length b.locals) (plain.Stmts.Then s rest)
unfolding stmt_found
stmts_scopes p b ss s rest s_is b_is = rw (b_is, s_is, length-found b)

pub stmts_body : (p : Place) (b : Body) (ss : Scopes) (s : plain.Stmt) (rest : plain.Stmts) {b' : Body} {ss' : Scopes}
    → ss' ≡ behind ss (length b.locals) s → b' ≡ together b (stmt_found p ss (length b.locals) s)
    → together b' (stmts_found p ss' (length b'.locals) rest) ≡ together b (stmts_found p ss (length b.locals) (plain.Stmts.Then s rest))
unfolding stmt_found stmts_found
stmts_body p b ss s rest s_is b_is = rw (b_is, s_is, length-found b) (together_assoc b _ _ ∙ ap (together b) (together-found _ _ _ _ _ _))

pub together-no_stmts : (p : Place) (b : Body) (ss : Scopes) → together b (stmts_found p ss (length b.locals) plain.Stmts.End) ≡ b
unfolding stmts_found
together-no_stmts p b ss = together-none b

-- what is found of all statements of a function
pub whole_found : (p : Place) (ss : Scopes) (body : plain.Stmts) {b0 b : Body} {visible : Scopes} {of_text : plain.Stmts}
    → b0 ≡ nothing → visible ≡ ss → of_text ≡ body → b ≡ together b0 (stmts_found p visible (length b0.locals) of_text) → b ≡ stmts_found p ss 0 body
whole_found p ss body b0_is visible_is text_is b_is = rw (b0_is, visible_is, text_is) at b_is ∙ nothing-together _
