-- What is found of statements, from what is found of their parts.
use Rattle.std.proofs.Common.{◌≡◌, ℕ, List, [], ◌∷◌, ◌++◌, Option, refl, ap, ◌∙◌, append_assoc, append-nil}
use Rattle.std.proofs.Math.Nat.{max-zero, zero-max}
use Rattle.std.proofs.lemmas.List.{map-append}
use Rattle.thr_base.specs.declared.stops.Refusal.{Refusal}
use Rattle.c_tree.specs.Plain as plain
use Rattle.c_check.specs.declared.body.Body.{Body}
use Rattle.c_check.specs.declared.place.Place.{Place}
use Rattle.c_check.specs.declared.instruction.Instruction.{Instruction}
use Rattle.c_check.specs.declared.instruction.Instruction.TheVariants as instruction
use Rattle.c_check.specs.Scope.{Scopes}
use Rattle.c_check.specs.Broken.{not_in_atomic}
use Rattle.c_check.specs.Plan.{Condition, Stmt, Stmts, joined, one}
use Rattle.c_check.specs.Resolve.{assign_if}
use Rattle.c_check.specs.First.{first_of}
use Rattle.c_check.specs.inside.Found.{atomic_end, found, loop_end, outside_atomic, refused, tested, together, written}
use Rattle.c_check.proofs.FirstOf.{earlier-earlier, earlier-none, first_of-append}
use Rattle.c_check.proofs.Found.{after_two, code-joined, max_assoc, need-joined}

-- a rule that is broken, and what is done
pub refused_found : (body : Stmts) (ds : List Refusal) → together (refused (first_of ds)) (found [] body []) ≡ found [] body ds
unfolding together refused found
refused_found body ds = simp (zero-max, earlier-none)

pub simple_done : (b0 : Body) (body : Stmts) (ds : List Refusal) {b1 b2 : Body} {d : Option Refusal}
    → b1 ≡ together b0 (refused d) → d ≡ first_of ds → b2 ≡ together b1 (found [] body []) → b2 ≡ together b0 (found [] body ds)
simple_done b0 body ds e1 d_is e2 =
    after_two b0 (refused (first_of ds)) (found [] body []) (e1 ∙ ap (λ d. together b0 (refused d)) d_is) e2 ∙ ap (together b0) (refused_found body ds)

pub jump_found : (p : Place) (from : ℕ) → outside_atomic p from (instruction.Break from) ≡ found [] (one (Stmt.Break from)) (not_in_atomic p from)
unfolding outside_atomic found
jump_found p from = refl

pub exit_found : (p : Place) (from : ℕ) → outside_atomic p from (instruction.Exit from) ≡ found [] (one (Stmt.Exit from)) (not_in_atomic p from)
unfolding outside_atomic found
exit_found p from = refl

pub if_found : (from : ℕ) (k : Condition) (ls ms : List plain.Local) (ts es : Stmts) (ds fs gs : List Refusal)
    → together (together (together (together (together (refused (first_of ds)) (tested (instruction.If from) k)) (found ls ts fs)) (written 0 (instruction.Else ∷ []))) (found ms es gs)) (written 0 (instruction.EndIf ∷ []))
    ≡ found (ls ++ ms) (one (Stmt.If from k ts es)) (ds ++ fs ++ gs)
unfolding together refused tested written found
if_found from k ls ms ts es ds fs gs = simp (append_assoc, append-nil, map-append, max_assoc, max-zero, zero-max, earlier-earlier, earlier-none, first_of-append)

pub loop_found : (ss : Scopes) (last : Option plain.Assign) (from : ℕ) (k : Condition) (ls : List plain.Local) (body : Stmts) (ds es : List Refusal)
    → together (together (together (refused (first_of ds)) (tested (instruction.Loop from) k)) (found ls body es)) (loop_end ss last) ≡ found ls (one (Stmt.Loop from k body (assign_if ss last))) (ds ++ es)
unfolding together refused tested loop_end written found
loop_found ss last from k ls body ds es = simp (append_assoc, append-nil, max_assoc, max-zero, zero-max, earlier-none, first_of-append)

pub atomic_found : (b : Body) (p : Place) (from : ℕ) (ls : List plain.Local) (inner : Stmts) (es : List Refusal)
    → atomic_end b.temporaries (together (together b (outside_atomic p from (instruction.Atomic from))) (found ls inner es)) ≡ together b (found ls (one (Stmt.Atomic from inner)) (not_in_atomic p from ++ es))
unfolding together outside_atomic found
atomic_found b p from ls inner es = simp (append_assoc, append-nil, max-zero, zero-max, earlier-earlier, first_of-append)

pub if_alone_found : (from : ℕ) (k : Condition) (ls : List plain.Local) (ts : Stmts) (ds fs : List Refusal)
    → together (together (together (together (refused (first_of ds)) (tested (instruction.If from) k)) (found ls ts fs)) (written 0 (instruction.Else ∷ []))) (written 0 (instruction.EndIf ∷ []))
    ≡ found ls (one (Stmt.If from k ts Stmts.End)) (ds ++ fs)
unfolding together refused tested written found
if_alone_found from k ls ts ds fs = simp (append_assoc, append-nil, max_assoc, max-zero, zero-max, earlier-earlier, earlier-none, first_of-append)

pub for_found : (ss : Scopes) (last : Option plain.Assign) (from : ℕ) (k : Condition) (ms ls : List plain.Local) (fs body : Stmts) (ns gs hs is es : List Refusal)
    → together (together (together (together (together (refused (first_of ns)) (found ms fs gs)) (refused (first_of (hs ++ is)))) (tested (instruction.Loop from) k)) (found ls body es)) (loop_end ss last)
    ≡ found (ms ++ ls) (joined fs (one (Stmt.Loop from k body (assign_if ss last)))) (ns ++ gs ++ hs ++ is ++ es)
unfolding together refused tested loop_end written found
for_found ss last from k ms ls fs body ns gs hs is es =
    simp (append_assoc, append-nil, map-append, need-joined, code-joined, max_assoc, max-zero, zero-max, earlier-earlier, earlier-none, first_of-append)

-- the parts of the end of a loop
pub loop_end_found : (ss : Scopes) (last : Option plain.Assign)
    → together (together (written 0 (instruction.Last ∷ [])) (found [] (assign_if ss last) [])) (written 0 (instruction.EndLoop ∷ [])) ≡ loop_end ss last
unfolding together written found loop_end
loop_end_found ss last = simp (append_assoc, max-zero, zero-max)

-- a rule that may be broken, and an instruction
pub outside_atomic_found : (p : Place) (from : ℕ) (i : Instruction) → together (refused (first_of (not_in_atomic p from))) (written 0 (i ∷ [])) ≡ outside_atomic p from i
unfolding together refused written outside_atomic
outside_atomic_found p from i = simp earlier-none
