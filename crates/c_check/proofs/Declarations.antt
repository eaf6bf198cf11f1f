-- Locals, one after another.
use Rattle.std.proofs.Common.{◌≡◌, ◌+◌, List, [], ◌∷◌, ◌++◌, length, Option, ap, ◌∙◌, append-nil}
use Rattle.thr_base.specs.declared.stops.Refusal.{Refusal}
use Rattle.c_tree.specs.Plain as plain
use Rattle.c_check.specs.declared.body.Body.{Body}
use Rattle.c_check.specs.declared.meaning.Variable.TheVariants as variable
use Rattle.c_check.specs.declared.meaning.Meaning.TheVariants as meaning
use Rattle.c_check.specs.Scope.{Scopes, declare}
use Rattle.c_check.specs.Plan.{Stmts}
use Rattle.c_check.specs.Resolve.{with_locals}
use Rattle.c_check.specs.First.{first_of}
use Rattle.c_check.specs.inside.Found.{found, local_found, locals_found, named, refused, together}
use Rattle.std.proofs.Math.Nat.{max-zero, zero-max}
use Rattle.c_check.proofs.FirstOf.{earlier-none, first_of-append}
use Rattle.c_check.proofs.Found.{together_assoc, together-found, together-none, length-together}

-- The steps of a declaration.
named_found : (l : plain.Local) (body : Stmts) (ds es : List Refusal)
    → together (together (together (refused (first_of ds)) (named l.name)) (refused (first_of es))) (found [] body []) ≡ found (l ∷ []) body (ds ++ es)
unfolding together refused named found
named_found l body ds es = rw first_of-append (simp (max-zero, zero-max, append-nil, earlier-none))

pub local_done : (b0 : Body) {b1 b2 b3 b4 : Body} {d e : Option Refusal} (l : plain.Local) (body : Stmts) (ds es : List Refusal)
    → b1 ≡ together b0 (refused d) → d ≡ first_of ds → b2 ≡ together b1 (named l.name) → b3 ≡ together b2 (refused e) → e ≡ first_of es → b4 ≡ together b3 (found [] body [])
    → b4 ≡ together b0 (found (l ∷ []) body (ds ++ es))
local_done b0 l body ds es e1 d_is e2 e3 e_is e4 =
    rw (e4, e3, e2, e1, d_is, e_is, together_assoc b0, together_assoc b0, together_assoc b0) (ap (together b0) (named_found l body ds es))

pub length-local : (b : Body) (ss : Scopes) (l : plain.Local) → length (together b (local_found ss (length b.locals) l)).locals ≡ length b.locals + 1
unfolding local_found found
length-local b ss l = length-together b _

pub local_first : (b : Body) (ss : Scopes) (l : plain.Local) (ls : List plain.Local)
    → together (together b (local_found ss (length b.locals) l)) (locals_found (declare l.name (meaning.Integer (variable.Own (length b.locals))) ss) (length b.locals + 1) ls)
    ≡ together b (locals_found ss (length b.locals) (l ∷ ls))
unfolding local_found locals_found
local_first b ss l ls = together_assoc b _ _ ∙ ap (together b) (together-found _ _ _ _ _ _)

pub scopes_step : (b : Body) (ss : Scopes) {b' : Body} {ss' : Scopes} (l : plain.Local) (ls : List plain.Local)
    → ss' ≡ declare l.name (meaning.Integer (variable.Own (length b.locals))) ss → b' ≡ together b (local_found ss (length b.locals) l)
    → with_locals ss' (length b'.locals) ls ≡ with_locals ss (length b.locals) (l ∷ ls)
scopes_step b ss l ls s_is b_is = rw (b_is, s_is, length-local b ss l)

pub body_step : (b : Body) (ss : Scopes) {b' : Body} {ss' : Scopes} (l : plain.Local) (ls : List plain.Local)
    → ss' ≡ declare l.name (meaning.Integer (variable.Own (length b.locals))) ss → b' ≡ together b (local_found ss (length b.locals) l)
    → together b' (locals_found ss' (length b'.locals) ls) ≡ together b (locals_found ss (length b.locals) (l ∷ ls))
body_step b ss l ls s_is b_is = rw (b_is, s_is, length-local b ss l) (local_first b ss l ls)

pub together-no_locals : (b : Body) (ss : Scopes) → together b (locals_found ss (length b.locals) []) ≡ b
unfolding locals_found
together-no_locals b ss = together-none b
