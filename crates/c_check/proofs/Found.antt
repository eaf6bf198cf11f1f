-- What is found of parts, one after another.
use Rattle.std.proofs.Common.{◌≡◌, ℕ, zero, suc, ◌+◌, max, [], ◌∷◌, ◌++◌, List, length, Option, refl, sym, ap, ◌∙◌, append_assoc, append-nil, length-append}
use Rattle.std.proofs.Math.Nat.{max-zero, zero-max, suc-max-suc}
use Rattle.std.proofs.lemmas.List.{length-map, map-append}
use Rattle.thr_base.specs.declared.stops.Refusal.{Refusal}
use Rattle.c_tree.specs.declared.expr.Name.{Name}
use Rattle.c_tree.specs.Plain as plain
use Rattle.c_check.specs.declared.body.Body.{Body}
use Rattle.c_check.specs.declared.instruction.Instruction.{Instruction}
use Rattle.c_check.specs.Plan.{Stmt, Stmts, code, joined, one, stmt_code}
use Rattle.c_check.specs.Temporaries.{need, stmt_need}
use Rattle.c_check.specs.First.{earlier}
use Rattle.c_check.specs.inside.Found.{found, named, nothing, refused, together, written}
use Rattle.c_check.proofs.FirstOf.{earlier-earlier, earlier-none, first_of-append}

pub max_assoc : (a b c : ℕ) → max (max a b) c ≡ max a (max b c)
max_assoc zero b c = rw (zero-max, zero-max)
max_assoc (suc a) zero c = rw (max-zero, zero-max)
max_assoc (suc a) (suc b) zero = rw (max-zero, max-zero)
max_assoc (suc a) (suc b) (suc c) = rw (suc-max-suc, suc-max-suc, suc-max-suc, suc-max-suc) (ap suc (max_assoc a b c))

pub together_assoc : (a b c : Body) → together (together a b) c ≡ together a (together b c)
unfolding together
together_assoc a b c = simp (append_assoc, max_assoc, earlier-earlier)

-- what was found step by step, from where the first step was made
pub after_two : (a x y : Body) {b c : Body} → b ≡ together a x → c ≡ together b y → c ≡ together a (together x y)
after_two a x y b_is c_is = c_is ∙ ap (λ z. together z y) b_is ∙ together_assoc a x y

pub after_three : (a x y z : Body) {b c d : Body} → b ≡ together a x → c ≡ together b y → d ≡ together c z → d ≡ together a (together (together x y) z)
after_three a x y z b_is c_is d_is = after_two a (together x y) z (after_two a x y b_is c_is) d_is

pub after_four : (a x y z u : Body) {b c d e : Body} → b ≡ together a x → c ≡ together b y → d ≡ together c z → e ≡ together d u
    → e ≡ together a (together (together (together x y) z) u)
after_four a x y z u b_is c_is d_is e_is = after_two a (together (together x y) z) u (after_three a x y z b_is c_is d_is) e_is

pub together-nothing : (a : Body) → together a nothing ≡ a
unfolding together
together-nothing a = simp (append-nil, max-zero, earlier-none)

pub nothing-together : (a : Body) → together nothing a ≡ a
unfolding together
nothing-together a = rw (zero-max a.temporaries)

pub together-refused : (a : Body) (d : Option Refusal) → together a (refused d) ≡ record a { refusal = earlier a.refusal d }
unfolding together refused
together-refused a d = simp (append-nil, max-zero)

pub together-written : (a : Body) (count : ℕ) (is : List Instruction) → together a (written count is) ≡ record a { temporaries = max a.temporaries count; code = a.code ++ is }
unfolding together written
together-written a count is = simp (append-nil, earlier-none)

pub together-written_0 : (a : Body) (is : List Instruction) → together a (written 0 is) ≡ record a { code = a.code ++ is }
together-written_0 a is = together-written a 0 is ∙ ap (λ n. record a { temporaries = n; code = a.code ++ is }) (max-zero a.temporaries)

pub together-named : (a : Body) (x : Name) → together a (named x) ≡ record a { locals = a.locals ++ x.text ∷ [] }
unfolding together named
together-named a x = simp (append-nil, max-zero, earlier-none)

pub length-together : (a b : Body) → length (together a b).locals ≡ length a.locals + length b.locals
unfolding together
length-together a b = length-append a.locals b.locals

pub length-refused : (a : Body) (d : Option Refusal) → length (together a (refused d)).locals ≡ length a.locals
length-refused a d = ap (λ b. length b.locals) (together-refused a d)

pub length-written : (a : Body) (count : ℕ) (is : List Instruction) → length (together a (written count is)).locals ≡ length a.locals
length-written a count is = ap (λ b. length b.locals) (together-written a count is)

pub length-found : (a : Body) (ls : List plain.Local) (body : Stmts) (ds : List Refusal) → length (together a (found ls body ds)).locals ≡ length a.locals + length ls
unfolding found
length-found a ls body ds = rw (length-together, length-map)

-- ---- statements that stand behind each other

pub need-joined : (a b : Stmts) → need (joined a b) ≡ max (need a) (need b)
need-joined Stmts.End b = sym (zero-max (need b))
need-joined (Stmts.Then s rest) b = rw (need-joined rest b) (sym (max_assoc (stmt_need s) (need rest) (need b)))

pub code-joined : (a b : Stmts) → code (joined a b) ≡ code a ++ code b
code-joined Stmts.End b = refl
code-joined (Stmts.Then s rest) b = rw (code-joined rest b) (sym (append_assoc (stmt_code s) (code rest) (code b)))

pub together-found : (ls ms : List plain.Local) (a b : Stmts) (ds es : List Refusal) → together (found ls a ds) (found ms b es) ≡ found (ls ++ ms) (joined a b) (ds ++ es)
unfolding together found
together-found ls ms a b ds es = rw (map-append, need-joined, code-joined, first_of-append)

-- ---- single statements

pub together-none : (a : Body) → together a (found [] Stmts.End []) ≡ a
unfolding found
together-none a = together-nothing a

pub found-one : (s : Stmt) → found [] (one s) [] ≡ written (stmt_need s) (stmt_code s)
unfolding found written
found-one s = simp (append-nil, max-zero)

-- A statement is written.
pub wrote : (a : Body) {b : Body} (s : Stmt) → b ≡ together a (written (stmt_need s) (stmt_code s)) → b ≡ together a (found [] (one s) [])
wrote a s is = is ∙ ap (together a) (sym (found-one s))
