-- The form of `main`, and the threads that it creates, statement by statement.
use Rattle.std.proofs.Common.{◌≡◌, ℕ, Bool, true, false, List, [], ◌∷◌, ◌++◌, length, map, drop, Option, Some, None, if◌then◌else◌, refl, sym, ap, add-zero}
use Rattle.std.proofs.lemmas.List.{drop-map}
use Rattle.std.proofs.lemmas.Simd.{map-map}
use Rattle.thr_base.specs.declared.stops.Refusal.{Refusal}
use Rattle.thr_base.specs.Refusals.{bad_main}
use Rattle.thr_base.specs.Limits.{most_threads}
use Rattle.c_tree.specs.declared.expr.Name.{Name}
use Rattle.c_tree.specs.Plain as plain
use Rattle.c_tree.specs.Seen.{if_layer}
use Rattle.c_check.specs.declared.body.Body.{Body}
use Rattle.c_check.specs.declared.place.Place.{Place}
use Rattle.c_check.specs.declared.main_form.Phase.{Phase}
use Rattle.c_check.specs.Scope.{Scopes, function_of}
use Rattle.c_check.specs.Broken.{broken_at}
use Rattle.c_check.specs.Resolve.{behind, past}
use Rattle.c_check.specs.Program.{created_from, form_broken, may_follow, phase_behind, phase_of, too_many_created}
use Rattle.c_check.specs.inside.Found.{stmt_found, together}
use Rattle.c_check.specs.inside.Main.{creation_in, stored_creation, too_many_of}
use Rattle.c_check.proofs.Found.{length-found}

-- ---- the form

pub if_has_no_phase : (from : ℕ) (v : plain.Value) (s : plain.Stmt) (other : Option plain.Stmt) → None ≡ phase_of (if_layer from v s other)
if_has_no_phase from v s None = refl
if_has_no_phase from v s (Some t) = refl

goes_by : (follows : Bool) (next there : Phase) (rest : plain.Stmts) (stop : List Refusal) → Some next ≡ (if follows then Some there else None) → form_broken next rest ≡ (if follows then form_broken there rest else stop)
goes_by true next there rest stop e = let same : next ≡ there = cc in ap (λ p. form_broken p rest) same
goes_by false next there rest stop e = cc

stops_by : (follows : Bool) (there : Phase) (rest : plain.Stmts) (stop : List Refusal) → None ≡ (if follows then Some there else None) → stop ≡ (if follows then form_broken there rest else stop)
stops_by true there rest stop e = cc
stops_by false there rest stop e = refl

pub form_goes : (here next : Phase) (s : plain.Stmt) (rest : plain.Stmts)
    → Some next ≡ (if may_follow here (phase_of s) then Some (phase_behind here (phase_of s)) else None) → form_broken next rest ≡ form_broken here (plain.Stmts.Then s rest)
form_goes here next s rest e = goes_by (may_follow here (phase_of s)) next (phase_behind here (phase_of s)) rest (broken_at bad_main (plain.stmt_place s)) e

pub form_stops : (here : Phase) (s : plain.Stmt) (rest : plain.Stmts)
    → None ≡ (if may_follow here (phase_of s) then Some (phase_behind here (phase_of s)) else None) → broken_at bad_main (plain.stmt_place s) ≡ form_broken here (plain.Stmts.Then s rest)
form_stops here s rest e = stops_by (may_follow here (phase_of s)) (phase_behind here (phase_of s)) rest (broken_at bad_main (plain.stmt_place s)) e

-- ---- creations

pub if_creates_nothing : (ss : Scopes) (from : ℕ) (v : plain.Value) (s : plain.Stmt) (other : Option plain.Stmt) → creation_in ss (if_layer from v s other) ≡ []
if_creates_nothing ss from v s None = refl
if_creates_nothing ss from v s (Some t) = refl

pub created_from-then : (ss : Scopes) (next : ℕ) (s : plain.Stmt) (rest : plain.Stmts)
    → created_from ss next (plain.Stmts.Then s rest) ≡ creation_in ss s ++ created_from (behind ss next s) (past next s) rest
created_from-then ss next (plain.Stmt.Block from inner) rest = refl
created_from-then ss next (plain.Stmt.Empty from) rest = refl
created_from-then ss next (plain.Stmt.Locals from ls) rest = refl
created_from-then ss next (plain.Stmt.Assigns a) rest = refl
created_from-then ss next (plain.Stmt.If from c s) rest = refl
created_from-then ss next (plain.Stmt.IfElse from c s t) rest = refl
created_from-then ss next (plain.Stmt.While from c s) rest = refl
created_from-then ss next (plain.Stmt.For from first c last s) rest = refl
created_from-then ss next (plain.Stmt.Break from) rest = refl
created_from-then ss next (plain.Stmt.Return from) rest = refl
created_from-then ss next (plain.Stmt.Atomic from inner) rest = refl
created_from-then ss next (plain.Stmt.Handles from names) rest = refl
created_from-then ss next (plain.Stmt.Calls (plain.Call.Assert from e)) rest = refl
created_from-then ss next (plain.Stmt.Calls (plain.Call.Assume from e)) rest = refl
created_from-then ss next (plain.Stmt.Calls (plain.Call.ReachError from)) rest = refl
created_from-then ss next (plain.Stmt.Calls (plain.Call.Abort from)) rest = refl
created_from-then ss next (plain.Stmt.Calls (plain.Call.Exit from)) rest = refl
created_from-then ss next (plain.Stmt.Calls (plain.Call.Lock from x)) rest = refl
created_from-then ss next (plain.Stmt.Calls (plain.Call.Unlock from x)) rest = refl
created_from-then ss next (plain.Stmt.Calls (plain.Call.Destroy from x)) rest = refl
created_from-then ss next (plain.Stmt.Calls (plain.Call.Init from x)) rest = refl
created_from-then ss next (plain.Stmt.Calls (plain.Call.Create from handle function)) rest = ap (λ n. (function, function_of ss function) ∷ created_from ss n rest) (sym (add-zero next))
created_from-then ss next (plain.Stmt.Calls (plain.Call.Join from handle)) rest = refl

pub created_step : (p : Place) (b : Body) (ss : Scopes) (s : plain.Stmt) (rest : plain.Stmts) {b' : Body} {ss' : Scopes}
    → ss' ≡ behind ss (length b.locals) s → b' ≡ together b (stmt_found p ss (length b.locals) s)
    → creation_in ss s ++ created_from ss' (length b'.locals) rest ≡ created_from ss (length b.locals) (plain.Stmts.Then s rest)
unfolding stmt_found
created_step p b ss s rest s_is b_is = rw (b_is, s_is, length-found b) (sym (created_from-then ss (length b.locals) s rest))

pub map-created : (cs : List (Name × ℕ)) → map (λ c. c.function) (map stored_creation cs) ≡ map (λ c. c.1) cs
map-created [] = refl
map-created (c ∷ cs) = ap (λ ns. c.1 ∷ ns) (map-created cs)

pub too_many_of-created : (cs : List (Name × ℕ)) → map too_many_of (drop most_threads (map stored_creation cs)) ≡ too_many_created cs
too_many_of-created cs = rw drop-map (map-map too_many_of stored_creation (drop most_threads cs))
