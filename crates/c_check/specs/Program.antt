-- A whole text: what it declares, the functions of its threads, the threads that `main` creates, and the rules that it breaks.
use Rattle.std.specs.Prelude.{ℕ, ◌+◌, Bool, true, false, not, List, [], ◌∷◌, ◌++◌, length, map, drop, Option, Some, None, if◌then◌else◌}
use Rattle.thr_base.specs.declared.stops.Refusal.{Refusal}
use Rattle.thr_base.specs.Refusals.{bad_main, too_many}
use Rattle.thr_base.specs.Limits.{most_threads}
use Rattle.c_tree.specs.declared.expr.Name.{Name}
use Rattle.c_tree.specs.Plain as plain
use Rattle.c_check.specs.declared.meaning.Variable.TheVariants as variable
use Rattle.c_check.specs.declared.meaning.Meaning.TheVariants as meaning
use Rattle.c_check.specs.declared.main_form.Phase.{Phase}
use Rattle.c_check.specs.declared.main_form.Phase.TheVariants as phase
use Rattle.c_check.specs.Scope.{Scopes, declare, open_scope, function_of}
use Rattle.c_check.specs.Plan.{Stmts}
use Rattle.c_check.specs.Resolve.{behind, past, stmts, stmts_locals, with_handles}
use Rattle.c_check.specs.Broken.{broken_at, broken_if, handles_broken, stmts_broken, twice}

-- ---- what the text declares

abbrev pub globals_in : List plain.Item → List plain.Global
globals_in [] = []
globals_in (plain.Item.Globals gs ∷ items) = gs ++ globals_in items
globals_in (_ ∷ items) = globals_in items

abbrev pub locks_in : List plain.Item → List Name
locks_in [] = []
locks_in (plain.Item.Locks names ∷ items) = names ++ locks_in items
locks_in (_ ∷ items) = locks_in items

-- the names of the thread functions that have a body
abbrev pub functions_in : List plain.Item → List Name
functions_in [] = []
functions_in (plain.Item.Thread name body ∷ items) = name ∷ functions_in items
functions_in (_ ∷ items) = functions_in items

-- ---- the scopes of the text: that of its variables, locks, handles and thread functions, and around it that of the thread
-- functions of the whole text, which are visible in all of it

-- the numbers of the next variable, the next lock and the next thread function
pub record Next : Type 0 where
  pub global : ℕ
  pub lock : ℕ
  pub function : ℕ

abbrev pub with_functions : Scopes → ℕ → List Name → Scopes
with_functions ss next [] = ss
with_functions ss next (x ∷ xs) = with_functions (declare x (meaning.Function next) ss) (next + 1) xs

abbrev pub with_globals : Scopes → ℕ → List plain.Global → Scopes
with_globals ss next [] = ss
with_globals ss next (g ∷ gs) = with_globals (declare g.name (meaning.Integer (variable.Shared next)) ss) (next + 1) gs

abbrev pub with_locks : Scopes → ℕ → List Name → Scopes
with_locks ss next [] = ss
with_locks ss next (x ∷ xs) = with_locks (declare x (meaning.Lock next) ss) (next + 1) xs

-- in front of the text
abbrev pub first_scopes : List plain.Item → Scopes
first_scopes items = open_scope (with_functions (open_scope []) 0 (functions_in items))

abbrev pub first_next : Next
first_next = record { global = 0; lock = 0; function = 0 }

-- behind an item
abbrev pub behind_item : Scopes → Next → plain.Item → Scopes
behind_item ss next (plain.Item.Globals gs) = with_globals ss next.global gs
behind_item ss next (plain.Item.Locks names) = with_locks ss next.lock names
behind_item ss next (plain.Item.Handles from names) = with_handles ss names
behind_item ss next (plain.Item.Thread name body) = declare name (meaning.Function next.function) ss
behind_item ss next (plain.Item.Main from body) = ss
behind_item ss next (plain.Item.Prototype name) = ss
behind_item ss next (plain.Item.Profile from) = ss

abbrev pub past_item : Next → plain.Item → Next
past_item next (plain.Item.Globals gs) = record next { global = next.global + length gs }
past_item next (plain.Item.Locks names) = record next { lock = next.lock + length names }
past_item next (plain.Item.Thread name body) = record next { function = next.function + 1 }
past_item next _ = next

-- ---- thread functions

-- with the place of its name in its definition, its locals in the order of the text, and what it does
pub record Function : Type 0 where
  pub from : ℕ
  pub locals : List plain.Local
  pub body : Stmts

-- a function is visible in its own body, which is a scope
abbrev pub body_scopes : Scopes → Next → Name → Scopes
body_scopes ss next name = open_scope (declare name (meaning.Function next.function) ss)

abbrev pub functions_from : Scopes → Next → List plain.Item → List Function
functions_from ss next [] = []
functions_from ss next (plain.Item.Thread name body ∷ items) =
    record { from = name.from; locals = stmts_locals body; body = stmts (body_scopes ss next name) 0 body }
    ∷ functions_from (behind_item ss next (plain.Item.Thread name body)) (past_item next (plain.Item.Thread name body)) items
functions_from ss next (item ∷ items) = functions_from (behind_item ss next item) (past_item next item) items

abbrev pub functions_of : plain.Tree → List Function
functions_of tree = functions_from (first_scopes tree.items) first_next tree.items

-- ---- the form of `main`

-- creations; then joins; then the end: the phase that a statement of `main` belongs to
abbrev pub phase_of : plain.Stmt → Option Phase
phase_of (plain.Stmt.Handles from names) = Some phase.Creating
phase_of (plain.Stmt.Calls (plain.Call.Init from x)) = Some phase.Creating
phase_of (plain.Stmt.Calls (plain.Call.Create from handle function)) = Some phase.Creating
phase_of (plain.Stmt.Calls (plain.Call.Join from handle)) = Some phase.Joining
phase_of (plain.Stmt.Calls (plain.Call.Destroy from x)) = Some phase.Joining
phase_of (plain.Stmt.Calls (plain.Call.Exit from)) = Some phase.Ended
phase_of (plain.Stmt.Return from) = Some phase.Ended
phase_of _ = None

-- A statement of the second phase may stand where the first is; behind the end none may.
abbrev pub may_follow : Phase → Option Phase → Bool
may_follow phase.Creating (Some next) = true
may_follow phase.Joining (Some phase.Joining) = true
may_follow phase.Joining (Some phase.Ended) = true
may_follow _ _ = false

abbrev pub phase_behind : Phase → Option Phase → Phase
phase_behind here (Some next) = next
phase_behind here None = here

-- the first statement that may not stand where it does
abbrev pub form_broken : Phase → plain.Stmts → List Refusal
form_broken here plain.Stmts.End = []
form_broken here (plain.Stmts.Then s rest) =
    if may_follow here (phase_of s) then form_broken (phase_behind here (phase_of s)) rest else broken_at bad_main (plain.stmt_place s)

-- the functions that the statements of `main` create threads of: their names where they are created, and their numbers
abbrev pub created_from : Scopes → ℕ → plain.Stmts → List (Name × ℕ)
created_from ss next plain.Stmts.End = []
created_from ss next (plain.Stmts.Then (plain.Stmt.Calls (plain.Call.Create from handle function)) rest) = (function, function_of ss function) ∷ created_from ss next rest
created_from ss next (plain.Stmts.Then s rest) = created_from (behind ss next s) (past next s) rest

-- creations that are too many, at the names of their functions
abbrev pub too_many_created : List (Name × ℕ) → List Refusal
too_many_created created = map (λ c. record { code = too_many; place = c.0.from }) (drop most_threads created)

-- the body of `main` is a scope
abbrev pub main_broken : Scopes → plain.Stmts → List Refusal
main_broken ss body =
    stmts_broken (record { is_in_thread = false; is_in_atomic = false }) (open_scope ss) 0 body ++ form_broken phase.Creating body
    ++ too_many_created (created_from (open_scope ss) 0 body)

-- ---- rules that the items break

abbrev pub globals_broken : Scopes → ℕ → List plain.Global → List Refusal
globals_broken ss next [] = []
globals_broken ss next (g ∷ gs) = twice ss g.name ++ globals_broken (declare g.name (meaning.Integer (variable.Shared next)) ss) (next + 1) gs

abbrev pub locks_broken : Scopes → ℕ → List Name → List Refusal
locks_broken ss next [] = []
locks_broken ss next (x ∷ xs) = twice ss x ++ locks_broken (declare x (meaning.Lock next) ss) (next + 1) xs

-- with whether a `main` stands in front of it: a second one is refused at its word
abbrev pub item_broken : Scopes → Next → Bool → plain.Item → List Refusal
item_broken ss next has_main (plain.Item.Globals gs) = globals_broken ss next.global gs
item_broken ss next has_main (plain.Item.Locks names) = locks_broken ss next.lock names
item_broken ss next has_main (plain.Item.Handles from names) = handles_broken ss names
item_broken ss next has_main (plain.Item.Thread name body) =
    twice ss name ++ stmts_broken (record { is_in_thread = true; is_in_atomic = false }) (body_scopes ss next name) 0 body
item_broken ss next has_main (plain.Item.Main from body) = broken_if has_main bad_main from ++ main_broken ss body
item_broken ss next has_main (plain.Item.Prototype name) = []
item_broken ss next has_main (plain.Item.Profile from) = []

abbrev pub or_main : Bool → plain.Item → Bool
or_main has_main (plain.Item.Main from body) = true
or_main has_main _ = has_main

-- where the text ends without a `main`, that is refused at its end
abbrev pub items_broken : Scopes → Next → Bool → ℕ → List plain.Item → List Refusal
items_broken ss next has_main end [] = broken_if (not has_main) bad_main end
items_broken ss next has_main end (item ∷ items) =
    item_broken ss next has_main item ++ items_broken (behind_item ss next item) (past_item next item) (or_main has_main item) end items

abbrev pub broken_in : plain.Tree → List Refusal
broken_in tree = items_broken (first_scopes tree.items) first_next false tree.end tree.items

-- ---- threads

-- what `main` creates threads of, in the order of its creations; a text has one `main`
abbrev pub created_in : Scopes → Next → List plain.Item → List (Name × ℕ)
created_in ss next [] = []
created_in ss next (plain.Item.Main from body ∷ items) = created_from (open_scope ss) 0 body
created_in ss next (item ∷ items) = created_in (behind_item ss next item) (past_item next item) items

abbrev pub creations_of : plain.Tree → List (Name × ℕ)
creations_of tree = created_in (first_scopes tree.items) first_next tree.items

-- the numbers of their functions
abbrev pub created_of : plain.Tree → List ℕ
created_of tree = map (λ c. c.1) (creations_of tree)

-- where the word `main` stands; without one the text is refused
abbrev pub main_place : List plain.Item → ℕ
main_place [] = 0
main_place (plain.Item.Main from body ∷ items) = from
main_place (item ∷ items) = main_place items
