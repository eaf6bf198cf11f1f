-- What a text declares is there for its functions and for the creations of `main`, where the text breaks no rule.
use Rattle.std.proofs.Common.{◌≡◌, ℕ, ◌+◌, ◌≤◌, ℤ, Bool, true, false, List, [], ◌∷◌, length, map, drop, Option, Some, None, refl, arith, length-append, length-drop}
use Rattle.std.specs.List.{AllByRecursion}
use Rattle.thr_base.specs.Limits.{most_threads}
use Rattle.thr_base.specs.Refusals.{bad_main}
use Rattle.thr_base.specs.Number.{Fits}
use Rattle.c_tree.specs.declared.expr.Name.{Name}
use Rattle.c_tree.specs.Leaves.{NumbersFit, global_leaves, item_leaves, items_leaves, start_leaves}
use Rattle.c_tree.specs.Plain as plain
use Rattle.c_check.specs.declared.meaning.Meaning.TheVariants as meaning
use Rattle.c_check.specs.declared.meaning.Variable.TheVariants as variable
use Rattle.c_check.specs.declared.main_form.Phase.TheVariants as phase
use Rattle.c_check.specs.declared.place.Place.{Place}
use Rattle.c_check.specs.Scope.{Scopes, declare, open_scope}
use Rattle.c_check.specs.Plan.{code}
use Rattle.c_check.specs.Broken.{broken_if, stmts_broken, twice}
use Rattle.c_check.specs.Resolve.{stmts_locals}
use Rattle.c_check.specs.Program.{Next, behind_item, body_scopes, created_from, created_in, first_scopes, form_broken, functions_from, functions_in, globals_in, item_broken, items_broken, locks_in, main_broken, or_main, past_item, too_many_created, with_functions, with_globals, with_locks}
use Rattle.c_check.specs.Columns.{start_of}
use Rattle.c_check.specs.WellFormed.{Counts, HasCode}
use Rattle.c_check.proofs.Named.{HasScopes, all-append, append-none, has-around, has-declare, has-open_scope, has-with_handles, three-none}
use Rattle.c_check.proofs.NamedCode.{fit-append, has-stmts}

-- with so many locals
abbrev pub having : Counts → ℕ → Counts
having c n = record c { locals = n }

-- ---- the scopes of a text

-- What is declared from here on is counted.
pub record HasRoom (c : Counts) (next : Next) (items : List plain.Item) : Type 0 where
  pub globals : next.global + length (globals_in items) ≤ c.variables
  pub locks : next.lock + length (locks_in items) ≤ c.locks

has-with_globals : (c : Counts) (ss : Scopes) (next : ℕ) (gs : List plain.Global) → next + length gs ≤ c.variables → HasScopes c ss → HasScopes c (with_globals ss next gs)
has-with_globals c ss next [] within all = all
has-with_globals c ss next (g ∷ gs) within all =
    has-with_globals c (declare g.name (meaning.Integer (variable.Shared next)) ss) (next + 1) gs (omega arith) (has-declare c g.name (meaning.Integer (variable.Shared next)) ss (omega arith) all)

has-with_locks : (c : Counts) (ss : Scopes) (next : ℕ) (xs : List Name) → next + length xs ≤ c.locks → HasScopes c ss → HasScopes c (with_locks ss next xs)
has-with_locks c ss next [] within all = all
has-with_locks c ss next (x ∷ xs) within all = has-with_locks c (declare x (meaning.Lock next) ss) (next + 1) xs (omega arith) (has-declare c x (meaning.Lock next) ss (omega arith) all)

has-with_functions : (c : Counts) (ss : Scopes) (next : ℕ) (xs : List Name) → HasScopes c ss → HasScopes c (with_functions ss next xs)
has-with_functions c ss next [] all = all
has-with_functions c ss next (x ∷ xs) all = has-with_functions c (declare x (meaning.Function next) ss) (next + 1) xs (has-declare c x (meaning.Function next) ss tt all)

pub has-first_scopes : (c : Counts) (items : List plain.Item) → HasScopes c (first_scopes items)
has-first_scopes c items =
    let around : Scopes = with_functions (open_scope []) 0 (functions_in items) in
    has-open_scope c around (has-around c around (has-with_functions c (open_scope []) 0 (functions_in items) (has-open_scope c [] tt)))

has-behind_item : (c : Counts) (n : ℕ) (ss : Scopes) (next : Next) (item : plain.Item) (items : List plain.Item) → HasRoom c next (item ∷ items) → HasScopes (having c n) ss → HasScopes (having c n) (behind_item ss next item)
has-behind_item c n ss next (plain.Item.Globals gs) items room all = has-with_globals (having c n) ss next.global gs (omega (arith, room.globals, length-append gs (globals_in items))) all
has-behind_item c n ss next (plain.Item.Locks names) items room all = has-with_locks (having c n) ss next.lock names (omega (arith, room.locks, length-append names (locks_in items))) all
has-behind_item c n ss next (plain.Item.Handles from names) items room all = has-with_handles (having c n) ss names all
has-behind_item c n ss next (plain.Item.Thread name body) items room all = has-declare (having c n) name (meaning.Function next.function) ss tt all
has-behind_item c n ss next (plain.Item.Main from body) items room all = all
has-behind_item c n ss next (plain.Item.Prototype name) items room all = all
has-behind_item c n ss next (plain.Item.Profile from) items room all = all

room-past : (c : Counts) (next : Next) (item : plain.Item) (items : List plain.Item) → HasRoom c next (item ∷ items) → HasRoom c (past_item next item) items
room-past c next (plain.Item.Globals gs) items room = record { globals = omega (arith, room.globals, length-append gs (globals_in items)); locks = room.locks }
room-past c next (plain.Item.Locks names) items room = record { globals = room.globals; locks = omega (arith, room.locks, length-append names (locks_in items)) }
room-past c next (plain.Item.Handles from names) items room = record { globals = room.globals; locks = room.locks }
room-past c next (plain.Item.Thread name body) items room = record { globals = room.globals; locks = room.locks }
room-past c next (plain.Item.Main from body) items room = record { globals = room.globals; locks = room.locks }
room-past c next (plain.Item.Prototype name) items room = record { globals = room.globals; locks = room.locks }
room-past c next (plain.Item.Profile from) items room = record { globals = room.globals; locks = room.locks }

-- ---- functions

pub has-functions : (c : Counts) (ss : Scopes) (next : Next) (has_main : Bool) (end : ℕ) (items : List plain.Item) → HasRoom c next items → ((n : ℕ) → HasScopes (having c n) ss)
    → NumbersFit (items_leaves items) → items_broken ss next has_main end items ≡ [] → AllByRecursion (λ f. HasCode (having c (length f.locals)) (code f.body)) (functions_from ss next items)
has-functions c ss next has_main end [] room all fit none = tt
has-functions c ss next has_main end (plain.Item.Thread name body ∷ items) room all fit none =
    let item : plain.Item = plain.Item.Thread name body in
    let p : Place = record { is_in_thread = true; is_in_atomic = false } in
    let own : Counts = having c (length (stmts_locals body)) in
    let fits = fit-append (item_leaves item) (items_leaves items) fit in
    let nones = append-none (item_broken ss next has_main item) (items_broken (behind_item ss next item) (past_item next item) (or_main has_main item) end items) none in
    let around : Scopes = declare name (meaning.Function next.function) ss in
    let seen : HasScopes own around = has-declare own name (meaning.Function next.function) ss tt (all (length (stmts_locals body))) in (
      has-stmts own p (body_scopes ss next name) 0 body (omega arith) (has-open_scope own around (has-around own around seen)) fits.0
          (append-none (twice ss name) (stmts_broken p (body_scopes ss next name) 0 body) nones.0).1,
      has-functions c (behind_item ss next item) (past_item next item) (or_main has_main item) end items (room-past c next item items room) (λ n. has-behind_item c n ss next item items room (all n)) fits.1 nones.1,
    )
has-functions c ss next has_main end (item ∷ items) room all fit none =
    let fits = fit-append (item_leaves item) (items_leaves items) fit in
    let nones = append-none (item_broken ss next has_main item) (items_broken (behind_item ss next item) (past_item next item) (or_main has_main item) end items) none in
    has-functions c (behind_item ss next item) (past_item next item) (or_main has_main item) end items (room-past c next item items room) (λ n. has-behind_item c n ss next item items room (all n)) fits.1 nones.1

-- ---- creations

map-none : {X Y : Type 0} → (f : X → Y) (xs : List X) → map f xs ≡ [] → length xs ≡ 0
map-none f [] none = refl
map-none f (x ∷ xs) none = cc

few-created : (ks : List (Name × ℕ)) → too_many_created ks ≡ [] → length ks ≤ most_threads
few-created ks none = omega (arith, map-none _ (drop most_threads ks) none, length-drop most_threads ks)

-- `main` does not create too many threads
pub few-creations : (ss : Scopes) (next : Next) (has_main : Bool) (end : ℕ) (items : List plain.Item) → items_broken ss next has_main end items ≡ [] → length (created_in ss next items) ≤ most_threads
few-creations ss next has_main end [] none = omega arith
few-creations ss next has_main end (plain.Item.Main from body ∷ items) none =
    let p : Place = record { is_in_thread = false; is_in_atomic = false } in
    let item : plain.Item = plain.Item.Main from body in
    let nones = append-none (item_broken ss next has_main item) (items_broken (behind_item ss next item) (past_item next item) (or_main has_main item) end items) none in
    let main = append-none (broken_if has_main bad_main from) (main_broken ss body) nones.0 in
    few-created (created_from (open_scope ss) 0 body) (three-none (stmts_broken p (open_scope ss) 0 body) (form_broken phase.Creating body) (too_many_created (created_from (open_scope ss) 0 body)) main.1).2
few-creations ss next has_main end (item ∷ items) none =
    let nones = append-none (item_broken ss next has_main item) (items_broken (behind_item ss next item) (past_item next item) (or_main has_main item) end items) none in
    few-creations (behind_item ss next item) (past_item next item) (or_main has_main item) end items nones.1

-- ---- what variables start with

start-fits : (start : Option ℤ) → NumbersFit (start_leaves start) → Fits (start_of start)
start-fits None fit = omega arith
start-fits (Some value) fit = fit.0

globals-fit : (gs : List plain.Global) → NumbersFit (global_leaves gs) → AllByRecursion (λ g. Fits (start_of g.start)) gs
globals-fit [] fit = tt
globals-fit (g ∷ gs) fit = (let fits = fit-append (start_leaves g.start) (global_leaves gs) fit in (start-fits g.start fits.0, globals-fit gs fits.1))

pub starts-fit : (items : List plain.Item) → NumbersFit (items_leaves items) → AllByRecursion (λ g. Fits (start_of g.start)) (globals_in items)
starts-fit [] fit = tt
starts-fit (plain.Item.Globals gs ∷ items) fit =
    let fits = fit-append (global_leaves gs) (items_leaves items) fit in
    all-append (λ (g : plain.Global). Fits (start_of g.start)) gs (globals_in items) (globals-fit gs fits.0) (starts-fit items fits.1)
starts-fit (item ∷ items) fit = starts-fit items (fit-append (item_leaves item) (items_leaves items) fit).1
