-- What names stand for has the numbers of their declarations, in all scopes of a text.
use Rattle.std.proofs.Common.{◌≡◌, ℕ, zero, suc, ◌+◌, Bool, true, false, cond, List, [], ◌∷◌, ◌++◌, length, map, drop, slice_get, Option, Some, None, is_some, bytes_eq, refl, sym, ap, subst, ◌∙◌, append_assoc, append-nil}
use Rattle.std.proofs.lemmas.Slice.Eq.{bytes_eq-Decides}
use Rattle.std.proofs.lemmas.List.{drop-drop, length-map, map-append}
use Rattle.std.proofs.Math.Seq.{drop-append_seam, drop-nil}
use Rattle.std.specs.List.{AllByRecursion}
use Rattle.std.specs.Option.{option_or}
use Rattle.thr_base.specs.Refusals.{bad_main}
use Rattle.c_tree.specs.declared.expr.Name.{Name}
use Rattle.c_tree.specs.Plain as plain
use Rattle.c_check.specs.declared.meaning.Meaning.{Meaning}
use Rattle.c_check.specs.declared.meaning.Meaning.TheVariants as meaning
use Rattle.c_check.specs.declared.meaning.Variable.TheVariants as variable
use Rattle.c_check.specs.declared.main_form.Phase.TheVariants as phase
use Rattle.c_check.specs.declared.place.Place.{Place}
use Rattle.c_check.specs.declared.uses.Kind.{Kind}
use Rattle.c_check.specs.declared.uses.Kind.TheVariants as kind
use Rattle.c_check.specs.Scope.{Binding, Scope, Scopes, as_function, as_lock, as_variable, declare, function_of, in_scope, lock_of, meaning_of, open_scope, variable_of}
use Rattle.c_check.specs.Broken.{broken_if, is_of_kind, only_in_main, stmt_broken, stmts_broken, unknown_as}
use Rattle.c_check.specs.Resolve.{behind, behind_all, first_locals, past, stmt_locals, stmts_locals, with_first, with_handles, with_locals}
use Rattle.c_check.specs.Program.{Next, behind_item, body_scopes, broken_in, created_from, created_in, creations_of, first_next, first_scopes, form_broken, functions_in, globals_in, item_broken, items_broken, locks_in, main_broken, or_main, past_item, too_many_created, with_functions, with_globals, with_locks}
use Rattle.c_check.specs.Numbers.{AreOf, GoesOn, HasLocals, IsOf, Names, NumbersAreOfDeclarations, local_names, names_of}
use Rattle.c_check.specs.inside.Main.{creation_in}
use Rattle.c_check.proofs.Creations.{created_from-then}
use Rattle.c_check.proofs.Named.{all-append, append-none, broken_if-none, if_by, three-none}

-- ---- the element at a number

record At {X : Type 0} (xs : List X) (n : ℕ) (y : X) (ys : List X) : Type 0 where
  there : slice_get xs n ≡ Some y
  behind : drop (n + 1) xs ≡ ys

at-there : {X : Type 0} (xs : List X) (n : ℕ) (y : X) (ys : List X) → drop n xs ≡ y ∷ ys → slice_get xs n ≡ Some y
at-there [] n y ys e = let none : [] ≡ y ∷ ys = sym (drop-nil n) ∙ e in absurd cc
at-there (x ∷ xs) zero y ys e = let same : x ≡ y = cc in ap Some same
at-there (x ∷ xs) (suc n) y ys e = at-there xs n y ys e

at-drop : {X : Type 0} (xs : List X) (n : ℕ) (y : X) (ys : List X) → drop n xs ≡ y ∷ ys → At xs n y ys
at-drop xs n y ys e = record { there = at-there xs n y ys e; behind = sym (drop-drop 1 n xs) ∙ ap (drop 1) e }

-- behind the first of two parts
drop-both : {X Y : Type 0} (f : X → Y) (xs : List Y) (n : ℕ) (ys : List X) (zs : List Y) → drop n xs ≡ map f ys ++ zs → drop (n + length ys) xs ≡ zs
drop-both f xs n ys zs e =
    ap (λ k. drop (n + k) xs) (sym (length-map ys f)) ∙ sym (drop-drop (length (map f ys)) n xs) ∙ ap (drop (length (map f ys))) e ∙ drop-append_seam (map f ys) zs

-- ---- names

abbrev OfIfSome : Names → List ℕ → Option Meaning → Type 0
OfIfSome names name None = Unit {0}
OfIfSome names name (Some m) = IsOf names name m

abbrev InScope : Names → Scope → Type 0
InScope names s = AllByRecursion (λ b. IsOf names b.name b.stands_for) s

of-in_scope : (names : Names) (name : List ℕ) (s : Scope) → InScope names s → OfIfSome names name (in_scope name s)
of-in_scope names name [] all = tt
of-in_scope names name (b ∷ bs) all = by (bytes_eq name b.name) refl (of-in_scope names name bs all.1)
  where
    by : (same : Bool) → bytes_eq name b.name ≡ same → OfIfSome names name (in_scope name bs) → OfIfSome names name (cond same (Some b.stands_for) (in_scope name bs))
    by true e more = subst (λ (text : List ℕ). IsOf names text b.stands_for) (sym ((bytes_eq-Decides name b.name).0 e)) all.0
    by false e more = more

of-or : (names : Names) (name : List ℕ) (a b : Option Meaning) → OfIfSome names name a → OfIfSome names name b → OfIfSome names name (option_or a b)
of-or names name None b is other = other
of-or names name (Some m) b is other = is

of-meaning_of : (names : Names) (name : List ℕ) (ss : Scopes) → AreOf names ss → OfIfSome names name (meaning_of name ss)
of-meaning_of names name [] all = tt
of-meaning_of names name (s ∷ ss) all = of-or names name (in_scope name s) (meaning_of name ss) (of-in_scope names name s all.0) (of-meaning_of names name ss all.1)

of-declare : (names : Names) (x : Name) (m : Meaning) (ss : Scopes) → IsOf names x.text m → AreOf names ss → AreOf names (declare x m ss)
of-declare names x m [] is all = tt
of-declare names x m (s ∷ ss) is all =
    let b : Binding = record { name = x.text; stands_for = m } in
    (if_by (InScope names) (is_some (in_scope x.text s)) s (s ++ b ∷ []) all.0 (all-append (λ b'. IsOf names b'.name b'.stands_for) s (b ∷ []) all.0 (is, tt)), all.1)

-- ---- names that are used as what they are

of-as_variable : (names : Names) (name : List ℕ) (m : Option Meaning) → is_of_kind kind.Integer m ≡ true → OfIfSome names name m → IsOf names name (meaning.Integer (as_variable m))
of-as_variable names name None known of = absurd cc
of-as_variable names name (Some (meaning.Integer v)) known of = of
of-as_variable names name (Some (meaning.Lock n)) known of = absurd cc
of-as_variable names name (Some meaning.Handle) known of = absurd cc
of-as_variable names name (Some (meaning.Function n)) known of = absurd cc

of-as_lock : (names : Names) (name : List ℕ) (m : Option Meaning) → is_of_kind kind.Lock m ≡ true → OfIfSome names name m → IsOf names name (meaning.Lock (as_lock m))
of-as_lock names name None known of = absurd cc
of-as_lock names name (Some (meaning.Integer v)) known of = absurd cc
of-as_lock names name (Some (meaning.Lock n)) known of = of
of-as_lock names name (Some meaning.Handle) known of = absurd cc
of-as_lock names name (Some (meaning.Function n)) known of = absurd cc

of-as_function : (names : Names) (name : List ℕ) (m : Option Meaning) → is_of_kind kind.Function m ≡ true → OfIfSome names name m → IsOf names name (meaning.Function (as_function m))
of-as_function names name None known of = absurd cc
of-as_function names name (Some (meaning.Integer v)) known of = absurd cc
of-as_function names name (Some (meaning.Lock n)) known of = absurd cc
of-as_function names name (Some meaning.Handle) known of = absurd cc
of-as_function names name (Some (meaning.Function n)) known of = of

known : (k : Kind) (ss : Scopes) (x : Name) → unknown_as k ss x ≡ [] → is_of_kind k (meaning_of x.text ss) ≡ true
known k ss x none = broken_if-none (is_of_kind k (meaning_of x.text ss)) _ _ none

of-variable_of : (names : Names) (ss : Scopes) (x : Name) → AreOf names ss → unknown_as kind.Integer ss x ≡ [] → IsOf names x.text (meaning.Integer (variable_of ss x))
of-variable_of names ss x all none = of-as_variable names x.text (meaning_of x.text ss) (known kind.Integer ss x none) (of-meaning_of names x.text ss all)

of-lock_of : (names : Names) (ss : Scopes) (x : Name) → AreOf names ss → unknown_as kind.Lock ss x ≡ [] → IsOf names x.text (meaning.Lock (lock_of ss x))
of-lock_of names ss x all none = of-as_lock names x.text (meaning_of x.text ss) (known kind.Lock ss x none) (of-meaning_of names x.text ss all)

of-function_of : (names : Names) (ss : Scopes) (x : Name) → AreOf names ss → unknown_as kind.Function ss x ≡ [] → IsOf names x.text (meaning.Function (function_of ss x))
of-function_of names ss x all none = of-as_function names x.text (meaning_of x.text ss) (known kind.Function ss x none) (of-meaning_of names x.text ss all)

-- ---- scopes behind statements

in-parts : (names : Names) (next : ℕ) (ls more : List plain.Local) → HasLocals names next (ls ++ more) → HasLocals names next ls × HasLocals names (next + length ls) more
in-parts names next ls more has =
    let text : plain.Local → List ℕ = λ l. l.name.text in
    let parts : drop next names.locals ≡ local_names ls ++ (local_names more ++ has.0) = has.1 ∙ ap (λ xs. xs ++ has.0) (map-append text ls more) ∙ append_assoc (local_names ls) (local_names more) has.0 in
    ((local_names more ++ has.0, parts), (has.0, drop-both text names.locals next ls (local_names more ++ has.0) parts))

of-with_locals : (names : Names) (ss : Scopes) (next : ℕ) (ls : List plain.Local) → AreOf names ss → HasLocals names next ls → AreOf names (with_locals ss next ls)
of-with_locals names ss next [] all has = all
of-with_locals names ss next (l ∷ ls) all has =
    let here = at-drop names.locals next l.name.text (local_names ls ++ has.0) has.1 in
    of-with_locals names (declare l.name (meaning.Integer (variable.Own next)) ss) (next + 1) ls (of-declare names l.name (meaning.Integer (variable.Own next)) ss here.there all) (has.0, here.behind)

of-with_handles : (names : Names) (ss : Scopes) (xs : List Name) → AreOf names ss → AreOf names (with_handles ss xs)
of-with_handles names ss [] all = all
of-with_handles names ss (x ∷ xs) all = of-with_handles names (declare x meaning.Handle ss) xs (of-declare names x meaning.Handle ss tt all)

of-with_first : (names : Names) (ss : Scopes) (next : ℕ) (f : plain.First) → AreOf names ss → HasLocals names next (first_locals f) → AreOf names (with_first ss next f)
of-with_first names ss next (plain.First.Declares from ls) all has = of-with_locals names ss next ls all has
of-with_first names ss next (plain.First.Assigns a) all has = all
of-with_first names ss next (plain.First.Nothing from) all has = all

mutual
  of-behind : (names : Names) (ss : Scopes) (next : ℕ) (s : plain.Stmt) → AreOf names ss → HasLocals names next (stmt_locals s) → AreOf names (behind ss next s)
  of-behind names ss next (plain.Stmt.Locals from ls) all has = of-with_locals names ss next ls all has
  of-behind names ss next (plain.Stmt.Handles from xs) all has = of-with_handles names ss xs all
  of-behind names ss next (plain.Stmt.Atomic from inner) all has = of-behind_all names ss next inner all has
  of-behind names ss next (plain.Stmt.Block from inner) all has = all
  of-behind names ss next (plain.Stmt.Empty from) all has = all
  of-behind names ss next (plain.Stmt.Assigns a) all has = all
  of-behind names ss next (plain.Stmt.If from v s) all has = all
  of-behind names ss next (plain.Stmt.IfElse from v s t) all has = all
  of-behind names ss next (plain.Stmt.While from v s) all has = all
  of-behind names ss next (plain.Stmt.For from first v last s) all has = all
  of-behind names ss next (plain.Stmt.Break from) all has = all
  of-behind names ss next (plain.Stmt.Return from) all has = all
  of-behind names ss next (plain.Stmt.Calls call) all has = all

  of-behind_all : (names : Names) (ss : Scopes) (next : ℕ) (body : plain.Stmts) → AreOf names ss → HasLocals names next (stmts_locals body) → AreOf names (behind_all ss next body)
  of-behind_all names ss next plain.Stmts.End all has = all
  of-behind_all names ss next (plain.Stmts.Then s rest) all has =
      let parts = in-parts names next (stmt_locals s) (stmts_locals rest) has in
      of-behind_all names (behind ss next s) (past next s) rest (of-behind names ss next s all parts.0) parts.1

-- ---- scopes behind items

of-with_globals : (names : Names) (ss : Scopes) (next : ℕ) (gs : List plain.Global) (after : List (List ℕ)) → AreOf names ss → drop next names.variables ≡ map (λ (g : plain.Global). g.name.text) gs ++ after
    → AreOf names (with_globals ss next gs)
of-with_globals names ss next [] after all e = all
of-with_globals names ss next (g ∷ gs) after all e =
    let here = at-drop names.variables next g.name.text (map (λ (g : plain.Global). g.name.text) gs ++ after) e in
    of-with_globals names (declare g.name (meaning.Integer (variable.Shared next)) ss) (next + 1) gs after (of-declare names g.name (meaning.Integer (variable.Shared next)) ss here.there all) here.behind

of-with_locks : (names : Names) (ss : Scopes) (next : ℕ) (xs : List Name) (after : List (List ℕ)) → AreOf names ss → drop next names.locks ≡ map (λ (x : Name). x.text) xs ++ after
    → AreOf names (with_locks ss next xs)
of-with_locks names ss next [] after all e = all
of-with_locks names ss next (x ∷ xs) after all e =
    let here = at-drop names.locks next x.text (map (λ (x : Name). x.text) xs ++ after) e in
    of-with_locks names (declare x (meaning.Lock next) ss) (next + 1) xs after (of-declare names x (meaning.Lock next) ss here.there all) here.behind

of-with_functions : (names : Names) (ss : Scopes) (next : ℕ) (xs : List Name) → AreOf names ss → drop next names.functions ≡ map (λ (x : Name). x.text) xs → AreOf names (with_functions ss next xs)
of-with_functions names ss next [] all e = all
of-with_functions names ss next (x ∷ xs) all e =
    let here = at-drop names.functions next x.text (map (λ (x : Name). x.text) xs) e in
    of-with_functions names (declare x (meaning.Function next) ss) (next + 1) xs (of-declare names x (meaning.Function next) ss here.there all) here.behind

abbrev Both : Names → Scopes → Next → List plain.Item → Type 0
Both names ss next items = AreOf names ss × GoesOn names next items

at-first : (items : List plain.Item) (ls : List plain.Local) → Both (names_of items ls) (first_scopes items) first_next items
at-first items ls = (
  (tt, of-with_functions (names_of items ls) (open_scope []) 0 (functions_in items) (tt, tt) refl),
  record { variables = refl; locks = refl; functions = refl },
)

behind-item : (names : Names) (ss : Scopes) (next : Next) (item : plain.Item) (items : List plain.Item) → AreOf names ss → GoesOn names next (item ∷ items) → Both names (behind_item ss next item) (past_item next item) items
behind-item names ss next (plain.Item.Globals gs) items all on =
    let parts : drop next.global names.variables ≡ map (λ (g : plain.Global). g.name.text) gs ++ map (λ (g : plain.Global). g.name.text) (globals_in items) =
    on.variables ∙ map-append (λ (g : plain.Global). g.name.text) gs (globals_in items) in (
      of-with_globals names ss next.global gs (map (λ (g : plain.Global). g.name.text) (globals_in items)) all parts,
      record { variables = drop-both (λ (g : plain.Global). g.name.text) names.variables next.global gs _ parts; locks = on.locks; functions = on.functions },
    )
behind-item names ss next (plain.Item.Locks xs) items all on =
    let parts : drop next.lock names.locks ≡ map (λ (x : Name). x.text) xs ++ map (λ (x : Name). x.text) (locks_in items) = on.locks ∙ map-append (λ (x : Name). x.text) xs (locks_in items) in (
      of-with_locks names ss next.lock xs (map (λ (x : Name). x.text) (locks_in items)) all parts,
      record { variables = on.variables; locks = drop-both (λ (x : Name). x.text) names.locks next.lock xs _ parts; functions = on.functions },
    )
behind-item names ss next (plain.Item.Handles from xs) items all on = (of-with_handles names ss xs all, record { variables = on.variables; locks = on.locks; functions = on.functions })
behind-item names ss next (plain.Item.Thread name body) items all on =
    let here = at-drop names.functions next.function name.text (map (λ (x : Name). x.text) (functions_in items)) on.functions in
    (of-declare names name (meaning.Function next.function) ss here.there all, record { variables = on.variables; locks = on.locks; functions = here.behind })
behind-item names ss next (plain.Item.Main from body) items all on = (all, record { variables = on.variables; locks = on.locks; functions = on.functions })
behind-item names ss next (plain.Item.Prototype name) items all on = (all, record { variables = on.variables; locks = on.locks; functions = on.functions })
behind-item names ss next (plain.Item.Profile from) items all on = (all, record { variables = on.variables; locks = on.locks; functions = on.functions })

in-body : (names : Names) (ss : Scopes) (next : Next) (name : Name) (body : plain.Stmts) (items : List plain.Item) → AreOf names ss → GoesOn names next (plain.Item.Thread name body ∷ items) → AreOf names (body_scopes ss next name)
in-body names ss next name body items all on = (tt, (behind-item names ss next (plain.Item.Thread name body) items all on).0)

-- ---- creations

abbrev pub Creates : Names → Name × ℕ → Type 0
Creates names c = IsOf names c.0.text (meaning.Function c.1)

of-creation : (names : Names) (p : Place) (ss : Scopes) (next : ℕ) (s : plain.Stmt) → AreOf names ss → stmt_broken p ss next s ≡ [] → AllByRecursion (Creates names) (creation_in ss s)
of-creation names p ss next (plain.Stmt.Calls (plain.Call.Create from handle function)) all none =
    (of-function_of names ss function all (three-none (only_in_main p from) (unknown_as kind.Handle ss handle) (unknown_as kind.Function ss function) none).2, tt)
of-creation names p ss next s all none = tt

of-created : (names : Names) (p : Place) (ss : Scopes) (next : ℕ) (body : plain.Stmts) → AreOf names ss → HasLocals names next (stmts_locals body) → stmts_broken p ss next body ≡ []
    → AllByRecursion (Creates names) (created_from ss next body)
of-created names p ss next plain.Stmts.End all has none = tt
of-created names p ss next (plain.Stmts.Then s rest) all has none =
    let parts = in-parts names next (stmt_locals s) (stmts_locals rest) has in
    let nones = append-none (stmt_broken p ss next s) (stmts_broken p (behind ss next s) (past next s) rest) none in
    subst (AllByRecursion (Creates names)) (sym (created_from-then ss next s rest))
    (all-append (Creates names) (creation_in ss s) (created_from (behind ss next s) (past next s) rest) (of-creation names p ss next s all nones.0)
    (of-created names p (behind ss next s) (past next s) rest (of-behind names ss next s all parts.0) parts.1 nones.1))

-- with other locals
abbrev having : Names → List plain.Local → Names
having names ls = record names { locals = local_names ls }

of-creations : (names : Names) (ss : Scopes) (next : Next) (has_main : Bool) (end : ℕ) (items : List plain.Item) → ((ls : List plain.Local) → Both (having names ls) ss next items)
    → items_broken ss next has_main end items ≡ [] → AllByRecursion (Creates names) (created_in ss next items)
of-creations names ss next has_main end [] both none = tt
of-creations names ss next has_main end (plain.Item.Main from body ∷ items) both none =
    let p : Place = record { is_in_thread = false; is_in_atomic = false } in
    let item : plain.Item = plain.Item.Main from body in
    let nones = append-none (item_broken ss next has_main item) (items_broken (behind_item ss next item) (past_item next item) (or_main has_main item) end items) none in
    let main = append-none (broken_if has_main bad_main from) (main_broken ss body) nones.0 in
    let parts = three-none (stmts_broken p (open_scope ss) 0 body) (form_broken phase.Creating body) (too_many_created (created_from (open_scope ss) 0 body)) main.1 in
    of-created (having names (stmts_locals body)) p (open_scope ss) 0 body (tt, (both (stmts_locals body)).0) ([], sym (append-nil (local_names (stmts_locals body)))) parts.0
of-creations names ss next has_main end (item ∷ items) both none =
    let nones = append-none (item_broken ss next has_main item) (items_broken (behind_item ss next item) (past_item next item) (or_main has_main item) end items) none in
    of-creations names (behind_item ss next item) (past_item next item) (or_main has_main item) end items (λ ls. behind-item (having names ls) ss next item items (both ls).0 (both ls).1) nones.1

pub of-all_creations : (tree : plain.Tree) (ls : List plain.Local) → broken_in tree ≡ [] → AllByRecursion (Creates (names_of tree.items ls)) (creations_of tree)
of-all_creations tree ls none = of-creations (names_of tree.items ls) (first_scopes tree.items) first_next false tree.end tree.items (λ more. at-first tree.items more) none

pub numbers_of_declarations : NumbersAreOfDeclarations
numbers_of_declarations = record {
  at_first = at-first;
  behind_items = behind-item;
  in_bodies = in-body;
  behind_stmts = of-behind;
  behind_first = of-with_first;
  in_parts = in-parts;
  in_scopes = λ names ss all. (tt, all);
  variables = of-variable_of;
  locks = of-lock_of;
  functions = of-function_of;
  creations = of-all_creations;
}
