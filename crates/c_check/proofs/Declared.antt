-- The variables and locks that all threads share have names that differ, where no name is declared twice.
use Rattle.std.proofs.Common.{◌≡◌, ◌≢◌, ℕ, ◌+◌, ◌<◌, Bool, true, false, cond, List, [], ◌∷◌, ◌++◌, length, Some, refl, sym, subst, ◌∙◌, arith}
use Rattle.std.specs.Prelude.{bytes_eq, is_some}
use Rattle.std.specs.List.{AllByRecursion}
use Rattle.std.proofs.lemmas.Bool.{true≢false}
use Rattle.std.proofs.lemmas.Slice.Eq.{bytes_eq-Decides}
use Rattle.thr_base.specs.Refusals.{twice_named}
use Rattle.c_tree.specs.declared.expr.Name.{Name}
use Rattle.c_tree.specs.Plain as plain
use Rattle.c_check.specs.declared.meaning.Variable.TheVariants as variable
use Rattle.c_check.specs.declared.meaning.Meaning.{Meaning}
use Rattle.c_check.specs.declared.meaning.Meaning.TheVariants as meaning
use Rattle.c_check.specs.Scope.{Scope, Scopes, declare, in_scope}
use Rattle.c_check.specs.Broken.{broken_if, is_in_innermost, twice}
use Rattle.c_check.specs.Resolve.{with_handles}
use Rattle.c_check.specs.Program.{Next, behind_item, broken_in, first_next, first_scopes, globals_broken, globals_in, item_broken, items_broken, locks_broken, locks_in, or_main, past_item, with_globals, with_locks}
use Rattle.c_check.proofs.Lists.{AllByRecursion-append, AllByRecursion-weaken, Apart, ApartFrom, apart-append}
use Rattle.c_check.proofs.Named.{append-none}

-- ---- one name more in a scope
bytes_eq-same : (xs : List ℕ) → bytes_eq xs xs ≡ true
bytes_eq-same xs = (bytes_eq-Decides xs xs).1 refl

-- a name that is in none of the whole is in none of its front
in_scope-front : (x : List ℕ) (s bs : Scope) → is_some (in_scope x (s ++ bs)) ≡ false → is_some (in_scope x s) ≡ false
in_scope-front x [] bs e = refl
in_scope-front x (b ∷ s) bs e = by (bytes_eq x b.name) (in_scope-front x s bs) e
  where
    by : (same : Bool) → (is_some (in_scope x (s ++ bs)) ≡ false → is_some (in_scope x s) ≡ false) → is_some (cond same (Some b.stands_for) (in_scope x (s ++ bs))) ≡ false → is_some (cond same (Some b.stands_for) (in_scope x s)) ≡ false
    by true more e = e
    by false more e = more e

-- a name at the end is there
in_scope-last : (x : List ℕ) (s : Scope) (m : Meaning) → is_some (in_scope x (s ++ record { name = x; stands_for = m } ∷ [])) ≡ true
in_scope-last x [] m = rw (bytes_eq-same x) refl
in_scope-last x (b ∷ s) m = by (bytes_eq x b.name) (in_scope-last x s m)
  where
    by : (same : Bool) → is_some (in_scope x (s ++ record { name = x; stands_for = m } ∷ [])) ≡ true → is_some (cond same (Some b.stands_for) (in_scope x (s ++ record { name = x; stands_for = m } ∷ []))) ≡ true
    by true more = refl
    by false more = more

-- The innermost scope has not this name.
abbrev Fresh : Scopes → List ℕ → Type 0
Fresh ss x = is_in_innermost x ss ≡ false

-- what is not there behind a declaration is not there in front of it
fresh-declare : (ss : Scopes) (y : Name) (m : Meaning) (x : List ℕ) → Fresh (declare y m ss) x → Fresh ss x
fresh-declare [] y m x e = refl
fresh-declare (s ∷ ss) y m x e = by (is_some (in_scope y.text s)) e
  where
    by : (there : Bool) → is_some (in_scope x (cond there s (s ++ record { name = y.text; stands_for = m } ∷ []))) ≡ false → is_some (in_scope x s) ≡ false
    by true e = e
    by false e = in_scope-front x s (record { name = y.text; stands_for = m } ∷ []) e

-- what is not there behind a declaration is another name
fresh-other : (ss : Scopes) (y : Name) (m : Meaning) (x : List ℕ) → 0 < length ss → Fresh (declare y m ss) x → y.text ≢ x
fresh-other [] y m x h e same = absurd (omega arith)
fresh-other (s ∷ ss) y m x h e same = by (is_some (in_scope y.text s)) refl (subst (λ z. Fresh (declare y m (s ∷ ss)) z) (sym same) e)
  where
    by : (there : Bool) → is_some (in_scope y.text s) ≡ there
        → is_some (in_scope y.text (cond there s (s ++ record { name = y.text; stands_for = m } ∷ []))) ≡ false → ⊥
    by true found none = true≢false (sym found ∙ none)
    by false found none = true≢false (sym (in_scope-last y.text s m) ∙ none)

-- a declaration opens no scope
declare-length : (ss : Scopes) (y : Name) (m : Meaning) → length (declare y m ss) ≡ length ss
declare-length [] y m = refl
declare-length (s ∷ ss) y m = refl

-- a name that is not declared twice is not there
fresh-from : (ss : Scopes) (x : Name) → twice ss x ≡ [] → Fresh ss x.text
fresh-from ss x e = by (is_in_innermost x.text ss) e
  where
    by : (there : Bool) → broken_if there twice_named x.from ≡ [] → there ≡ false
    by true e = absurd cc
    by false e = refl

-- ---- variables and locks
abbrev name_of : plain.Global → List ℕ
name_of g = g.name.text

abbrev text_of : Name → List ℕ
text_of x = x.text

-- variables open no scope
globals-length : (ss : Scopes) (next : ℕ) (gs : List plain.Global) → length (with_globals ss next gs) ≡ length ss
globals-length ss next [] = refl
globals-length ss next (g ∷ gs) = globals-length (declare g.name (meaning.Integer (variable.Shared next)) ss) (next + 1) gs ∙ declare-length ss g.name (meaning.Integer (variable.Shared next))

-- what is not there behind variables is not there in front of them
globals-fresh : (ss : Scopes) (next : ℕ) (gs : List plain.Global) (x : List ℕ) → Fresh (with_globals ss next gs) x → Fresh ss x
globals-fresh ss next [] x e = e
globals-fresh ss next (g ∷ gs) x e =
    fresh-declare ss g.name (meaning.Integer (variable.Shared next)) x (globals-fresh (declare g.name (meaning.Integer (variable.Shared next)) ss) (next + 1) gs x e)

-- and has another name than each of them
globals-other : (ss : Scopes) (next : ℕ) (gs : List plain.Global) (x : List ℕ) → 0 < length ss → Fresh (with_globals ss next gs) x → AllByRecursion (λ g. name_of g ≢ x) gs
globals-other ss next [] x h e = tt
globals-other ss next (g ∷ gs) x h e =
    let m : Meaning = meaning.Integer (variable.Shared next) in
    (fresh-other ss g.name m x h (globals-fresh (declare g.name m ss) (next + 1) gs x e), globals-other (declare g.name m ss) (next + 1) gs x (omega (arith, h, declare-length ss g.name m)) e)

-- Names that are not there yet, each once.
record AreNew {X : Type 0} (ss : Scopes) (text : X → List ℕ) (xs : List X) : Type 0 where
  fresh : AllByRecursion (λ x. Fresh ss (text x)) xs
  apart : Apart text xs

-- variables that are not refused are new
globals-new : (ss : Scopes) (next : ℕ) (gs : List plain.Global) → 0 < length ss → globals_broken ss next gs ≡ [] → AreNew ss name_of gs
globals-new ss next [] h e = record { fresh = tt; apart = tt }
globals-new ss next (g ∷ gs) h e =
    let m : Meaning = meaning.Integer (variable.Shared next) in
    let rest = globals_broken (declare g.name m ss) (next + 1) gs in
    let more = globals-new (declare g.name m ss) (next + 1) gs (omega (arith, h, declare-length ss g.name m)) ((append-none (twice ss g.name) rest e).1) in
    record {
      fresh = (
        fresh-from ss g.name ((append-none (twice ss g.name) rest e).0),
        AllByRecursion-weaken (λ y. Fresh (declare g.name m ss) (name_of y)) (λ y. Fresh ss (name_of y)) (λ y k. fresh-declare ss g.name m (name_of y) k) gs more.fresh,
      );
      apart = (AllByRecursion-weaken (λ y. Fresh (declare g.name m ss) (name_of y)) (λ y. g.name.text ≢ name_of y) (λ y k. fresh-other ss g.name m (name_of y) h k) gs more.fresh, more.apart);
    }

-- locks open no scope
locks-length : (ss : Scopes) (next : ℕ) (xs : List Name) → length (with_locks ss next xs) ≡ length ss
locks-length ss next [] = refl
locks-length ss next (x ∷ xs) = locks-length (declare x (meaning.Lock next) ss) (next + 1) xs ∙ declare-length ss x (meaning.Lock next)

-- what is not there behind locks is not there in front of them
locks-fresh : (ss : Scopes) (next : ℕ) (xs : List Name) (x : List ℕ) → Fresh (with_locks ss next xs) x → Fresh ss x
locks-fresh ss next [] x e = e
locks-fresh ss next (y ∷ ys) x e = fresh-declare ss y (meaning.Lock next) x (locks-fresh (declare y (meaning.Lock next) ss) (next + 1) ys x e)

-- and has another name than each of them
locks-other : (ss : Scopes) (next : ℕ) (xs : List Name) (x : List ℕ) → 0 < length ss → Fresh (with_locks ss next xs) x → AllByRecursion (λ y. text_of y ≢ x) xs
locks-other ss next [] x h e = tt
locks-other ss next (y ∷ ys) x h e =
    let m : Meaning = meaning.Lock next in
    (fresh-other ss y m x h (locks-fresh (declare y m ss) (next + 1) ys x e), locks-other (declare y m ss) (next + 1) ys x (omega (arith, h, declare-length ss y m)) e)

-- locks that are not refused are new
locks-new : (ss : Scopes) (next : ℕ) (xs : List Name) → 0 < length ss → locks_broken ss next xs ≡ [] → AreNew ss text_of xs
locks-new ss next [] h e = record { fresh = tt; apart = tt }
locks-new ss next (x ∷ xs) h e =
    let m : Meaning = meaning.Lock next in
    let rest = locks_broken (declare x m ss) (next + 1) xs in
    let more = locks-new (declare x m ss) (next + 1) xs (omega (arith, h, declare-length ss x m)) ((append-none (twice ss x) rest e).1) in
    record {
      fresh = (
        fresh-from ss x ((append-none (twice ss x) rest e).0),
        AllByRecursion-weaken (λ y. Fresh (declare x m ss) (text_of y)) (λ y. Fresh ss (text_of y)) (λ y k. fresh-declare ss x m (text_of y) k) xs more.fresh,
      );
      apart = (AllByRecursion-weaken (λ y. Fresh (declare x m ss) (text_of y)) (λ y. x.text ≢ text_of y) (λ y k. fresh-other ss x m (text_of y) h k) xs more.fresh, more.apart);
    }

-- handles open no scope
handles-length : (ss : Scopes) (xs : List Name) → length (with_handles ss xs) ≡ length ss
handles-length ss [] = refl
handles-length ss (x ∷ xs) = handles-length (declare x meaning.Handle ss) xs ∙ declare-length ss x meaning.Handle

-- what is not there behind handles is not there in front of them
handles-fresh : (ss : Scopes) (xs : List Name) (x : List ℕ) → Fresh (with_handles ss xs) x → Fresh ss x
handles-fresh ss [] x e = e
handles-fresh ss (y ∷ ys) x e = fresh-declare ss y meaning.Handle x (handles-fresh (declare y meaning.Handle ss) ys x e)

-- ---- items
-- no item opens a scope
item-length : (ss : Scopes) (next : Next) (item : plain.Item) → length (behind_item ss next item) ≡ length ss
item-length ss next (plain.Item.Globals gs) = globals-length ss next.global gs
item-length ss next (plain.Item.Locks names) = locks-length ss next.lock names
item-length ss next (plain.Item.Handles from names) = handles-length ss names
item-length ss next (plain.Item.Thread name body) = declare-length ss name (meaning.Function next.function)
item-length ss next (plain.Item.Main from body) = refl
item-length ss next (plain.Item.Prototype name) = refl
item-length ss next (plain.Item.Profile from) = refl

-- what is not there behind an item is not there in front of it
item-fresh : (ss : Scopes) (next : Next) (item : plain.Item) (x : List ℕ) → Fresh (behind_item ss next item) x → Fresh ss x
item-fresh ss next (plain.Item.Globals gs) x e = globals-fresh ss next.global gs x e
item-fresh ss next (plain.Item.Locks names) x e = locks-fresh ss next.lock names x e
item-fresh ss next (plain.Item.Handles from names) x e = handles-fresh ss names x e
item-fresh ss next (plain.Item.Thread name body) x e = fresh-declare ss name (meaning.Function next.function) x e
item-fresh ss next (plain.Item.Main from body) x e = e
item-fresh ss next (plain.Item.Prototype name) x e = e
item-fresh ss next (plain.Item.Profile from) x e = e

-- The variables and locks have names that are not there yet and that differ.
record AreDeclared (ss : Scopes) (gs : List plain.Global) (xs : List Name) : Type 0 where
  globals : AreNew ss name_of gs
  locks : AreNew ss text_of xs
  cross : ApartFrom name_of text_of gs xs

-- so it is in front of an item
declared-before : (ss : Scopes) (next : Next) (item : plain.Item) (gs : List plain.Global) (xs : List Name) → AreDeclared (behind_item ss next item) gs xs → AreDeclared ss gs xs
declared-before ss next item gs xs d =
    let after = behind_item ss next item in
    record {
      globals = record { fresh = AllByRecursion-weaken (λ g. Fresh after (name_of g)) (λ g. Fresh ss (name_of g)) (λ g k. item-fresh ss next item (name_of g) k) gs d.globals.fresh; apart = d.globals.apart };
      locks = record { fresh = AllByRecursion-weaken (λ x. Fresh after (text_of x)) (λ x. Fresh ss (text_of x)) (λ x k. item-fresh ss next item (text_of x) k) xs d.locks.fresh; apart = d.locks.apart };
      cross = d.cross;
    }

-- all of these differ from all of those, where each of those differs from all of these
all-turned : {X Y : Type 0} (text : X → List ℕ) (other : Y → List ℕ) (xs : List X) (ys : List Y) → AllByRecursion (λ y. AllByRecursion (λ x. text x ≢ other y) xs) ys → ApartFrom text other xs ys
all-turned text other [] ys all = tt
all-turned text other (x ∷ xs) ys all = (
  AllByRecursion-weaken (λ y. AllByRecursion (λ z. text z ≢ other y) (x ∷ xs)) (λ y. text x ≢ other y) (λ y h. h.0) ys all,
  all-turned text other xs ys (AllByRecursion-weaken (λ y. AllByRecursion (λ z. text z ≢ other y) (x ∷ xs)) (λ y. AllByRecursion (λ z. text z ≢ other y) xs) (λ y h. h.1) ys all),
)

-- with an item of variables
declared-globals : (ss : Scopes) (next : Next) (here gs : List plain.Global) (xs : List Name) → 0 < length ss → globals_broken ss next.global here ≡ []
    → AreDeclared (behind_item ss next (plain.Item.Globals here)) gs xs → AreDeclared ss (here ++ gs) xs
declared-globals ss next here gs xs h e d =
    let after = with_globals ss next.global here in
    let before = declared-before ss next (plain.Item.Globals here) gs xs d in
    let new = globals-new ss next.global here h e in
    let later : ApartFrom name_of name_of here gs = all-turned name_of name_of here gs
    (AllByRecursion-weaken (λ g. Fresh after (name_of g)) (λ y. AllByRecursion (λ g. name_of g ≢ name_of y) here) (λ y k. globals-other ss next.global here (name_of y) h k) gs d.globals.fresh) in
    let locks : ApartFrom name_of text_of here xs = all-turned name_of text_of here xs
    (AllByRecursion-weaken (λ x. Fresh after (text_of x)) (λ y. AllByRecursion (λ g. name_of g ≢ text_of y) here) (λ y k. globals-other ss next.global here (text_of y) h k) xs d.locks.fresh) in
    record {
      globals = record {
        fresh = AllByRecursion-append (λ g. Fresh ss (name_of g)) here gs new.fresh before.globals.fresh;
        apart = apart-append name_of here gs new.apart before.globals.apart later;
      };
      locks = before.locks;
      cross = AllByRecursion-append (λ g. AllByRecursion (λ y. name_of g ≢ text_of y) xs) here gs locks d.cross;
    }

-- each of these differs from all of the first and all of the second
cross-append : (gs : List plain.Global) (here xs : List Name) → ApartFrom name_of text_of gs here → ApartFrom name_of text_of gs xs → ApartFrom name_of text_of gs (here ++ xs)
cross-append [] here xs p q = tt
cross-append (g ∷ gs) here xs p q = (AllByRecursion-append (λ y. name_of g ≢ text_of y) here xs p.0 q.0, cross-append gs here xs p.1 q.1)

-- with an item of locks
declared-locks : (ss : Scopes) (next : Next) (here : List Name) (gs : List plain.Global) (xs : List Name) → 0 < length ss → locks_broken ss next.lock here ≡ []
    → AreDeclared (behind_item ss next (plain.Item.Locks here)) gs xs → AreDeclared ss gs (here ++ xs)
declared-locks ss next here gs xs h e d =
    let after = with_locks ss next.lock here in
    let before = declared-before ss next (plain.Item.Locks here) gs xs d in
    let new = locks-new ss next.lock here h e in
    let later : ApartFrom text_of text_of here xs = all-turned text_of text_of here xs
    (AllByRecursion-weaken (λ x. Fresh after (text_of x)) (λ y. AllByRecursion (λ x. text_of x ≢ text_of y) here) (λ y k. locks-other ss next.lock here (text_of y) h k) xs d.locks.fresh) in
    let globals : ApartFrom name_of text_of gs here =
    AllByRecursion-weaken (λ g. Fresh after (name_of g)) (λ g. AllByRecursion (λ x. name_of g ≢ text_of x) here)
    (λ g k. AllByRecursion-weaken (λ x. text_of x ≢ name_of g) (λ x. name_of g ≢ text_of x) (λ x other same. other (sym same)) here (locks-other ss next.lock here (name_of g) h k)) gs d.globals.fresh in
    record {
      globals = before.globals;
      locks = record {
        fresh = AllByRecursion-append (λ x. Fresh ss (text_of x)) here xs new.fresh before.locks.fresh;
        apart = apart-append text_of here xs new.apart before.locks.apart later;
      };
      cross = cross-append gs here xs globals d.cross;
    }

-- The variables and locks of items that are not refused are new.
items-declared : (ss : Scopes) (next : Next) (has_main : Bool) (end : ℕ) (items : List plain.Item) → 0 < length ss → items_broken ss next has_main end items ≡ []
    → AreDeclared ss (globals_in items) (locks_in items)
items-declared ss next has_main end [] h e = record { globals = record { fresh = tt; apart = tt }; locks = record { fresh = tt; apart = tt }; cross = tt }
items-declared ss next has_main end (item ∷ items) h e =
    let rest = items_broken (behind_item ss next item) (past_item next item) (or_main has_main item) end items in
    let more = items-declared (behind_item ss next item) (past_item next item) (or_main has_main item) end items (omega (arith, h, item-length ss next item)) ((append-none (item_broken ss next has_main item) rest e).1) in
    by item ((append-none (item_broken ss next has_main item) rest e).0) more
  where
    by : (item : plain.Item) → item_broken ss next has_main item ≡ [] → AreDeclared (behind_item ss next item) (globals_in items) (locks_in items)
        → AreDeclared ss (globals_in (item ∷ items)) (locks_in (item ∷ items))
    by (plain.Item.Globals gs) here more = declared-globals ss next gs (globals_in items) (locks_in items) h here more
    by (plain.Item.Locks names) here more = declared-locks ss next names (globals_in items) (locks_in items) h here more
    by (plain.Item.Handles from names) here more = declared-before ss next (plain.Item.Handles from names) (globals_in items) (locks_in items) more
    by (plain.Item.Thread name body) here more = declared-before ss next (plain.Item.Thread name body) (globals_in items) (locks_in items) more
    by (plain.Item.Main from body) here more = more
    by (plain.Item.Prototype name) here more = more
    by (plain.Item.Profile from) here more = more

-- The names of a text's variables and locks differ.
pub record NamesDiffer (tree : plain.Tree) : Type 0 where
  pub globals : Apart name_of (globals_in tree.items)
  pub locks : Apart text_of (locks_in tree.items)
  pub cross : ApartFrom name_of text_of (globals_in tree.items) (locks_in tree.items)

-- The names of variables and locks differ in a text of which nothing is refused.
pub names-differ : (tree : plain.Tree) → broken_in tree ≡ [] → NamesDiffer tree
names-differ tree e =
    let d = items-declared (first_scopes tree.items) first_next false tree.end tree.items (omega arith) e in
    record { globals = d.globals.apart; locks = d.locks.apart; cross = d.cross }
