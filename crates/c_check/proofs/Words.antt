-- The names that columns are named by are C names, where all names that a tree has of its text are.
use Rattle.std.proofs.Common.{List, [], ◌∷◌, ◌++◌}
use Rattle.std.specs.List.{AllByRecursion}
use Rattle.c_tree.specs.declared.expr.Name.{Name}
use Rattle.c_tree.specs.Leaves.{Leaf, NamesAreOfC, assign_if_leaves, first_leaves, global_leaves, item_leaves, items_leaves, local_leaves, name_leaves, start_leaves, stmt_leaves, stmts_leaves, tree_leaves, value_if_leaves, value_leaves}
use Rattle.c_tree.specs.Plain as plain
use Rattle.c_check.specs.Scope.{Scopes}
use Rattle.c_check.specs.Resolve.{first_locals, stmt_locals, stmts_locals}
use Rattle.c_check.specs.Program.{Function, Next, behind_item, first_next, first_scopes, functions_from, globals_in, locks_in, past_item}
use Rattle.c_check.specs.inside.Words.{AreWords, IsWord}
use Rattle.c_check.proofs.Lists.{AllByRecursion-append}

-- the leaves of both parts
names-both : (leaves more : List Leaf) → NamesAreOfC (leaves ++ more) → NamesAreOfC leaves × NamesAreOfC more
names-both [] more are = (tt, are)
names-both (Leaf.Token said place ∷ leaves) more are = (let both = names-both leaves more are.1 in ((are.0, both.0), both.1))
names-both (Leaf.Number value ∷ leaves) more are = names-both leaves more are

abbrev IsWordLocal : plain.Local → Type 0
IsWordLocal l = IsWord l.name.text

abbrev AreWordLocals : List plain.Local → Type 0
AreWordLocals ls = AllByRecursion IsWordLocal ls

locals-words : (ls : List plain.Local) → NamesAreOfC (local_leaves ls) → AreWordLocals ls
locals-words [] are = tt
locals-words (l ∷ ls) are = (are.0, locals-words ls (names-both (value_if_leaves l.start) (local_leaves ls) are.1).1)

first-words : (f : plain.First) → NamesAreOfC (first_leaves f) → AreWordLocals (first_locals f)
first-words (plain.First.Declares from ls) are = locals-words ls are.1
first-words (plain.First.Assigns a) are = tt
first-words (plain.First.Nothing from) are = tt

mutual
  stmt-words : (s : plain.Stmt) → NamesAreOfC (stmt_leaves s) → AreWordLocals (stmt_locals s)
  stmt-words (plain.Stmt.Block from inner) are = stmts-words inner are.1
  stmt-words (plain.Stmt.Empty from) are = tt
  stmt-words (plain.Stmt.Locals from ls) are = locals-words ls are.1
  stmt-words (plain.Stmt.Assigns a) are = tt
  stmt-words (plain.Stmt.If from c s) are = stmt-words s (names-both (value_leaves c) (stmt_leaves s) are.1).1
  stmt-words (plain.Stmt.IfElse from c s t) are =
      let outer = names-both (value_leaves c ++ stmt_leaves s) (stmt_leaves t) are.1 in
      AllByRecursion-append IsWordLocal (stmt_locals s) (stmt_locals t) (stmt-words s (names-both (value_leaves c) (stmt_leaves s) outer.0).1) (stmt-words t outer.1)
  stmt-words (plain.Stmt.While from c s) are = stmt-words s (names-both (value_leaves c) (stmt_leaves s) are.1).1
  stmt-words (plain.Stmt.For from f c last s) are =
      let outer = names-both (first_leaves f ++ value_if_leaves c ++ assign_if_leaves last) (stmt_leaves s) are.1 in
      let front = names-both (first_leaves f ++ value_if_leaves c) (assign_if_leaves last) outer.0 in
      AllByRecursion-append IsWordLocal (first_locals f) (stmt_locals s) (first-words f (names-both (first_leaves f) (value_if_leaves c) front.0).0) (stmt-words s outer.1)
  stmt-words (plain.Stmt.Break from) are = tt
  stmt-words (plain.Stmt.Return from) are = tt
  stmt-words (plain.Stmt.Calls c) are = tt
  stmt-words (plain.Stmt.Atomic from inner) are = stmts-words inner are.1
  stmt-words (plain.Stmt.Handles from names) are = tt

  stmts-words : (body : plain.Stmts) → NamesAreOfC (stmts_leaves body) → AreWordLocals (stmts_locals body)
  stmts-words plain.Stmts.End are = tt
  stmts-words (plain.Stmts.Then s rest) are =
      let both = names-both (stmt_leaves s) (stmts_leaves rest) are in
      AllByRecursion-append IsWordLocal (stmt_locals s) (stmts_locals rest) (stmt-words s both.0) (stmts-words rest both.1)

-- ---- items

abbrev IsWordGlobal : plain.Global → Type 0
IsWordGlobal g = IsWord g.name.text

abbrev IsWordName : Name → Type 0
IsWordName x = IsWord x.text

globals-words : (gs : List plain.Global) → NamesAreOfC (global_leaves gs) → AllByRecursion IsWordGlobal gs
globals-words [] are = tt
globals-words (g ∷ gs) are = (are.0, globals-words gs (names-both (start_leaves g.start) (global_leaves gs) are.1).1)

names-words : (xs : List Name) → NamesAreOfC (name_leaves xs) → AllByRecursion IsWordName xs
names-words [] are = tt
names-words (x ∷ xs) are = (are.0, names-words xs are.1)

globals_in-words : (items : List plain.Item) → NamesAreOfC (items_leaves items) → AllByRecursion IsWordGlobal (globals_in items)
globals_in-words [] are = tt
globals_in-words (plain.Item.Globals gs ∷ items) are =
    (let both = names-both (global_leaves gs) (items_leaves items) are in AllByRecursion-append IsWordGlobal gs (globals_in items) (globals-words gs both.0) (globals_in-words items both.1))
globals_in-words (item ∷ items) are = globals_in-words items (names-both (item_leaves item) (items_leaves items) are).1

locks_in-words : (items : List plain.Item) → NamesAreOfC (items_leaves items) → AllByRecursion IsWordName (locks_in items)
locks_in-words [] are = tt
locks_in-words (plain.Item.Locks xs ∷ items) are =
    (let both = names-both (name_leaves xs) (items_leaves items) are in AllByRecursion-append IsWordName xs (locks_in items) (names-words xs both.0) (locks_in-words items both.1))
locks_in-words (item ∷ items) are = locks_in-words items (names-both (item_leaves item) (items_leaves items) are).1

functions-words : (ss : Scopes) (next : Next) (items : List plain.Item) → NamesAreOfC (items_leaves items) → AllByRecursion (λ (f : Function). AreWordLocals f.locals) (functions_from ss next items)
functions-words ss next [] are = tt
functions-words ss next (plain.Item.Thread name body ∷ items) are =
    let both = names-both (stmts_leaves body) (items_leaves items) are.1 in
    (stmts-words body both.0, functions-words (behind_item ss next (plain.Item.Thread name body)) (past_item next (plain.Item.Thread name body)) items both.1)
functions-words ss next (item ∷ items) are = functions-words (behind_item ss next item) (past_item next item) items (names-both (item_leaves item) (items_leaves items) are).1

pub are-words : (tree : plain.Tree) → NamesAreOfC (tree_leaves tree) → AreWords tree
are-words tree are = record {
  globals = globals_in-words tree.items are;
  locks = locks_in-words tree.items are;
  locals = functions-words (first_scopes tree.items) first_next tree.items are;
}
