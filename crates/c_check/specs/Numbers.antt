-- What the numbers of names tell: number n is that of the n-th declaration of its kind, from 0, which declares this name.
use Rattle.std.specs.Prelude.{◌≡◌, ◌+◌, ℕ, List, [], ◌∷◌, ◌++◌, length, map, drop, slice_get, Some}
use Rattle.std.specs.List.{AllByRecursion}
use Rattle.c_tree.specs.declared.expr.Name.{Name}
use Rattle.c_tree.specs.Plain as plain
use Rattle.c_check.specs.declared.meaning.Variable.TheVariants as variable
use Rattle.c_check.specs.declared.meaning.Meaning.{Meaning}
use Rattle.c_check.specs.declared.meaning.Meaning.TheVariants as meaning
use Rattle.c_check.specs.declared.uses.Kind.TheVariants as kind
use Rattle.c_check.specs.Scope.{Scopes, function_of, lock_of, open_scope, variable_of}
use Rattle.c_check.specs.Resolve.{behind, first_locals, stmt_locals, with_first}
use Rattle.c_check.specs.Broken.{unknown_as}
use Rattle.c_check.specs.Program.{Next, behind_item, body_scopes, broken_in, creations_of, first_next, first_scopes, functions_in, globals_in, locks_in, past_item}

-- the names of what has numbers, in the order of their declarations: the variables, locks and thread functions of a text, and the
-- locals of one function
pub record Names : Type 0 where
  pub variables : List (List ℕ)
  pub locks : List (List ℕ)
  pub functions : List (List ℕ)
  pub locals : List (List ℕ)

abbrev pub local_names : List plain.Local → List (List ℕ)
local_names ls = map (λ (l : plain.Local). l.name.text) ls

-- in a function with these locals
abbrev pub names_of : List plain.Item → List plain.Local → Names
names_of items ls = record {
  variables = map (λ (g : plain.Global). g.name.text) (globals_in items);
  locks = map (λ (x : Name). x.text) (locks_in items);
  functions = map (λ (x : Name). x.text) (functions_in items);
  locals = local_names ls;
}

-- What a name stands for has the number of a declaration of this name.
abbrev pub IsOf : Names → List ℕ → Meaning → Type 0
IsOf names name (meaning.Integer (variable.Shared n)) = slice_get names.variables n ≡ Some name
IsOf names name (meaning.Integer (variable.Own n)) = slice_get names.locals n ≡ Some name
IsOf names name (meaning.Lock n) = slice_get names.locks n ≡ Some name
IsOf names name (meaning.Function n) = slice_get names.functions n ≡ Some name
IsOf names name meaning.Handle = Unit {0}

-- So it is for each name that is visible.
abbrev pub AreOf : Names → Scopes → Type 0
AreOf names ss = AllByRecursion (λ s. AllByRecursion (λ b. IsOf names b.name b.stands_for) s) ss

-- What is declared from these items on has the numbers from these on.
pub record GoesOn (names : Names) (next : Next) (items : List plain.Item) : Type 0 where
  pub variables : drop next.global names.variables ≡ map (λ (g : plain.Global). g.name.text) (globals_in items)
  pub locks : drop next.lock names.locks ≡ map (λ (x : Name). x.text) (locks_in items)
  pub functions : drop next.function names.functions ≡ map (λ (x : Name). x.text) (functions_in items)

-- The locals from a number on begin with these.
abbrev pub HasLocals : Names → ℕ → List plain.Local → Type 0
HasLocals names next ls = (after : List (List ℕ)) × (drop next names.locals ≡ local_names ls ++ after)

-- ---- the law, from the front of a text on to each place at which a name is looked up

pub record NumbersAreOfDeclarations : Type 0 where
  -- in front of the text
  pub at_first : (items : List plain.Item) (ls : List plain.Local) → AreOf (names_of items ls) (first_scopes items) × GoesOn (names_of items ls) first_next items
  -- behind an item
  pub behind_items : (names : Names) (ss : Scopes) (next : Next) (item : plain.Item) (items : List plain.Item) → AreOf names ss → GoesOn names next (item ∷ items)
      → AreOf names (behind_item ss next item) × GoesOn names (past_item next item) items
  -- in the body of a thread function, in front of its first local
  pub in_bodies : (names : Names) (ss : Scopes) (next : Next) (name : Name) (body : plain.Stmts) (items : List plain.Item) → AreOf names ss
      → GoesOn names next (plain.Item.Thread name body ∷ items) → AreOf names (body_scopes ss next name)
  -- behind a statement, and behind the first part of a `for`
  pub behind_stmts : (names : Names) (ss : Scopes) (next : ℕ) (s : plain.Stmt) → AreOf names ss → HasLocals names next (stmt_locals s) → AreOf names (behind ss next s)
  pub behind_first : (names : Names) (ss : Scopes) (next : ℕ) (first : plain.First) → AreOf names ss → HasLocals names next (first_locals first) → AreOf names (with_first ss next first)
  -- for what is in a statement, and what stands behind one
  pub in_parts : (names : Names) (next : ℕ) (ls more : List plain.Local) → HasLocals names next (ls ++ more) → HasLocals names next ls × HasLocals names (next + length ls) more
  pub in_scopes : (names : Names) (ss : Scopes) → AreOf names ss → AreOf names (open_scope ss)
  -- A name that is not refused is looked up as what has its number.
  pub variables : (names : Names) (ss : Scopes) (x : Name) → AreOf names ss → unknown_as kind.Integer ss x ≡ [] → IsOf names x.text (meaning.Integer (variable_of ss x))
  pub locks : (names : Names) (ss : Scopes) (x : Name) → AreOf names ss → unknown_as kind.Lock ss x ≡ [] → IsOf names x.text (meaning.Lock (lock_of ss x))
  pub functions : (names : Names) (ss : Scopes) (x : Name) → AreOf names ss → unknown_as kind.Function ss x ≡ [] → IsOf names x.text (meaning.Function (function_of ss x))
  -- A thread that `main` creates runs the function that its creation names.
  pub creations : (tree : plain.Tree) (ls : List plain.Local) → broken_in tree ≡ [] → AllByRecursion (λ c. IsOf (names_of tree.items ls) c.0.text (meaning.Function c.1)) (creations_of tree)
