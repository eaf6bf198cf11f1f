-- What is known of the names of a text: they are words.
use Rattle.std.specs.Prelude.{◌≡◌, ℕ, List, true}
use Rattle.std.specs.List.{AllByRecursion}
use Rattle.thr_base.specs.ColumnText.{is_c_name}
use Rattle.c_tree.specs.declared.expr.Name.{Name}
use Rattle.c_tree.specs.Plain as plain
use Rattle.c_check.specs.Program.{Function, functions_of, globals_in, locks_in}

-- The bytes are a C name.
abbrev pub IsWord : List ℕ → Type 0
IsWord name = is_c_name name ≡ true

-- The names of the variables and locks that all threads share, and of the locals of thread functions, are words.
pub record AreWords (tree : plain.Tree) : Type 0 where
  pub globals : AllByRecursion (λ (g : plain.Global). IsWord g.name.text) (globals_in tree.items)
  pub locks : AllByRecursion (λ (x : Name). IsWord x.text) (locks_in tree.items)
  pub locals : AllByRecursion (λ (f : Function). AllByRecursion (λ (l : plain.Local). IsWord l.name.text) f.locals) (functions_of tree)
