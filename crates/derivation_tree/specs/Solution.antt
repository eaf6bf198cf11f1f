-- Linear solutions of a tree: a row at each node that follows from its own rows and its premises' rows, and at the root a contradiction.
use Rattle.std.specs.Prelude.{◌≡◌, ℕ, ℤ, false, List, [], ◌∷◌, ◌++◌, length}
use Rattle.std.specs.List.{AllByRecursion}
use Rattle.lin_rows.specs.Row.{Row, MeetsOver}
use Rattle.lin_rows.specs.System.{IsRationalPoint}
use Rattle.farkas_cert.specs.Cert.{IsContradiction}
use Rattle.transition_formula.specs.Program.{Program}
use Rattle.horn_rules.specs.Home.{Home, home_width}
use Rattle.horn_rules.specs.Fact.{Statement}
use Rattle.horn_rules.specs.Instance as instance
use Rattle.horn_rules.specs.Case.{Case, IsCaseOf}
use Rattle.horn_rules.specs.Scope.{IsModular}
use Rattle.derivation_tree.specs.Tree.{Tree, Init, Own, Guar, Env, Inter}

-- the row at a node, and the node's home
pub record NodeRow : Type 0 where
  pub home : Home
  pub row : Row

-- the statement that one row holds at a home
abbrev pub says : NodeRow → Statement
says at = record { home = at.home; atoms = at.row ∷ [] }

-- The row follows: it is an inequality over the columns of the case's home, and each rational point of the case's rows, those of the premises
-- among them, meets it.
pub record Follows (program : Program) (given : Case) (at : NodeRow) : Type 0 where
  pub at_target : at.home ≡ given.target
  pub no_equality : at.row.equal ≡ false
  pub one_each : length at.row.coefficients ≡ home_width (length program.columns) at.home
  pub meets : (x : List ℤ) (d : ℤ) → IsRationalPoint given.system x d → MeetsOver (given.place at.row) x d

-- The tree's nodes have these rows, in the order of the nodes, which follow one from another; the root has this one.
pub data Solves (program : Program) : Tree → List NodeRow → NodeRow → Type 0 where
  init : (i : ℕ) (given : Case) (at : NodeRow) → IsCaseOf program (instance.Init i) given → Follows program given at → Solves program (Init i) (at ∷ []) at
  own : (f : Tree) (e : ℕ) (rows : List NodeRow) (first : NodeRow) (given : Case) (at : NodeRow) → Solves program f rows first
      → IsCaseOf program (instance.Own (says first) e) given → Follows program given at → Solves program (Own f e) (rows ++ at ∷ []) at
  guar : (f : Tree) (e : ℕ) (rows : List NodeRow) (first : NodeRow) (given : Case) (at : NodeRow) → Solves program f rows first
      → IsCaseOf program (instance.Guar (says first) e) given → Follows program given at → Solves program (Guar f e) (rows ++ at ∷ []) at
  env : (f t : Tree) (rows told : List NodeRow) (first second : NodeRow) (given : Case) (at : NodeRow) → Solves program f rows first → Solves program t told second
      → IsCaseOf program (instance.Env (says first) (says second)) given → Follows program given at → Solves program (Env f t) (rows ++ (told ++ at ∷ [])) at
  inter : (f g : Tree) (e : ℕ) (rows others : List NodeRow) (first second : NodeRow) (given : Case) (at : NodeRow) → Solves program f rows first → Solves program g others second
      → IsCaseOf program (instance.Inter (says first) (says second) e) given → Follows program given at → Solves program (Inter f g e) (rows ++ (others ++ at ∷ [])) at

-- The rows are a solution of the tree: that of the root is a contradiction.
pub record IsSolution (program : Program) (tree : Tree) (rows : List NodeRow) : Type 0 where
  pub root : NodeRow
  pub solves : Solves program tree rows root
  pub contradicts : IsContradiction root.row

-- Each row is in the modular scope of its home.
abbrev pub AreModular : Program → List NodeRow → Type 0
AreModular program rows = AllByRecursion (λ at. IsModular program at.home at.row) rows

-- The tree has a solution, and one whose rows are in the modular scopes of their homes.
abbrev pub HasSolution : Program → Tree → Type 0
HasSolution program tree = (rows : List NodeRow) × IsSolution program tree rows

abbrev pub HasModularSolution : Program → Tree → Type 0
HasModularSolution program tree = (rows : List NodeRow) × IsSolution program tree rows × AreModular program rows
