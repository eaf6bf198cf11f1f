-- Laws of trees.
use Rattle.std.specs.Prelude.{◌≡◌, ℕ, ℤ, pos, List, flat_map, Some, slice_get}
use Rattle.lin_rows.specs.System.{IsPoint}
use Rattle.farkas_cert.specs.Cert.{Pairs, Refutes}
use Rattle.transition_formula.specs.Program.{Program, Thread, IsProgram, IsThreadOf}
use Rattle.transition_formula.specs.Run.{Run, IsRun}
use Rattle.horn_rules.specs.Home.{Home, State}
use Rattle.horn_rules.specs.Predicate.{Predicate}
use Rattle.derivation_tree.specs.declared.scope.Scope.TheVariants.{Modular, Full}
use Rattle.derivation_tree.specs.Facts.{KeptFact, home_at, AreKept}
use Rattle.derivation_tree.specs.Tree.{Tree, tree_of, IsTreeOf}
use Rattle.derivation_tree.specs.Nodes.{tree_nodes}
use Rattle.derivation_tree.specs.System.{share_scope, share_all, cut_system, full_system, chain_system}
use Rattle.derivation_tree.specs.Solution.{NodeRow, IsSolution, AreModular, HasSolution, HasModularSolution}
use Rattle.derivation_tree.specs.Sums.{sums_of, predicate_at, HasRationalPoint, IsTaught}
use Rattle.derivation_tree.specs.Chain.{chain_run}

-- The fact has a tree, which is one of the program and has the fact's home.
pub record HasTreeOf (program : Program) (facts : List KeptFact) (id : ℕ) (home : Home) : Type 0 where
  pub tree : Tree
  pub tree_is : tree_of facts id ≡ Some tree
  pub of_program : IsTreeOf program tree home

-- So has each fact that is kept.
abbrev pub FactsHaveTrees : Type 0
FactsHaveTrees = (program : Program) (facts : List KeptFact) (id : ℕ) (home : Home) → AreKept program facts → home_at facts id ≡ Some home → HasTreeOf program facts id home

-- The sums of a certificate that refutes the full system are a solution of the tree.
abbrev pub SumsAreSolutions : Type 0
SumsAreSolutions = (program : Program) (tree : Tree) (i l : ℕ) (pairs : Pairs) → IsProgram program → IsTreeOf program tree (State i l)
    → Refutes (full_system program tree) pairs → IsSolution program tree (sums_of (tree_nodes program share_all tree) pairs)

-- Those of one that refutes the cut system are a modular solution.
abbrev pub CutSumsAreModular : Type 0
CutSumsAreModular = (program : Program) (tree : Tree) (i l : ℕ) (pairs : Pairs) → IsProgram program → IsTreeOf program tree (State i l)
    → Refutes (cut_system program tree) pairs
    → IsSolution program tree (sums_of (tree_nodes program share_scope tree) pairs) × AreModular program (sums_of (tree_nodes program share_scope tree) pairs)

-- A tree whose cut system has a rational point has no modular solution.
abbrev pub CutPointsHaveNoModularSolution : Type 0
CutPointsHaveNoModularSolution = (program : Program) (tree : Tree) → HasRationalPoint (cut_system program tree) → ¬ HasModularSolution program tree

-- One whose full system has one has no solution at all.
abbrev pub FullPointsHaveNoSolution : Type 0
FullPointsHaveNoSolution = (program : Program) (tree : Tree) → HasRationalPoint (full_system program tree) → ¬ HasSolution program tree

-- The predicates are the normal forms of the rows of a solution of the tree.
pub record IsOfSolution (program : Program) (tree : Tree) (predicates : List Predicate) : Type 0 where
  pub rows : List NodeRow
  pub solution : IsSolution program tree rows
  pub forms : predicates ≡ flat_map (λ at. predicate_at at.home at.row) rows

-- What a tree teaches by its cut system is of a modular solution.
abbrev pub ModularLessonsAreModular : Type 0
ModularLessonsAreModular = (program : Program) (tree : Tree) (i l : ℕ) (predicates : List Predicate) → IsProgram program → IsTreeOf program tree (State i l)
    → IsTaught program tree Modular predicates → (lesson : IsOfSolution program tree predicates) × AreModular program lesson.rows

-- What it teaches by its full system is of a solution, and then it has no modular one.
abbrev pub FullLessonsAreNeeded : Type 0
FullLessonsAreNeeded = (program : Program) (tree : Tree) (i l : ℕ) (predicates : List Predicate) → IsProgram program → IsTreeOf program tree (State i l)
    → IsTaught program tree Full predicates → IsOfSolution program tree predicates × (¬ HasModularSolution program tree)

-- Where a tree's full system has a rational point, so has that of its chain.
abbrev pub FullPointsGiveChainPoints : Type 0
FullPointsGiveChainPoints = (program : Program) (tree : Tree) (home : Home) → IsProgram program → IsTreeOf program tree home
    → HasRationalPoint (full_system program tree) → HasRationalPoint (chain_system program tree)

-- The run ends where thread i is at location l.
pub record EndsAt (program : Program) (run : Run) (i l : ℕ) : Type 0 where
  pub last : List ℤ
  pub is_run : IsRun program run last
  pub there : (thread : Thread) → IsThreadOf program i thread → slice_get last thread.counter ≡ Some (pos l)

-- A whole point of a tree's chain tells a run that ends where the root's thread is at the root's location.
abbrev pub ChainPointsAreRuns : Type 0
ChainPointsAreRuns = (program : Program) (tree : Tree) (i l : ℕ) (z : List ℤ) → IsProgram program → IsTreeOf program tree (State i l)
    → IsPoint (chain_system program tree) z → EndsAt program (chain_run program tree z) i l
