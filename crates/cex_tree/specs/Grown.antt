-- Trees that are grown of what is kept of a failing fact.
use Rattle.std.specs.Prelude.{◌≡◌, ◌≤◌, ◌<◌, ℕ, Result, Ok, Err}
use Rattle.transition_formula.specs.Program.{Program}
use Rattle.horn_rules.specs.Home.{Home}
use Rattle.derivation_tree.specs.Tree.{Tree, size_of, IsTreeOf}
use Rattle.derivation_tree.specs.Kept.{KeptTree, HasTree}
use Rattle.cex_tree.specs.declared.stops.GrowStop.{GrowStop}
use Rattle.cex_tree.specs.declared.stops.GrowStop.TheVariants.{TooLarge, Memory}

-- a tree, and the program that it is of
pub record GrownTree : Type 0 where
  pub program : Program
  pub tree : Tree

-- Each node is an instance of the program.
pub record IsGrownTree (grown : GrownTree) : Type 0 where
  pub home : Home
  pub of_program : IsTreeOf grown.program grown.tree home

-- What is grown is the tree of what is kept, and has at most so many nodes; or that tree has more.
abbrev pub IsGrowAnswer : KeptTree → ℕ → Result GrownTree GrowStop → Type 0
IsGrowAnswer kept limit (Ok grown) = (grown.program ≡ kept.program) × HasTree kept grown.tree × (size_of grown.tree ≤ limit)
IsGrowAnswer kept limit (Err TooLarge) = (tree : Tree) × HasTree kept tree × (limit < size_of tree)
IsGrowAnswer kept limit (Err Memory) = Unit {0}
