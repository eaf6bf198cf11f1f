-- A tree as the list of its nodes in the order of their numbers.
use Rattle.std.specs.Prelude.{◌≡◌, ◌<◌, ◌^◌, ℕ, List, [], ◌∷◌, ◌++◌, length, map}
use Rattle.transition_formula.specs.Program.{Program}
use Rattle.horn_rules.specs.Home.{Home}
use Rattle.horn_rules.specs.Stored.{home_of}
use Rattle.derivation_tree.specs.Tree.{Tree, Init, Own, Guar, Env, Inter, size_of, root_home, step_thread, step_edge, IsTreeOf}
use Rattle.cex_tree.specs.inside.TreeCode.{tree_of_tokens}
use Rattle.cex_tree.specs.declared.node.Kind.{Kind}
use Rattle.cex_tree.specs.declared.node.Kind.TheVariants as kinds
use Rattle.cex_tree.specs.declared.node.Node.{Node}

-- a node: what kind of instance it is, its home, the thread and the edge of its step, and how many nodes its subtree has
pub record Shape : Type 0 where
  pub kind : Kind
  pub home : Home
  pub thread : ℕ
  pub edge : ℕ
  pub size : ℕ

abbrev pub shape_of : Node → Shape
shape_of node = record { kind = node.kind; home = home_of node.home; thread = node.thread.0; edge = node.edge.0; size = node.size }

abbrev pub kind_of : Tree → Kind
kind_of (Init i) = kinds.Init
kind_of (Own f e) = kinds.Own
kind_of (Guar f e) = kinds.Guar
kind_of (Env f t) = kinds.Env
kind_of (Inter f g e) = kinds.Inter

-- the root of a tree
abbrev pub root_shape : Program → Tree → Shape
root_shape program tree =
    record { kind = kind_of tree; home = root_home program tree; thread = step_thread program tree; edge = step_edge program tree; size = size_of tree }

-- the nodes of a tree in their order
abbrev pub shapes_of : Program → Tree → List Shape
shapes_of program (Init i) = root_shape program (Init i) ∷ []
shapes_of program (Own f e) = shapes_of program f ++ root_shape program (Own f e) ∷ []
shapes_of program (Guar f e) = shapes_of program f ++ root_shape program (Guar f e) ∷ []
shapes_of program (Env f t) = shapes_of program f ++ (shapes_of program t ++ root_shape program (Env f t) ∷ [])
shapes_of program (Inter f g e) = shapes_of program f ++ (shapes_of program g ++ root_shape program (Inter f g e) ∷ [])

-- the tree of a list of nodes
abbrev pub token_by : Kind → ℕ → ℕ → ℕ × ℕ
token_by kinds.Init i e = (0, i)
token_by kinds.Own i e = (1, e)
token_by kinds.Guar i e = (2, e)
token_by kinds.Env i e = (3, 0)
token_by kinds.Inter i e = (4, e)

abbrev pub tree_in : List Shape → Tree
tree_in shapes = tree_of_tokens (map (λ (s : Shape). token_by s.kind s.thread s.edge) shapes)

-- The nodes are those of a tree of the program.
pub record AreNodes (program : Program) (shapes : List Shape) (tree : Tree) : Type 0 where
  pub home : Home
  pub of_program : IsTreeOf program tree home
  pub are_its : shapes ≡ shapes_of program tree
  pub few : length shapes < 2 ^ 32
