-- How the nodes of a tree are appended to others.
use Rattle.std.specs.Prelude.{◌≡◌, ◌≤◌, ◌<◌, ◌+◌, ℕ, List, [], ◌∷◌, ◌++◌, length, map, unwrap_or, slice_get, Some, None, Result, Ok, Err}
use Rattle.thr_base.specs.declared.names.FactId.{FactId}
use Rattle.thr_base.specs.declared.names.Fact.{Fact as StoredFact}
use Rattle.thr_base.specs.declared.names.Instance.{Instance as StoredInstance}
use Rattle.transition_formula.specs.Program.{Program}
use Rattle.derivation_tree.specs.Facts.{KeptFact}
use Rattle.derivation_tree.specs.Tree.{Tree, Init, size_of, tree_of, thread_of}
use Rattle.horn_rules.specs.Instance.{Instance}
use Rattle.horn_rules.specs.Target.{target_at}
use Rattle.cex_tree.specs.declared.node.Kind.{Kind}
use Rattle.cex_tree.specs.declared.node.Kind.TheVariants as kinds
use Rattle.cex_tree.specs.inside.Flat.{Shape, shape_of, root_shape, shapes_of}
use Rattle.cex_tree.specs.declared.node.Node.{Node}
use Rattle.cex_tree.specs.declared.stops.GrowStop.{GrowStop}
use Rattle.cex_tree.specs.declared.stops.GrowStop.TheVariants.{TooLarge, Memory}

abbrev pub StoredFacts : Type 0
StoredFacts = List (FactId × StoredFact × StoredInstance)

-- The fact of an id stands there with this instance.
pub record StandsWith (facts : StoredFacts) (id : ℕ) (kept : StoredInstance) : Type 0 where
  pub place : ℕ
  pub entry : FactId × StoredFact × StoredInstance
  pub there : slice_get facts place ≡ Some entry
  pub id_is : entry.0.0 ≡ id
  pub kept_is : entry.2 ≡ kept

-- A fact of this id stands there.
pub record Stands (facts : StoredFacts) (id : ℕ) : Type 0 where
  pub kept : StoredInstance
  pub stands : StandsWith facts id kept

-- the tree of an id's fact; something, where there is none
abbrev pub tree_at : List KeptFact → ℕ → Tree
tree_at facts id = unwrap_or (tree_of facts id) (Init 0)

-- ---- the node of an instance over those of its premises

pub record IsInitNode (program : Program) (instance : Instance ℕ) (i : ℕ) (node : Shape) : Type 0 where
  pub kind_is : node.kind ≡ kinds.Init
  pub home_is : target_at program instance None None ≡ Some node.home
  pub thread_is : node.thread ≡ i
  pub edge_is : node.edge ≡ 0
  pub size_is : node.size ≡ 1

pub record IsStepNode (program : Program) (kind : Kind) (instance : Instance ℕ) (first : Shape) (edge : ℕ) (node : Shape) : Type 0 where
  pub kind_is : node.kind ≡ kind
  pub home_is : target_at program instance (Some first.home) None ≡ Some node.home
  pub thread_is : node.thread ≡ thread_of first.home
  pub edge_is : node.edge ≡ edge
  pub size_is : node.size ≡ first.size + 1

pub record IsBesideNode (program : Program) (kind : Kind) (instance : Instance ℕ) (first second : Shape) (edge : ℕ) (node : Shape) : Type 0 where
  pub kind_is : node.kind ≡ kind
  pub home_is : target_at program instance (Some first.home) (Some second.home) ≡ Some node.home
  pub thread_is : node.thread ≡ thread_of second.home
  pub edge_is : node.edge ≡ edge
  pub size_is : node.size ≡ first.size + second.size + 1

-- The node was appended, and is answered.
abbrev pub IsAppended : List Node → List Node → Node → Result Node GrowStop → Type 0
IsAppended old new node (Ok root) = (new ≡ old ++ node ∷ []) × (root ≡ node)
IsAppended old new node (Err TooLarge) = ⊥
IsAppended old new node (Err Memory) = Unit {0}

-- All nodes of the tree were appended, and with those that are owed they are not too many.
pub record ArePushed (program : Program) (tree : Tree) (owed limit : ℕ) (old new : List Node) (root : Node) : Type 0 where
  pub pushed : map shape_of new ≡ map shape_of old ++ shapes_of program tree
  pub root_is : shape_of root ≡ root_shape program tree
  pub few : length old + size_of tree + owed ≤ limit

abbrev pub IsPushAnswer : Program → Tree → ℕ → ℕ → List Node → List Node → Result Node GrowStop → Type 0
IsPushAnswer program tree owed limit old new (Ok root) = ArePushed program tree owed limit old new root
IsPushAnswer program tree owed limit old new (Err TooLarge) = limit < length old + size_of tree + owed
IsPushAnswer program tree owed limit old new (Err Memory) = Unit {0}
