-- Derivations unfolded into trees: a node is an instance with the nodes of its premises, and a fact that is used twice has two nodes.
-- Nodes are numbered from 1, each after its premises' nodes, the root last.
use Rattle.std.specs.Prelude.{◌≡◌, ◌==◌, ℕ, ◌+◌, if◌then◌else◌, List, [], ◌∷◌, Option, Some, None, unwrap_or}
use Rattle.transition_formula.specs.Program.{Program, Thread, Edge, at_number}
use Rattle.horn_rules.specs.Home.{Home, State, Env as AtEdge}
use Rattle.horn_rules.specs.Instance.{Instance, map_instance}
use Rattle.horn_rules.specs.Instance as instance
use Rattle.horn_rules.specs.Target.{target_at}
use Rattle.derivation_tree.specs.Facts.{KeptFact}

pub data Tree : Type 0 where
  -- thread i is at its start
  Init : ℕ → Tree
  -- a step of the premise's thread by its edge e
  Own : Tree → ℕ → Tree
  -- that step, as the other threads see it
  Guar : Tree → ℕ → Tree
  -- the first premise's thread stays where it is in a step of which the second tells
  Env : Tree → Tree → Tree
  -- the first premise's thread stays where it is in a step of the second's thread by its edge e
  Inter : Tree → Tree → ℕ → Tree

abbrev pub size_of : Tree → ℕ
size_of (Init i) = 1
size_of (Own f e) = size_of f + 1
size_of (Guar f e) = size_of f + 1
size_of (Env f t) = size_of f + size_of t + 1
size_of (Inter f g e) = size_of f + size_of g + 1

-- ---- the tree of a fact

-- an instance over trees, where each is there
abbrev pub tree_over : Instance (Option Tree) → Option Tree
tree_over (instance.Init i) = Some (Init i)
tree_over (instance.Own (Some f) e) = Some (Own f e)
tree_over (instance.Guar (Some f) e) = Some (Guar f e)
tree_over (instance.Env (Some f) (Some t)) = Some (Env f t)
tree_over (instance.Inter (Some f) (Some g) e) = Some (Inter f g e)
tree_over instance = None

-- the derivation of an id's fact, unfolded
abbrev pub tree_of : List KeptFact → ℕ → Option Tree
tree_of [] id = None
tree_of (f ∷ earlier) id = if f.id == id then tree_over (map_instance (tree_of earlier) f.kept) else tree_of earlier id

-- ---- homes of nodes

-- the home of a tree's root; nothing where some node is no instance of the program
abbrev pub home_of : Program → Tree → Option Home
home_of program (Init i) = target_at {F = Tree} program (instance.Init i) None None
home_of program (Own f e) = target_at program (instance.Own f e) (home_of program f) None
home_of program (Guar f e) = target_at program (instance.Guar f e) (home_of program f) None
home_of program (Env f t) = target_at program (instance.Env f t) (home_of program f) (home_of program t)
home_of program (Inter f g e) = target_at program (instance.Inter f g e) (home_of program f) (home_of program g)

-- Each node is an instance of the program, and the root gives a fact of this home.
abbrev pub IsTreeOf : Program → Tree → Home → Type 0
IsTreeOf program tree home = home_of program tree ≡ Some home

-- Below the home of a root, its thread and its edges are named where they are there, as in a tree of the program each is; elsewhere what
-- is named has nothing in it.
abbrev pub root_home : Program → Tree → Home
root_home program tree = unwrap_or (home_of program tree) (State 0 0)

abbrev pub thread_at : Program → ℕ → Thread
thread_at program i = unwrap_or (at_number program.threads i) (record { counter = 0; locations = 0; edges = [] })

abbrev pub edge_at : Program → ℕ → ℕ → Edge
edge_at program i e = unwrap_or (at_number (thread_at program i).edges e) (record { from = 0; to = 0; inputs = 0; tests = []; sets = [] })

abbrev pub thread_of : Home → ℕ
thread_of (State i l) = i
thread_of (AtEdge i e) = i

-- the location of a home, or the edge
abbrev pub place_of : Home → ℕ
place_of (State i l) = l
place_of (AtEdge i e) = e

-- the thread and the edge of a node's step: its own, that of which its second premise tells, or that of its second premise's thread
abbrev pub step_thread : Program → Tree → ℕ
step_thread program (Init i) = i
step_thread program (Own f e) = thread_of (root_home program f)
step_thread program (Guar f e) = thread_of (root_home program f)
step_thread program (Env f t) = thread_of (root_home program t)
step_thread program (Inter f g e) = thread_of (root_home program g)

abbrev pub step_edge : Program → Tree → ℕ
step_edge program (Init i) = 0
step_edge program (Own f e) = e
step_edge program (Guar f e) = e
step_edge program (Env f t) = place_of (root_home program t)
step_edge program (Inter f g e) = e
