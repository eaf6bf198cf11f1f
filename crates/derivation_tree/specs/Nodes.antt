-- The nodes of a tree with their variables and rows. A node has variables for the columns before its step and after it; a node that stands
-- at a location is over those after it. What a premise shares with the node above, where that has variables of its own, is left open
-- here.
use Rattle.std.specs.Prelude.{ℕ, suc, ◌+◌, Bool, if◌then◌else◌, List, [], ◌∷◌, ◌++◌, length, map, take, drop, flat_map, Option}
use Rattle.std.specs.List.{range_with_len}
use Rattle.lin_rows.specs.Row.{Row}
use Rattle.transition_formula.specs.Program.{Program, Column, Thread, Edge}
use Rattle.transition_formula.specs.Rows.{is_kept, kept_columns}
use Rattle.horn_rules.specs.Home.{Home}
use Rattle.horn_rules.specs.Fact.{Statement}
use Rattle.horn_rules.specs.Case.{init_case, own_case, guar_case, env_case, inter_case}
use Rattle.derivation_tree.specs.Tree.{Tree, Init, Own, Guar, Env, Inter, size_of, thread_at, edge_at, thread_of, place_of, root_home, step_thread, step_edge}
use Rattle.derivation_tree.specs.Variable.{Variable, After, Before, Input, NamedRow, row_named}

-- whether a node at the home shares columns with this owner with the node above it
abbrev pub Sharing : Type 0
Sharing = Home → Option ℕ → Bool

-- the variables of the columns before a step, and after it
pub record Moments : Type 0 where
  pub before : List Variable
  pub after : List Variable

pub record Node : Type 0 where
  pub home : Home
  pub size : ℕ
  pub moments : Moments
  pub rows : List NamedRow

-- ---- variables

-- the variables from above where the column is shared, and else the node's own
abbrev pub shared : Sharing → Home → List Column → List Variable → List Variable → List Variable
shared share home (column ∷ columns) (a ∷ above) (o ∷ own) = (if share home column.owner then a else o) ∷ shared share home columns above own
shared share home columns above own = []

-- before a step by the edge a kept column is what it is after it; the others have variables of the node's own. The first is column c.
abbrev pub before_step : ℕ → Thread → Edge → ℕ → List Variable → List Variable
before_step n thread edge c [] = []
before_step n thread edge c (a ∷ after) = (if is_kept thread.counter edge c then a else Before n c) ∷ before_step n thread edge (suc c) after

abbrev pub own_after : Program → ℕ → List Variable
own_after program n = map (After n) (range_with_len 0 (length program.columns))

-- the variables of node n, which is the root of the tree, by those of the node above
abbrev pub state_moments : Program → Sharing → ℕ → Tree → Moments → Moments
state_moments program share n tree above =
    let thread = thread_at program (step_thread program tree) in
    let edge = edge_at program (step_thread program tree) (step_edge program tree) in
    let after = shared share (root_home program tree) program.columns above.after (own_after program n) in
    record { before = before_step n thread edge 0 after; after = after }

-- a step as other threads see it shares what is before it too
abbrev pub moments_of : Program → Sharing → ℕ → Tree → Moments → Moments
moments_of program share n (Guar f e) above =
    let moments = state_moments program share n (Guar f e) above in
    record moments { before = shared share (root_home program (Guar f e)) program.columns above.before moments.before }
moments_of program share n tree above = state_moments program share n tree above

-- ---- rows

-- what a fact that holds nothing says
abbrev pub bare : Home → Statement
bare home = record { home = home; atoms = [] }

-- rows of which k stand before those of a step by the edge: without the rows of the columns that the edge keeps, which have one variable
abbrev pub without_kept : Program → Thread → Edge → ℕ → List Row → List Row
without_kept program thread edge k rows =
    take (k + 2) rows ++ drop (k + 2 + length (kept_columns (length program.columns) thread.counter edge)) rows

-- such rows over the variables before and after the step by edge e of thread i, and the inputs
abbrev pub step_rows : Program → ℕ → ℕ → Moments → List Variable → ℕ → List Row → List NamedRow
step_rows program i e moments inputs k rows =
    map (row_named (moments.before ++ (moments.after ++ inputs))) (without_kept program (thread_at program i) (edge_at program i e) k rows)

-- the inputs of node n, whose step is by edge e of thread i
abbrev pub inputs_of : Program → ℕ → ℕ → ℕ → List Variable
inputs_of program n i e = map (Input n) (range_with_len 0 (edge_at program i e).inputs)

-- a node's own rows: those of its instance over premises that hold nothing
abbrev pub own_rows : Program → ℕ → Tree → Moments → List NamedRow
own_rows program n (Init i) moments = map (row_named moments.after) (init_case program i).system.rows
own_rows program n (Own f e) moments =
    let home = root_home program f in
    let i = thread_of home in
    let given = own_case program i (thread_at program i) (edge_at program i e) (bare home) in
    step_rows program i e moments (inputs_of program n i e) 1 given.system.rows
own_rows program n (Guar f e) moments =
    let home = root_home program f in
    let i = thread_of home in
    let given = guar_case program i e (thread_at program i) (edge_at program i e) (bare home) in
    step_rows program i e moments (inputs_of program n i e) 1 given.system.rows
own_rows program n (Env f t) moments =
    let home = root_home program f in
    let told = root_home program t in
    let i = thread_of told in
    let e = place_of told in
    let given = env_case program (thread_of home) (place_of home) (thread_at program (thread_of home)) (thread_at program i) (edge_at program i e) (bare home) (bare told) in
    step_rows program i e moments [] 1 given.system.rows
own_rows program n (Inter f g e) moments =
    let home = root_home program f in
    let other = root_home program g in
    let i = thread_of other in
    let given = inter_case program (thread_of home) (place_of home) (thread_at program (thread_of home)) (thread_at program i) (edge_at program i e) (bare home) (bare other) in
    step_rows program i e moments (inputs_of program n i e) 2 given.system.rows

-- ---- all nodes

abbrev pub node_at : Program → ℕ → Tree → Moments → Node
node_at program n tree moments =
    record { home = root_home program tree; size = size_of tree; moments = moments; rows = own_rows program n tree moments }

-- the state before a step, for a premise that stands there
abbrev pub at_before : Moments → Moments
at_before moments = record moments { after = moments.before }

-- the nodes of a tree in their order, behind so many others, where the node above has these variables
abbrev pub nodes_of : Program → Sharing → ℕ → Tree → Moments → List Node
nodes_of program share first (Init i) above =
    let n = first + 1 in
    node_at program n (Init i) (moments_of program share n (Init i) above) ∷ []
nodes_of program share first (Own f e) above =
    let n = first + size_of (Own f e) in
    let moments = moments_of program share n (Own f e) above in
    nodes_of program share first f (at_before moments) ++ node_at program n (Own f e) moments ∷ []
nodes_of program share first (Guar f e) above =
    let n = first + size_of (Guar f e) in
    let moments = moments_of program share n (Guar f e) above in
    nodes_of program share first f (at_before moments) ++ node_at program n (Guar f e) moments ∷ []
nodes_of program share first (Env f t) above =
    let n = first + size_of (Env f t) in
    let moments = moments_of program share n (Env f t) above in
    nodes_of program share first f (at_before moments)
    ++ (nodes_of program share (first + size_of f) t moments ++ node_at program n (Env f t) moments ∷ [])
nodes_of program share first (Inter f g e) above =
    let n = first + size_of (Inter f g e) in
    let moments = moments_of program share n (Inter f g e) above in
    nodes_of program share first f (at_before moments)
    ++ (nodes_of program share (first + size_of f) g (at_before moments) ++ node_at program n (Inter f g e) moments ∷ [])

-- the root, which stands at a location, has all of its variables for itself
abbrev pub root_moments : Program → Tree → Moments
root_moments program tree = let own = own_after program (size_of tree) in record { before = own; after = own }

abbrev pub tree_nodes : Program → Sharing → Tree → List Node
tree_nodes program share tree = nodes_of program share 0 tree (root_moments program tree)

abbrev pub rows_of : List Node → List NamedRow
rows_of nodes = flat_map (λ node. node.rows) nodes
