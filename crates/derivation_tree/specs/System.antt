-- The systems of a tree.
use Rattle.std.specs.Prelude.{◌≤◌, ℕ, ◌+◌, true, List, [], ◌++◌, length, map}
use Rattle.thr_base.specs.Limits.{most_tree_columns, most_tree_rows}
use Rattle.lin_rows.specs.System.{System}
use Rattle.transition_formula.specs.Program.{Program}
use Rattle.transition_formula.specs.Rows.{init_rows, edge_rows}
use Rattle.horn_rules.specs.Scope.{in_scope}
use Rattle.derivation_tree.specs.Tree.{Tree, Init, Own, Guar, Env, Inter, size_of, thread_at, edge_at, thread_of, place_of, root_home}
use Rattle.derivation_tree.specs.Variable.{Variable, NamedRow, row_named, system_over}
use Rattle.derivation_tree.specs.Nodes.{Sharing, Moments, moments_of, step_rows, inputs_of, at_before, root_moments, tree_nodes, rows_of}

-- a premise and the node above it share all columns
abbrev pub share_all : Sharing
share_all home owner = true

-- or those in the modular scope of the premise alone
abbrev pub share_scope : Sharing
share_scope home owner = in_scope home owner

abbrev pub full_system : Program → Tree → System
full_system program tree = system_over (rows_of (tree_nodes program share_all tree))

abbrev pub cut_system : Program → Tree → System
cut_system program tree = system_over (rows_of (tree_nodes program share_scope tree))

-- the rows of a step by edge e of thread i
abbrev pub chain_step : Program → ℕ → ℕ → Moments → List Variable → List NamedRow
chain_step program i e moments inputs =
    step_rows program i e moments inputs 0 (edge_rows (length program.columns) (thread_at program i).counter (edge_at program i e))

-- The chain of a tree behind so many nodes: from its root down along first premises, and from there up the rows of the initial states and
-- of each step, an own one or that of another thread. The inputs are those of the node that steps.
abbrev pub chain_of : Program → ℕ → Tree → Moments → List NamedRow
chain_of program first (Init i) above = map (row_named (moments_of program share_all (first + 1) (Init i) above).after) (init_rows program)
chain_of program first (Own f e) above =
    let n = first + size_of (Own f e) in
    let i = thread_of (root_home program f) in
    let moments = moments_of program share_all n (Own f e) above in
    chain_of program first f (at_before moments) ++ chain_step program i e moments (inputs_of program n i e)
chain_of program first (Guar f e) above = []
chain_of program first (Env f t) above =
    let moments = moments_of program share_all (first + size_of (Env f t)) (Env f t) above in
    let i = thread_of (root_home program t) in
    let e = place_of (root_home program t) in
    chain_of program first f (at_before moments) ++ chain_step program i e moments (inputs_of program (first + size_of f + size_of t) i e)
chain_of program first (Inter f g e) above =
    let n = first + size_of (Inter f g e) in
    let moments = moments_of program share_all n (Inter f g e) above in
    let i = thread_of (root_home program g) in
    chain_of program first f (at_before moments) ++ chain_step program i e moments (inputs_of program n i e)

abbrev pub chain_rows : Program → Tree → List NamedRow
chain_rows program tree = chain_of program 0 tree (root_moments program tree)

abbrev pub chain_system : Program → Tree → System
chain_system program tree = system_over (chain_rows program tree)

-- The system is not too wide to be decided.
pub record IsWithin (system : System) : Type 0 where
  pub columns : system.columns ≤ most_tree_columns
  pub rows : length system.rows ≤ most_tree_rows
