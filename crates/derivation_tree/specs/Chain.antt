-- The run that a point of a tree's chain tells.
use Rattle.std.specs.Prelude.{ℕ, ◌+◌, ℤ, List, [], ◌∷◌, ◌++◌, map}
use Rattle.transition_formula.specs.Program.{Program}
use Rattle.transition_formula.specs.Run.{Run, RunStep}
use Rattle.derivation_tree.specs.Tree.{Tree, Init, Own, Guar, Env, Inter, size_of, thread_of, place_of, root_home}
use Rattle.derivation_tree.specs.Variable.{Variable, variables_of}
use Rattle.derivation_tree.specs.Nodes.{Moments, moments_of, inputs_of, at_before, root_moments}
use Rattle.derivation_tree.specs.System.{share_all, chain_rows}
use Rattle.derivation_tree.specs.Sums.{coefficient_at}

-- the variables of the chain's first state
abbrev pub first_state : Program → ℕ → Tree → Moments → List Variable
first_state program first (Init i) above = (moments_of program share_all (first + 1) (Init i) above).after
first_state program first (Own f e) above = first_state program first f (at_before (moments_of program share_all (first + size_of (Own f e)) (Own f e) above))
first_state program first (Guar f e) above = []
first_state program first (Env f t) above = first_state program first f (at_before (moments_of program share_all (first + size_of (Env f t)) (Env f t) above))
first_state program first (Inter f g e) above = first_state program first f (at_before (moments_of program share_all (first + size_of (Inter f g e)) (Inter f g e) above))

-- a step of node n, where variables have these values
abbrev pub step_at : Program → (Variable → ℤ) → ℕ → ℕ → ℕ → RunStep
step_at program value n i e = record { thread = i; edge = e; inputs = map value (inputs_of program n i e) }

-- the steps of the chain, the first one first
abbrev pub chain_steps : Program → (Variable → ℤ) → ℕ → Tree → List RunStep
chain_steps program value first (Init i) = []
chain_steps program value first (Own f e) =
    chain_steps program value first f ++ step_at program value (first + size_of (Own f e)) (thread_of (root_home program f)) e ∷ []
chain_steps program value first (Guar f e) = []
chain_steps program value first (Env f t) =
    chain_steps program value first f
    ++ step_at program value (first + size_of f + size_of t) (thread_of (root_home program t)) (place_of (root_home program t)) ∷ []
chain_steps program value first (Inter f g e) =
    chain_steps program value first f ++ step_at program value (first + size_of (Inter f g e)) (thread_of (root_home program g)) e ∷ []

-- the run in which each variable of the chain's system has its number of a whole point, and others are 0
abbrev pub chain_run : Program → Tree → List ℤ → Run
chain_run program tree z =
    let value = coefficient_at (variables_of (chain_rows program tree)) z in
    record { start = map value (first_state program 0 tree (root_moments program tree)); steps = chain_steps program value 0 tree }
