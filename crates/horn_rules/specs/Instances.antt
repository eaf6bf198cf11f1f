-- All instances of a rule over a list of facts, in one order: the starts by thread; own steps by fact and edge; then under rely-guarantee
-- those steps as they are told, by fact and edge, and what told steps leave, by fact and told fact; under the rule of Owicki and Gries
-- what steps leave, by fact, by fact of the thread that steps, and edge. Of a fact, its number in the list stands for it, from 1.
use Rattle.std.specs.Prelude.{◌≡◌, ℕ, ◌==◌, not, Bool, false, if◌then◌else◌, List, [], ◌∷◌, ◌++◌, map, Option, Some, None}
use Rattle.thr_base.specs.declared.names.RuleName.{RuleName}
use Rattle.thr_base.specs.declared.names.RuleName.TheVariants.{Rg, Og}
use Rattle.transition_formula.specs.Program.{Program, Thread, Edge, at_number}
use Rattle.horn_rules.specs.Home.{Home, State, Env, by_number}
use Rattle.horn_rules.specs.Fact.{Statement}
use Rattle.horn_rules.specs.Instance.{Instance, Init, Own, Guar, Env as Environment, Inter, map_instance}

-- the edges of a thread, where it is there
abbrev pub edges_of : Option Thread → List Edge
edges_of None = []
edges_of (Some thread) = thread.edges

-- the number of an edge, where it leads from the location
abbrev pub number_from : ℕ → ℕ → Edge → List ℕ
number_from l e edge = if edge.from == l then e ∷ [] else []

-- the numbers of the edges that lead on from a home
abbrev pub edges_from : Program → Home → List ℕ
edges_from program (State i l) = by_number (number_from l) 1 (edges_of (at_number program.threads i))
edges_from program (Env i e) = []

-- The homes are a location of a thread, and an edge of another; or locations of two threads.
abbrev pub tells_another : Home → Home → Bool
tells_another (State k l) (Env i e) = not (k == i)
tells_another home told = false

abbrev pub of_another : Home → Home → Bool
of_another (State k l) (State i m) = not (k == i)
of_another home other = false

-- what is left of the second fact's step at the first, where it tells of one of another thread
abbrev pub env_instance : ℕ → Statement → ℕ → Statement → List (Instance ℕ)
env_instance n f m t = if tells_another f.home t.home then Environment n m ∷ [] else []

-- what is left of steps from the second fact at the first, where they are of different threads
abbrev pub inter_instances : Program → ℕ → Statement → ℕ → Statement → List (Instance ℕ)
inter_instances program n f m g = if of_another f.home g.home then map (Inter n m) (edges_from program g.home) else []

abbrev pub init_instances : Program → List (Instance ℕ)
init_instances program = by_number (λ i thread. Init i ∷ []) 1 program.threads

abbrev pub own_instances : Program → List Statement → List (Instance ℕ)
own_instances program facts = by_number (λ n f. map (Own n) (edges_from program f.home)) 1 facts

abbrev pub guar_instances : Program → List Statement → List (Instance ℕ)
guar_instances program facts = by_number (λ n f. map (Guar n) (edges_from program f.home)) 1 facts

abbrev pub env_instances : List Statement → List (Instance ℕ)
env_instances facts = by_number (λ n f. by_number (env_instance n f) 1 facts) 1 facts

abbrev pub all_inter_instances : Program → List Statement → List (Instance ℕ)
all_inter_instances program facts = by_number (λ n f. by_number (inter_instances program n f) 1 facts) 1 facts

abbrev pub instances_over : Program → RuleName → List Statement → List (Instance ℕ)
instances_over program Rg facts = init_instances program ++ (own_instances program facts ++ (guar_instances program facts ++ env_instances facts))
instances_over program Og facts = init_instances program ++ (own_instances program facts ++ all_inter_instances program facts)

-- The second is the first over what the numbers stand for: each number stands for what is found of it.
abbrev pub IsResolvedBy : {F : Type 0} → (ℕ → Option F) → Instance ℕ → Instance F → Type 0
IsResolvedBy find numbers instance = map_instance find numbers ≡ map_instance Some instance

-- The numbers stand for the facts of a list.
abbrev pub IsResolved : {F : Type 0} → List F → Instance ℕ → Instance F → Type 0
IsResolved facts numbers instance = IsResolvedBy (at_number facts) numbers instance
