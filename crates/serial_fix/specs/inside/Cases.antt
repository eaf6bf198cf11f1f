-- The cases of rely-guarantee over facts, as a run goes over them. No public clause cites this file.
use Rattle.std.specs.Prelude.{◌≡◌, ◌≢◌, ℕ, List, [], ◌∷◌}
use Rattle.transition_formula.specs.Program.{Program, Thread, Edge, IsThreadOf, IsEdgeOf}
use Rattle.horn_rules.specs.Home.{State, Env, IsLocationOf}
use Rattle.horn_rules.specs.Fact.{Sets, Fact, statement_of}
use Rattle.horn_rules.specs.Case.{Case, init_case, own_case as own_case_of, guar_case as guar_case_of, env_case as env_case_of}

-- a step of a thread from fact f, where homes have these predicates
abbrev pub own_case : Program → Sets → ℕ → Thread → Edge → Fact → Case
own_case program sets i thread edge f = own_case_of program i thread edge (statement_of sets f)

-- that step as the other threads see it
abbrev pub guar_case : Program → Sets → ℕ → ℕ → Thread → Edge → Fact → Case
guar_case program sets i e thread edge f = guar_case_of program i e thread edge (statement_of sets f)

-- the step of another thread of which t tells, at fact f
abbrev pub env_case : Program → Sets → ℕ → ℕ → Thread → Thread → Edge → Fact → Fact → Case
env_case program sets k l other thread edge f t = env_case_of program k l other thread edge (statement_of sets f) (statement_of sets t)

-- The case of an instance over these facts.
pub data IsCase (program : Program) (sets : Sets) : List Fact → Case → Type 0 where
  init : (i : ℕ) (thread : Thread) → IsThreadOf program i thread → IsCase program sets [] (init_case program i)
  own : (i e : ℕ) (thread : Thread) (edge : Edge) (f : Fact) → IsEdgeOf program i e thread edge → f.home ≡ State i edge.from
      → IsCase program sets (f ∷ []) (own_case program sets i thread edge f)
  guar : (i e : ℕ) (thread : Thread) (edge : Edge) (f : Fact) → IsEdgeOf program i e thread edge → f.home ≡ State i edge.from
      → IsCase program sets (f ∷ []) (guar_case program sets i e thread edge f)
  env : (k l i e : ℕ) (other thread : Thread) (edge : Edge) (f t : Fact) → k ≢ i → IsLocationOf program k l other → IsEdgeOf program i e thread edge
      → f.home ≡ State k l → t.home ≡ Env i e → IsCase program sets (f ∷ t ∷ []) (env_case program sets k l other thread edge f t)
