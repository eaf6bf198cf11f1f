-- Where instances lead.
use Rattle.std.proofs.Common.{◌<◌, ℕ, arith}
use Rattle.transition_formula.specs.Program.{Program, Thread, Edge, IsProgram, IsEdge, IsEdgeOf}
use Rattle.horn_rules.specs.Home.{IsHomeOf}
use Rattle.horn_rules.specs.Fact.{Statement}
use Rattle.horn_rules.specs.Instance.{Instance}
use Rattle.horn_rules.specs.Case.{Case, IsCaseOf, init, own, guar, env, inter}
use Rattle.horn_rules.proofs.HomesThere.{location-home, edge-home}
use Rattle.annotation_check.proofs.Lists.{all-numbered}

leads-within : (program : Program) (i e : ℕ) (thread : Thread) (edge : Edge) → IsProgram program → IsEdgeOf program i e thread edge → edge.to < thread.locations
leads-within program i e thread edge is at =
    (all-numbered (IsEdge program thread) thread.edges e edge (is.threads_are i thread at.thread_is).edges_are at.edge_is).to_location

-- the target of a case is a home of the program
pub target-home : (program : Program) (instance : Instance Statement) (given : Case) → IsProgram program → IsCaseOf program instance given → IsHomeOf program given.target
target-home program instance given is (init i thread at) =
    let start = (is.threads_are i thread at).has_start in
    location-home program i 1 thread (record { thread_is = at; within = omega (arith, start) })
target-home program instance given is (own i e thread edge f at home) =
    location-home program i edge.to thread (record { thread_is = at.thread_is; within = leads-within program i e thread edge is at })
target-home program instance given is (guar i e thread edge f at home) = edge-home program i e thread edge at
target-home program instance given is (env k l i e other thread edge f t apart there at home_f home_t) = location-home program k l other there
target-home program instance given is (inter k l i e other thread edge f g apart there at home_f home_g) = location-home program k l other there
