-- The premises of an instance that comes to a case stand at homes of the program.
use Rattle.std.proofs.Common.{◌≡◌, ℕ, sym, subst}
use Rattle.transition_formula.specs.Program.{Program, Thread, Edge, IsEdgeOf, IsProgram}
use Rattle.transition_formula.proofs.Programs.{edge-is}
use Rattle.horn_rules.specs.Home.{State, IsHomeOf, IsLocationOf}
use Rattle.horn_rules.specs.Fact.{Statement}
use Rattle.horn_rules.specs.Case.{init, own, guar, env, inter}
use Rattle.horn_rules.specs.Laws.{PremisesHaveHomes}
use Rattle.horn_rules.proofs.HomesThere.{location-home, edge-home}

-- at the source of an edge
at-source : (program : Program) (i e : ℕ) (thread : Thread) (edge : Edge) (f : Statement) → IsProgram program → IsEdgeOf program i e thread edge → f.home ≡ State i edge.from → IsHomeOf program f.home
at-source program i e thread edge f is at home =
    let source : IsLocationOf program i edge.from thread = record {
      thread_is = at.thread_is;
      within = (edge-is program i e thread edge is at.thread_is at.edge_is).from_location;
    } in
    subst (IsHomeOf program) (sym home) (location-home program i edge.from thread source)

pub premises-have-homes : PremisesHaveHomes
premises-have-homes program instance given is (init i thread at) = tt
premises-have-homes program instance given is (own i e thread edge f at home) = (at-source program i e thread edge f is at home, tt)
premises-have-homes program instance given is (guar i e thread edge f at home) = (at-source program i e thread edge f is at home, tt)
premises-have-homes program instance given is (env k l i e other thread edge f t apart there at home_f home_t) = (
  subst (IsHomeOf program) (sym home_f) (location-home program k l other there),
  (subst (IsHomeOf program) (sym home_t) (edge-home program i e thread edge at), tt),
)
premises-have-homes program instance given is (inter k l i e other thread edge f g apart there at home_f home_g) = (
  subst (IsHomeOf program) (sym home_f) (location-home program k l other there),
  (at-source program i e thread edge g is at home_g, tt),
)
