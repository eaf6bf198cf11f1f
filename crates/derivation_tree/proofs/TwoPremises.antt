-- What an instance with two premises is: its threads, its edge and its case.
use Rattle.std.proofs.Common.{◌≡◌, ◌≢◌, ℕ, refl}
use Rattle.transition_formula.specs.Program.{Program, Thread, Edge, IsEdgeOf}
use Rattle.horn_rules.specs.Home.{State, Env as AtEdge, IsLocationOf}
use Rattle.horn_rules.specs.Fact.{Statement}
use Rattle.horn_rules.specs.Instance as instance
use Rattle.horn_rules.specs.Case as cases
use Rattle.horn_rules.specs.Case.{Case, IsCaseOf, env_case, inter_case}

pub record IsEnvOf (program : Program) (f t : Statement) (given : Case) : Type 0 where
  pub k : ℕ
  pub l : ℕ
  pub i : ℕ
  pub e : ℕ
  pub other : Thread
  pub thread : Thread
  pub edge : Edge
  pub apart : k ≢ i
  pub there : IsLocationOf program k l other
  pub edge_is : IsEdgeOf program i e thread edge
  pub home_f : f.home ≡ State k l
  pub home_t : t.home ≡ AtEdge i e
  pub is : given ≡ env_case program k l other thread edge f t

pub record IsInterOf (program : Program) (f g : Statement) (e : ℕ) (given : Case) : Type 0 where
  pub k : ℕ
  pub l : ℕ
  pub i : ℕ
  pub other : Thread
  pub thread : Thread
  pub edge : Edge
  pub apart : k ≢ i
  pub there : IsLocationOf program k l other
  pub edge_is : IsEdgeOf program i e thread edge
  pub home_f : f.home ≡ State k l
  pub home_g : g.home ≡ State i edge.from
  pub is : given ≡ inter_case program k l other thread edge f g

abbrev pub TwoOf : Program → instance.Instance Statement → Case → Type 0
TwoOf program (instance.Env f t) given = IsEnvOf program f t given
TwoOf program (instance.Inter f g e) given = IsInterOf program f g e given
TwoOf program other given = Unit {0}

pub two-of : (program : Program) (kind : instance.Instance Statement) (given : Case) → IsCaseOf program kind given → TwoOf program kind given
two-of program kind given (cases.init i thread at) = tt
two-of program kind given (cases.own i e thread edge f at home) = tt
two-of program kind given (cases.guar i e thread edge f at home) = tt
two-of program kind given (cases.env k l i e other thread edge f t apart there at home_f home_t) =
    record { k = k; l = l; i = i; e = e; other = other; thread = thread; edge = edge; apart = apart; there = there; edge_is = at; home_f = home_f; home_t = home_t; is = refl }
two-of program kind given (cases.inter k l i e other thread edge f g apart there at home_f home_g) =
    record { k = k; l = l; i = i; other = other; thread = thread; edge = edge; apart = apart; there = there; edge_is = at; home_f = home_f; home_g = home_g; is = refl }
