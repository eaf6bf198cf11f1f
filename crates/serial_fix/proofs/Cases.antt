-- The cases that a run goes over are those of the rules.
use Rattle.std.proofs.Common.{◌≡◌, ◌≢◌, ℕ, List, [], ◌∷◌, refl, sym, subst}
use Rattle.thr_base.specs.declared.names.RuleName.TheVariants.{Rg}
use Rattle.transition_formula.specs.Program.{Program, Thread, Edge, IsThreadOf, IsEdgeOf}
use Rattle.horn_rules.specs.Home.{State, Env, IsLocationOf}
use Rattle.horn_rules.specs.Fact.{Sets, Fact, Statement, statement_of}
use Rattle.horn_rules.specs.Instance.{Instance, Init, Own, Guar, Env as Environment, Inter, HasKind, premises_of, map_instance}
use Rattle.horn_rules.specs.Case.{Case, IsCaseOf, init_case, own_case, guar_case, env_case}
use Rattle.horn_rules.specs.Case as rules
use Rattle.serial_fix.specs.inside.Cases.{IsCase, init, own, guar, env}

-- ---- from the rules

record IsStep (program : Program) (f : Statement) (e : ℕ) : Type 0 where
  i : ℕ
  thread : Thread
  edge : Edge
  edge_is : IsEdgeOf program i e thread edge
  home_is : f.home ≡ State i edge.from

record IsPair (program : Program) (f t : Statement) : Type 0 where
  k : ℕ
  l : ℕ
  i : ℕ
  e : ℕ
  other : Thread
  thread : Thread
  edge : Edge
  apart : k ≢ i
  location_is : IsLocationOf program k l other
  edge_is : IsEdgeOf program i e thread edge
  home_f : f.home ≡ State k l
  home_t : t.home ≡ Env i e

-- what a case is, by the kind of its instance
abbrev Shape : Program → Instance Statement → Case → Type 0
Shape program (Init i) given = (thread : Thread) × IsThreadOf program i thread × (given ≡ init_case program i)
Shape program (Own f e) given = (step : IsStep program f e) × (given ≡ own_case program step.i step.thread step.edge f)
Shape program (Guar f e) given = (step : IsStep program f e) × (given ≡ guar_case program step.i e step.thread step.edge f)
Shape program (Environment f t) given = (pair : IsPair program f t) × (given ≡ env_case program pair.k pair.l pair.other pair.thread pair.edge f t)
Shape program (Inter f g e) given = Unit {0}

shape : (program : Program) (instance : Instance Statement) (given : Case) → IsCaseOf program instance given → Shape program instance given
shape program instance given (rules.init i thread at) = (thread, at, refl)
shape program instance given (rules.own i e thread edge f at home) = (record { i = i; thread = thread; edge = edge; edge_is = at; home_is = home }, refl)
shape program instance given (rules.guar i e thread edge f at home) = (record { i = i; thread = thread; edge = edge; edge_is = at; home_is = home }, refl)
shape program instance given (rules.env k l i e other thread edge f t apart there at home_f home_t) =
    (record { k = k; l = l; i = i; e = e; other = other; thread = thread; edge = edge; apart = apart; location_is = there; edge_is = at; home_f = home_f; home_t = home_t }, refl)
shape program instance given (rules.inter k l i e other thread edge f g apart there at home_f home_g) = tt

of-shape : (program : Program) (sets : Sets) (instance : Instance Fact) (given : Case) → HasKind Rg instance → Shape program (map_instance (statement_of sets) instance) given
    → IsCase program sets (premises_of instance) given
of-shape program sets (Init i) given has (thread, at, is) = subst (IsCase program sets []) (sym is) (init i thread at)
of-shape program sets (Own f e) given has (step, is) = subst (IsCase program sets (f ∷ [])) (sym is) (own step.i e step.thread step.edge f step.edge_is step.home_is)
of-shape program sets (Guar f e) given has (step, is) = subst (IsCase program sets (f ∷ [])) (sym is) (guar step.i e step.thread step.edge f step.edge_is step.home_is)
of-shape program sets (Environment f t) given has (pair, is) =
    subst (IsCase program sets (f ∷ t ∷ [])) (sym is)
    (env pair.k pair.l pair.i pair.e pair.other pair.thread pair.edge f t pair.apart pair.location_is pair.edge_is pair.home_f pair.home_t)
of-shape program sets (Inter f g e) given has is = absurd has

-- a case of the rules is one of a run
pub from-rules : (program : Program) (sets : Sets) (instance : Instance Fact) (given : Case) → HasKind Rg instance
    → IsCaseOf program (map_instance (statement_of sets) instance) given → IsCase program sets (premises_of instance) given
from-rules program sets instance given has is = of-shape program sets instance given has (shape program (map_instance (statement_of sets) instance) given is)

-- ---- to the rules

pub record IsOfRules (program : Program) (sets : Sets) (premises : List Fact) (given : Case) : Type 0 where
  pub instance : Instance Fact
  pub has_kind : HasKind Rg instance
  pub is_case : IsCaseOf program (map_instance (statement_of sets) instance) given
  pub premises_are : premises_of instance ≡ premises

-- and a case of a run is one of the rules
pub to-rules : (program : Program) (sets : Sets) (premises : List Fact) (given : Case) → IsCase program sets premises given → IsOfRules program sets premises given
to-rules program sets premises given (init i thread at) = record { instance = Init i; has_kind = tt; is_case = rules.init i thread at; premises_are = refl }
to-rules program sets premises given (own i e thread edge f at home) =
    record { instance = Own f e; has_kind = tt; is_case = rules.own i e thread edge (statement_of sets f) at home; premises_are = refl }
to-rules program sets premises given (guar i e thread edge f at home) =
    record { instance = Guar f e; has_kind = tt; is_case = rules.guar i e thread edge (statement_of sets f) at home; premises_are = refl }
to-rules program sets premises given (env k l i e other thread edge f t apart there at home_f home_t) = record {
  instance = Environment f t;
  has_kind = tt;
  is_case = rules.env k l i e other thread edge (statement_of sets f) (statement_of sets t) apart there at home_f home_t;
  premises_are = refl;
}
