-- The cases of the jobs that a run posts. No public clause cites this file.
use Rattle.std.specs.Prelude.{◌≡◌, ◌≢◌, ℕ, List, [], ◌∷◌, Option, Some, None}
use Rattle.thr_base.specs.Held.{positions}
use Rattle.thr_base.specs.declared.names.ThreadNo.{ThreadNo}
use Rattle.thr_base.specs.declared.names.EdgeNo.{EdgeNo}
use Rattle.thr_base.specs.declared.names.FactId.{FactId}
use Rattle.thr_base.specs.declared.names.Instance.{Instance}
use Rattle.thr_base.specs.declared.names.Instance.TheVariants.{Init, Own, Guar, Env as Environment}
use Rattle.transition_formula.specs.Program.{Program, Thread, Edge, at_number, IsThreadOf, IsEdgeOf}
use Rattle.horn_rules.specs.declared.job.Premise.{Premise}
use Rattle.horn_rules.specs.Home.{State, Env, IsLocationOf, homes}
use Rattle.horn_rules.specs.Fact.{Sets, Fact}
use Rattle.horn_rules.specs.Case.{Case, init_case}
use Rattle.horn_rules.specs.Job.{IsPremise}
use Rattle.serial_fix.specs.inside.Cases.{own_case, guar_case, env_case}

-- The premise has this id and says what the fact does, where homes have these predicates.
pub record Says (program : Program) (sets : Sets) (id : FactId) (premise : Premise) (fact : Fact) : Type 0 where
  pub id_is : premise.id ≡ id
  pub home_is : at_number (homes program) premise.fact.home.0 ≡ Some fact.home
  pub set_is : sets fact.home ≡ premise.set.value
  pub held_is : fact.held ≡ positions premise.fact.held

-- What the instance that a job names comes to, with the facts that its premises say.
pub data IsJobCase (program : Program) (sets : Sets) : Instance → Option Premise → Option Premise → List Fact → Case → Type 0 where
  init : (i : ThreadNo) (thread : Thread) → IsThreadOf program i.0 thread
      → IsJobCase program sets (Init i) None None [] (init_case program i.0)
  own : (id : FactId) (e : EdgeNo) (first : Premise) (i : ℕ) (thread : Thread) (edge : Edge) (f : Fact) → Says program sets id first f
      → IsEdgeOf program i e.0 thread edge → f.home ≡ State i edge.from
      → IsJobCase program sets (Own id e) (Some first) None (f ∷ []) (own_case program sets i thread edge f)
  guar : (id : FactId) (e : EdgeNo) (first : Premise) (i : ℕ) (thread : Thread) (edge : Edge) (f : Fact) → Says program sets id first f
      → IsEdgeOf program i e.0 thread edge → f.home ≡ State i edge.from
      → IsJobCase program sets (Guar id e) (Some first) None (f ∷ []) (guar_case program sets i e.0 thread edge f)
  env : (id told : FactId) (first second : Premise) (k l i e : ℕ) (other thread : Thread) (edge : Edge) (f t : Fact)
      → Says program sets id first f → Says program sets told second t → k ≢ i
      → IsLocationOf program k l other → IsEdgeOf program i e thread edge → f.home ≡ State k l → t.home ≡ Env i e
      → IsJobCase program sets (Environment id told) (Some first) (Some second) (f ∷ t ∷ []) (env_case program sets k l other thread edge f t)

-- The premise, if it is there, fits the program.
abbrev pub ArePremises : Program → Option Premise → Type 0
ArePremises program None = Unit {0}
ArePremises program (Some premise) = IsPremise program premise
