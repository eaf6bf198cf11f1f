-- What is asked of premises for the rows of an instance, and what these rows are, kind by kind. No public clause cites this file.
use Rattle.std.specs.Prelude.{◌≡◌, ℕ, ◌-◌, pos, List, ◌∷◌, map, Option, Some, None}
use Rattle.thr_base.specs.declared.names.Instance.{Instance as StoredInstance}
use Rattle.thr_base.specs.declared.names.Instance.TheVariants.{Init, Own, Guar, Env as Environment, Inter}
use Rattle.lin_rows.specs.Row.{Row}
use Rattle.lin_rows.specs.System.{System}
use Rattle.transition_formula.specs.Program.{Program, Thread, Edge, at_number, IsThreadOf, IsEdgeOf}
use Rattle.transition_formula.specs.Rows.{column_is}
use Rattle.horn_rules.specs.declared.job.Premise.{Premise}
use Rattle.horn_rules.specs.Home.{Home, State, Env, homes}
use Rattle.horn_rules.specs.Fact.{IsSetOf}
use Rattle.horn_rules.specs.Case.{wider_row, init_case, own_case, env_case, inter_case}
use Rattle.horn_rules.specs.Job.{premise_says}

-- ---- what is asked of premises

-- The premise stands at the home, and its predicates are atoms of that.
pub record IsPremiseAt (program : Program) (premise : Premise) (home : Home) : Type 0 where
  pub home_is : at_number (homes program) premise.fact.home.0 ≡ Some home
  pub set_is : IsSetOf program home premise.set.value

-- The premise stands at the source of the thread's edge e.
pub record IsAtSource (program : Program) (premise : Premise) (e : ℕ) : Type 0 where
  pub i : ℕ
  pub thread : Thread
  pub edge : Edge
  pub edge_is : IsEdgeOf program i e thread edge
  pub premise_is : IsPremiseAt program premise (State i edge.from)

-- The premise stands at a location of a thread.
pub record IsAtLocation (program : Program) (premise : Premise) : Type 0 where
  pub i : ℕ
  pub l : ℕ
  pub thread : Thread
  pub thread_is : IsThreadOf program i thread
  pub premise_is : IsPremiseAt program premise (State i l)

-- The premise stands at an edge of a thread.
pub record IsAtEdge (program : Program) (premise : Premise) : Type 0 where
  pub i : ℕ
  pub e : ℕ
  pub thread : Thread
  pub edge : Edge
  pub edge_is : IsEdgeOf program i e thread edge
  pub premise_is : IsPremiseAt program premise (Env i e)

-- The premises are those that the instance names.
abbrev pub AreItsPremises : Program → StoredInstance → Option Premise → Option Premise → Type 0
AreItsPremises program (Init i) None None = Unit {0}
AreItsPremises program (Own f e) (Some premise) None = IsAtSource program premise e.0
AreItsPremises program (Guar f e) (Some premise) None = IsAtSource program premise e.0
AreItsPremises program (Environment f t) (Some first) (Some second) = IsAtLocation program first × IsAtEdge program second
AreItsPremises program (Inter f g e) (Some first) (Some second) = IsAtLocation program first × IsAtSource program second e.0
AreItsPremises program instance first second = ⊥

-- ---- what the rows are

-- a step of a thread from what the premise says: as the thread's own, and as the others see it
abbrev pub AreStepRows : Program → Premise → ℕ → System → Type 0
AreStepRows program premise e rows =
    (i : ℕ) (thread : Thread) (edge : Edge) → IsEdgeOf program i e thread edge → at_number (homes program) premise.fact.home.0 ≡ Some (State i edge.from)
    → rows ≡ (own_case program i thread edge (premise_says program premise)).system

-- a thread stays in a step of another, of which the second premise tells
abbrev pub AreEnvRows : Program → Premise → Premise → System → Type 0
AreEnvRows program first second rows =
    (k l i e : ℕ) (other thread : Thread) (edge : Edge) → IsThreadOf program k other → IsEdgeOf program i e thread edge
    → at_number (homes program) first.fact.home.0 ≡ Some (State k l) → at_number (homes program) second.fact.home.0 ≡ Some (Env i e)
    → rows ≡ (env_case program k l other thread edge (premise_says program first) (premise_says program second)).system

-- a thread stays in a step of another, from what the second premise says
abbrev pub AreInterRows : Program → Premise → Premise → ℕ → System → Type 0
AreInterRows program first second e rows =
    (k l i : ℕ) (other thread : Thread) (edge : Edge) → IsThreadOf program k other → IsEdgeOf program i e thread edge
    → at_number (homes program) first.fact.home.0 ≡ Some (State k l) → at_number (homes program) second.fact.home.0 ≡ Some (State i edge.from)
    → rows ≡ (inter_case program k l other thread edge (premise_says program first) (premise_says program second)).system

-- an instance of this kind, with these premises
abbrev pub AreRowsOfKind : Program → StoredInstance → Option Premise → Option Premise → System → Type 0
AreRowsOfKind program (Init i) first second rows = rows ≡ (init_case program i.0).system
AreRowsOfKind program (Own f e) (Some premise) second rows = AreStepRows program premise e.0 rows
AreRowsOfKind program (Guar f e) (Some premise) second rows = AreStepRows program premise e.0 rows
AreRowsOfKind program (Environment f t) (Some first) (Some second) rows = AreEnvRows program first second rows
AreRowsOfKind program (Inter f g e) (Some first) (Some second) rows = AreInterRows program first second e.0 rows
AreRowsOfKind program instance first second rows = ⊥

-- one premise, over so many columns, of which n are a state's: the thread is at location l, and the premise's atoms hold
abbrev pub said_rows : ℕ → ℕ → Thread → ℕ → List Row → List Row
said_rows n width thread l atoms = column_is width thread.counter (pos l) ∷ map (wider_row (width - n)) atoms
