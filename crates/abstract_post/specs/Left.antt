-- When a job is left undecided, and what an answer says of a job.
use Rattle.std.specs.Prelude.{◌≡◌, ◌⊎◌, List, [], ◌∷◌, map, Option, Some, None}
use Rattle.std.specs.Option.{option_or}
use Rattle.std.specs.List.{AllByRecursion}
use Rattle.thr_base.specs.declared.names.RuleName.{RuleName}
use Rattle.lin_rows.specs.Row.{Row}
use Rattle.lin_rows.specs.System.{System}
use Rattle.farkas_cert.specs.Cert.{IsRefuted}
use Rattle.farkas_cert.specs.Proof.{with_denial}
use Rattle.farkas_cert.specs.declared.answers.LeaveKind.{LeaveKind}
use Rattle.rational_entail.specs.Entailment.{leave_of}
use Rattle.transition_formula.specs.Program.{Program}
use Rattle.horn_rules.specs.declared.job.Job.{Job}
use Rattle.horn_rules.specs.declared.posted.PostAnswer.{PostAnswer}
use Rattle.horn_rules.specs.declared.posted.PostAnswer.TheVariants.{Posted, Left}
use Rattle.horn_rules.specs.Fact.{Sets, Fact, statement_of}
use Rattle.horn_rules.specs.Instance.{Instance, HasKind, premises_of, map_instance}
use Rattle.horn_rules.specs.Case.{Case, IsCaseOf}
use Rattle.horn_rules.specs.Job.{ComesTo, IsOutcome}

-- the kind with which the first of these systems is left that is left undecided
abbrev pub first_leave : List System → Option LeaveKind
first_leave [] = None
first_leave (system ∷ systems) = option_or (leave_of system) (first_leave systems)

-- A post is decided by a system, and where that is not refuted, by it with the negation of each atom, as the atoms are placed, in their
-- order. The first of these that is left undecided is left with this kind.
abbrev pub LeavesWith : System → (Row → Row) → List Row → LeaveKind → Type 0
LeavesWith system place atoms kind =
    (leave_of system ≡ Some kind)
    ⊎ ((leave_of system ≡ None) × (¬ IsRefuted system) × (first_leave (map (λ atom. with_denial system (place atom)) atoms) ≡ Some kind))

-- So it is with the case.
abbrev pub IsLeft : Case → List Row → LeaveKind → Type 0
IsLeft given atoms kind = LeavesWith given.system given.place atoms kind

-- An instance of the rule leaves, over facts of which this is said: some system that decides it is left undecided, and the first one with
-- this kind.
pub record Leaves (program : Program) (rule : RuleName) (sets : Sets) (Stands : Fact → Type 0) : Type 0 where
  pub instance : Instance Fact
  pub given : Case
  pub kind : LeaveKind
  pub has_kind : HasKind rule instance
  pub is_case : IsCaseOf program (map_instance (statement_of sets) instance) given
  pub stand : AllByRecursion Stands (premises_of instance)
  pub is_left : IsLeft given (sets given.target) kind

-- The job fits, and so it is with its case.
abbrev pub IsJobLeft : Program → Job → LeaveKind → Type 0
IsJobLeft program job kind = (given : Case) × ComesTo program job given × IsLeft given job.target.value kind

-- The answer is one on this job: its post, or the kind with which it is left undecided.
abbrev pub IsPostAnswer : Program → Job → PostAnswer → Type 0
IsPostAnswer program job (Posted done) = (done.job ≡ job) × IsOutcome program job done.held
IsPostAnswer program job (Left given kind) = (given ≡ job) × IsJobLeft program job kind
