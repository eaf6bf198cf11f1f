-- Jobs: an instance with what its rows and its post need, and the outcome of a job.
use Rattle.std.specs.Prelude.{◌≡◌, ℕ, ◌^◌, ◌<◌, length, Option, Some, option_map}
use Rattle.std.specs.List.{AllByRecursion}
use Rattle.thr_base.specs.Held.{positions}
use Rattle.transition_formula.specs.Program.{Program, at_number}
use Rattle.horn_rules.specs.declared.job.Premise.{Premise}
use Rattle.horn_rules.specs.declared.job.Job.{Job}
use Rattle.horn_rules.specs.Home.{homes}
use Rattle.horn_rules.specs.Fact.{Statement, IsSetOf, atoms_at}
use Rattle.horn_rules.specs.Instance.{Instance, first_of, second_of, premises_of, map_instance}
use Rattle.horn_rules.specs.Case.{Case, IsCaseOf}
use Rattle.horn_rules.specs.Post.{IsPost}
use Rattle.horn_rules.specs.Stored.{HasItsHome, home_numbered, instance_of}

-- what a premise says, by its own list of predicates
abbrev pub premise_says : Program → Premise → Statement
premise_says program premise = record { home = home_numbered program premise.fact.home.0; atoms = atoms_at premise.set.value (positions premise.fact.held) }

-- The premise stands at a home of the program, with predicates of it, of which it holds none that is not there.
pub record IsPremise (program : Program) (premise : Premise) : Type 0 where
  pub has_home : HasItsHome program premise.fact
  pub set_is : IsSetOf program (home_numbered program premise.fact.home.0) premise.set.value
  pub held_within : premise.fact.held < 2 ^ length premise.set.value

-- The instance is the job's, over its premises: just those that the job's instance names, by their ids and in order.
pub record IsInstanceOf (job : Job) (instance : Instance Premise) : Type 0 where
  pub ids_are : map_instance (λ premise. premise.id.0) instance ≡ instance_of job.instance
  pub first_is : job.first ≡ first_of instance
  pub second_is : job.second ≡ second_of instance

-- The job fits the program, and comes to this case: it is that of its instance over what its premises say; the job names the case's
-- home, and all predicates are of their homes.
pub record ComesTo (program : Program) (job : Job) (given : Case) : Type 0 where
  pub instance : Instance Premise
  pub instance_is : IsInstanceOf job instance
  pub is_case : IsCaseOf program (map_instance (premise_says program) instance) given
  pub premises_are : AllByRecursion (IsPremise program) (premises_of instance)
  pub home_is : at_number (homes program) job.home.0 ≡ Some given.target
  pub target_is : IsSetOf program given.target job.target.value

-- The job fits the program.
abbrev pub IsJob : Program → Job → Type 0
IsJob program job = (given : Case) × ComesTo program job given

-- The job fits, and the outcome is the post of its case over its target's list: nothing, or the positions that the word holds.
abbrev pub IsOutcome : Program → Job → Option ℕ → Type 0
IsOutcome program job held = (given : Case) × ComesTo program job given × IsPost given job.target.value (option_map positions held)

-- a job with its outcome
pub record JobOutcome : Type 0 where
  pub job : Job
  pub held : Option ℕ
