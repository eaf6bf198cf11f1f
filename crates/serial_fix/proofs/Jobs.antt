-- The jobs of a run come to the cases that it goes over.
use Rattle.std.proofs.Common.{◌≡◌, ℕ, List, unwrap_or, Option, Some, option_map, refl, sym, ap, ap₂, subst, ◌∙◌}
use Rattle.thr_base.specs.Held.{positions}
use Rattle.thr_base.specs.declared.names.FactId.{FactId}
use Rattle.thr_base.specs.declared.names.Instance.{Instance as StoredInstance}
use Rattle.lin_rows.specs.Row.{Row}
use Rattle.predicate_sets.specs.Sets.{set_at}
use Rattle.transition_formula.specs.Program.{Program, at_number}
use Rattle.horn_rules.specs.declared.job.Premise.{Premise}
use Rattle.horn_rules.specs.declared.job.Job.{Job}
use Rattle.horn_rules.specs.Home.{Home, State, homes}
use Rattle.horn_rules.specs.Fact.{Sets, Fact, Statement, IsSetOf, statement_of, atoms_at}
use Rattle.horn_rules.specs.Instance.{Init, Own, Guar, Env as Environment}
use Rattle.horn_rules.specs.Case.{Case, IsCaseOf, own_case, guar_case, env_case}
use Rattle.horn_rules.specs.Case as rules
use Rattle.horn_rules.specs.Post.{IsPost}
use Rattle.horn_rules.specs.Job.{ComesTo, IsOutcome, premise_says}
use Rattle.horn_rules.specs.Stored.{sets_of, instance_of, AreStoredSetsOf}
use Rattle.horn_rules.proofs.Cases.{jobs-one-case}
use Rattle.horn_rules.proofs.StoredSets.{sets_of-numbered}
use Rattle.farkas_cert.specs.declared.answers.LeaveKind.{LeaveKind}
use Rattle.abstract_post.specs.Left.{IsJobLeft, IsLeft}
use Rattle.serial_fix.specs.inside.Cases as cases
use Rattle.serial_fix.specs.inside.Cases.{IsCase}
use Rattle.serial_fix.specs.inside.Jobs.{Says, IsJobCase, ArePremises, init, own, guar, env}

-- the predicates of a home are the list of its number
pub target-set : (program : Program) (lists : List (List Row)) (n : ℕ) (home : Home) → AreStoredSetsOf program lists → at_number (homes program) n ≡ Some home
    → sets_of program lists home ≡ set_at lists n
target-set program lists n home are at = sets_of-numbered program lists n home are.one_each at

-- a job's case is one over facts
pub job-case : (program : Program) (sets : Sets) (instance : StoredInstance) (first second : Option Premise) (premises : List Fact) (given : Case)
    → IsJobCase program sets instance first second premises given → IsCase program sets premises given
job-case program sets instance first second premises given (init i thread at) = cases.init i.0 thread at
job-case program sets instance first second premises given (own id e one i thread edge f is at home) = cases.own i e.0 thread edge f at home
job-case program sets instance first second premises given (guar id e one i thread edge f is at home) = cases.guar i e.0 thread edge f at home
job-case program sets instance first second premises given (env id told one two k l i e other thread edge f t is_f is_t apart there at home_f home_t) =
    cases.env k l i e other thread edge f t apart there at home_f home_t

-- a premise says what its fact does
says-same : (program : Program) (sets : Sets) (id : FactId) (premise : Premise) (fact : Fact) → Says program sets id premise fact → premise_says program premise ≡ statement_of sets fact
says-same program sets id premise fact is =
    let home : unwrap_or (at_number (homes program) premise.fact.home.0) (State 0 0) ≡ fact.home = ap (λ o. unwrap_or o (State 0 0)) is.home_is in
    let atoms : atoms_at premise.set.value (positions premise.fact.held) ≡ atoms_at (sets fact.home) fact.held = sym (ap₂ atoms_at is.set_is is.held_is) in
    ap₂ (λ (h : Home) (list : List Row). record { home = h; atoms = list }) home atoms

-- ---- what a job comes to

module _ (program : Program) (sets : Sets) (job : Job) where
  pub comes : (instance : StoredInstance) (first second : Option Premise) (premises : List Fact) (given : Case) → job.instance ≡ instance → job.first ≡ first → job.second ≡ second
      → IsJobCase program sets instance first second premises given → ArePremises program first → ArePremises program second
      → at_number (homes program) job.home.0 ≡ Some given.target → IsSetOf program given.target job.target.value → ComesTo program job given
  comes instance first second premises given i_is f_is s_is (init i thread at) fits fits_too home target = record {
    instance = Init i.0;
    instance_is = record { ids_are = sym (ap instance_of i_is); first_is = f_is; second_is = s_is };
    is_case = rules.init i.0 thread at;
    premises_are = tt;
    home_is = home;
    target_is = target;
  }
  comes instance first second premises given i_is f_is s_is (own id e one i thread edge f is at home_f) fits fits_too home target = record {
    instance = Own one e.0;
    instance_is = record { ids_are = ap (λ (n : FactId). Own n.0 e.0) is.id_is ∙ sym (ap instance_of i_is); first_is = f_is; second_is = s_is };
    is_case = subst (λ (s : Statement). IsCaseOf program (Own s e.0) (own_case program i thread edge (statement_of sets f))) (sym (says-same program sets id one f is))
        (rules.own i e.0 thread edge (statement_of sets f) at home_f);
    premises_are = (fits, tt);
    home_is = home;
    target_is = target;
  }
  comes instance first second premises given i_is f_is s_is (guar id e one i thread edge f is at home_f) fits fits_too home target = record {
    instance = Guar one e.0;
    instance_is = record { ids_are = ap (λ (n : FactId). Guar n.0 e.0) is.id_is ∙ sym (ap instance_of i_is); first_is = f_is; second_is = s_is };
    is_case = subst (λ (s : Statement). IsCaseOf program (Guar s e.0) (guar_case program i e.0 thread edge (statement_of sets f))) (sym (says-same program sets id one f is))
        (rules.guar i e.0 thread edge (statement_of sets f) at home_f);
    premises_are = (fits, tt);
    home_is = home;
    target_is = target;
  }
  comes instance first second premises given i_is f_is s_is (env id told one two k l i e other thread edge f t is_f is_t apart there at home_f home_t) fits fits_too home target = record {
    instance = Environment one two;
    instance_is = record { ids_are = ap₂ (λ (n m : FactId). Environment n.0 m.0) is_f.id_is is_t.id_is ∙ sym (ap instance_of i_is); first_is = f_is; second_is = s_is };
    is_case = subst (λ (s : Statement). IsCaseOf program (Environment s (premise_says program two)) (env_case program k l other thread edge (statement_of sets f) (statement_of sets t)))
        (sym (says-same program sets id one f is_f))
        (subst (λ (s : Statement). IsCaseOf program (Environment (statement_of sets f) s) (env_case program k l other thread edge (statement_of sets f) (statement_of sets t)))
        (sym (says-same program sets told two t is_t))
        (rules.env k l i e other thread edge (statement_of sets f) (statement_of sets t) apart there at home_f home_t));
    premises_are = (fits, (fits_too, tt));
    home_is = home;
    target_is = target;
  }

-- the job comes to the case of its facts, whose home it names
pub job-comes : (program : Program) (lists : List (List Row)) (job : Job) (premises : List Fact) (given : Case) → AreStoredSetsOf program lists
    → job.target.value ≡ set_at lists job.home.0 → ArePremises program job.first → ArePremises program job.second
    → IsJobCase program (sets_of program lists) job.instance job.first job.second premises given → at_number (homes program) job.home.0 ≡ Some given.target → ComesTo program job given
job-comes program lists job premises given are target fits fits_too is at =
    comes program (sets_of program lists) job job.instance job.first job.second premises given refl refl refl is fits fits_too at
    (subst (IsSetOf program given.target) (sym target) (are.sets_are job.home.0 given.target at))

-- what the post is of the given case, where its home has the given number
abbrev pub Outcome : Program → List (List Row) → StoredInstance → Option Premise → Option Premise → ℕ → Option ℕ → Type 0
Outcome program lists instance first second home held =
    (premises : List Fact) (given : Case) → IsJobCase program (sets_of program lists) instance first second premises given
    → at_number (homes program) home ≡ Some given.target → IsPost given (sets_of program lists given.target) (option_map positions held)

-- the outcome of a job is the post of the case of its facts
pub outcome-is : (program : Program) (lists : List (List Row)) (job : Job) (held : Option ℕ) → AreStoredSetsOf program lists
    → job.target.value ≡ set_at lists job.home.0 → ArePremises program job.first → ArePremises program job.second → IsOutcome program job held
    → Outcome program lists job.instance job.first job.second job.home.0 held
outcome-is program lists job held are target fits fits_too (other, comes_other, post) premises given is at =
    let mine = job-comes program lists job premises given are target fits fits_too is at in
    let same : other ≡ given = jobs-one-case program job other given comes_other mine in
    subst (λ (atoms : List Row). IsPost given atoms (option_map positions held)) (target ∙ sym (target-set program lists job.home.0 given.target are at))
    (subst (λ (c : Case). IsPost c job.target.value (option_map positions held)) same post)

-- a job that is left is left at the case of its facts
pub left-is : (program : Program) (job : Job) (given : Case) (kind : LeaveKind) → IsJobLeft program job kind → ComesTo program job given → IsLeft given job.target.value kind
left-is program job given kind (other, comes_other, left) mine =
    subst (λ (c : Case). IsLeft c job.target.value kind) (jobs-one-case program job other given comes_other mine) left
