-- Jobs that fit, by the parts that the code looks at.
use Rattle.std.proofs.Common.{◌≡◌, ℕ, Option, Some, None, sym, ap, subst, ◌∙◌}
use Rattle.std.specs.Prelude.{IsSome, unwrap_or}
use Rattle.std.specs.List.{AllByRecursion}
use Rattle.thr_base.specs.declared.names.Instance.{Instance as StoredInstance}
use Rattle.thr_base.specs.declared.names.Instance.TheVariants as stored
use Rattle.lin_rows.specs.System.{System}
use Rattle.transition_formula.specs.Program.{Program, IsEdgeOf, at_number}
use Rattle.horn_rules.specs.declared.job.Premise.{Premise}
use Rattle.horn_rules.specs.declared.job.Job.{Job}
use Rattle.horn_rules.specs.Home.{Home, State, Env, homes}
use Rattle.horn_rules.specs.Fact.{IsSetOf}
use Rattle.horn_rules.specs.Instance.{Instance, Init, Own, Guar, Env as Environment, Inter, first_of, second_of, premises_of, map_instance}
use Rattle.horn_rules.specs.Case.{Case}
use Rattle.horn_rules.specs.Stored.{instance_of}
use Rattle.horn_rules.specs.Job.{IsPremise, premise_says, ComesTo, IsJob}
use Rattle.horn_rules.specs.inside.JobRows.{IsPremiseAt, IsAtSource, IsAtLocation, IsAtEdge, AreItsPremises, AreRowsOfKind}
use Rattle.horn_rules.proofs.Cases.{IsStep, IsStay, IsTold, Shape, shape}

-- the home that a number has
pub home-there : (o : Option Home) (home : Home) → IsSome o → unwrap_or o (State 0 0) ≡ home → o ≡ Some home
home-there None home there is = cc
home-there (Some found) home there is = ap Some is

premise-at : (program : Program) (premise : Premise) (home : Home) → IsPremise program premise → (premise_says program premise).home ≡ home → IsPremiseAt program premise home
premise-at program premise home is at = record {
  home_is = home-there (at_number (homes program) premise.fact.home.0) home is.has_home at;
  set_is = subst (λ h. IsSetOf program h premise.set.value) at is.set_is;
}

at-source : (program : Program) (premise : Premise) (e m : ℕ) → IsPremise program premise → m ≡ e → IsStep program (premise_says program premise) m → IsAtSource program premise e
at-source program premise e m is same step = record {
  i = step.i;
  thread = step.thread;
  edge = step.edge;
  edge_is = subst (λ n. IsEdgeOf program step.i n step.thread step.edge) same step.edge_is;
  premise_is = premise-at program premise (State step.i step.edge.from) is step.home_is;
}

at-location : (program : Program) (premise : Premise) → IsPremise program premise → IsStay program (premise_says program premise) → IsAtLocation program premise
at-location program premise is stay = record {
  i = stay.k;
  l = stay.l;
  thread = stay.thread;
  thread_is = stay.thread_is;
  premise_is = premise-at program premise (State stay.k stay.l) is stay.home_is;
}

at-edge : (program : Program) (premise : Premise) → IsPremise program premise → IsTold program (premise_says program premise) → IsAtEdge program premise
at-edge program premise is told = record {
  i = told.i;
  e = told.e;
  thread = told.thread;
  edge = told.edge;
  edge_is = told.edge_is;
  premise_is = premise-at program premise (Env told.i told.e) is told.home_is;
}

abbrev ids : Instance Premise → Instance ℕ
ids instance = map_instance (λ (premise : Premise). premise.id.0) instance

both-are : (program : Program) (instance : StoredInstance) (first second one two : Option Premise) → first ≡ one → second ≡ two → AreItsPremises program instance one two → AreItsPremises program instance first second
both-are program instance first second one two is_one is_two are =
    subst (λ o. AreItsPremises program instance o second) (sym is_one) (subst (λ o. AreItsPremises program instance one o) (sym is_two) are)

of-shape : (program : Program) (named : StoredInstance) (first second : Option Premise) (instance : Instance Premise) (given : Case) → ids instance ≡ instance_of named → first ≡ first_of instance → second ≡ second_of instance
    → AllByRecursion (IsPremise program) (premises_of instance) → Shape program (map_instance (premise_says program) instance) given → AreItsPremises program named first second
of-shape program (stored.Init i) first second (Init j) given same one two all is = both-are program (stored.Init i) first second None None one two tt
of-shape program (stored.Own f e) first second (Own p m) given same one two all (step, is) =
    let number : m ≡ e.0 = cc in
    both-are program (stored.Own f e) first second (Some p) None one two (at-source program p e.0 m all.0 number step)
of-shape program (stored.Guar f e) first second (Guar p m) given same one two all (step, is) =
    let number : m ≡ e.0 = cc in
    both-are program (stored.Guar f e) first second (Some p) None one two (at-source program p e.0 m all.0 number step)
of-shape program (stored.Env f t) first second (Environment p q) given same one two all (stay, told, is) =
    both-are program (stored.Env f t) first second (Some p) (Some q) one two (at-location program p all.0 stay, at-edge program q all.1.0 told)
of-shape program (stored.Inter f g e) first second (Inter p q m) given same one two all (stay, step, is) =
    let number : m ≡ e.0 = cc in
    both-are program (stored.Inter f g e) first second (Some p) (Some q) one two (at-location program p all.0 stay, at-source program q e.0 m all.1.0 number step)
of-shape program named first second instance given same one two all is = cc

-- the premises of a job that fits are those that its instance names
pub its-premises : (program : Program) (job : Job) → IsJob program job → AreItsPremises program job.instance job.first job.second
its-premises program job (given, comes) =
    of-shape program job.instance job.first job.second comes.instance given comes.instance_is.ids_are comes.instance_is.first_is comes.instance_is.second_is comes.premises_are
    (shape program (map_instance (premise_says program) comes.instance) given comes.is_case)

-- ---- rows

home-of : (program : Program) (premise : Premise) (home : Home) → IsPremise program premise → (premise_says program premise).home ≡ home → at_number (homes program) premise.fact.home.0 ≡ Some home
home-of program premise home is at = (premise-at program premise home is at).home_is

both-rows : (program : Program) (instance : StoredInstance) (first second one two : Option Premise) (rows : System) → first ≡ one → second ≡ two → AreRowsOfKind program instance first second rows → AreRowsOfKind program instance one two rows
both-rows program instance first second one two rows is_one is_two are =
    subst (λ o. AreRowsOfKind program instance one o rows) is_two (subst (λ o. AreRowsOfKind program instance o second rows) is_one are)

rows-of-shape : (program : Program) (named : StoredInstance) (first second : Option Premise) (instance : Instance Premise) (given : Case) (rows : System) → ids instance ≡ instance_of named → first ≡ first_of instance → second ≡ second_of instance
    → AllByRecursion (IsPremise program) (premises_of instance) → Shape program (map_instance (premise_says program) instance) given → AreRowsOfKind program named first second rows → rows ≡ given.system
rows-of-shape program (stored.Init i) first second (Init j) given rows same one two all is are = are ∙ sym (ap (λ (g : Case). g.system) is)
rows-of-shape program (stored.Own f e) first second (Own p m) given rows same one two all (step, is) are =
    let number : m ≡ e.0 = cc in
    let known = both-rows program (stored.Own f e) first second (Some p) None rows one two are in
    known step.i step.thread step.edge (subst (λ n. IsEdgeOf program step.i n step.thread step.edge) number step.edge_is) (home-of program p (State step.i step.edge.from) all.0 step.home_is)
    ∙ sym (ap (λ (g : Case). g.system) is)
rows-of-shape program (stored.Guar f e) first second (Guar p m) given rows same one two all (step, is) are =
    let number : m ≡ e.0 = cc in
    let known = both-rows program (stored.Guar f e) first second (Some p) None rows one two are in
    known step.i step.thread step.edge (subst (λ n. IsEdgeOf program step.i n step.thread step.edge) number step.edge_is) (home-of program p (State step.i step.edge.from) all.0 step.home_is)
    ∙ sym (ap (λ (g : Case). g.system) is)
rows-of-shape program (stored.Env f t) first second (Environment p q) given rows same one two all (stay, told, is) are =
    let known = both-rows program (stored.Env f t) first second (Some p) (Some q) rows one two are in
    known stay.k stay.l told.i told.e stay.thread told.thread told.edge stay.thread_is told.edge_is
    (home-of program p (State stay.k stay.l) all.0 stay.home_is) (home-of program q (Env told.i told.e) all.1.0 told.home_is)
    ∙ sym (ap (λ (g : Case). g.system) is)
rows-of-shape program (stored.Inter f g e) first second (Inter p q m) given rows same one two all (stay, step, is) are =
    let number : m ≡ e.0 = cc in
    let known = both-rows program (stored.Inter f g e) first second (Some p) (Some q) rows one two are in
    known stay.k stay.l step.i stay.thread step.thread step.edge stay.thread_is (subst (λ n. IsEdgeOf program step.i n step.thread step.edge) number step.edge_is)
    (home-of program p (State stay.k stay.l) all.0 stay.home_is) (home-of program q (State step.i step.edge.from) all.1.0 step.home_is)
    ∙ sym (ap (λ (g : Case). g.system) is)
rows-of-shape program named first second instance given rows same one two all is are = cc

-- rows that are right for each kind are those of the job's case
pub rows-of-job : (program : Program) (job : Job) (rows : System) (given : Case) → AreRowsOfKind program job.instance job.first job.second rows → ComesTo program job given → rows ≡ given.system
rows-of-job program job rows given are comes =
    rows-of-shape program job.instance job.first job.second comes.instance given rows comes.instance_is.ids_are comes.instance_is.first_is comes.instance_is.second_is comes.premises_are
    (shape program (map_instance (premise_says program) comes.instance) given comes.is_case) are
