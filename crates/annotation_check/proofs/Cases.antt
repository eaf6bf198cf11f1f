-- The cases of an annotation's instances.
use Rattle.std.proofs.Common.{◌≡◌, ◌<◌, ◌^◌, ℕ, List, [], ◌∷◌, length, Option, Some, None, refl, sym, ap, ap₂, subst, ◌∙◌}
use Rattle.std.specs.Prelude.{option_map}
use Rattle.std.specs.Option.{IsSome}
use Rattle.std.specs.List.{AllByRecursion, Contains}
use Rattle.thr_base.specs.Held.{positions}
use Rattle.thr_base.specs.declared.names.Fact.{Fact as StoredFact}
use Rattle.thr_base.specs.declared.names.FactId.{FactId}
use Rattle.lin_rows.specs.Row.{Row}
use Rattle.predicate_sets.specs.Sets.{set_at}
use Rattle.transition_formula.specs.Program.{Program, IsProgram, at_number}
use Rattle.horn_rules.specs.declared.job.Premise.{Premise}
use Rattle.horn_rules.specs.declared.job.Job.{Job}
use Rattle.horn_rules.specs.Home.{homes}
use Rattle.horn_rules.specs.Fact.{IsSetOf, statement_of, atoms_at}
use Rattle.horn_rules.specs.Instance.{Instance, Init, Own, Guar, Env as Environment, Inter, first_of, second_of, premises_of, map_instance}
use Rattle.horn_rules.specs.Instances.{IsResolved}
use Rattle.horn_rules.specs.Case.{Case, IsCaseOf, in_front}
use Rattle.horn_rules.specs.Target.{target_at, target_of}
use Rattle.horn_rules.specs.Job as jobs
use Rattle.horn_rules.specs.Job.{IsPremise, premise_says}
use Rattle.horn_rules.specs.Stored.{fact_of, home_numbered, sets_of, instance_of}
use Rattle.horn_rules.proofs.Cases.{cases-unique, atoms-placed}
use Rattle.horn_rules.proofs.InstancesExact.{instances-exact}
use Rattle.horn_rules.proofs.Jobs.{home-there}
use Rattle.horn_rules.proofs.StoredSets.{sets_of-numbered}
use Rattle.horn_rules.proofs.Targets.{cases-have-their-target}
use Rattle.annotation_form.specs.Annotation.{Annotation, Group, statements_of, instances_of}
use Rattle.annotation_form.specs.Passes.{ProvesCase, ProvesCheck}
use Rattle.annotation_form.specs.Whole.{IsAllowed, IsWhole}
use Rattle.annotation_form.proofs.Passing.{resolved-one, statements-home}
use Rattle.annotation_form.proofs.WholeLaws.{whole-of-program}
use Rattle.annotation_check.specs.declared.stored_case.StoredCase.{StoredCase}
use Rattle.annotation_check.specs.inside.Cases.{ComesTo, HasCase, IsPremiseOf, ArePremises, IsStoredCase, LeadsTo, HasItsHome, place_of}
use Rattle.annotation_check.proofs.Lists.{numbered-map, some-mapped, all-numbered}
use Rattle.annotation_check.proofs.Homes.{target-home}

-- ---- one case for each instance

pub has-one : (program : Program) (annotation : Annotation) (numbers : Instance ℕ) (one other : Case) → ComesTo program annotation numbers one → ComesTo program annotation numbers other → one ≡ other
has-one program annotation numbers one other a b =
    let same = resolved-one (statements_of program annotation) numbers a.instance b.instance a.resolved b.resolved in
    cases-unique program b.instance one other (subst (λ i. IsCaseOf program i one) same a.is_case) b.is_case

pub listed-has-case : (program : Program) (annotation : Annotation) (numbers : Instance ℕ) → IsWhole program annotation → Contains (instances_of program annotation) numbers → HasCase program annotation numbers
listed-has-case program annotation numbers whole there =
    let of = whole-of-program program annotation whole in
    let exact = instances-exact program annotation.rule (statements_of program annotation) (statements-home program annotation annotation.facts of.facts_are) in
    let is = (exact.exact numbers).0 there in
    (is.given, record { instance = is.instance; resolved = is.resolved; is_case = is.is_case })

-- the check of an instance is that of its case
pub proves-case : (program : Program) (annotation : Annotation) (numbers : Instance ℕ) (given : Case) (group : Group) → ComesTo program annotation numbers given
    → ProvesCheck program annotation numbers group → ProvesCase program annotation given group
proves-case program annotation numbers given group comes check =
    let same = has-one program annotation numbers check.given given (record { instance = check.instance; resolved = check.resolved; is_case = check.is_case }) comes in
    subst (λ g. ProvesCase program annotation g group) same check.proves

pub case-proves : (program : Program) (annotation : Annotation) (numbers : Instance ℕ) (given : Case) (group : Group) → ComesTo program annotation numbers given
    → ProvesCase program annotation given group → ProvesCheck program annotation numbers group
case-proves program annotation numbers given group comes proves =
    record { instance = comes.instance; given = given; resolved = comes.resolved; is_case = comes.is_case; proves = proves }

-- ---- the facts that it names are there

first-mapped : {F G : Type 0} (f : F → G) (x : Instance F) → first_of (map_instance f x) ≡ option_map f (first_of x)
first-mapped f (Init i) = refl
first-mapped f (Own n e) = refl
first-mapped f (Guar n e) = refl
first-mapped f (Environment n m) = refl
first-mapped f (Inter n m e) = refl

second-mapped : {F G : Type 0} (f : F → G) (x : Instance F) → second_of (map_instance f x) ≡ option_map f (second_of x)
second-mapped f (Init i) = refl
second-mapped f (Own n e) = refl
second-mapped f (Guar n e) = refl
second-mapped f (Environment n m) = refl
second-mapped f (Inter n m e) = refl

of-some : {F : Type 0} (x : Option F) (o : Option F) → Some x ≡ option_map Some o → IsSome x
of-some x None e = cc
of-some x (Some f) e = let same : x ≡ Some f = cc in subst IsSome (sym same) refl

first-there : (program : Program) (annotation : Annotation) (numbers : Instance ℕ) (n : ℕ) (given : Case) → ComesTo program annotation numbers given → first_of numbers ≡ Some n
    → IsSome (at_number annotation.facts n)
first-there program annotation numbers n given comes at =
    let statements = statements_of program annotation in
    let found : Some (at_number statements n) ≡ option_map Some (first_of comes.instance) =
    sym (ap (option_map (at_number statements)) at) ∙ sym (first-mapped (at_number statements) numbers) ∙ ap first_of comes.resolved ∙ first-mapped Some comes.instance in
    some-mapped _ (at_number annotation.facts n) (subst IsSome (numbered-map _ annotation.facts n) (of-some (at_number statements n) (first_of comes.instance) found))

second-there : (program : Program) (annotation : Annotation) (numbers : Instance ℕ) (n : ℕ) (given : Case) → ComesTo program annotation numbers given → second_of numbers ≡ Some n
    → IsSome (at_number annotation.facts n)
second-there program annotation numbers n given comes at =
    let statements = statements_of program annotation in
    let found : Some (at_number statements n) ≡ option_map Some (second_of comes.instance) =
    sym (ap (option_map (at_number statements)) at) ∙ sym (second-mapped (at_number statements) numbers) ∙ ap second_of comes.resolved ∙ second-mapped Some comes.instance in
    some-mapped _ (at_number annotation.facts n) (subst IsSome (numbered-map _ annotation.facts n) (of-some (at_number statements n) (second_of comes.instance) found))

pub premises-there : (program : Program) (annotation : Annotation) (numbers : Instance ℕ) → HasCase program annotation numbers
    → AllByRecursion (λ n. IsSome (at_number annotation.facts n)) (premises_of numbers)
premises-there program annotation (Init i) (given, comes) = tt
premises-there program annotation (Own f e) (given, comes) = (first-there program annotation (Own f e) f given comes refl, tt)
premises-there program annotation (Guar f e) (given, comes) = (first-there program annotation (Guar f e) f given comes refl, tt)
premises-there program annotation (Environment f t) (given, comes) =
    (first-there program annotation (Environment f t) f given comes refl, (second-there program annotation (Environment f t) t given comes refl, tt))
premises-there program annotation (Inter f g e) (given, comes) =
    (first-there program annotation (Inter f g e) f given comes refl, (second-there program annotation (Inter f g e) g given comes refl, tt))

-- ---- what a fact says

pub at-its-home : (program : Program) (annotation : Annotation) (fact : StoredFact) → IsAllowed program annotation fact → at_number (homes program) fact.home.0 ≡ Some (home_numbered program fact.home.0)
at-its-home program annotation fact allowed = home-there (at_number (homes program) fact.home.0) (home_numbered program fact.home.0) allowed.has_home refl

-- by the list that is stored for its home
pub says-by_number : (program : Program) (annotation : Annotation) (fact : StoredFact) → IsWhole program annotation → IsAllowed program annotation fact
    → statement_of (sets_of program annotation.sets) (fact_of program fact) ≡ record { home = home_numbered program fact.home.0; atoms = atoms_at (set_at annotation.sets fact.home.0) (positions fact.held) }
says-by_number program annotation fact whole allowed =
    let home = home_numbered program fact.home.0 in
    let set = sets_of-numbered program annotation.sets fact.home.0 home whole.sets_are.one_each (at-its-home program annotation fact allowed) in
    ap (λ (atoms : List Row). record { home = home; atoms = atoms_at atoms (positions fact.held) }) set

pub said-of_number : (program : Program) (annotation : Annotation) (n : ℕ) (fact : StoredFact) → at_number annotation.facts n ≡ Some fact
    → at_number (statements_of program annotation) n ≡ Some (statement_of (sets_of program annotation.sets) (fact_of program fact))
said-of_number program annotation n fact at = numbered-map _ annotation.facts n ∙ ap (option_map _) at

premise-allowed : (program : Program) (annotation : Annotation) (premise : Premise) → IsWhole program annotation → IsPremiseOf annotation premise → IsAllowed program annotation premise.fact
premise-allowed program annotation premise whole is = all-numbered (IsAllowed program annotation) annotation.facts premise.id.0 premise.fact whole.facts_are is.fact_is

premise-said : (program : Program) (annotation : Annotation) (premise : Premise) → IsWhole program annotation → IsPremiseOf annotation premise
    → at_number (statements_of program annotation) premise.id.0 ≡ Some (premise_says program premise)
premise-said program annotation premise whole is =
    let allowed = premise-allowed program annotation premise whole is in
    said-of_number program annotation premise.id.0 premise.fact is.fact_is
    ∙ ap Some (says-by_number program annotation premise.fact whole allowed
    ∙ ap (λ (atoms : List Row). record { home = home_numbered program premise.fact.home.0; atoms = atoms_at atoms (positions premise.fact.held) }) (sym is.set_is))

-- a premise that the code makes is one of a job
premise-is : (program : Program) (annotation : Annotation) (premise : Premise) → IsWhole program annotation → IsPremiseOf annotation premise → IsPremise program premise
premise-is program annotation premise whole is =
    let allowed = premise-allowed program annotation premise whole is in
    record {
      has_home = allowed.has_home;
      set_is = subst (IsSetOf program (home_numbered program premise.fact.home.0)) (sym is.set_is)
          (whole.sets_are.sets_are premise.fact.home.0 (home_numbered program premise.fact.home.0) (at-its-home program annotation premise.fact allowed));
      held_within = subst (λ (set : List Row). premise.fact.held < 2 ^ length set) (sym is.set_is) allowed.held_within;
    }

-- ---- the instance over the premises

resolved-over : (program : Program) (annotation : Annotation) (over : Instance Premise) → IsWhole program annotation → AllByRecursion (IsPremiseOf annotation) (premises_of over)
    → IsResolved (statements_of program annotation) (map_instance (λ premise. premise.id.0) over) (map_instance (premise_says program) over)
resolved-over program annotation (Init i) whole all = refl
resolved-over program annotation (Own f e) whole all = ap (λ o. Own o e) (premise-said program annotation f whole all.0)
resolved-over program annotation (Guar f e) whole all = ap (λ o. Guar o e) (premise-said program annotation f whole all.0)
resolved-over program annotation (Environment f t) whole all =
    ap₂ (λ a b. Environment a b) (premise-said program annotation f whole all.0) (premise-said program annotation t whole all.1.0)
resolved-over program annotation (Inter f g e) whole all =
    ap₂ (λ a b. Inter a b e) (premise-said program annotation f whole all.0) (premise-said program annotation g whole all.1.0)

over-says : (program : Program) (annotation : Annotation) (numbers : Instance ℕ) (first second : Option Premise) (given : Case) → IsWhole program annotation
    → (are : ArePremises annotation numbers first second) → (comes : ComesTo program annotation numbers given) → comes.instance ≡ map_instance (premise_says program) are.over
over-says program annotation numbers first second given whole are comes =
    let over = subst (λ n. IsResolved (statements_of program annotation) n (map_instance (premise_says program) are.over)) are.ids_are (resolved-over program annotation are.over whole are.each) in
    resolved-one (statements_of program annotation) numbers comes.instance (map_instance (premise_says program) are.over) comes.resolved over

-- ---- where it leads

targets-over : (program : Program) (over : Instance Premise) → target_of program (map_instance (λ statement. statement.home) (map_instance (premise_says program) over))
    ≡ target_at program (map_instance (λ premise. premise.id.0) over) (place_of program (first_of over)) (place_of program (second_of over))
targets-over program (Init i) = refl
targets-over program (Own f e) = refl
targets-over program (Guar f e) = refl
targets-over program (Environment f t) = refl
targets-over program (Inter f g e) = refl

pub leads-to : (program : Program) (annotation : Annotation) (numbers : Instance ℕ) (first second : Option Premise) (given : Case) → IsProgram program → IsWhole program annotation
    → ArePremises annotation numbers first second → ComesTo program annotation numbers given → LeadsTo program numbers first second given.target
leads-to program annotation numbers first second given is whole are comes =
    let same = over-says program annotation numbers first second given whole are comes in
    let target : target_of program (map_instance (λ statement. statement.home) (map_instance (premise_says program) are.over)) ≡ Some given.target =
    sym (ap (λ i. target_of program (map_instance (λ statement. statement.home) i)) same) ∙ cases-have-their-target program comes.instance given comes.is_case in
    let by_ids : target_at program numbers (place_of program (first_of are.over)) (place_of program (second_of are.over)) ≡ Some given.target =
    sym (ap (λ n. target_at program n (place_of program (first_of are.over)) (place_of program (second_of are.over))) are.ids_are) ∙ sym (targets-over program are.over) ∙ target in
    record {
      target_is = ap₂ (λ (a b : Option Premise). target_at program numbers (place_of program a) (place_of program b)) are.first_is are.second_is ∙ by_ids;
      is_home = target-home program comes.instance given is comes.is_case;
    }

-- each premise has its home
have-home : (program : Program) (annotation : Annotation) (premise : Premise) → IsWhole program annotation → IsPremiseOf annotation premise → HasItsHome program (Some premise)
have-home program annotation premise whole is = (premise-allowed program annotation premise whole is).has_home

first-home : (program : Program) (annotation : Annotation) (over : Instance Premise) → IsWhole program annotation → AllByRecursion (IsPremiseOf annotation) (premises_of over) → HasItsHome program (first_of over)
first-home program annotation (Init i) whole all = tt
first-home program annotation (Own f e) whole all = have-home program annotation f whole all.0
first-home program annotation (Guar f e) whole all = have-home program annotation f whole all.0
first-home program annotation (Environment f t) whole all = have-home program annotation f whole all.0
first-home program annotation (Inter f g e) whole all = have-home program annotation f whole all.0

second-home : (program : Program) (annotation : Annotation) (over : Instance Premise) → IsWhole program annotation → AllByRecursion (IsPremiseOf annotation) (premises_of over) → HasItsHome program (second_of over)
second-home program annotation (Init i) whole all = tt
second-home program annotation (Own f e) whole all = tt
second-home program annotation (Guar f e) whole all = tt
second-home program annotation (Environment f t) whole all = have-home program annotation t whole all.1.0
second-home program annotation (Inter f g e) whole all = have-home program annotation g whole all.1.0

pub first-has_home : (program : Program) (annotation : Annotation) (numbers : Instance ℕ) (first second : Option Premise) → IsWhole program annotation → ArePremises annotation numbers first second → HasItsHome program first
first-has_home program annotation numbers first second whole are = subst (HasItsHome program) (sym are.first_is) (first-home program annotation are.over whole are.each)

pub second-has_home : (program : Program) (annotation : Annotation) (numbers : Instance ℕ) (first second : Option Premise) → IsWhole program annotation → ArePremises annotation numbers first second → HasItsHome program second
second-has_home program annotation numbers first second whole are = subst (HasItsHome program) (sym are.second_is) (second-home program annotation are.over whole are.each)

-- ---- the job

premises-are : (program : Program) (annotation : Annotation) (premises : List Premise) → IsWhole program annotation → AllByRecursion (IsPremiseOf annotation) premises → AllByRecursion (IsPremise program) premises
premises-are program annotation [] whole all = tt
premises-are program annotation (premise ∷ premises) whole all = (premise-is program annotation premise whole all.0, premises-are program annotation premises whole all.1)

pub job-comes : (program : Program) (annotation : Annotation) (job : Job) (given : Case) → IsWhole program annotation
    → ArePremises annotation (instance_of job.instance) job.first job.second → ComesTo program annotation (instance_of job.instance) given
    → at_number (homes program) job.home.0 ≡ Some given.target → job.target.value ≡ set_at annotation.sets job.home.0 → jobs.ComesTo program job given
job-comes program annotation job given whole are comes home target = record {
  instance = are.over;
  instance_is = record { ids_are = are.ids_are; first_is = are.first_is; second_is = are.second_is };
  is_case = subst (λ i. IsCaseOf program i given) (over-says program annotation (instance_of job.instance) job.first job.second given whole are comes) comes.is_case;
  premises_are = premises-are program annotation (premises_of are.over) whole are.each;
  home_is = home;
  target_is = subst (IsSetOf program given.target) (sym target) (whole.sets_are.sets_are job.home.0 given.target home);
}

-- ---- the stored case

front-mapped : {F G : Type 0} (n : ℕ) (f : F → G) (x : Instance F) → in_front n (map_instance f x) ≡ in_front n x
front-mapped n f (Init i) = refl
front-mapped n f (Own m e) = refl
front-mapped n f (Guar m e) = refl
front-mapped n f (Environment m k) = refl
front-mapped n f (Inter m k e) = refl

pub stored-case : (program : Program) (annotation : Annotation) (numbers : Instance ℕ) (given : Case) (stored : StoredCase) → ComesTo program annotation numbers given
    → stored.rows ≡ given.system → stored.before ≡ in_front (length program.columns) numbers → at_number (homes program) stored.home.0 ≡ Some given.target → IsStoredCase program given stored
stored-case program annotation numbers given stored comes rows before home =
    let n = length program.columns in
    let front : in_front n comes.instance ≡ stored.before =
    sym (front-mapped n Some comes.instance) ∙ sym (ap (in_front n) comes.resolved) ∙ front-mapped n (at_number (statements_of program annotation)) numbers ∙ sym before in
    record {
      rows_are = rows;
      home_is = home;
      places = λ atom width.
          let is = atoms-placed program comes.instance given atom comes.is_case width in
          record { within = rw (rows, ← front) is.within; placed = rw (rows, ← front) is.placed };
    }

-- ---- what the code makes of an instance

pub own-premises : (annotation : Annotation) (first : Premise) (f : FactId) (e : ℕ) → first.id ≡ f → IsPremiseOf annotation first → ArePremises annotation (Own f.0 e) (Some first) None
own-premises annotation first f e id is = record { over = Own first e; ids_are = ap (λ (n : FactId). Own n.0 e) id; first_is = refl; second_is = refl; each = (is, tt) }

pub guar-premises : (annotation : Annotation) (first : Premise) (f : FactId) (e : ℕ) → first.id ≡ f → IsPremiseOf annotation first → ArePremises annotation (Guar f.0 e) (Some first) None
guar-premises annotation first f e id is = record { over = Guar first e; ids_are = ap (λ (n : FactId). Guar n.0 e) id; first_is = refl; second_is = refl; each = (is, tt) }

pub env-premises : (annotation : Annotation) (first second : Premise) (f t : FactId) → first.id ≡ f → second.id ≡ t → IsPremiseOf annotation first → IsPremiseOf annotation second
    → ArePremises annotation (Environment f.0 t.0) (Some first) (Some second)
env-premises annotation first second f t id other is is_too =
    record { over = Environment first second; ids_are = ap₂ (λ (n m : FactId). Environment n.0 m.0) id other; first_is = refl; second_is = refl; each = (is, (is_too, tt)) }

pub inter-premises : (annotation : Annotation) (first second : Premise) (f g : FactId) (e : ℕ) → first.id ≡ f → second.id ≡ g → IsPremiseOf annotation first → IsPremiseOf annotation second
    → ArePremises annotation (Inter f.0 g.0 e) (Some first) (Some second)
inter-premises annotation first second f g e id other is is_too =
    record { over = Inter first second e; ids_are = ap₂ (λ (n m : FactId). Inter n.0 m.0 e) id other; first_is = refl; second_is = refl; each = (is, (is_too, tt)) }

pub init-premises : (annotation : Annotation) (i : ℕ) → ArePremises annotation (Init i) None None
init-premises annotation i = record { over = Init i; ids_are = refl; first_is = refl; second_is = refl; each = tt }
