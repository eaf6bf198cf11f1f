-- What an annotation that passes covers.
use Rattle.std.proofs.Common.{◌≡◌, ◌≢◌, ℕ, zero, suc, ℤ, List, [], ◌∷◌, map, Option, Some, None, refl, sym, ap, ap₂, subst, ◌∙◌, unwrap_or}
use Rattle.std.specs.Option.{IsSome}
use Rattle.std.specs.List.{AllByRecursion, Contains}
use Rattle.thr_base.specs.declared.names.Fact.{Fact as StoredFact}
use Rattle.lin_rows.specs.Row.{Row}
use Rattle.lin_rows.specs.System.{IsPoint}
use Rattle.farkas_cert.specs.Proof.{Entails}
use Rattle.farkas_cert.proofs.Refutations.{refuted-has-no-whole-point}
use Rattle.transition_formula.specs.Program.{Program, at_number}
use Rattle.transition_formula.specs.Laws.{FailingRunsReach}
use Rattle.horn_rules.specs.Home.{Home, State, IsHomeOf, homes}
use Rattle.horn_rules.specs.Fact.{Statement, IsStatementOf, statement_of}
use Rattle.horn_rules.specs.Instance.{Instance, Init, Own, Guar, Env as Environment, Inter, premises_of, map_instance}
use Rattle.horn_rules.specs.Instances.{IsResolved}
use Rattle.horn_rules.specs.Case.{Case, IsCaseOf}
use Rattle.horn_rules.specs.Post.{IsGiven}
use Rattle.horn_rules.specs.Cover.{IsClosed, HasNoneFailing}
use Rattle.horn_rules.specs.Laws.{IsInstanceOver}
use Rattle.horn_rules.specs.Stored.{fact_of, sets_of, HasItsHome}
use Rattle.horn_rules.proofs.Cases.{cases-unique}
use Rattle.horn_rules.proofs.Covering.{closed-lists-cover, lists-are-safe}
use Rattle.horn_rules.proofs.GivenAtoms.{statement-is}
use Rattle.horn_rules.proofs.InstancesExact.{instances-exact}
use Rattle.horn_rules.proofs.Lists.{Contains-slice_get, all-contained, contains-nothing, first-or-later, slice_get-Contains}
use Rattle.horn_rules.proofs.Numbers.{home-numbered}
use Rattle.horn_rules.proofs.StoredSets.{sets-by-number}
use Rattle.annotation_form.specs.Annotation.{Annotation, Group, Refuted, Gives, statements_of, instances_of}
use Rattle.annotation_form.specs.Passes.{CertificatesProve, ProvesCase, ProvesCheck, AllProve, NoneFails, Passes, IsOfProgram, PassingAnnotationsCover, PassingAnnotationsAreSafe}
use Rattle.std.proofs.Common.{inl, inr}

-- ---- what is resolved is one instance

nothing : Statement
nothing = record { home = State 0 0; atoms = [] }

taken-out : (instance : Instance Statement) → map_instance (λ o. unwrap_or o nothing) (map_instance Some instance) ≡ instance
taken-out (Init i) = refl
taken-out (Own f e) = refl
taken-out (Guar f e) = refl
taken-out (Environment f t) = refl
taken-out (Inter f g e) = refl

pub resolved-one : (statements : List Statement) (numbers : Instance ℕ) (one other : Instance Statement) → IsResolved statements numbers one → IsResolved statements numbers other → one ≡ other
resolved-one statements numbers one other a b =
    sym (taken-out one) ∙ ap (map_instance (λ o. unwrap_or o nothing)) (sym a ∙ b) ∙ taken-out other

-- ---- each instance over listed statements has numbers

number-of : (statements : List Statement) (f : Statement) → Contains statements f → (n : ℕ) × (at_number statements n ≡ Some f)
number-of statements f there = let (k, at) = slice_get-Contains statements f there in (suc k, at)

numbers-of : (statements : List Statement) (instance : Instance Statement) → AllByRecursion (Contains statements) (premises_of instance) → (numbers : Instance ℕ) × IsResolved statements numbers instance
numbers-of statements (Init i) all = (Init i, refl)
numbers-of statements (Own f e) all = let (n, at) = number-of statements f all.0 in (Own n e, ap (λ o. Own o e) at)
numbers-of statements (Guar f e) all = let (n, at) = number-of statements f all.0 in (Guar n e, ap (λ o. Guar o e) at)
numbers-of statements (Environment f t) all =
    let (n, at) = number-of statements f all.0 in
    let (m, there) = number-of statements t all.1.0 in
    (Environment n m, ap₂ (λ a b. Environment a b) at there)
numbers-of statements (Inter f g e) all =
    let (n, at) = number-of statements f all.0 in
    let (m, there) = number-of statements g all.1.0 in
    (Inter n m e, ap₂ (λ a b. Inter a b e) at there)

-- ---- what the facts say

statements-are : (program : Program) (annotation : Annotation) → IsOfProgram program annotation → (facts : List StoredFact)
    → AllByRecursion (IsStatementOf program) (map (λ fact. statement_of (sets_of program annotation.sets) (fact_of program fact)) facts)
statements-are program annotation is [] = tt
statements-are program annotation is (fact ∷ facts) = (
  statement-is program (sets_of program annotation.sets) (fact_of program fact) (sets-by-number program annotation.sets is.sets_are).sets_are,
  statements-are program annotation is facts,
)

home-there : (program : Program) (n : ℕ) (found : Option Home) → at_number (homes program) n ≡ found → IsSome found → IsHomeOf program (unwrap_or found (State 0 0))
home-there program n None at there = cc
home-there program n (Some home) at there = home-numbered program n home at

pub statements-home : (program : Program) (annotation : Annotation) (facts : List StoredFact) → AllByRecursion (HasItsHome program) facts
    → AllByRecursion (λ statement. IsHomeOf program statement.home) (map (λ fact. statement_of (sets_of program annotation.sets) (fact_of program fact)) facts)
statements-home program annotation [] all = tt
statements-home program annotation (fact ∷ facts) all = (
  home-there program fact.home.0 (at_number (homes program) fact.home.0) refl all.0,
  statements-home program annotation facts all.1,
)

-- ---- a check is proved of each instance

proved-at : (program : Program) (annotation : Annotation) (instances : List (Instance ℕ)) (groups : List Group) (numbers : Instance ℕ) → AllProve program annotation instances groups
    → Contains instances numbers → (group : Group) × ProvesCheck program annotation numbers group
proved-at program annotation [] groups numbers all there = absurd (contains-nothing numbers there)
proved-at program annotation (first ∷ instances) [] numbers all there = absurd all
proved-at program annotation (first ∷ instances) (group ∷ groups) numbers all there = elim (first-or-later first numbers instances there) [
  | inl same ↦ (group, subst (λ n. ProvesCheck program annotation n group) same all.0)
  | inr later ↦ proved-at program annotation instances groups numbers all.1 later
]

entailed-each : (annotation : Annotation) (given : Case) (certificates : List ℕ) (atoms : List Row) → CertificatesProve annotation given certificates atoms
    → AllByRecursion (λ atom. Entails given.system (given.place atom)) atoms
entailed-each annotation given [] [] all = tt
entailed-each annotation given [] (atom ∷ atoms) all = absurd all
entailed-each annotation given (c ∷ certificates) [] all = tt
entailed-each annotation given (c ∷ certificates) (atom ∷ atoms) all =
    ((all.0.0, all.0.2.refutes), entailed-each annotation given certificates atoms all.1)

gives : (program : Program) (annotation : Annotation) (given : Case) (group : Group) (z : List ℤ) → ProvesCase program annotation given group → IsPoint given.system z
    → (statement : Statement) × Contains (statements_of program annotation) statement × IsGiven given statement
gives program annotation given (Refuted c) z (pairs, at, proves) point = absurd (refuted-has-no-whole-point given.system z (pairs, proves.refutes) point)
gives program annotation given (Gives n certificates) z (statement, at, proves) point = (
  statement,
  listed n at,
  record { at_target = proves.at_target; entailed = entailed-each annotation given certificates statement.atoms proves.entailed },
)
  where
    listed : (k : ℕ) → at_number (statements_of program annotation) k ≡ Some statement → Contains (statements_of program annotation) statement
    listed zero e = cc
    listed (suc k) e = Contains-slice_get (statements_of program annotation) k statement e

closed : (program : Program) (annotation : Annotation) → IsOfProgram program annotation → Passes program annotation
    → IsClosed program annotation.rule (Contains (statements_of program annotation))
closed program annotation of passes instance given z has case all point =
    let statements = statements_of program annotation in
    let (numbers, resolved) = numbers-of statements instance all in
    let exact = instances-exact program annotation.rule statements (statements-home program annotation annotation.facts of.facts_are) in
    let over : IsInstanceOver program annotation.rule statements numbers = record { instance = instance; given = given; has_kind = has; resolved = resolved; is_case = case } in
    let (group, check) = proved-at program annotation (instances_of program annotation) annotation.groups numbers passes.checks ((exact.exact numbers).1 over) in
    let same : check.instance ≡ instance = resolved-one statements numbers check.instance instance check.resolved resolved in
    let one : check.given ≡ given = cases-unique program instance check.given given (subst (λ i. IsCaseOf program i check.given) same check.is_case) case in
    gives program annotation given group z (subst (λ g. ProvesCase program annotation g group) one check.proves) point

pub passing-covers : PassingAnnotationsCover
passing-covers program annotation is of passes =
    closed-lists-cover program annotation.rule (statements_of program annotation) is (statements-are program annotation of annotation.facts) (closed program annotation of passes)

none-failing : (program : Program) (annotation : Annotation) → NoneFails program annotation → (i : ℕ) → HasNoneFailing (Contains (statements_of program annotation)) i
none-failing program annotation none i statement there =
    all-contained (λ (s : Statement). (k : ℕ) → s.home ≢ State k 0) (statements_of program annotation) statement none there i

pub passing-safe : FailingRunsReach → PassingAnnotationsAreSafe
passing-safe reach program annotation is of passes =
    lists-are-safe reach program (statements_of program annotation) (passing-covers program annotation is of passes) (none-failing program annotation passes.none_fails)
