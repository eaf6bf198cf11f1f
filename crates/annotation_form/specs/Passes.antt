-- When an annotation passes, and what follows of all runs.
use Rattle.std.specs.Prelude.{◌≡◌, ◌≢◌, ℕ, List, [], ◌∷◌, Some}
use Rattle.std.specs.List.{AllByRecursion, Contains}
use Rattle.lin_rows.specs.Row.{Row}
use Rattle.lin_rows.specs.System.{System}
use Rattle.farkas_cert.specs.Cert.{Pairs}
use Rattle.farkas_cert.specs.Proof.{Proves, with_denial}
use Rattle.transition_formula.specs.Program.{Program, IsProgram, at_number}
use Rattle.horn_rules.specs.Home.{State}
use Rattle.horn_rules.specs.Fact.{Statement}
use Rattle.horn_rules.specs.Instance.{Instance}
use Rattle.horn_rules.specs.Instances.{IsResolved}
use Rattle.horn_rules.specs.Case.{Case, IsCaseOf}
use Rattle.horn_rules.specs.Cover.{Covers, NoRunFails}
use Rattle.horn_rules.specs.Stored.{HasItsHome, AreStoredSetsOf}
use Rattle.annotation_form.specs.Annotation.{Annotation, Group, Refuted, Gives, statements_of, instances_of}

-- The certificate of the number is there, and refutes the system within the bounds of a check.
abbrev pub CertificateProves : Annotation → System → ℕ → Type 0
CertificateProves annotation system c = (pairs : Pairs) × (at_number annotation.certificates c ≡ Some pairs) × Proves system pairs

-- Each atom, as the case places it, is entailed by its certificate.
abbrev pub CertificatesProve : Annotation → Case → List ℕ → List Row → Type 0
CertificatesProve annotation given [] [] = Unit {0}
CertificatesProve annotation given (c ∷ certificates) (atom ∷ atoms) =
    CertificateProves annotation (with_denial given.system (given.place atom)) c × CertificatesProve annotation given certificates atoms
CertificatesProve annotation given certificates atoms = ⊥

-- The case gives the statement: it stands at the case's target, and each of its atoms is entailed by its certificate.
pub record GivesBy (annotation : Annotation) (given : Case) (certificates : List ℕ) (statement : Statement) : Type 0 where
  pub at_target : statement.home ≡ given.target
  pub entailed : CertificatesProve annotation given certificates statement.atoms

-- The group proves the check of a case: its certificate refutes the system, or the case gives what the fact of its number says.
abbrev pub ProvesCase : Program → Annotation → Case → Group → Type 0
ProvesCase program annotation given (Refuted c) = CertificateProves annotation given.system c
ProvesCase program annotation given (Gives n certificates) =
    (statement : Statement) × (at_number (statements_of program annotation) n ≡ Some statement) × GivesBy annotation given certificates statement

-- The group proves the check of the instance over the annotation's facts.
pub record ProvesCheck (program : Program) (annotation : Annotation) (numbers : Instance ℕ) (group : Group) : Type 0 where
  pub instance : Instance Statement
  pub given : Case
  pub resolved : IsResolved (statements_of program annotation) numbers instance
  pub is_case : IsCaseOf program instance given
  pub proves : ProvesCase program annotation given group

-- Each instance has a group, which proves its check.
abbrev pub AllProve : Program → Annotation → List (Instance ℕ) → List Group → Type 0
AllProve program annotation [] [] = Unit {0}
AllProve program annotation (numbers ∷ instances) (group ∷ groups) = ProvesCheck program annotation numbers group × AllProve program annotation instances groups
AllProve program annotation instances groups = ⊥

-- No fact is at location 0 of a thread.
abbrev pub NoneFails : Program → Annotation → Type 0
NoneFails program annotation = AllByRecursion (λ statement. (i : ℕ) → statement.home ≢ State i 0) (statements_of program annotation)

-- The annotation passes: each check is proved, in order, and no fact is at location 0.
pub record Passes (program : Program) (annotation : Annotation) : Type 0 where
  pub checks : AllProve program annotation (instances_of program annotation) annotation.groups
  pub none_fails : NoneFails program annotation

-- The annotation speaks of the program: its lists are predicates of the program's homes, and its facts stand at homes of it.
pub record IsOfProgram (program : Program) (annotation : Annotation) : Type 0 where
  pub sets_are : AreStoredSetsOf program annotation.sets
  pub facts_are : AllByRecursion (HasItsHome program) annotation.facts

-- ---- laws

-- Where an annotation passes, a listed fact describes each state that a run comes to at each thread: it is at the thread's counter, and
-- its atoms hold.
abbrev pub PassingAnnotationsCover : Type 0
PassingAnnotationsCover = (program : Program) (annotation : Annotation) → IsProgram program → IsOfProgram program annotation → Passes program annotation
    → Covers program (Contains (statements_of program annotation))

-- Then no run of the program fails.
abbrev pub PassingAnnotationsAreSafe : Type 0
PassingAnnotationsAreSafe = (program : Program) (annotation : Annotation) → IsProgram program → IsOfProgram program annotation → Passes program annotation → NoRunFails program
