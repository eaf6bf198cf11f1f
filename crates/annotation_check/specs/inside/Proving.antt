-- What the parts of the check say. No public clause cites this file.
use Rattle.std.specs.Prelude.{◌≡◌, ◌<◌, ◌≤◌, ℕ, List, length, take, slice_get, Option, Some, None}
use Rattle.std.specs.List.{AllByRecursion}
use Rattle.thr_base.specs.Held.{positions}
use Rattle.thr_base.specs.declared.names.Fact.{Fact}
use Rattle.predicate_sets.specs.Sets.{set_at}
use Rattle.transition_formula.specs.Program.{Program}
use Rattle.horn_rules.specs.Home.{Home, State, Env}
use Rattle.horn_rules.specs.Fact.{atoms_at}
use Rattle.horn_rules.specs.Instance.{Instance}
use Rattle.annotation_form.specs.Annotation.{Annotation, Group, statements_of, instances_of}
use Rattle.annotation_form.specs.Whole.{IsGroupOver, named_by}
use Rattle.annotation_form.specs.Passes.{ProvesCheck, AllProve, CertificatesProve}
use Rattle.annotation_check.specs.declared.stored_case.StoredCase.{StoredCase}
use Rattle.annotation_check.specs.inside.Cases.{told_by}

-- The list has an element of this number.
abbrev pub IsNumberOf : {A : Type 0} → List A → ℕ → Type 0
IsNumberOf xs n = (0 < n) × (n ≤ length xs)

-- The fact stands at the home of the case, which entails each of its atoms by its certificate.
pub record GivesFact (annotation : Annotation) (stored : StoredCase) (certificates : List ℕ) (fact : Fact) : Type 0 where
  pub at_home : fact.home.0 ≡ stored.home.0
  pub entailed : CertificatesProve annotation (told_by stored) certificates (atoms_at (set_at annotation.sets fact.home.0) (positions fact.held))

-- What is known of a group of a whole annotation.
pub record IsReady (program : Program) (annotation : Annotation) (group : Group) : Type 0 where
  pub is_over : IsGroupOver (statements_of program annotation) group
  pub are_there : AllByRecursion (IsNumberOf annotation.certificates) (named_by group)

-- The first checks of instances are proved, and the next is not.
pub record IsFirstPlace (program : Program) (annotation : Annotation) (place : ℕ) : Type 0 where
  pub numbers : Instance ℕ
  pub group : Group
  pub numbers_are : slice_get (instances_of program annotation) place ≡ Some numbers
  pub group_is : slice_get annotation.groups place ≡ Some group
  pub proved : AllProve program annotation (take place (instances_of program annotation)) (take place annotation.groups)
  pub unproved : ¬ ProvesCheck program annotation numbers group

-- The first instance whose check is not proved, if there is one.
abbrev pub IsFirst : Program → Annotation → Option ℕ → Type 0
IsFirst program annotation None = AllProve program annotation (instances_of program annotation) annotation.groups
IsFirst program annotation (Some place) = IsFirstPlace program annotation place

-- The home is location 0 of a thread.
abbrev pub IsFailure : Home → Type 0
IsFailure (State i l) = l ≡ 0
IsFailure (Env i e) = ⊥
