-- The checks that an annotation owes, in order, and which of them is the first that is not proved.
use Rattle.std.specs.Prelude.{◌≡◌, ◌+◌, ℕ, List, [], ◌∷◌, ◌++◌, length}
use Rattle.std.specs.List.{AllByRecursion}
use Rattle.transition_formula.specs.Program.{Program}
use Rattle.horn_rules.specs.Instance.{Instance, Init, Own, Guar, Env as Environment, Inter}
use Rattle.annotation_form.specs.Annotation.{Annotation, Group, instances_of}
use Rattle.annotation_form.specs.Passes.{ProvesCheck, NoneFails, Passes}
use Rattle.annotation_check.specs.declared.answer.CheckRule.{CheckRule}
use Rattle.annotation_check.specs.declared.answer.CheckRule.TheVariants.{Initiation, Sequential, Guarantee, Interference, Assertion}
use Rattle.annotation_check.specs.declared.answer.CheckAnswer.{CheckAnswer}
use Rattle.annotation_check.specs.declared.answer.CheckAnswer.TheVariants.{Accepted, Rejected}

-- a check of an instance, which its group is to prove, or the last one, that no fact is at location 0 of a thread
pub data Check : Type 0 where
  OfInstance : Instance ℕ → Group → Check
  OfFacts : Check

-- the checks of instances, each with its group
abbrev pub instance_checks : List (Instance ℕ) → List Group → List Check
instance_checks [] groups = []
instance_checks (numbers ∷ instances) [] = []
instance_checks (numbers ∷ instances) (group ∷ groups) = OfInstance numbers group ∷ instance_checks instances groups

-- the checks of an annotation, in order; their numbers count from 1 through all
abbrev pub checks_of : Program → Annotation → List Check
checks_of program annotation = instance_checks (instances_of program annotation) annotation.groups ++ OfFacts ∷ []

-- The check is proved.
abbrev pub IsProved : Program → Annotation → Check → Type 0
IsProved program annotation (OfInstance numbers group) = ProvesCheck program annotation numbers group
IsProved program annotation OfFacts = NoneFails program annotation

-- what an instance's check is of
abbrev pub instance_rule : Instance ℕ → CheckRule
instance_rule (Init i) = Initiation
instance_rule (Own f e) = Sequential
instance_rule (Guar f e) = Guarantee
instance_rule (Environment f t) = Interference
instance_rule (Inter f g e) = Interference

abbrev pub rule_of : Check → CheckRule
rule_of (OfInstance numbers group) = instance_rule numbers
rule_of OfFacts = Assertion

-- Check n, of this rule, is the first that is not proved.
pub record IsFirstUnproved (program : Program) (annotation : Annotation) (rule : CheckRule) (n : ℕ) : Type 0 where
  pub before : List Check
  pub check : Check
  pub rest : List Check
  pub checks_are : checks_of program annotation ≡ before ++ check ∷ rest
  pub proved : AllByRecursion (IsProved program annotation) before
  pub unproved : ¬ IsProved program annotation check
  pub rule_is : rule ≡ rule_of check
  pub number_is : n ≡ length before + 1

-- When each answer comes.
abbrev pub IsCheckAnswer : Program → Annotation → CheckAnswer → Type 0
IsCheckAnswer program annotation Accepted = Passes program annotation
IsCheckAnswer program annotation (Rejected rule n) = IsFirstUnproved program annotation rule n
