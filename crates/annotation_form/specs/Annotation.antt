-- The value of an annotation: what claims that no run fails, with a certificate for each step of the argument. Facts, certificates
-- and groups are numbered from 1.
use Rattle.std.specs.Prelude.{ℕ, List, map}
use Rattle.thr_base.specs.declared.names.RuleName.{RuleName}
use Rattle.thr_base.specs.declared.names.Fact.{Fact as StoredFact}
use Rattle.lin_rows.specs.Row.{Row}
use Rattle.farkas_cert.specs.Cert.{Pairs}
use Rattle.transition_formula.specs.Program.{Program}
use Rattle.horn_rules.specs.Fact.{Statement, statement_of}
use Rattle.horn_rules.specs.Instance.{Instance}
use Rattle.horn_rules.specs.Instances.{instances_over}
use Rattle.horn_rules.specs.Stored.{fact_of, sets_of}
use Rattle.annotation_form.specs.declared.annotation.Group.{Group as StoredGroup}
use Rattle.annotation_form.specs.declared.annotation.Group.TheVariants as stored

-- what is to prove a check of an instance
pub data Group : Type 0 where
  -- the certificate of this number refutes the instance's system
  Refuted : ℕ → Group
  -- the instance gives the fact of this number: each atom of it by the certificate of a number, in order
  Gives : ℕ → List ℕ → Group

-- the group that the code's value stands for
abbrev pub group_of : StoredGroup → Group
group_of (stored.Refuted c) = Refuted c
group_of (stored.Fact n certificates) = Gives n certificates.items

pub record Annotation : Type 0 where
  pub rule : RuleName
  -- the predicates of each home, by the numbers of homes
  pub sets : List (List Row)
  pub facts : List StoredFact
  pub certificates : List Pairs
  pub groups : List Group

-- what its facts say
abbrev pub statements_of : Program → Annotation → List Statement
statements_of program annotation = map (λ fact. statement_of (sets_of program annotation.sets) (fact_of program fact)) annotation.facts

-- the instances of its rule over its facts, in their order: there is a check for each
abbrev pub instances_of : Program → Annotation → List (Instance ℕ)
instances_of program annotation = instances_over program annotation.rule (statements_of program annotation)
