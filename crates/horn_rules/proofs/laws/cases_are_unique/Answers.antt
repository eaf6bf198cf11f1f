use Rattle.horn_rules.proofs.Cases.{cases-unique, jobs-one-case}
use Rattle.horn_rules.proofs.laws.cases_are_unique.Goals as goal

pub returns-clause-instances : goal.returns-clause-instances
returns-clause-instances c = cases-unique

pub returns-clause-jobs : goal.returns-clause-jobs
returns-clause-jobs c = jobs-one-case
