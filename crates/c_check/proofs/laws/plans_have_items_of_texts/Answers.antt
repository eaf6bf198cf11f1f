use Rattle.c_check.proofs.CodeLemmas.{code-injective}
use Rattle.c_check.proofs.Runs.{plans_have_items}
use Rattle.c_check.proofs.laws.plans_have_items_of_texts.Goals as goal

pub returns-clause-items : goal.returns-clause-items
returns-clause-items c = plans_have_items

pub returns-clause-statements : goal.returns-clause-statements
returns-clause-statements c = code-injective
