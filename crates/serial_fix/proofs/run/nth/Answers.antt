use Rattle.std.proofs.Common.{arith, rules}
use Rattle.std.proofs.lemmas.Option.{slice_get-get_or}
use Rattle.serial_fix.proofs.run.nth.Goals as goal

pub returns : goal.returns
returns c = search (rules, slice_get-get_or)

pub overflow_add-result : goal.overflow_add-result
overflow_add-result c = omega (arith, c.facts.ensures.few)
