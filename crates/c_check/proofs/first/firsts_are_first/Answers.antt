use Rattle.c_check.proofs.FirstOf.{firsts-first}
use Rattle.c_check.proofs.first.firsts_are_first.Goals as goal

pub returns : goal.returns
returns c = firsts-first
