use Rattle.std.proofs.Common.{length, true, refl, arith}
use Rattle.c_lex.proofs.Places.{stand_from}
use Rattle.c_lex.proofs.Longest.{tokens_from_longest}
use Rattle.c_lex.proofs.laws.tokens_are_those_of_texts.Goals as goal

pub returns-clause-places : goal.returns-clause-places
returns-clause-places c = λ text tokens is. stand_from (length text) 0 true text text tokens refl (omega arith) is

pub returns-clause-longest : goal.returns-clause-longest
returns-clause-longest c = λ text tokens is. tokens_from_longest (length text) 0 true text text tokens refl (omega arith) is
