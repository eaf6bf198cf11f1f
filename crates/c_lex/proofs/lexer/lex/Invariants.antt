use Rattle.std.proofs.Common.{length}
use Rattle.c_lex.specs.Tokens.{views}
use Rattle.c_lex.proofs.Steps.{IsReadTo}
use Rattle.c_lex.proofs.lexer.lex.Given as goal

abbrev pub invariant-loop-rest : goal.invariant-loop-rest
invariant-loop-rest l = IsReadTo l.text (views l.tokens.items) l.from l.is_fresh l.rest

abbrev pub decreases-loop-rest : goal.decreases-loop-rest
decreases-loop-rest l = length l.rest
