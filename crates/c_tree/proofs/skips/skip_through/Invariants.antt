use Rattle.std.proofs.Common.{length, reverse}
use Rattle.c_tree.proofs.Skipping.{IsSkippedTo}
use Rattle.c_tree.proofs.skips.skip_through.Given as goal

abbrev pub invariant-loop-ends : goal.invariant-loop-ends
invariant-loop-ends l = IsSkippedTo l.fn.close l.fn.tokens (reverse l.ends) l.tokens

abbrev pub decreases-loop-ends : goal.decreases-loop-ends
decreases-loop-ends l = length l.tokens.tokens
