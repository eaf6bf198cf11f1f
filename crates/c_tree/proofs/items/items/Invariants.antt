use Rattle.std.proofs.Common.{length}
use Rattle.c_tree.specs.declared.term.Term.TheVariants as terms
use Rattle.c_tree.specs.inside.Item.{max_levels, item}
use Rattle.c_tree.proofs.ManyLoop.{IsReadTo}
use Rattle.c_tree.proofs.items.items.Given as goal

abbrev pub invariant-items : goal.invariant-items
invariant-items l = IsReadTo terms.End (item max_levels) l.fn.tokens l.all l.tokens

abbrev pub decreases-items : goal.decreases-items
decreases-items l = length l.tokens.tokens
