use Rattle.std.proofs.Common.{drop}
use Rattle.c_tree.specs.Seen.{plain_items}
use Rattle.c_check.specs.inside.Walked.{IsSoFar, next_of}
use Rattle.c_check.proofs.items.walk_items.Given as goal

abbrev pub invariant-loop-item : goal.invariant-loop-item
invariant-loop-item l = IsSoFar (record { items = plain_items l.items; end = l.end }) l.walk (next_of l.walk) (plain_items (drop l.item-index l.items))
