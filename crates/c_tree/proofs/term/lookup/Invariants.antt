use Rattle.std.proofs.Common.{◌≡◌, length, map}
use Rattle.c_tree.specs.Term.{lookup}
use Rattle.c_tree.proofs.term.lookup.Given as goal

-- what is left of the table gives what all of it does
abbrev pub invariant-loop-table : goal.invariant-loop-table
invariant-loop-table l = lookup (map (λ e. (e.0.now, e.1)) l.table) l.text l.otherwise ≡ lookup (map (λ e. (e.0.now, e.1)) l.initial.table) l.text l.otherwise

abbrev pub decreases-loop-table : goal.decreases-loop-table
decreases-loop-table l = length l.table
