use Rattle.std.proofs.Common.{◌≡◌, ◌≤◌, [], drop}
use Rattle.c_tree.specs.Seen.{plain_items}
use Rattle.c_check.specs.Program.{functions_in, with_functions}
use Rattle.c_check.specs.Scope.{open_scope}
use Rattle.c_check.proofs.items.first_scopes.Given as goal

abbrev pub invariant-loop-item : goal.invariant-loop-item
invariant-loop-item l = record {
  few : l.number ≤ l.item-index;
  declared : with_functions l.scopes l.number (functions_in (plain_items (drop l.item-index l.items))) ≡ with_functions (open_scope []) 0 (functions_in (plain_items l.items));
}
