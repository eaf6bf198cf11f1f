use Rattle.std.proofs.Common.{sym, ◌∙◌}
use Rattle.c_tree.proofs.Steps.{ok_parts}
use Rattle.c_tree.proofs.Again.{expr_again}
use Rattle.c_tree.proofs.laws.expressions_are_unique.Goals as goal

pub returns : goal.returns
returns c = λ levels e f ts rest is also lt. (ok_parts e f _ _ (sym (expr_again levels 0 e ts rest is lt) ∙ expr_again levels 0 f ts rest also lt)).0
