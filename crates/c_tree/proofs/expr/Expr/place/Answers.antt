use Rattle.std.proofs.Common.{sym, ◌∙◌}
use Rattle.c_tree.proofs.Starts.{expr_place_is, conjunction_place, equality_place, relation_place, sum_place, product_place}
use Rattle.c_tree.proofs.expr.Expr.place.Goals as goal

pub returns : goal.returns
returns c = c.place.ensures ∙ sym (expr_place_is c.args.self.now ∙ conjunction_place _ ∙ equality_place _ ∙ relation_place _ ∙ sum_place _ ∙ product_place _)
