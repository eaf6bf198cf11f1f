-- What is known of the plan of a text.
use Rattle.std.proofs.Common.{ℕ, List}
use Rattle.c_tree.specs.declared.item.Tree.{Tree}
use Rattle.c_tree.specs.Seen.{plain_tree}
use Rattle.c_check.specs.declared.plan.Plan.{Plan}
use Rattle.c_check.proofs.PlanLemmas.{plans-well_formed}
use Rattle.thread_cfg.specs.Read.{IsPlanOfText}
use Rattle.thread_cfg.specs.inside.Known.{IsKnownPlan}

-- the plan of a text is one of which all is known that the graph asks for
pub known-of-text : (text : List ℕ) (tree : Tree) (plan : Plan) → IsPlanOfText text tree plan → IsKnownPlan (plain_tree tree) plan
known-of-text text tree plan is = record {
  accepted = is.accepted;
  plan_is = is.plan_is;
  well_formed = plans-well_formed text tree plan is.is_tree is.accepted is.plan_is;
}
