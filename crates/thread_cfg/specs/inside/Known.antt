-- What is known of a plan that is built.
use Rattle.c_tree.specs.Plain as plain
use Rattle.c_check.specs.declared.plan.Plan.{Plan}
use Rattle.c_check.specs.Check.{IsAccepted, IsPlanOf}
use Rattle.c_check.specs.WellFormed.{IsWellFormedPlan}

-- The plan is that of this tree, which is accepted, and it is well-formed.
pub record IsKnownPlan (tree : plain.Tree) (plan : Plan) : Type 0 where
  pub accepted : IsAccepted tree
  pub plan_is : IsPlanOf tree plan
  pub well_formed : IsWellFormedPlan plan
