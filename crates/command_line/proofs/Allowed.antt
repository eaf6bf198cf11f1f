-- The limits that words give are within bounds.
use Rattle.std.proofs.Common.{◌≡◌, ◌≤◌, ℕ, List, Option, Some, None, arith}
use Rattle.thr_base.specs.Limits.{AreAllowed, most_facts, most_jobs, most_refinements, most_nodes, default_facts, default_jobs, default_refinements, default_nodes}
use Rattle.command_line.specs.Request.{Asks, Request, IsSetting}

-- A setting is within its bounds, where its default is.
within : (least most default : ℕ) (text : Option (List ℕ)) (n : ℕ) → least ≤ default → default ≤ most → IsSetting least most default text n → (least ≤ n) × (n ≤ most)
within least most default None n low high is = (omega (arith, low, is), omega (arith, high, is))
within least most default (Some text) n low high is = (is.above, is.below)

pub limits-allowed : (words : List (List ℕ)) (request : Request) → Asks words request → AreAllowed request.options.limits
limits-allowed words request asks =
    let are = asks.options.limits in
    let given = asks.given in
    let limits = request.options.limits in
    let facts = within 1 most_facts default_facts given.facts limits.facts (omega arith) (omega arith) are.facts in
    let jobs = within 1 most_jobs default_jobs given.jobs limits.jobs (omega arith) (omega arith) are.jobs in
    let refinements = within 0 most_refinements default_refinements given.refinements limits.refinements (omega arith) (omega arith) are.refinements in
    let tree = within 1 most_nodes default_nodes given.tree limits.tree (omega arith) (omega arith) are.tree in
    record {
      some_facts = facts.0;
      few_facts = facts.1;
      some_jobs = jobs.0;
      few_jobs = jobs.1;
      few_refinements = refinements.1;
      some_nodes = tree.0;
      few_nodes = tree.1;
    }
