use Rattle.std.proofs.Common.{ℕ, ◌≤◌}
use Rattle.instance_cursors.specs.inside.Found.{IsStep}
use Rattle.instance_cursors.proofs.finding.step_of.Given as goal

abbrev pub invariant-loop-passed : goal.invariant-loop-passed
invariant-loop-passed l = (step : ℕ) → step ≤ l.passed → IsStep l.layout l.series l.fact l.instance step → ⊥
