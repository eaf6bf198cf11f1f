use Rattle.std.proofs.Common.{◌≡◌, ℕ, ◌<◌, ◌≤◌, false}
use Rattle.instance_cursors.specs.Turns.{has_turn}
use Rattle.instance_cursors.proofs.turns.next_step.Given as goal

abbrev pub invariant-loop-passed : goal.invariant-loop-passed
invariant-loop-passed l = (step : ℕ) → l.after < step → step ≤ l.passed → has_turn l.layout l.early l.series l.fact step ≡ false
