use Rattle.std.proofs.Common.{◌≡◌, ℕ, ◌<◌, false, get_or}
use Rattle.instance_cursors.specs.declared.start.Start.{Start}
use Rattle.instance_cursors.specs.Choice.{is_open}
use Rattle.instance_cursors.proofs.choosing.first_start.Given as goal

abbrev pub invariant-loop-place : goal.invariant-loop-place
invariant-loop-place l = (k : ℕ) (d : Start) → k < l.place → is_open l.layout l.only (get_or l.starts k d) ≡ false
