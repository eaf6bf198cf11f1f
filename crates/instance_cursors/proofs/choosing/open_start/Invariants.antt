use Rattle.std.proofs.Common.{◌≡◌, ℕ, ◌<◌, false, get_or}
use Rattle.thr_base.specs.declared.names.Instance.TheVariants.{Init}
use Rattle.instance_cursors.specs.declared.start.Start.{Start}
use Rattle.instance_cursors.proofs.choosing.open_start.Given as goal

abbrev pub invariant-loop-place : goal.invariant-loop-place
invariant-loop-place l = (k : ℕ) (d : Start) → k < l.place → (get_or l.starts k d).taken ≡ false → Init (get_or l.starts k d).thread ≡ Init l.thread → ⊥
