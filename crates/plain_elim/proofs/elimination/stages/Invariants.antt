use Rattle.std.proofs.Common.{◌≡◌, ◌-◌, length}
use Rattle.farkas_cert.specs.Elimination.{outcome_of, stages}
use Rattle.plain_elim.specs.inside.Held.{work_of, IsReady}
use Rattle.plain_elim.proofs.elimination.stages.Given as goal

abbrev pub invariant-stages : goal.invariant-stages
invariant-stages l =
    IsReady l.rows (work_of l.work) × (length l.work.kept.items ≡ l.taken)
    × (outcome_of l.rows ≡ stages (l.rows.columns - l.taken) l.rows (work_of l.work))
