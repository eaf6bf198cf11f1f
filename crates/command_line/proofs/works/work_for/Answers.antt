use Rattle.command_line.specs.Request.{verify, tables, tables_with, check, replay, generate, bench, help}
use Rattle.command_line.proofs.works.work_for.Goals as goal

pub returns-in-Verify-One-clause-some : goal.returns-in-Verify-One-clause-some
returns-in-Verify-One-clause-some c = rw (c.in-Verify-One.is-0, c.in-Verify-One.is-1) (verify _)

pub returns-in-Tables-One-clause-some : goal.returns-in-Tables-One-clause-some
returns-in-Tables-One-clause-some c = rw (c.in-Tables-One.is-0, c.in-Tables-One.is-1) (tables _)

pub returns-in-Tables-Two-clause-some : goal.returns-in-Tables-Two-clause-some
returns-in-Tables-Two-clause-some c = rw (c.in-Tables-Two.is-0, c.in-Tables-Two.is-1) (tables_with _ _)

pub returns-in-Check-Two-clause-some : goal.returns-in-Check-Two-clause-some
returns-in-Check-Two-clause-some c = rw (c.in-Check-Two.is-0, c.in-Check-Two.is-1) (check _ _)

pub returns-in-Replay-Two-clause-some : goal.returns-in-Replay-Two-clause-some
returns-in-Replay-Two-clause-some c = rw (c.in-Replay-Two.is-0, c.in-Replay-Two.is-1) (replay _ _)

pub returns-in_ok-number_within-in-Generate-One-clause-some : goal.returns-in_ok-number_within-in-Generate-One-clause-some
returns-in_ok-number_within-in-Generate-One-clause-some c = rw (c.in-Generate-One.is-0, c.in-Generate-One.is-1) (generate _ _ c.in_ok-number_within-in-Generate-One.ensures.some)

pub returns-in_ok-number_within-in-Bench-One-clause-some : goal.returns-in_ok-number_within-in-Bench-One-clause-some
returns-in_ok-number_within-in-Bench-One-clause-some c = rw (c.in-Bench-One.is-0, c.in-Bench-One.is-1) (bench _ _ c.in_ok-number_within-in-Bench-One.ensures.some)

pub returns-in-Help-Missing-clause-some : goal.returns-in-Help-Missing-clause-some
returns-in-Help-Missing-clause-some c = rw (c.in-Help-Missing.is-0, c.in-Help-Missing.is-1) help
