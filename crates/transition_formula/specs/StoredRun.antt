-- What stands for a run in a program.
use Rattle.transition_formula.specs.Run.{Run}
use Rattle.transition_formula.specs.declared.schedule.Schedule.{Schedule}

-- the run that a schedule tells
abbrev pub run_of : Schedule → Run
run_of schedule = record { start = schedule.start; steps = schedule.steps }
