-- What stands for a step of a run in a program.
use Rattle.transition_formula.specs.Run.{RunStep}
use Rattle.transition_formula.specs.declared.schedule_step.ScheduleStep.{ScheduleStep}

abbrev pub step_of : ScheduleStep → RunStep
step_of taken = record { thread = taken.thread.0; edge = taken.edge.0; inputs = taken.inputs }
