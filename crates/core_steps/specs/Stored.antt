-- What stands for reasons, events and histories in a program.
use Rattle.std.specs.Prelude.{List, map, reverse}
use Rattle.horn_rules.specs.Stored.{fact_of, home_of, instance_of}
use Rattle.transition_formula.specs.Program.{Program}
use Rattle.transition_formula.specs.StoredRun.{run_of}
use Rattle.derivation_tree.specs.Kept.{Leaving, OfJob, OfTree, predicates_of_stored}
use Rattle.core_steps.specs.declared.event.Reason.{Reason as StoredReason}
use Rattle.core_steps.specs.declared.event.Reason.TheVariants as reason
use Rattle.core_steps.specs.declared.event.Event.{Event as StoredEvent}
use Rattle.core_steps.specs.declared.event.Event.TheVariants as stored
use Rattle.core_steps.specs.State.{Reason, Facts, Jobs, Refinements, Predicates, JobLeft, RootLeft, Unsafe, Memory}
use Rattle.core_steps.specs.Event.{Event, Take, New, Same, Nothing, StalePublish, Claim, Refine, StaleRefine, Stop, StaleStop, History}

-- the reason of what is left
abbrev pub reason_of_left : Leaving → Reason
reason_of_left (OfJob job kind) = JobLeft (instance_of job.instance) kind
reason_of_left (OfTree kept left) = RootLeft kept.root left

-- the reason that the code's value stands for
abbrev pub reason_of : StoredReason → Reason
reason_of (reason.Facts n) = Facts n
reason_of (reason.Jobs n) = Jobs n
reason_of (reason.Refinements n) = Refinements n
reason_of (reason.Predicates home) = Predicates (home_of home)
reason_of (reason.Left left) = reason_of_left left
reason_of (reason.Unsafe schedule) = Unsafe (run_of schedule)
reason_of reason.Memory = Memory

-- the event that the code's value stands for
abbrev pub event_of : Program → StoredEvent → Event
event_of program (stored.Take w instance) = Take w (instance_of instance)
event_of program (stored.New w id fact) = New w id.0 (fact_of program fact)
event_of program (stored.Same w id) = Same w id.0
event_of program (stored.Nothing w) = Nothing w
event_of program (stored.StalePublish w) = StalePublish w
event_of program (stored.Claim w id) = Claim w id.0
event_of program (stored.Refine w scope predicates) = Refine w scope (predicates_of_stored program predicates.items)
event_of program (stored.StaleRefine w) = StaleRefine w
event_of program (stored.Stop w why) = Stop w (reason_of why)
event_of program (stored.StaleStop w) = StaleStop w

-- the history of a journal, whose events stand by rising time
abbrev pub history_of : Program → List StoredEvent → History
history_of program journal = reverse (map (event_of program) journal)
