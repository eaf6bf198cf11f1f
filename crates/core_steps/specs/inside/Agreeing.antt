-- The premise, if there is one, fits the program.
use Rattle.std.specs.Prelude.{Option, Some, None}
use Rattle.transition_formula.specs.Program.{Program}
use Rattle.horn_rules.specs.declared.job.Premise.{Premise}
use Rattle.horn_rules.specs.Job.{IsPremise}

abbrev pub PremiseFits : Program → Option Premise → Type 0
PremiseFits program None = Unit {0}
PremiseFits program (Some premise) = IsPremise program premise
