use Rattle.std.proofs.Common.{◌↔◌}
use Rattle.transition_formula.specs.Step.{IsInitial}
use Rattle.step_meaning.proofs.InitialStates.{IsInitialFrom}
use Rattle.step_meaning.proofs.starts.initial.Given as goal

abbrev pub invariant-columns : goal.invariant-columns
invariant-columns l = IsInitialFrom l.program.columns l.state l.column ↔ IsInitial l.program.columns l.state
