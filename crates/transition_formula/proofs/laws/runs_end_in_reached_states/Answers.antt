use Rattle.transition_formula.proofs.Runs.{runs-end, failing-states, failing-runs}
use Rattle.transition_formula.proofs.laws.runs_end_in_reached_states.Goals as goal

pub returns : goal.returns
returns c = record { ends = runs-end; failing_ends = failing-states; failing_runs = failing-runs }
