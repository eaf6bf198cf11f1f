use Rattle.annotation_form.proofs.Passing.{passing-safe}
use Rattle.annotation_form.proofs.laws.passing_annotations_are_safe.Goals as goal

pub returns : goal.returns
returns c = passing-safe c.runs_end_in_reached_states.ensures.failing_runs
