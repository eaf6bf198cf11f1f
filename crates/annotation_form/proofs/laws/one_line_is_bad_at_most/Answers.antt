use Rattle.annotation_form.proofs.BadLines.{one-line-is-bad, texts-have-no-bad-line}
use Rattle.annotation_form.proofs.laws.one_line_is_bad_at_most.Goals as goal

pub returns-clause-one : goal.returns-clause-one
returns-clause-one c = one-line-is-bad

pub returns-clause-none : goal.returns-clause-none
returns-clause-none c = texts-have-no-bad-line
