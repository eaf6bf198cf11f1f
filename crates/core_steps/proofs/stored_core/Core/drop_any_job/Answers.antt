use Rattle.std.proofs.Common.{sym, subst}
use Rattle.core_steps.specs.Course.{Course, opening_of, state_of}
use Rattle.core_steps.specs.inside.Kept.{seen}
use Rattle.core_steps.specs.inside.Parts.{task_of}
use Rattle.core_steps.proofs.Counts.{Counts, counts-legal}
use Rattle.core_steps.proofs.PublishAnswers.{drop-allowed}
use Rattle.core_steps.proofs.stored_core.Core.drop_any_job.Goals as goal

pub drop_job-requires : goal.drop_job-requires
drop_job-requires c =
    let Count : Course → Type 0 = λ s. Counts (opening_of s) (state_of s) in
    let counts = subst Count c.self.view_is (counts-legal (opening_of (seen c.self.inside)) (seen c.self.inside).history c.self.invariant.legal) in
    drop-allowed (opening_of c.args.self.now) (state_of c.args.self.now) c.args.w (task_of c.args.self.now.program c.in-Some.field-0) counts (sym c.in-Some.ensures.held)
    (λ none. absurd (c.requires none))
