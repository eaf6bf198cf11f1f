use Rattle.std.proofs.Common.{Some, sym, ap, ◌∙◌}
use Rattle.core_steps.proofs.Agreements.{held-same, same-held}
use Rattle.core_steps.proofs.stored_core.Core.holds_job.Goals as goal

pub returns-in-Some : goal.returns-in-Some
returns-in-Some c =
    let program = c.args.self.now.program in
    let held = c.in-Some.held in
    let job = c.args.job.now in (
      λ t. sym c.in-Some.ensures.held ∙ ap (λ x. Some x) (same-held program held job (c.is_of.ensures.0 t)),
      λ e. c.is_of.ensures.1 (held-same program held job c.in-Some.ensures.home c.requires (c.in-Some.ensures.held ∙ e)),
    )
