-- The place is behind the longest front that is UTF-8.
use Rattle.std.proofs.Common.{sym, subst, ◌∙◌}
use Rattle.thread_cfg.specs.Read.{Refuses, not_text_at}
use Rattle.thread_cfg.proofs.read.text_of.Goals as goal

pub returns-in-Err-clause-refused : goal.returns-in-Err-clause-refused
returns-in-Err-clause-refused c =
    subst (λ place. Refuses c.args.bytes.now (record { code = 1; place = place })) (sym (c.valid_up_to.ensures ∙ c.in-Err.ensures.valid_len)) (not_text_at c.in-Err.ensures.cases.0)
