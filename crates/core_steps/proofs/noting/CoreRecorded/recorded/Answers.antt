use Rattle.std.proofs.Common.{◌<◌, ◌+◌, ◌^◌, sym, subst, ◌∙◌}
use Rattle.core_steps.proofs.NotedCounts.{noted-few}
use Rattle.core_steps.proofs.noting.CoreRecorded.recorded.Goals as goal

pub returns-clause-few : goal.returns-clause-few
returns-clause-few c = subst (λ n. n + 1 < 2 ^ 63) (sym (c.len.ensures ∙ c.self.inside.journal.ok.0)) (noted-few c.self.inside c.self.invariant)
