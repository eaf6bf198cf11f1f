use Rattle.core_steps.proofs.Histories.{published-once}
use Rattle.core_steps.proofs.laws.no_job_is_published_twice.Goals as goal

pub returns : goal.returns
returns c = published-once
