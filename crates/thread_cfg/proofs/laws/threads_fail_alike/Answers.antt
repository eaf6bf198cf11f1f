use Rattle.thread_cfg.proofs.TextLaws.{threads-fail-alike}
use Rattle.thread_cfg.proofs.laws.threads_fail_alike.Goals as goal

pub returns : goal.returns
returns c = threads-fail-alike
