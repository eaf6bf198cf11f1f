use Rattle.thread_cfg.proofs.TextLaws.{texts-fail-alike}
use Rattle.thread_cfg.proofs.laws.texts_fail_alike.Goals as goal

pub returns : goal.returns
returns c = texts-fail-alike
