use Rattle.thread_cfg.proofs.TextLaws.{texts-step-alike}
use Rattle.thread_cfg.proofs.laws.programs_step_alike.Goals as goal

pub returns : goal.returns
returns c = texts-step-alike
