use Rattle.thread_cfg.proofs.TextLaws.{runs-go-as-interleavings}
use Rattle.thread_cfg.proofs.laws.runs_go_as_interleavings.Goals as goal

pub returns : goal.returns
returns c = runs-go-as-interleavings
