use Rattle.thread_cfg.proofs.TextLaws.{edges-are-of-actions}
use Rattle.thread_cfg.proofs.laws.edges_are_of_actions.Goals as goal

pub returns : goal.returns
returns c = edges-are-of-actions
