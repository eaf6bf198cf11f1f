use Rattle.thread_cfg.proofs.Happenings.{edges-happen, never-happen}
use Rattle.thread_cfg.proofs.laws.edges_happen.Goals as goal

pub returns : goal.returns
returns c = record { happen = edges-happen; never = never-happen }
