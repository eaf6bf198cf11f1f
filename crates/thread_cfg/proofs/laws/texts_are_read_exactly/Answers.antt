use Rattle.thread_cfg.proofs.TextsExact.{texts-are-read-exactly}
use Rattle.thread_cfg.proofs.laws.texts_are_read_exactly.Goals as goal

pub returns : goal.returns
returns c = texts-are-read-exactly
