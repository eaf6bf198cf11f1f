use Rattle.serial_fix.proofs.Index.{some-exactly}
use Rattle.serial_fix.proofs.found.Found.stands_at.Goals as goal

pub returns : goal.returns
returns c = some-exactly c.is_empty.result c.args.home.0 c.args.self.now.facts c.words.result.now c.is_empty.ensures c.words.ensures
