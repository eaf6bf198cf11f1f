use Rattle.serial_fix.proofs.Index.{there-exactly}
use Rattle.serial_fix.proofs.found.Found.holds.Goals as goal

pub returns : goal.returns
returns c = there-exactly c.has.result c.words.result.now c.args.fact.home.0 c.args.fact.held c.args.self.now.facts c.words.ensures c.has.ensures
