use Rattle.instance_cursors.proofs.Chosen.{next_else, next_from}
use Rattle.instance_cursors.proofs.cursors.Cursors.choose.Goals as goal

pub returns-in-Some : goal.returns-in-Some
returns-in-Some c = next_from c.args.self.now c.args.thread c.in-Some.next c.in-Some.ensures

pub returns-in-None : goal.returns-in-None
returns-in-None c = next_else c.args.self.now c.args.thread c.open_in-in-None.result c.in-None.ensures c.open_in-in-None.ensures
