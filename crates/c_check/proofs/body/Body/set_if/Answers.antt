use Rattle.std.proofs.Common.{sym}
use Rattle.c_check.proofs.Found.{together-none}
use Rattle.c_check.proofs.body.Body.set_if.Goals as goal

pub returns-in-None : goal.returns-in-None
returns-in-None c = rw c.in-None.is (sym (together-none c.args.self.now))
