use Rattle.std.proofs.Common.{sym}
use Rattle.c_check.proofs.Found.{together-refused}
use Rattle.c_check.proofs.body.Body.note.Goals as goal

pub returns : goal.returns
returns c = rw (c.earlier-self.ensures) (sym (together-refused c.args.self.now c.args.refusal))
