use Rattle.std.proofs.Common.{sym, ◌∙◌}
use Rattle.c_check.proofs.TestPostfix.{place-sum}
use Rattle.c_check.proofs.conditions.place.Goals as goal

pub returns : goal.returns
returns c = c.place.ensures ∙ sym (place-sum c.args.s.now)
