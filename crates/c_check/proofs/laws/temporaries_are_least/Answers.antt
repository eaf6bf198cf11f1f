use Rattle.c_check.proofs.Needs.{need_is_least}
use Rattle.c_check.proofs.laws.temporaries_are_least.Goals as goal

pub returns : goal.returns
returns c = need_is_least
