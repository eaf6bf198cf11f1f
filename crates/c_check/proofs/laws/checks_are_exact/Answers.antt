use Rattle.c_check.proofs.Exact.{checks_exact}
use Rattle.c_check.proofs.laws.checks_are_exact.Goals as goal

pub returns : goal.returns
returns c = checks_exact
