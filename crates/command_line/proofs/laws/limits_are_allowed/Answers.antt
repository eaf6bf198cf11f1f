use Rattle.command_line.proofs.Allowed.{limits-allowed}
use Rattle.command_line.proofs.laws.limits_are_allowed.Goals as goal

pub returns : goal.returns
returns c = limits-allowed
