use Rattle.withdraw.proofs.Insertions.{insertions_rest}
use Rattle.withdraw.proofs.laws.insertions_rest_on_earlier.Goals as goal

pub returns : goal.returns
returns c = insertions_rest
