use Rattle.farkas_cert.proofs.Fuel.{same_outcome}
use Rattle.farkas_cert.proofs.elimination_laws.more_stages_change_nothing.Goals as goal

pub returns : goal.returns
returns c = λ system fuel l. same_outcome fuel system l
