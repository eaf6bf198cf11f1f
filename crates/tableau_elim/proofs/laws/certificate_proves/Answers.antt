use Rattle.tableau_elim.proofs.Certificates.{certificate_is_sound}
use Rattle.tableau_elim.proofs.laws.certificate_proves.Goals as goal

pub returns-clause-proves : goal.returns-clause-proves
returns-clause-proves c = λ system pairs w e. (certificate_is_sound system pairs w e).0

pub returns-clause-reduced : goal.returns-clause-reduced
returns-clause-reduced c = λ system pairs w e. (certificate_is_sound system pairs w e).1
