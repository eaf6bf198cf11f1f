use Rattle.farkas_cert.proofs.Refutations.{refuted-has-no-point, refuted-has-no-whole-point}
use Rattle.farkas_cert.proofs.laws.refuted_has_no_point.Goals as goal

pub returns-clause-rational : goal.returns-clause-rational
returns-clause-rational c = refuted-has-no-point

pub returns-clause-whole : goal.returns-clause-whole
returns-clause-whole c = refuted-has-no-whole-point
