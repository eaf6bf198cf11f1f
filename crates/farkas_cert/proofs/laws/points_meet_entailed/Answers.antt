use Rattle.farkas_cert.proofs.Refutations.{points-meet-entailed}
use Rattle.farkas_cert.proofs.laws.points_meet_entailed.Goals as goal

pub returns : goal.returns
returns c = points-meet-entailed
