use Rattle.farkas_cert.proofs.Refutations.{weighted_sum-over}
use Rattle.farkas_cert.proofs.laws.points_meet_weighted_sums.Goals as goal

pub returns : goal.returns
returns c = weighted_sum-over
