use Rattle.farkas_cert.proofs.Points.{point_is_sound}
use Rattle.farkas_cert.proofs.elimination_laws.point_is_a_point.Goals as goal

pub returns : goal.returns
returns c = point_is_sound
