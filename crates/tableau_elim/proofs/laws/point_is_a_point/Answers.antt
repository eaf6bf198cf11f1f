use Rattle.tableau_elim.proofs.PointLaw.{point_is_sound}
use Rattle.tableau_elim.proofs.laws.point_is_a_point.Goals as goal

pub returns : goal.returns
returns c = point_is_sound
