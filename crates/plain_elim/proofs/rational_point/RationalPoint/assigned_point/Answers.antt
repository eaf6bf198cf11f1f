use Rattle.std.proofs.Common.{◌≡◌, ◌<ℤ◌, to_z, of_z, pos, rules}
use Rattle.std.specs.Prelude.{unsigned_abs}
use Rattle.std.specs.Int.{w128}
use Rattle.thr_base.specs.Number.{Fits}
use Rattle.lin_rows.specs.Gcd.{gcd}
use Rattle.farkas_cert.specs.Divided.{over}
use Rattle.farkas_cert.specs.BackSubstitution.{assigned_point}
use Rattle.plain_elim.proofs.PointFractions.{IsFraction-parts}
use Rattle.plain_elim.proofs.rational_point.RationalPoint.assigned_point.Goals as goal

pub assigned_point_by-requires-clause-positive : goal.assigned_point_by-requires-clause-positive
assigned_point_by-requires-clause-positive c =
    let s = c.args.value.denominator in
    let t = c.args.self.denominator in
    let scale : to_z w128 (of_z w128 c.floor_of-scale.result) ≡ over (gcd (unsigned_abs t) (unsigned_abs s)) s = search rules in
    let positive : pos 0 <ℤ s = search rules in
    let t_fits : Fits t = search rules in
    let s_fits : Fits s = search rules in
    let parts = IsFraction-parts t s t_fits s_fits positive in
    rw scale parts.positive

pub returns-clause-point : goal.returns-clause-point
unfolding assigned_point
returns-clause-point c = search rules
