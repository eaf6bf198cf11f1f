use Rattle.std.proofs.Common.{◌≡◌, ◌<◌, ◌^◌, length, map, vec_len}
use Rattle.std.specs.List.{AllByRecursion}
use Rattle.farkas_cert.specs.Elimination.{point_from}
use Rattle.plain_elim.specs.inside.Held.{kept_of, BoundsItsColumn}
use Rattle.plain_elim.proofs.PointStages.{latest_first}
use Rattle.plain_elim.proofs.point.point_from.Given as goal

abbrev pub invariant-stages : goal.invariant-stages
invariant-stages l = record {
  bounds : AllByRecursion (BoundsItsColumn l.columns) (map kept_of l.kept.items);
  few : length l.kept.items < 2 ^ 32;
  width : length l.point.numerators ≡ l.columns;
  rest : point_from l.columns (latest_first l.kept.items) l.point ≡ point_from l.columns (latest_first l.initial.kept.items) l.initial.point;
}

abbrev pub decreases-stages : goal.decreases-stages
decreases-stages l = vec_len l.kept
