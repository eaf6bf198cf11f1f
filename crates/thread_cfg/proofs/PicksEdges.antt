-- The edge of a path steps where a way takes what the path picks.
use Rattle.std.proofs.Common.{refl}
use Rattle.thread_cfg.specs.Happen.{end_of}
use Rattle.thread_cfg.specs.Action.{path_alternative}
use Rattle.thread_cfg.specs.PickEdges.{EdgelessPathsHaveNoWay, PathEdgesTellWays}
use Rattle.thread_cfg.proofs.Happenings.{edges-happen, never-happen}
use Rattle.thread_cfg.proofs.Picks.{paths-tell-ways}

-- a path's edge steps exactly where a way takes what the path picks
pub path-edges-tell-ways : PathEdgesTellWays
path-edges-tell-ways n k i at next frame inner p edge thread values after locations inputs has within is counter low high wide all here =
    let steps = edges-happen n k i at frame (path_alternative next p.path) edge thread values after locations inputs within is counter low high wide all here in
    let ways = paths-tell-ways frame inner p values inputs after (end_of p.path) has in
    (λ h. ways.1 (steps.0 h, refl), λ w. steps.1 (ways.0 w).0)

-- no way takes what a path picks that has no edge
pub edgeless-paths-have-no-way : EdgelessPathsHaveNoWay
edgeless-paths-have-no-way n k at next frame inner p values after inputs end has within is wide w =
    never-happen n k at frame (path_alternative next p.path) values after inputs within is wide ((paths-tell-ways frame inner p values inputs after end has).0 w).0
