use Rattle.thread_cfg.proofs.Picks.{paths-tell-ways, taken-are-picked}
use Rattle.thread_cfg.proofs.PicksDistinct.{picks-differ}
use Rattle.thread_cfg.proofs.PicksPaths.{picked-paths-are-the-paths}
use Rattle.thread_cfg.proofs.PicksWays.{ways-take-picks}
use Rattle.thread_cfg.proofs.PicksEdges.{edgeless-paths-have-no-way, path-edges-tell-ways}
use Rattle.thread_cfg.proofs.laws.paths_tell_ways.Goals as goal

pub returns : goal.returns
returns c = record {
  paths = picked-paths-are-the-paths;
  differ = picks-differ;
  tell = paths-tell-ways;
  taken = taken-are-picked;
  all = ways-take-picks;
  edges = path-edges-tell-ways;
  edgeless = edgeless-paths-have-no-way;
}
