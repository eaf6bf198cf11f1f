use Rattle.std.proofs.Common.{◌≡◌, map, take}
use Rattle.thread_cfg.specs.inside.Gone.{path_of}
use Rattle.thread_cfg.proofs.paths.copies.Given as goal

abbrev pub invariant-paths : goal.invariant-paths
invariant-paths l = map path_of l.copies.items ≡ map path_of (take l.path-index l.paths)
