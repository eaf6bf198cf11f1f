use Rattle.std.proofs.Common.{◌≡◌, List, drop, map}
use Rattle.thread_cfg.specs.Path.{Path}
use Rattle.thread_cfg.specs.Action.{path_alternative}
use Rattle.thread_cfg.specs.inside.Adds.{WaysDone, WaysWithin}
use Rattle.thread_cfg.specs.inside.Few.{path_written}
use Rattle.thread_cfg.specs.inside.Gone.{path_of}
use Rattle.thread_cfg.proofs.thread.Found.add_paths.Given as goal

-- what is left, and what is done
abbrev pub invariant-paths : goal.invariant-paths
invariant-paths l = record {
  left : (ps : List Path) × (map path_of (drop l.path-index l.paths) ≡ map path_written ps) × WaysWithin l.running (map (path_alternative l.next.0) ps);
  far : (whole : List Path) → map path_of l.paths ≡ map path_written whole
      → WaysDone l.running l.at.0 l.next.0 l.fn.self l.self (map path_of (drop l.path-index l.paths)) whole;
}
