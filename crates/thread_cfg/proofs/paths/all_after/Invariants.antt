use Rattle.std.proofs.Common.{◌≡◌, ◌++◌, map}
use Rattle.std.specs.Vec.Iter.{into_iter_items}
use Rattle.thread_cfg.specs.inside.Few.{after}
use Rattle.thread_cfg.specs.inside.Gone.{event_of, path_of}
use Rattle.thread_cfg.proofs.paths.all_after.Given as goal

-- so far, and what is left, are all
abbrev pub invariant-paths : goal.invariant-paths
invariant-paths l = map path_of l.made.items ++ map (after (event_of l.event)) (map path_of (into_iter_items l.path-iterator))
    ≡ map (after (event_of l.event)) (map path_of l.fn.paths.items)
