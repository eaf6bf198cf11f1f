use Rattle.std.proofs.Common.{◌≡◌, ◌+◌, ◌<◌, ◌^◌, ◌++◌, length, map}
use Rattle.std.specs.Vec.Iter.{into_iter_items}
use Rattle.transition_formula.specs.Stored.{form_of, set_of}
use Rattle.thread_cfg.specs.inside.Made.{sets_seen, some_sets}
use Rattle.thread_cfg.specs.inside.Meant.{frame_of}
use Rattle.thread_cfg.proofs.edge.sets_of.Given as goal

-- the sets so far, and those of the lines that are left, are those of all lines
abbrev pub invariant-lines : goal.invariant-lines
invariant-lines l = record {
  few : l.column + length (into_iter_items l.line-iterator) < 2 ^ 32;
  sets : map set_of l.sets.items ++ sets_seen (some_sets (frame_of l.frame) l.events) l.column (map form_of (into_iter_items l.line-iterator))
      ≡ sets_seen (some_sets (frame_of l.frame) l.events) 0 (map form_of l.fn.lines.items);
}
