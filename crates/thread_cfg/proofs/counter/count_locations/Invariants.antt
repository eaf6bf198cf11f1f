use Rattle.std.proofs.Common.{◌≡◌, ◌<◌, ◌≤◌, drop}
use Rattle.thr_base.specs.Limits.{most_locations}
use Rattle.thread_cfg.specs.inside.Sizes.{count_start, counted_all}
use Rattle.thread_cfg.specs.inside.Counter.{counted_of}
use Rattle.thread_cfg.proofs.counter.count_locations.Given as goal

-- so far, and what is left, are all
abbrev pub invariant-code : goal.invariant-code
invariant-code l = record {
  few : l.counter.at < most_locations;
  shallow : l.counter.depth ≤ l.instruction-index;
  all : counted_all (drop l.instruction-index l.code) (counted_of l.counter) ≡ counted_all l.code count_start;
}
