use Rattle.std.proofs.Common.{◌≡◌, ◌+◌, ◌≤◌, drop, length}
use Rattle.thread_cfg.specs.inside.Few.{going_start, gone_all}
use Rattle.thread_cfg.specs.inside.Gone.{going_of}
use Rattle.thread_cfg.proofs.going.block_ways.Given as goal

-- so far, from the last instruction on
abbrev pub invariant-code : goal.invariant-code
invariant-code l = record {
  shallow : l.going.depth + l.index ≤ length l.code;
  far : going_of l.going ≡ gone_all (drop l.index l.code) going_start;
}
