use Rattle.std.proofs.Common.{◌≡◌, ◌+◌, ◌≤◌, drop, length}
use Rattle.thread_cfg.specs.inside.Pass.{pass_start, passed_all}
use Rattle.thread_cfg.specs.inside.Passing.{locations_held, passed_at}
use Rattle.thread_cfg.proofs.pass.parts_of_code.Given as goal

-- so far, from the last instruction on
abbrev pub invariant-code : goal.invariant-code
invariant-code l = record {
  within : l.index ≤ l.pass.end;
  end : l.pass.end ≤ length l.code;
  shallow : l.pass.depth + l.index ≤ length l.code;
  far : passed_at l.pass l.code l.index ≡ passed_all l.exit.0 (drop l.index l.code) (pass_start l.exit.0 (locations_held l.fn.loops.items));
}
