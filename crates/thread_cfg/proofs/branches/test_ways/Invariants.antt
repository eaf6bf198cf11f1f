use Rattle.std.proofs.Common.{◌≡◌, ◌≤◌, ◌∷◌, [], drop, length, Some}
use Rattle.thread_cfg.specs.inside.Few.{Branch, parted_all}
use Rattle.thread_cfg.specs.inside.Gone.{parting_of, ways_of}
use Rattle.thread_cfg.proofs.branches.test_ways.Given as goal

-- so far, from the last operation on
abbrev pub invariant-tests : goal.invariant-tests
invariant-tests l = record {
  within : l.index ≤ length l.tests;
  far : parting_of l.parting ≡ parted_all (drop l.index l.tests) (record {
    behind = Some [];
    branches = record { on_true = Branch.Ways (ways_of l.fn.on_true); on_false = Branch.Ways (ways_of l.fn.on_false) } ∷ [];
  });
}
