use Rattle.std.proofs.Common.{◌≡◌, ◌+◌, ◌<◌, drop}
use Rattle.thr_base.specs.Limits.{most_locations}
use Rattle.thread_cfg.specs.inside.Sizes.{tests_size}
use Rattle.thread_cfg.proofs.sizes.behind_tests.Given as goal

-- so far, and what is left, are all
abbrev pub invariant-tests : goal.invariant-tests
invariant-tests l = record {
  few : l.end < most_locations;
  all : l.end + tests_size (drop l.operation-index l.tests) ≡ l.at + tests_size l.tests;
}
