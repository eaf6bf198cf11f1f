use Rattle.std.proofs.Common.{◌≡◌, ◌++◌, drop}
use Rattle.thread_cfg.specs.inside.Sizes.{test_places}
use Rattle.thread_cfg.proofs.places.push_tests.Given as goal

-- so far, and what is left, are all
abbrev pub invariant-tests : goal.invariant-tests
invariant-tests l = l.places.items ++ test_places (drop l.operation-index l.tests) ≡ l.fn.places.items ++ test_places l.tests
