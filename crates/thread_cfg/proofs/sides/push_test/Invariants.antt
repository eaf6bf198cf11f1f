use Rattle.std.proofs.Common.{◌≡◌, ◌≤◌, ◌∷◌, [], drop, length, option_map}
use Rattle.thread_cfg.specs.inside.Pass.{target, tested_all}
use Rattle.thread_cfg.specs.inside.Passing.{location_of, parts_held, testing_of}
use Rattle.thread_cfg.proofs.sides.push_test.Given as goal

-- so far, from the last operation on
abbrev pub invariant-tests : goal.invariant-tests
invariant-tests l = record {
  within : l.index ≤ length l.tests;
  far : testing_of l.at l.sides.items l.parts.items ≡ tested_all (drop l.index l.tests) (record {
    at = l.fn.behind.0;
    sides = record { on_true = target (option_map location_of l.fn.on_true); on_false = target (option_map location_of l.fn.on_false) } ∷ [];
    parts = parts_held l.fn.parts.items;
  });
}
