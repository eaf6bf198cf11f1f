use Rattle.std.proofs.Common.{◌≡◌, ◌-◌, [], length, take}
use Rattle.std.specs.Prelude.{reverse}
use Rattle.core_steps.specs.inside.Claiming.{with_all_picked}
use Rattle.core_steps.proofs.picking.facts_below.Given as goal

abbrev pub invariant-loop-done : goal.invariant-loop-done
invariant-loop-done l = with_all_picked l.root.0 l.found.items (reverse (take (length l.facts - l.done) l.facts)) ≡ with_all_picked l.root.0 [] (reverse l.facts)
