use Rattle.std.proofs.Common.{◌≡◌, map, drop}
use Rattle.c_tree.specs.Plain as plain
use Rattle.c_check.specs.inside.Walked.{with_item}
use Rattle.c_check.proofs.items.Walk.more_locks.Given as goal

abbrev pub invariant-loop-lock : goal.invariant-loop-lock
invariant-loop-lock l =
    with_item l.self (plain.Item.Locks (map (λ m. m.1.name) (drop l.lock-index l.more)))
    ≡ with_item l.fn.self (plain.Item.Locks (map (λ m. m.1.name) l.more))
