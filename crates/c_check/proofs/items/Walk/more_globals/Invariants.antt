use Rattle.std.proofs.Common.{◌≡◌, map, drop}
use Rattle.c_tree.specs.Plain as plain
use Rattle.c_tree.specs.Seen.{plain_gname}
use Rattle.c_check.specs.inside.Walked.{with_item}
use Rattle.c_check.proofs.items.Walk.more_globals.Given as goal

abbrev pub invariant-loop-variable : goal.invariant-loop-variable
invariant-loop-variable l =
    with_item l.self (plain.Item.Globals (map (λ m. plain_gname m.1) (drop l.variable-index l.more)))
    ≡ with_item l.fn.self (plain.Item.Globals (map (λ m. plain_gname m.1) l.more))
