use Rattle.std.proofs.Common.{List, subst}
use Rattle.c_tree.specs.declared.item.Item.{Item}
use Rattle.c_tree.specs.Seen.{plain_items, plain_tree}
use Rattle.c_check.specs.inside.Walked.{IsWalked}
use Rattle.c_check.proofs.checking.check.Goals as goal

pub returns-in-Some : goal.returns-in-Some
returns-in-Some c =
    let found = c.in_ok-found.found in
    let walked : IsWalked (plain_tree c.args.tree.now) found =
    subst (λ (items : List Item). IsWalked (record { items = plain_items items; end = c.args.tree.now.end }) found) c.as_slice.ensures c.in_ok-found.ensures in
    c.in-Some.ensures.answer (plain_tree c.args.tree.now) walked
