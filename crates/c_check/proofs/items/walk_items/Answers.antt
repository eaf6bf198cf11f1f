use Rattle.std.proofs.Common.{◌≡◌, ◌+◌, ◌<◌, List, ◌∷◌, length, drop, sym, ap, subst, ◌∙◌, arith}
use Rattle.c_tree.specs.declared.item.Item.{Item}
use Rattle.c_tree.specs.Plain as plain
use Rattle.c_tree.specs.Seen.{plain_body, plain_items}
use Rattle.c_check.specs.declared.items.Walk.{Walk}
use Rattle.c_check.specs.inside.Walked.{IsSoFar, next_of}
use Rattle.c_check.proofs.WalkLemmas.{drop_at, so_far-item}
use Rattle.c_check.proofs.items.walk_items.Goals as goal

pub loop-item-preserved : goal.loop-item-preserved
loop-item-preserved c =
    let items = c.args.items.now in
    let tree : plain.Tree = record { items = plain_items items; end = c.args.end } in
    let at = c.loop-item.item-index in
    let item = c.item-item.result in
    let rest = plain_items (drop (at + 1) items) in
    let within : at < length items = omega arith in
    let here : plain_items (drop at items) ≡ plain_body item.body ∷ rest =
    ap plain_items (drop_at items at item within) ∙ ap (λ (i : Item). plain_body i.body ∷ rest) (sym c.item-item.is) in
    let before : IsSoFar tree c.loop-item.walk (next_of c.loop-item.walk) (plain_body item.body ∷ rest) =
    subst (λ (left : List plain.Item). IsSoFar tree c.loop-item.walk (next_of c.loop-item.walk) left) here c.loop-item.invariant in
    subst (λ (w : Walk). IsSoFar tree w (next_of w) rest) (sym c.in_ok-item.ensures) (so_far-item tree c.loop-item.walk (plain_body item.body) rest before)
