use Rattle.std.proofs.Common.{◌≡◌, ℕ, OnOk, map, sym, ap, subst, ◌∙◌}
use Rattle.c_tree.specs.declared.item.Gname.{Gname}
use Rattle.c_tree.specs.declared.item.Typed.{Typed}
use Rattle.c_tree.specs.Plain as plain
use Rattle.c_tree.specs.Seen.{plain_gname, plain_typed}
use Rattle.c_check.specs.declared.items.Walk.{Walk}
use Rattle.c_check.specs.inside.Walked.{with_item}
use Rattle.c_check.proofs.WalkLemmas.{with_item-globals}
use Rattle.c_check.proofs.items.Walk.typed.Goals as goal

pub returns-in_ok-global-in-Globals : goal.returns-in_ok-global-in-Globals
returns-in_ok-global-in-Globals c =
    let w = c.args.self.now in
    let all = λ (m : ℕ × Gname). plain_gname m.1 in
    let same : with_item c.global.new.self (plain.Item.Globals (map all c.as_slice.result.now)) ≡ with_item w (plain_typed c.args.typed.now) =
    (λ i. with_item (c.in_ok-global-in-Globals.ensures i) (plain.Item.Globals (map all (c.as_slice.ensures i))))
    ∙ with_item-globals w (plain_gname c.in-Globals.globals.first) (map all c.in-Globals.globals.more)
    ∙ ap (λ (t : Typed). with_item w (plain_typed t)) (sym c.in-Globals.is) in
    subst (λ (v : Walk). OnOk c.more_globals.result (c.more_globals.new.self ≡ v)) same c.more_globals.ensures
