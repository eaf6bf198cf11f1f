use Rattle.std.proofs.Common.{◌≡◌, ℕ, OnOk, map, sym, ap, subst, ◌∙◌}
use Rattle.c_tree.specs.declared.item.Body.{Body}
use Rattle.c_tree.specs.declared.item.Mname.{Mname}
use Rattle.c_tree.specs.Plain as plain
use Rattle.c_tree.specs.Seen.{plain_body}
use Rattle.c_check.specs.declared.items.Walk.{Walk}
use Rattle.c_check.specs.inside.Walked.{with_item}
use Rattle.c_check.proofs.WalkLemmas.{with_item-locks}
use Rattle.c_check.proofs.items.Walk.item.Goals as goal

pub returns-in_ok-lock-in-Locks : goal.returns-in_ok-lock-in-Locks
returns-in_ok-lock-in-Locks c =
    let w = c.args.self.now in
    let all = λ (m : ℕ × Mname). m.1.name in
    let same : with_item c.lock.new.self (plain.Item.Locks (map all c.as_slice.result.now)) ≡ with_item w (plain_body c.args.item.now.body) =
    (λ i. with_item (c.in_ok-lock-in-Locks.ensures i) (plain.Item.Locks (map all (c.as_slice.ensures i))))
    ∙ with_item-locks w c.in-Locks.locks.first.name (map all c.in-Locks.locks.more)
    ∙ ap (λ (b : Body). with_item w (plain_body b)) (sym c.in-Locks.is) in
    subst (λ (v : Walk). OnOk c.more_locks.result (c.more_locks.new.self ≡ v)) same c.more_locks.ensures
