use Rattle.std.proofs.Common.{sym}
use Rattle.std.proofs.lemmas.Result.{err_from_is_err_and}
use Rattle.c_tree.specs.declared.term.Term.TheVariants as terms
use Rattle.c_tree.specs.inside.Item.{max_levels, item}
use Rattle.c_tree.proofs.ItemSizes.{item_shrinks}
use Rattle.c_tree.proofs.ManyLoop.{at_start, goes_on, stops, all_read}
use Rattle.c_tree.proofs.items.items.Goals as goal

pub items-init : goal.items-init
items-init c = rw c.new-all.ensures (at_start terms.End (item max_levels) c.args.tokens.now)

pub returns-in_err-item : goal.returns-in_err-item
returns-in_err-item c =
    let p = err_from_is_err_and c.from_residual.result c.from_residual.ensures.1 in
    rw (p.1, p.2) (stops terms.End (item max_levels) c.args.tokens.now c.items.all c.items.tokens c.in_err-item.field-0.0 c.item.new.tokens (sym c.items-test.ensures) c.in_err-item.ensures c.items.invariant)

pub items-preserved : goal.items-preserved
items-preserved c =
    goes_on terms.End (item max_levels) (item_shrinks max_levels) c.args.tokens.now c.items.all c.push.new.self c.items.tokens c.in_ok-item.item c.item.new.tokens (sym c.items-test.ensures) c.in_ok-item.ensures c.in_ok-push.ensures.ok c.items.invariant

pub items-smaller : goal.items-smaller
items-smaller c = item_shrinks max_levels c.items.tokens c.in_ok-item.item c.item.new.tokens c.in_ok-item.ensures

pub returns : goal.returns
returns c = all_read terms.End (item max_levels) c.args.tokens.now c.items.all c.items.tokens (sym c.items-test.ensures) c.items.invariant
