use Rattle.std.proofs.Common.{refl}
use Rattle.std.proofs.lemmas.Result.{err_from_is_err_and}
use Rattle.c_tree.specs.inside.Simple as simple_spec
use Rattle.c_tree.specs.inside.Item as spec
use Rattle.c_tree.proofs.ItemSizes.{gname_shrinks}
use Rattle.c_tree.proofs.Chains.{at_start, next_read, next_shrinks, stops, all_read}
use Rattle.c_tree.proofs.items.more_gnames.Goals as goal

pub loop-mark-init : goal.loop-mark-init
loop-mark-init c = rw c.new-more.ensures (at_start simple_spec.comma_mark spec.gname c.args.tokens.now)

pub returns-in_err-operand : goal.returns-in_err-operand
returns-in_err-operand c =
    let p = err_from_is_err_and c.from_residual.result c.from_residual.ensures.1 in
    rw (p.1, p.2) (stops simple_spec.comma_mark spec.gname (λ from. refl) c.args.tokens.now c.loop-mark.more c.loop-mark.tokens c.comma_mark.new.tokens c.in-Some.mark c.in_err-operand.field-0.0 c.gname.new.tokens c.in-Some.ensures.mark c.in-Some.ensures.after c.in_err-operand.ensures c.loop-mark.invariant)

pub loop-mark-preserved : goal.loop-mark-preserved
loop-mark-preserved c =
    next_read simple_spec.comma_mark spec.gname (λ from. refl) gname_shrinks c.args.tokens.now c.loop-mark.more c.push.new.self c.loop-mark.tokens c.comma_mark.new.tokens c.in-Some.mark c.in_ok-operand.operand c.gname.new.tokens c.in-Some.ensures.mark c.in-Some.ensures.after c.in_ok-operand.ensures c.in_ok-push.ensures.ok c.loop-mark.invariant

pub loop-mark-smaller : goal.loop-mark-smaller
loop-mark-smaller c =
    next_shrinks simple_spec.comma_mark spec.gname (λ from. refl) gname_shrinks c.loop-mark.tokens c.comma_mark.new.tokens c.in-Some.mark c.in_ok-operand.operand c.gname.new.tokens c.in-Some.ensures.mark c.in-Some.ensures.after c.in_ok-operand.ensures

pub returns : goal.returns
returns c = all_read simple_spec.comma_mark spec.gname c.args.tokens.now c.loop-mark.more c.loop-mark.tokens c.comma_mark.new.tokens c.in_default.ensures.mark c.in_default.ensures.after c.loop-mark.invariant
