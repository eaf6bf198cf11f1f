use Rattle.std.proofs.Common.{refl}
use Rattle.std.proofs.lemmas.Result.{err_from_is_err_and}
use Rattle.c_tree.specs.inside.Expr as spec
use Rattle.c_tree.proofs.Shrinks.{unary_shrinks, equality_shrinks}
use Rattle.c_tree.proofs.Chains.{at_start, next_read, next_shrinks, stops, all_read}
use Rattle.c_tree.proofs.levels.Levels.more_conjunctions.Goals as goal

pub loop-mark-init : goal.loop-mark-init
loop-mark-init g c = rw c.new-more.ensures (at_start spec.and_mark (spec.equality (spec.unary c.args.self.now.levels)) c.args.tokens.now)

pub returns-in_err-operand : goal.returns-in_err-operand
returns-in_err-operand g c =
    let p = err_from_is_err_and c.from_residual.result c.from_residual.ensures.1 in
    rw (p.1, p.2) (stops spec.and_mark (spec.equality (spec.unary c.args.self.now.levels)) (λ from. refl) c.args.tokens.now c.loop-mark.more c.loop-mark.tokens c.and_mark.new.tokens c.in-Some.mark c.in_err-operand.field-0.0 c.equality.new.tokens c.in-Some.ensures.mark c.in-Some.ensures.after c.in_err-operand.ensures c.loop-mark.invariant)

pub loop-mark-preserved : goal.loop-mark-preserved
loop-mark-preserved g c =
    next_read spec.and_mark (spec.equality (spec.unary c.args.self.now.levels)) (λ from. refl) (equality_shrinks (spec.unary c.args.self.now.levels) (unary_shrinks c.args.self.now.levels)) c.args.tokens.now c.loop-mark.more c.push.new.self c.loop-mark.tokens c.and_mark.new.tokens c.in-Some.mark c.in_ok-operand.operand c.equality.new.tokens c.in-Some.ensures.mark c.in-Some.ensures.after c.in_ok-operand.ensures c.in_ok-push.ensures.ok c.loop-mark.invariant

pub loop-mark-smaller : goal.loop-mark-smaller
loop-mark-smaller g c =
    next_shrinks spec.and_mark (spec.equality (spec.unary c.args.self.now.levels)) (λ from. refl) (equality_shrinks (spec.unary c.args.self.now.levels) (unary_shrinks c.args.self.now.levels)) c.loop-mark.tokens c.and_mark.new.tokens c.in-Some.mark c.in_ok-operand.operand c.equality.new.tokens c.in-Some.ensures.mark c.in-Some.ensures.after c.in_ok-operand.ensures

pub returns : goal.returns
returns g c = all_read spec.and_mark (spec.equality (spec.unary c.args.self.now.levels)) c.args.tokens.now c.loop-mark.more c.loop-mark.tokens c.and_mark.new.tokens c.in_default.ensures.mark c.in_default.ensures.after c.loop-mark.invariant
