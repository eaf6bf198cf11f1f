use Rattle.c_tree.proofs.Quals.{at_start, goes_on, is_shorter, all_read}
use Rattle.c_tree.proofs.lists.quals.Goals as goal

pub loop-mark-init : goal.loop-mark-init
loop-mark-init c = rw c.new-all.ensures (at_start c.args.tokens.now)

pub loop-mark-preserved : goal.loop-mark-preserved
loop-mark-preserved c = goes_on c.args.tokens.now c.loop-mark.all c.push.new.self c.loop-mark.tokens c.qual_mark.new.tokens c.in-Some.mark c.in-Some.ensures.mark c.in-Some.ensures.after c.in_ok-push.ensures.ok c.loop-mark.invariant

pub loop-mark-smaller : goal.loop-mark-smaller
loop-mark-smaller c = is_shorter c.loop-mark.tokens c.qual_mark.new.tokens c.in-Some.mark c.in-Some.ensures.mark c.in-Some.ensures.after

pub returns : goal.returns
returns c = all_read c.args.tokens.now c.loop-mark.all c.loop-mark.tokens c.qual_mark.new.tokens c.in_default.ensures.mark c.in_default.ensures.after c.loop-mark.invariant
