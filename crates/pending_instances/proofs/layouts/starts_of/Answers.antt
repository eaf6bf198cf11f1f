use Rattle.std.proofs.Common.{◌≡◌, length, subst, arith}
use Rattle.pending_instances.proofs.Starts.{AreStartsUpTo, none_taken, one_more_start, starts_seen}
use Rattle.pending_instances.proofs.layouts.starts_of.Goals as goal

pub loop-place-preserved : goal.loop-place-preserved
loop-place-preserved c =
    one_more_start c.args.program.now c.loop-place.place c.start_of.result c.loop-place.starts.items c.push.new.self.items c.loop-place.invariant (omega arith) c.start_of.ensures
    c.in_ok-push.ensures.items

pub returns-clause-seen : goal.returns-clause-seen
returns-clause-seen c =
    let Up_to : _ → Type 0 = λ n. AreStartsUpTo c.args.program.now n c.loop-place.starts.items in
    let all : c.loop-place.place ≡ length c.args.program.now.threads = omega arith in
    starts_seen c.args.program.now c.loop-place.starts.items (subst Up_to all c.loop-place.invariant)

pub returns-clause-untaken : goal.returns-clause-untaken
returns-clause-untaken c = none_taken c.args.program.now c.loop-place.place c.loop-place.starts.items c.loop-place.invariant
