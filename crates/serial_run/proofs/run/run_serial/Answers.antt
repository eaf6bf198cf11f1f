use Rattle.serial_run.proofs.Steps.{reaches-itself, reaches-further, reaches-end, fewer-left}
use Rattle.serial_run.proofs.run.run_serial.Goals as goal

pub loop-init : goal.loop-init
loop-init g c = reaches-itself c.args.core.now c.requires

pub post_next-requires : goal.post_next-requires
post_next-requires g c = c.loop.invariant.idle

pub loop-smaller : goal.loop-smaller
loop-smaller g c = fewer-left c.loop.core c.post_next.new.core c.in-On.ensures

pub loop-preserved : goal.loop-preserved
loop-preserved g c = reaches-further c.args.core.now c.loop.core c.post_next.new.core c.loop.invariant c.in-On.ensures

pub returns-in-Ended : goal.returns-in-Ended
returns-in-Ended g c = reaches-end c.args.core.now c.loop.core c.post_next.new.core c.loop.invariant c.in-Ended.ensures
