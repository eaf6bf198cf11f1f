use Rattle.std.proofs.Common.{arith}
use Rattle.instance_cursors.specs.declared.turns.Cursor.{Cursor}
use Rattle.instance_cursors.proofs.Sought.{nowhere_in_all, sought_at, sought_first, sought_more}
use Rattle.instance_cursors.proofs.finding.find_of.Goals as goal

pub loop-place-init : goal.loop-place-init
loop-place-init c = sought_first c.args.layout.now c.args.facts.now c.args.cursors.now c.args.instance c.args.fact c.requires.is_live c.requires.id

pub loop-place-preserved : goal.loop-place-preserved
loop-place-preserved c =
    let d : Cursor = _ in
    sought_more c.args.layout.now c.args.facts.now c.args.cursors.now c.args.instance c.args.fact c.loop-place.place d c.loop-place.invariant c.loop-place-test.true c.in_default.ensures

pub returns-in-Some : goal.returns-in-Some
returns-in-Some c =
    let d : Cursor = _ in
    sought_at c.args.layout.now c.args.facts.now c.args.cursors.now c.args.instance c.args.fact c.loop-place.place c.in-Some.step d c.loop-place.invariant c.loop-place-test.true c.in-Some.ensures

pub returns : goal.returns
returns c =
    nowhere_in_all c.args.layout.now c.args.facts.now c.args.cursors.now c.args.instance c.args.fact c.loop-place.place c.requires.ids c.loop-place.invariant (omega (arith, c.loop-place-test.false))
