use Rattle.annotation_check.proofs.Lists.{not-proved}
use Rattle.annotation_form.specs.Annotation.{group_of, instances_of}
use Rattle.annotation_check.proofs.Groups.{ready-at, group-at, instance-at}
use Rattle.annotation_check.proofs.Checked.{first-place, next-proved}
use Rattle.annotation_check.proofs.checking.first_unproved.Goals as goal

pub proves-requires-clause-ready : goal.proves-requires-clause-ready
proves-requires-clause-ready c =
    ready-at c.args.program.now c.args.annotation.now c.loop-place.place (group_of c.index-groups-place.result) c.requires.whole
    (group-at c.args.program.now c.args.annotation.now c.args.instances.now c.groups-groups.result.now c.loop-place.place c.index-groups-place.result c.requires.whole c.requires.instances c.groups-groups.ensures.groups
    c.loop-place-test.true c.index-groups-place.is)

pub returns-then-not-branch : goal.returns-then-not-branch
returns-then-not-branch c =
    first-place c.args.program.now c.args.annotation.now c.loop-place.place _ _ (not-proved c.in_ok-proves.field-0 c.if-not-branch.true c.in_ok-proves.ensures)
    (instance-at c.args.instances.now (instances_of c.args.program.now c.args.annotation.now) c.loop-place.place _ c.requires.instances c.loop-place-test.true)
    (group-at c.args.program.now c.args.annotation.now c.args.instances.now c.groups-groups.result.now c.loop-place.place c.index-groups-place.result c.requires.whole c.requires.instances c.groups-groups.ensures.groups
    c.loop-place-test.true c.index-groups-place.is)
    c.loop-place.invariant

pub loop-place-preserved : goal.loop-place-preserved
loop-place-preserved c =
    next-proved c.args.program.now c.args.annotation.now c.loop-place.place _ _ (c.in_ok-proves.ensures.0 c.if-not-branch.false)
    (instance-at c.args.instances.now (instances_of c.args.program.now c.args.annotation.now) c.loop-place.place _ c.requires.instances c.loop-place-test.true)
    (group-at c.args.program.now c.args.annotation.now c.args.instances.now c.groups-groups.result.now c.loop-place.place c.index-groups-place.result c.requires.whole c.requires.instances c.groups-groups.ensures.groups
    c.loop-place-test.true c.index-groups-place.is)
    c.loop-place.invariant
