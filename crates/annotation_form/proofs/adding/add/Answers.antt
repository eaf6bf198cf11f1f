use Rattle.std.proofs.Common.{arith}
use Rattle.horn_rules.specs.Home.{homes}
use Rattle.horn_rules.specs.Stored.{home_of}
use Rattle.transition_formula.proofs.Lookups.{numbered-within}
use Rattle.annotation_form.proofs.RoomLemmas.{full-no_room, known-no_room, new-room, new-sets}
use Rattle.annotation_form.proofs.adding.add.Goals as goal

pub add-requires : goal.add-requires
add-requires c =
    let within = numbered-within (homes c.args.program.now) c.number-number.result.0 (home_of c.args.home) c.number-number.ensures in
    (within.0, omega (arith, within.1, c.requires.sets))

pub returns-in-Ok-New-clause-added : goal.returns-in-Ok-New-clause-added
returns-in-Ok-New-clause-added c = λ before is.
    let added = rw c.in-Ok-New.field-0-is at c.in-Ok-New.ensures in (
      new-room c.args.program.now c.args.sets.now c.number-number.result.0 (home_of c.args.home) c.args.atom before c.number-number.ensures is added.0,
      new-sets c.args.program.now c.args.sets.now c.number-number.result.0 (home_of c.args.home) c.args.atom c.add.new.self before c.number-number.ensures is added.2,
    )

pub returns-in-Ok-Known-clause-added : goal.returns-in-Ok-Known-clause-added
returns-in-Ok-Known-clause-added c = λ before is.
    let added = rw c.in-Ok-Known.field-0-is at c.in-Ok-Known.ensures in
    known-no_room c.args.program.now c.args.sets.now c.number-number.result.0 (home_of c.args.home) c.args.atom c.in-Ok-Known.field-0-0 before c.number-number.ensures is added.0

pub returns-in-Err-Full-clause-added : goal.returns-in-Err-Full-clause-added
returns-in-Err-Full-clause-added c = λ before is.
    let refused = rw c.in-Err-Full.field-0-is at c.in-Err-Full.ensures in
    full-no_room c.args.program.now c.args.sets.now c.number-number.result.0 (home_of c.args.home) c.args.atom before c.number-number.ensures is refused.1
