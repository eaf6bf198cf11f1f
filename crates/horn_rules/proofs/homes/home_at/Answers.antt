use Rattle.std.proofs.Common.{◌+◌, ◌-◌, ◌<◌, length, Some, sym, ap, ◌∙◌, arith}
use Rattle.horn_rules.specs.inside.Kinds.{homes_in}
use Rattle.horn_rules.proofs.Places.{numbered-next, by_number-here, by_number-later}
use Rattle.horn_rules.proofs.Numbers.{home-at}
use Rattle.horn_rules.proofs.homes.home_at.Goals as goal
use Rattle.lin_rows.proofs.Lists.{slice_get-there}

pub returns-then-left-here : goal.returns-then-left-here
returns-then-left-here c =
    let threads = c.args.program.now.threads in
    let i = c.loop-i.i in
    let there = slice_get-there threads i (omega (arith, c.threads-i-end.ensures.threads)) in
    let here = c.count_in-here.ensures.count there.0 (numbered-next threads i (i + 1) (omega arith) ∙ there.1) in
    let inside : c.loop-i.left < length (homes_in c.args.kind (i + 1) there.0) = omega (arith, here) in
    sym c.loop-i.invariant
    ∙ by_number-here (homes_in c.args.kind) (i + 1) i threads there.0 c.loop-i.left there.1 inside
    ∙ home-at c.args.kind (i + 1) there.0 c.loop-i.left inside
    ∙ ap Some (sym c.home.ensures)

pub loop-i-preserved : goal.loop-i-preserved
loop-i-preserved c =
    let threads = c.args.program.now.threads in
    let i = c.loop-i.i in
    let there = slice_get-there threads i (omega (arith, c.threads-i-end.ensures.threads)) in
    let here = c.count_in-here.ensures.count there.0 (numbered-next threads i (i + 1) (omega arith) ∙ there.1) in
    let rest = c.loop-i.left - c.count_in-here.result in
    sym (by_number-later (homes_in c.args.kind) (i + 1) i (i + 1 + 1) (i + 1) threads there.0 c.loop-i.left rest there.1 (omega (arith, here)) (omega arith) (omega arith))
    ∙ c.loop-i.invariant
