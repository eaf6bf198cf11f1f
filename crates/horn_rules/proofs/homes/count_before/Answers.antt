use Rattle.std.proofs.Common.{◌≡◌, ◌+◌, suc, length, take, ap, ◌∙◌, arith}
use Rattle.horn_rules.specs.Home.{by_number}
use Rattle.horn_rules.specs.inside.Kinds.{homes_in}
use Rattle.horn_rules.proofs.Places.{numbered-next, length-by_number_more}
use Rattle.horn_rules.proofs.homes.count_before.Goals as goal
use Rattle.lin_rows.proofs.Lists.{slice_get-there}

pub loop-i-preserved : goal.loop-i-preserved
loop-i-preserved c =
    let threads = c.args.program.now.threads in
    let i = c.loop-i.i in
    let there = slice_get-there threads i (omega arith) in
    let here = c.count_in-count.ensures.count there.0 (numbered-next threads i (i + 1) (omega arith) ∙ there.1) in
    let more = length-by_number_more (homes_in c.args.kind) 1 i threads there.0 (i + 1) there.1 (omega arith) in
    let next : suc i ≡ i + 1 = omega arith in
    let same = ap (λ n. length (by_number (homes_in c.args.kind) 1 (take n threads))) next in
    record { count = omega (arith, here, more, same); few = omega arith }
