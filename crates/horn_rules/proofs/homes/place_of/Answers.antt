use Rattle.std.proofs.Common.{◌≡◌, ◌+◌, ◌-◌, Some, sym, ◌∙◌, arith}
use Rattle.std.specs.List.{slice_get}
use Rattle.transition_formula.proofs.Lookups.{numbered-within}
use Rattle.horn_rules.specs.inside.Kinds.{homes_in}
use Rattle.horn_rules.proofs.Places.{numbered-next, by_number-at}
use Rattle.horn_rules.proofs.Numbers.{few-homes_in, home-at}
use Rattle.horn_rules.proofs.homes.place_of.Goals as goal

pub overflow_add-result : goal.overflow_add-result
overflow_add-result c =
    let there = c.requires.there in
    let number = numbered-within c.args.program.now.threads c.args.thread.0 there.thread there.thread_is in
    omega (arith, number.0, number.1, few-homes_in c.args.program.now c.args.kind c.args.thread.0 there.thread c.requires.program there.thread_is)

pub returns-clause-place : goal.returns-clause-place
returns-clause-place c =
    let there = c.requires.there in
    let threads = c.args.program.now.threads in
    let i = c.args.thread.0 in
    let number = numbered-within threads i there.thread there.thread_is in
    let at : slice_get threads (i - 1) ≡ Some there.thread = sym (numbered-next threads (i - 1) i (omega (arith, number.0))) ∙ there.thread_is in
    by_number-at (homes_in c.args.kind) 1 (i - 1) threads there.thread i (c.count_before.result + c.args.place) c.args.place at (omega (arith, number.0)) there.within (omega arith)
    ∙ home-at c.args.kind i there.thread c.args.place there.within

pub returns-clause-few : goal.returns-clause-few
returns-clause-few c =
    let there = c.requires.there in
    let number = numbered-within c.args.program.now.threads c.args.thread.0 there.thread there.thread_is in
    omega (arith, number.0, number.1, few-homes_in c.args.program.now c.args.kind c.args.thread.0 there.thread c.requires.program there.thread_is)
