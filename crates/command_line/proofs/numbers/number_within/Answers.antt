use Rattle.std.proofs.Common.{rules, ◌≡◌, ℕ, ◌≤◌, ◌^◌, ◌<◌, pos, Some, IfNone, sym, ◌∙◌, arith}
use Rattle.command_line.proofs.WordsGiven.{not_within}
use Rattle.command_line.proofs.numbers.number_within.Goals as goal

pub returns-in-Some-clause-none : goal.returns-in-Some-clause-none
returns-in-Some-clause-none c =
    let none : IfNone c.within.result ((n : ℕ) → c.in-Some.number ≡ pos n → c.args.least ≤ n → n ≤ c.args.most → ⊥) = search rules in
    not_within c.within.result c.in-Some.number c.args.least c.args.most c.args.text.now none (λ n is.
    let small : n < 2 ^ 127 = omega (arith, is.below, c.ranges.most.fits) in
    let same : Some c.in-Some.number ≡ Some (pos n) = sym c.in-Some.is ∙ c.parse_number.ensures.printed (pos n) small (c.as_bytes.ensures.value ∙ is.text_is) in
    cc)

pub returns-in-None-clause-none : goal.returns-in-None-clause-none
returns-in-None-clause-none c = λ n is.
    let small : n < 2 ^ 127 = omega (arith, is.below, c.ranges.most.fits) in
    c.in-None.ensures.none (pos n) small (c.as_bytes.ensures.value ∙ is.text_is)
