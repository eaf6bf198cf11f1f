use Rattle.std.proofs.Common.{◌∙◌, ap, sym, to_z, of_z, to_z-of_z, Some}
use Rattle.std.specs.Int.{w128}
use Rattle.plain_elim.specs.inside.Combined.{numbers_in}
use Rattle.farkas_cert.proofs.Combinations.{combined_fit}
use Rattle.plain_elim.proofs.Combinations.{made_some, made_none, same_made}
use Rattle.plain_elim.proofs.combination.made_line.Goals as goal

pub divided_line-requires : goal.divided_line-requires
divided_line-requires c =
    combined_fit (to_z w128 (of_z w128 c.args.a)) c.numbers.result.now (to_z w128 (of_z w128 c.args.b)) c.numbers-2.result.now c.in-Some.numbers.items
    (ap numbers_in (sym c.in-Some.is) ∙ c.in_ok-made.ensures)

pub returns-in-Some : goal.returns-in-Some
returns-in-Some c =
    let a = to_z w128 (of_z w128 c.args.a) in
    let b = to_z w128 (of_z w128 c.args.b) in
    ap Some c.divided_line.ensures
    ∙ made_some c.args.equal a c.numbers.result.now b c.numbers-2.result.now c.in-Some.numbers.items (ap numbers_in (sym c.in-Some.is) ∙ c.in_ok-made.ensures)
    ∙ same_made c.args.equal c.args.a a c.args.left.now.numbers c.numbers.result.now c.args.b b c.args.right.now.numbers c.numbers-2.result.now
    (to_z-of_z c.ranges.a) c.numbers.ensures.numbers (to_z-of_z c.ranges.b) c.numbers-2.ensures.numbers

pub returns-in-None : goal.returns-in-None
returns-in-None c =
    let a = to_z w128 (of_z w128 c.args.a) in
    let b = to_z w128 (of_z w128 c.args.b) in
    made_none c.args.equal a c.numbers.result.now b c.numbers-2.result.now (ap numbers_in (sym c.in-None.is) ∙ c.in_ok-made.ensures)
    ∙ same_made c.args.equal c.args.a a c.args.left.now.numbers c.numbers.result.now c.args.b b c.args.right.now.numbers c.numbers-2.result.now
    (to_z-of_z c.ranges.a) c.numbers.ensures.numbers (to_z-of_z c.ranges.b) c.numbers-2.ensures.numbers
