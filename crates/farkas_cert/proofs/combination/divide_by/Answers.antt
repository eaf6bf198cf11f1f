use Rattle.std.proofs.Common.{◌≡◌, ◌∙◌, ap, sym, get_or, to_z, of_z, to_z-of_z, map, arith}
use Rattle.std.specs.Prelude.{pos}
use Rattle.std.specs.Int.{w128, int_div_euclid}
use Rattle.std.proofs.lemmas.List.{take_all}
use Rattle.thr_base.specs.Number.{Fits}
use Rattle.lin_rows.proofs.Lists.{AllByRecursion-at}
use Rattle.lin_rows.proofs.Numbers.{read_back}
use Rattle.farkas_cert.proofs.Combinations.{mapped-more, get_from_drop}
use Rattle.farkas_cert.proofs.combination.divide_by.Goals as goal

pub loop-number-preserved : goal.loop-number-preserved
loop-number-preserved c =
    let numbers = c.loop-number.numbers in
    let given = c.args.numbers.now in
    let i = c.loop-number.number-index in
    let d = to_z w128 (of_z w128 c.args.divisor) in
    let here = get_from_drop numbers given i c.loop-number.invariant.1 in
    let fits = AllByRecursion-at Fits given i (pos 0) c.requires.fit c.loop-number-test.true in
    let read = ap (λ x. to_z w128 (of_z w128 x)) here ∙ read_back (get_or given i (pos 0)) fits in
    let written : to_z w128 (of_z w128 c.floor_of.result) ≡ c.floor_of.result = to_z-of_z {w = w128} record { sfits = c.floor_of.type_inv } in
    mapped-more (λ x. int_div_euclid x d) numbers given i (to_z w128 (of_z w128 c.floor_of.result)) c.loop-number-test.true c.loop-number.auto.numbers
    c.loop-number.invariant.0 c.loop-number.invariant.1 (written ∙ c.floor_of.ensures ∙ ap (λ x. int_div_euclid x d) read)

pub returns : goal.returns
returns c =
    let numbers = c.loop-number.numbers in
    let given = c.args.numbers.now in
    let i = c.loop-number.number-index in
    let d = to_z w128 (of_z w128 c.args.divisor) in
    let read : d ≡ c.args.divisor = to_z-of_z c.ranges.divisor in
    let all = take_all i numbers (omega arith) in
    let all_given = take_all i given (omega arith) in
    sym all ∙ c.loop-number.invariant.0 ∙ ap (λ xs. map (λ x. int_div_euclid x d) xs) all_given ∙ ap (λ d. map (λ x. int_div_euclid x d) given) read
