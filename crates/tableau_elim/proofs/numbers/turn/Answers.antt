use Rattle.std.proofs.Common.{◌≡◌, ◌∙◌, ap, get_or, to_z, of_z, to_z-of_z, map, sym, arith}
use Rattle.std.specs.Prelude.{pos, neg_ℤ, ◌*ℤ◌}
use Rattle.std.specs.Int.{w128, int_signum}
use Rattle.std.proofs.lemmas.List.{take_all}
use Rattle.thr_base.specs.Number.{Fits}
use Rattle.lin_rows.proofs.Lists.{AllByRecursion-at}
use Rattle.lin_rows.proofs.Numbers.{read_back}
use Rattle.farkas_cert.proofs.Combinations.{mapped-more, get_from_drop}
use Rattle.tableau_elim.proofs.numbers.turn.Goals as goal

pub loop-number-preserved : goal.loop-number-preserved
loop-number-preserved c =
    let numbers = c.loop-number.numbers in
    let given = c.args.numbers.now in
    let i = c.loop-number.number-index in
    let p = to_z w128 (of_z w128 c.args.p) in
    let here = get_from_drop numbers given i c.loop-number.invariant.1 in
    let fits = AllByRecursion-at Fits given i (pos 0) c.requires c.loop-number-test.true in
    let read = ap (λ x. to_z w128 (of_z w128 x)) here ∙ read_back (get_or given i (pos 0)) fits in
    let written : to_z w128 (of_z w128 c.with_other_sign.result) ≡ c.with_other_sign.result = read_back c.with_other_sign.result c.with_other_sign.ensures.fits in
    mapped-more (λ x. neg_ℤ (int_signum p) *ℤ x) numbers given i (to_z w128 (of_z w128 c.with_other_sign.result)) c.loop-number-test.true c.loop-number.auto.numbers
    c.loop-number.invariant.0 c.loop-number.invariant.1 (written ∙ c.with_other_sign.ensures.product ∙ ap (λ x. neg_ℤ (int_signum p) *ℤ x) read)

pub returns : goal.returns
returns c =
    let numbers = c.loop-number.numbers in
    let given = c.args.numbers.now in
    let i = c.loop-number.number-index in
    let p = to_z w128 (of_z w128 c.args.p) in
    let read : p ≡ c.args.p = to_z-of_z c.ranges.p in
    let all = take_all i numbers (omega arith) in
    let all_given = take_all i given (omega arith) in
    sym all ∙ c.loop-number.invariant.0 ∙ ap (λ xs. map (λ x. neg_ℤ (int_signum p) *ℤ x) xs) all_given ∙ ap (λ p. map (λ x. neg_ℤ (int_signum p) *ℤ x) given) read
