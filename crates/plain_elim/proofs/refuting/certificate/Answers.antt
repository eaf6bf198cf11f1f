use Rattle.std.proofs.Common.{◌≡◌, ◌∙◌, ap, sym, subst, List, map}
use Rattle.std.specs.Prelude.{ℤ, neg_ℤ, IfOk}
use Rattle.plain_elim.proofs.ConstantTests.{refuting-turned, refuting-plain}
use Rattle.std.specs.List.{AllByRecursion}
use Rattle.thr_base.specs.Number.{Fits}
use Rattle.lin_rows.proofs.Lists.{AllByRecursion-map}
use Rattle.lin_rows.proofs.Numbers.{Fits-neg}
use Rattle.farkas_cert.specs.Line.{nonzero_pairs, refuting_multipliers}
use Rattle.plain_elim.proofs.refuting.certificate.Goals as goal

pub of_multipliers-requires-clause-fit : goal.of_multipliers-requires-clause-fit
of_multipliers-requires-clause-fit c =
    let is = c.as_slice.ensures.value ∙ c.in_ok-opposites.ensures in
    subst (λ (xs : List ℤ). AllByRecursion Fits xs) (sym is) (AllByRecursion-map Fits Fits neg_ℤ Fits-neg c.multipliers-multipliers.result.now c.multipliers-multipliers.ensures.fit)

pub returns-in_ok-opposites : goal.returns-in_ok-opposites
returns-in_ok-opposites c =
    let n = c.columns-columns.result in
    let ms = c.as_slice.ensures.value ∙ c.in_ok-opposites.ensures ∙ ap (map neg_ℤ) c.multipliers-multipliers.ensures.multipliers in
    let turned = refuting-turned n c.args.line.now (sym c.is_turned.ensures ∙ c.if-is_turned.true) in
    let same = ms ∙ sym turned ∙ ap (λ n. refuting_multipliers n c.args.line.now) c.columns-columns.ensures.columns in
    subst (λ (xs : List ℤ). IfOk c.of_multipliers.result (λ cert. cert ≡ nonzero_pairs 1 xs)) same c.of_multipliers.ensures

pub returns-else-is_turned : goal.returns-else-is_turned
returns-else-is_turned c =
    let n = c.columns-columns.result in
    let plain = refuting-plain n c.args.line.now (sym c.is_turned.ensures ∙ c.if-is_turned.false) in
    let same = c.multipliers-multipliers.ensures.multipliers ∙ sym plain ∙ ap (λ n. refuting_multipliers n c.args.line.now) c.columns-columns.ensures.columns in
    subst (λ (xs : List ℤ). IfOk c.of_multipliers-else-is_turned.result (λ cert. cert ≡ nonzero_pairs 1 xs)) same c.of_multipliers-else-is_turned.ensures
