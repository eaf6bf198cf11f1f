use Rattle.std.proofs.Common.{◌≡◌, ◌∙◌, ap, sym, subst, length, arith, rules, replicate, pos, List}
use Rattle.std.specs.Prelude.{ℤ}
use Rattle.std.specs.List.{AllByRecursion}
use Rattle.std.proofs.lemmas.List.{with_items_is}
use Rattle.thr_base.specs.Number.{Fits}
use Rattle.farkas_cert.specs.Divided.{divided_numbers}
use Rattle.farkas_cert.specs.Line.{nonzero_pairs}
use Rattle.tableau_elim.specs.Rounds.{multipliers}
use Rattle.tableau_elim.specs.inside.Held.{tableau_of}
use Rattle.tableau_elim.specs.inside.Lines.{line_at}
use Rattle.farkas_cert.proofs.Combinations.{divided_fit}
use Rattle.tableau_elim.proofs.Multipliers.{zeros_are, multipliers_fit, held_line, divisor_fit}
use Rattle.tableau_elim.proofs.refuting.certificate.Goals as goal

pub weigh-requires-clause-zeros : goal.weigh-requires-clause-zeros
weigh-requires-clause-zeros c =
    let zeros : c.in_ok-multipliers.multipliers.items ≡ replicate c.args.rows (pos 0) = search rules in
    zeros_are c.args.rows c.deref_mut.result.now (c.deref_mut.ensures.value ∙ zeros)

pub of_multipliers-requires-clause-few : goal.of_multipliers-requires-clause-few
of_multipliers-requires-clause-few c =
    let line = line_at c.args.line (tableau_of c.args.tableau.now) in
    let ms = multipliers c.args.side (length c.deref_mut.result.now) c.args.tableau.now.places.items line in
    let long : length c.weigh.new.multipliers ≡ c.in_ok-multipliers.multipliers.len = c.weigh.auto.multipliers ∙ c.deref_mut.ensures.len in
    let made = c.as_slice.ensures.value ∙ with_items_is c.in_ok-multipliers.multipliers c.weigh.new.multipliers long in
    let zeros : c.in_ok-multipliers.multipliers.items ≡ replicate c.args.rows (pos 0) = search rules in
    let count : c.in_ok-multipliers.multipliers.len ≡ c.args.rows = search rules in
    let same = ap length made ∙ long ∙ count in
    omega (arith, same, c.ranges.rows)

pub of_multipliers-requires-clause-fit : goal.of_multipliers-requires-clause-fit
of_multipliers-requires-clause-fit c =
    let line = line_at c.args.line (tableau_of c.args.tableau.now) in
    let places = c.args.tableau.now.places.items in
    let n = length c.deref_mut.result.now in
    let sound = held_line c.args.tableau.now c.args.line c.requires in
    let long : length c.weigh.new.multipliers ≡ c.in_ok-multipliers.multipliers.len = c.weigh.auto.multipliers ∙ c.deref_mut.ensures.len in
    let made = c.as_slice.ensures.value ∙ with_items_is c.in_ok-multipliers.multipliers c.weigh.new.multipliers long ∙ c.weigh.ensures in
    subst (λ (xs : List ℤ). AllByRecursion Fits xs) (sym made) (divided_fit (multipliers c.args.side n places line) (multipliers_fit c.args.side n places line sound.0 (divisor_fit line sound.0)))

pub returns : goal.returns
returns c =
    let line = line_at c.args.line (tableau_of c.args.tableau.now) in
    let places = c.args.tableau.now.places.items in
    let long : length c.weigh.new.multipliers ≡ c.in_ok-multipliers.multipliers.len = c.weigh.auto.multipliers ∙ c.deref_mut.ensures.len in
    let count : c.in_ok-multipliers.multipliers.len ≡ c.args.rows = search rules in
    let rows = c.deref_mut.ensures.len ∙ count in
    let made = c.as_slice.ensures.value ∙ with_items_is c.in_ok-multipliers.multipliers c.weigh.new.multipliers long ∙ c.weigh.ensures ∙ ap (λ n. divided_numbers (multipliers c.args.side n places line)) rows in
    c.in_ok-cert.ensures ∙ ap (nonzero_pairs 1) made
