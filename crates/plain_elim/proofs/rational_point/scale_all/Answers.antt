use Rattle.std.proofs.Common.{◌≡◌, ◌*ℤ◌, get_or, pos, ap, subst, ◌∙◌, add-one, rules, to_z, of_z, drop, suc}
use Rattle.std.specs.Prelude.{slice_set, ◌&&◌}
use Rattle.std.specs.Int.{w128}
use Rattle.thr_base.specs.Number.{Fits}
use Rattle.lin_rows.specs.Row.{multiple_of}
use Rattle.lin_rows.proofs.Numbers.{read_back, true-fits}
use Rattle.farkas_cert.specs.Line.{all_fit}
use Rattle.farkas_cert.proofs.Reduced.{fitting_is}
use Rattle.plain_elim.proofs.PointColumns.{scaled_to, get-scaled_to, set-scaled_to, fit-scaled_from}
use Rattle.plain_elim.proofs.rational_point.scale_all.Goals as goal

pub numbers-preserved : goal.numbers-preserved
numbers-preserved c =
    let k = c.args.scale in
    let xs = c.args.numbers.now in
    let i = c.numbers.number-index in
    let scale : to_z w128 (of_z w128 k) ≡ k = search rules in
    let made : c.numbers.numbers ≡ scaled_to k i xs = rw scale at c.numbers.invariant.made in
    let here : get_or c.numbers.numbers i (pos 0) ≡ get_or xs i (pos 0) = ap (λ ys. get_or ys i (pos 0)) made ∙ get-scaled_to k xs i c.numbers-test.true in
    let is = fitting_is (k *ℤ get_or c.numbers.numbers i (pos 0)) c.in-Some.product (search rules) in
    let product : c.in-Some.product ≡ k *ℤ get_or xs i (pos 0) = is.0 ∙ ap (λ z. k *ℤ z) here in
    rw (add-one i, scale)
    record {
      made = rw (read_back c.in-Some.product is.1, product) (ap (λ ys. slice_set ys i (k *ℤ get_or xs i (pos 0))) made ∙ set-scaled_to k xs i c.numbers-test.true);
      fit =
          let before : all_fit (multiple_of k xs) ≡ all_fit (multiple_of k (drop i xs)) = rw scale at c.numbers.invariant.fit in
          let more = fit-scaled_from k xs i c.numbers-test.true in
          before ∙ more ∙ ap (λ b. b && all_fit (multiple_of k (drop (suc i) xs))) (true-fits (k *ℤ get_or xs i (pos 0)) (subst Fits product is.1));
    }
