use Rattle.std.proofs.Common.{◌≡◌, ◌∙◌, ap, subst, Option, to_z, of_z, to_z-of_z}
use Rattle.std.specs.Prelude.{pos, ◌-ℤ◌, neg_ℤ, IfOk}
use Rattle.std.specs.Int.{w128, int_div_euclid}
use Rattle.lin_rows.proofs.Numbers.{read_back}
use Rattle.farkas_cert.specs.Line.{Line}
use Rattle.plain_elim.proofs.StageLemmas.{paired_by, read_turned}
use Rattle.plain_elim.proofs.pairing.paired_line.Goals as goal

pub returns : goal.returns
returns c =
    let z = c.coefficient_at-q.result in
    let p = to_z w128 (of_z w128 c.coefficient_at-p.result) in
    let q = to_z w128 (of_z w128 (pos 0 -ℤ to_z w128 (of_z w128 z))) in
    let a = c.floor_of-a.result in
    let b = c.floor_of-b.result in
    let d = c.common_divisor-divisor.result in
    let is_p = read_back c.coefficient_at-p.result c.coefficient_at-p.ensures.fits ∙ c.coefficient_at-p.ensures.coefficient in
    let is_q = read_turned z c.coefficient_at-q.ensures.fits ∙ ap neg_ℤ c.coefficient_at-q.ensures.coefficient in
    let read_a : to_z w128 (of_z w128 a) ≡ a = to_z-of_z {w = w128} record { sfits = c.floor_of-a.type_inv } in
    let read_b : to_z w128 (of_z w128 b) ≡ b = to_z-of_z {w = w128} record { sfits = c.floor_of-b.type_inv } in
    let read_d : to_z w128 (of_z w128 d) ≡ d = to_z-of_z {w = w128} record { sfits = c.common_divisor-divisor.type_inv } in
    let divisor = read_d ∙ c.common_divisor-divisor.ensures.divisor in
    let same = paired_by c.args.column c.args.positive.now c.args.negative.now p q (to_z w128 (of_z w128 a)) (to_z w128 (of_z w128 b)) is_p is_q
    (read_a ∙ c.floor_of-a.ensures ∙ ap (λ d. int_div_euclid q d) divisor) (read_b ∙ c.floor_of-b.ensures ∙ ap (λ d. int_div_euclid p d) divisor) in
    subst (λ (o : Option Line). IfOk c.made_line.result (λ made. made ≡ o)) same c.made_line.ensures
