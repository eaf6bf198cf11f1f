use Rattle.std.proofs.Common.{◌≡◌, ◌∙◌, ap, ap₂, sym, subst, Option, to_z, of_z, to_z-of_z}
use Rattle.std.specs.Prelude.{ℤ, pos, ◌-ℤ◌, ◌*ℤ◌, neg_ℤ, unsigned_abs, IfOk}
use Rattle.std.specs.Int.{w128, int_div_euclid, int_signum}
use Rattle.thr_base.specs.Number.{Fits}
use Rattle.lin_rows.specs.Gcd.{gcd}
use Rattle.lin_rows.proofs.Numbers.{read_back, Fits-int_div_euclid}
use Rattle.farkas_cert.specs.Divided.{over}
use Rattle.farkas_cert.specs.Line.{Line}
use Rattle.plain_elim.proofs.StageLemmas.{substituted_stays, substituted_by, read_turned}
use Rattle.plain_elim.proofs.substitution.substituted_line.Goals as goal

pub returns-then-not-is_nonzero : goal.returns-then-not-is_nonzero
returns-then-not-is_nonzero c =
    let q = c.coefficient_at-q.result in
    let read = read_back q c.coefficient_at-q.ensures.fits in
    substituted_stays c.args.column c.args.equality.now c.args.line (to_z w128 (of_z w128 q)) (read ∙ c.coefficient_at-q.ensures.coefficient) (sym c.is_nonzero.ensures ∙ c.if-not-is_nonzero.true)

pub returns : goal.returns
returns c =
    let p = to_z w128 (of_z w128 c.coefficient_at-p.result) in
    let q = to_z w128 (of_z w128 c.coefficient_at-q.result) in
    let d = c.common_divisor-divisor.result in
    let a = c.floor_of-a.result in
    let b = c.floor_of-b.result in
    let g = gcd (unsigned_abs p) (unsigned_abs q) in
    let is_p = read_back c.coefficient_at-p.result c.coefficient_at-p.ensures.fits ∙ c.coefficient_at-p.ensures.coefficient in
    let is_q = read_back c.coefficient_at-q.result c.coefficient_at-q.ensures.fits ∙ c.coefficient_at-q.ensures.coefficient in
    let read_d : to_z w128 (of_z w128 d) ≡ d = to_z-of_z {w = w128} record { sfits = c.common_divisor-divisor.type_inv } in
    let read_a : to_z w128 (of_z w128 a) ≡ a = to_z-of_z {w = w128} record { sfits = c.floor_of-a.type_inv } in
    let read_size : to_z w128 (of_z w128 c.abs.result) ≡ c.abs.result = to_z-of_z {w = w128} record { sfits = c.abs.type_inv } in
    let divisor = read_d ∙ c.common_divisor-divisor.ensures.divisor in
    let signed = read_back c.with_sign_of.result c.with_sign_of.ensures.fits ∙ c.with_sign_of.ensures.sign in
    let fits = subst (λ (z : ℤ). Fits z) signed (rw (read_back c.with_sign_of.result c.with_sign_of.ensures.fits) c.with_sign_of.ensures.fits) in
    let is_a : to_z w128 (of_z w128 a) ≡ over g (pos (unsigned_abs p)) = read_a ∙ c.floor_of-a.ensures ∙ ap₂ int_div_euclid (read_size ∙ c.abs.ensures.value) divisor in
    let is_b : b ≡ over g (int_signum p *ℤ q) = c.floor_of-b.ensures ∙ ap₂ int_div_euclid signed divisor in
    let fits_b = subst (λ (z : ℤ). Fits z) (sym is_b) (Fits-int_div_euclid (int_signum p *ℤ q) g fits) in
    let same = substituted_by c.args.column c.args.equality.now c.args.line c.is_equality.result p q (to_z w128 (of_z w128 a)) (to_z w128 (of_z w128 (pos 0 -ℤ to_z w128 (of_z w128 b))))
    is_p is_q (sym c.is_nonzero.ensures ∙ c.if-not-is_nonzero.false) c.is_equality.ensures is_a (read_turned b fits_b ∙ ap neg_ℤ is_b) in
    subst (λ (o : Option Line). IfOk c.made_line.result (λ made. made ≡ o)) same c.made_line.ensures
