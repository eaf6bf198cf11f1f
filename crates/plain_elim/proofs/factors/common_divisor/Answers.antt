use Rattle.std.proofs.Common.{◌≡◌, ◌∙◌, sym, subst, ap₂, to_z, of_z, to_z-of_z}
use Rattle.std.specs.Prelude.{ℤ, pos, ◌<ℤ◌, unsigned_abs}
use Rattle.std.specs.Int.{w128}
use Rattle.lin_rows.specs.Gcd.{gcd}
use Rattle.farkas_cert.proofs.Eliminates.{gcd_positive, nonzero_abs}
use Rattle.plain_elim.proofs.factors.common_divisor.Goals as goal

pub returns-clause-positive : goal.returns-clause-positive
returns-clause-positive c =
    let p = c.args.p in
    let q = c.args.q in
    let positive = gcd_positive (unsigned_abs p) (unsigned_abs q) (nonzero_abs q c.requires.other) in
    let read_p : to_z w128 (of_z w128 p) ≡ p = to_z-of_z c.ranges.p in
    let read_q : to_z w128 (of_z w128 q) ≡ q = to_z-of_z c.ranges.q in
    let read : to_z w128 (of_z w128 c.divisor_of.result) ≡ c.divisor_of.result = to_z-of_z {w = w128} record { sfits = c.divisor_of.type_inv } in
    let same = read ∙ c.divisor_of.ensures ∙ ap₂ (λ p q. pos (gcd (unsigned_abs p) (unsigned_abs q))) read_p read_q in
    subst (λ (g : ℤ). pos 0 <ℤ g) (sym same) positive
