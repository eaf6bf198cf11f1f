use Rattle.std.proofs.Common.{◌≡◌, ◌∙◌, sym, subst, ap, ap₂, to_z, of_z, to_z-of_z}
use Rattle.std.specs.Prelude.{ℤ, pos, ◌*ℤ◌, ◌<ℤ◌, unsigned_abs}
use Rattle.std.specs.Int.{w128, int_div_euclid}
use Rattle.lin_rows.specs.Exact.{fitting}
use Rattle.lin_rows.specs.Gcd.{gcd}
use Rattle.lin_rows.proofs.Multiples.{gcd-positive_ℤ, lcm-quotient}
use Rattle.lin_rows.proofs.divisor.multiple_if_fits.Goals as goal

-- the divisor as the code reads it
divisor_is : (a b a' b' g g' : ℤ) → g' ≡ g → g ≡ pos (gcd (unsigned_abs a') (unsigned_abs b')) → a' ≡ a → b' ≡ b → g' ≡ pos (gcd (unsigned_abs a) (unsigned_abs b))
divisor_is a b a' b' g g' read is read_a read_b = read ∙ is ∙ ap₂ (λ a b. pos (gcd (unsigned_abs a) (unsigned_abs b))) read_a read_b

pub floor_of-requires : goal.floor_of-requires
floor_of-requires c =
    let a = c.args.a in
    let b = c.args.b in
    let read_a : to_z w128 (of_z w128 a) ≡ a = to_z-of_z c.ranges.a in
    let read_b : to_z w128 (of_z w128 b) ≡ b = to_z-of_z c.ranges.b in
    let divisor = c.divisor_of-divisor in
    let read : to_z w128 (of_z w128 divisor.result) ≡ divisor.result = to_z-of_z {w = w128} record { sfits = divisor.type_inv } in
    let same = divisor_is a b _ _ _ _ read divisor.ensures read_a read_b in
    subst (λ (g : ℤ). pos 0 <ℤ g) (sym same) (gcd-positive_ℤ a b c.requires.first)

pub returns : goal.returns
returns c =
    let a = c.args.a in
    let b = c.args.b in
    let read_a : to_z w128 (of_z w128 a) ≡ a = to_z-of_z c.ranges.a in
    let read_b : to_z w128 (of_z w128 b) ≡ b = to_z-of_z c.ranges.b in
    let divisor = c.divisor_of-divisor in
    let read : to_z w128 (of_z w128 divisor.result) ≡ divisor.result = to_z-of_z {w = w128} record { sfits = divisor.type_inv } in
    let same = divisor_is a b _ _ _ _ read divisor.ensures read_a read_b in
    let floor = c.floor_of in
    let read_floor : to_z w128 (of_z w128 floor.result) ≡ floor.result = to_z-of_z {w = w128} record { sfits = floor.type_inv } in
    let quotient = read_floor ∙ floor.ensures ∙ ap₂ int_div_euclid read_a same in
    c.product_if_fits.ensures ∙ ap₂ (λ (f b : ℤ). fitting (f *ℤ b)) quotient read_b ∙ ap fitting (lcm-quotient a b c.requires.first c.requires.second)
