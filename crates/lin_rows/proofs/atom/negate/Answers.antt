use Rattle.std.proofs.Common.{◌≡◌, ◌↔◌, map, pos, ◌-ℤ◌, neg_ℤ, sym, subst, ap, ◌∙◌, to_z, of_z, arith}
use Rattle.std.proofs.lemmas.Int.{ints}
use Rattle.std.specs.Int.{w128}
use Rattle.lin_rows.specs.Row.{Row, Meets}
use Rattle.lin_rows.specs.Atom.{IsAtom, negation}
use Rattle.lin_rows.proofs.Atoms.{IsAtom-negation, Meets-negation, negation-parts}
use Rattle.lin_rows.proofs.atom.negate.Goals as goal

pub of-requires : goal.of-requires
of-requires c =
    let bound : to_z w128 (of_z w128 c.bound_below-bound.result) ≡ neg_ℤ c.args.atom.now.bound -ℤ pos 1 = omega (arith, ints) in
    let parts = negation-parts c.args.atom.now _ _ (c.in_ok-coefficients.ensures ∙ ap (λ xs. map neg_ℤ xs) c.coefficients.ensures.coefficients) bound in
    subst IsAtom (sym parts) (IsAtom-negation c.args.atom.now c.bound.ensures.atom)

is_negation : (c : goal.After-of) → c.of.result ≡ negation c.args.atom.now
is_negation c =
    let bound : to_z w128 (of_z w128 c.bound_below-bound.result) ≡ neg_ℤ c.args.atom.now.bound -ℤ pos 1 = omega (arith, ints) in
    c.of.ensures ∙ negation-parts c.args.atom.now _ _ (c.in_ok-coefficients.ensures ∙ ap (λ xs. map neg_ℤ xs) c.coefficients.ensures.coefficients) bound

pub returns-clause-value : goal.returns-clause-value
returns-clause-value c = is_negation c

pub returns-clause-meaning : goal.returns-clause-meaning
returns-clause-meaning c = λ z.
    let atom = c.args.atom.now in
    let P : Row → Type 0 = λ row. Meets row z ↔ (¬ Meets atom z) in
    subst P (sym (is_negation c)) (Meets-negation atom z c.bound.ensures.atom.no_equality)
