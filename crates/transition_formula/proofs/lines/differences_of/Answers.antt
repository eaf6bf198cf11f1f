use Rattle.std.proofs.Common.{◌≡◌, ◌<◌, ◌++◌, ◌∷◌, [], ℕ, negsuc, length, sym, subst, arith, rules}
use Rattle.lin_rows.specs.Row.{multiple_of, sum_of}
use Rattle.transition_formula.proofs.FittingLists.{AreFirst, first-next, first-ends, length-differences}
use Rattle.transition_formula.proofs.lines.differences_of.Goals as goal

pub places-preserved : goal.places-preserved
places-preserved c =
    let xs = sum_of c.args.one.now (multiple_of (negsuc 0) c.args.other.now) in
    let within : c.places.place < length xs = omega (arith, length-differences c.args.one.now c.args.other.now c.requires) in
    let pushed : c.push.new.self.items ≡ c.places.differences.items ++ c.in-Some.difference ∷ [] = search rules in
    first-next c.places.place xs _ _ _ within c.places.invariant (sym c.in-Some.ensures) pushed

pub returns : goal.returns
returns c =
    let xs = sum_of c.args.one.now (multiple_of (negsuc 0) c.args.other.now) in
    let end : c.places.place ≡ length xs = omega (arith, length-differences c.args.one.now c.args.other.now c.requires) in
    first-ends xs c.places.differences.items (subst (λ (i : ℕ). AreFirst i xs c.places.differences.items) end c.places.invariant)
