use Rattle.std.proofs.Common.{◌≡◌, ◌<◌, ◌++◌, ◌∷◌, [], ℕ, length, sym, subst, arith, rules}
use Rattle.lin_rows.specs.Row.{sum_of}
use Rattle.transition_formula.proofs.FittingLists.{AreFirst, first-next, first-ends, length-sum_of}
use Rattle.transition_formula.proofs.lines.sums_of.Goals as goal

pub places-preserved : goal.places-preserved
places-preserved c =
    let xs = sum_of c.args.one.now c.args.other.now in
    let within : c.places.place < length xs = omega (arith, length-sum_of c.args.one.now c.args.other.now c.requires) in
    let pushed : c.push.new.self.items ≡ c.places.sums.items ++ c.in-Some.sum ∷ [] = search rules in
    first-next c.places.place xs _ _ _ within c.places.invariant (sym c.in-Some.ensures) pushed

pub returns : goal.returns
returns c =
    let xs = sum_of c.args.one.now c.args.other.now in
    let end : c.places.place ≡ length xs = omega (arith, length-sum_of c.args.one.now c.args.other.now c.requires) in
    first-ends xs c.places.sums.items (subst (λ (i : ℕ). AreFirst i xs c.places.sums.items) end c.places.invariant)
