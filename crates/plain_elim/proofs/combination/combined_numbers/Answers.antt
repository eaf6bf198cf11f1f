use Rattle.std.proofs.Common.{◌≡◌, List, Some, get_or, ap, ap₂, ◌∙◌, arith, to_z, of_z, to_z-of_z}
use Rattle.std.specs.Prelude.{ℤ, pos}
use Rattle.std.specs.Int.{w128}
use Rattle.farkas_cert.specs.Combination.{combined_numbers}
use Rattle.plain_elim.proofs.Combinations.{combined_numbers-more, combined_numbers-stops, combined_numbers-ends}
use Rattle.farkas_cert.proofs.Combinations.{number_fits}
use Rattle.lin_rows.proofs.Numbers.{read_back}
use Rattle.plain_elim.proofs.combination.combined_numbers.Goals as goal

pub places-preserved : goal.places-preserved
places-preserved c =
    let a = to_z w128 (of_z w128 c.args.a) in
    let b = to_z w128 (of_z w128 c.args.b) in
    let z = c.in-Some.number in
    let left = get_or c.args.left.now c.places.place (pos 0) in
    let right = get_or c.args.right.now c.places.place (pos 0) in
    let written = read_back z (number_fits a left b right z c.in-Some.ensures) in
    combined_numbers-more a c.args.left.now b c.args.right.now c.places.place c.places.numbers.items c.push.new.self.items (to_z w128 (of_z w128 z)) _ (omega arith) (ap Some written ∙ c.in-Some.ensures)
    c.in_ok-push-in-Some.ensures.items c.places.invariant

-- the factors are read back as they were given
same_whole : (a b a' b' : ℤ) (xs ys : List ℤ) → a' ≡ a → b' ≡ b → combined_numbers a' xs b' ys ≡ combined_numbers a xs b ys
same_whole a b a' b' xs ys e h = ap₂ (λ a b. combined_numbers a xs b ys) e h

pub returns-in-None : goal.returns-in-None
returns-in-None c =
    let a = to_z w128 (of_z w128 c.args.a) in
    let b = to_z w128 (of_z w128 c.args.b) in
    combined_numbers-stops a c.args.left.now b c.args.right.now c.places.place c.places.numbers.items _ (omega arith) c.in-None.ensures c.places.invariant
    ∙ same_whole c.args.a c.args.b a b c.args.left.now c.args.right.now (to_z-of_z c.ranges.a) (to_z-of_z c.ranges.b)

pub returns : goal.returns
returns c =
    let a = to_z w128 (of_z w128 c.args.a) in
    let b = to_z w128 (of_z w128 c.args.b) in
    combined_numbers-ends a c.args.left.now b c.args.right.now c.places.place c.places.numbers.items _ (omega arith) c.places.invariant
    ∙ same_whole c.args.a c.args.b a b c.args.left.now c.args.right.now (to_z-of_z c.ranges.a) (to_z-of_z c.ranges.b)
