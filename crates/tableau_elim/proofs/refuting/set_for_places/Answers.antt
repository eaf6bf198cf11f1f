use Rattle.std.proofs.Common.{◌≡◌, refl, rules, arith, get_or, pos, to_z, of_z}
use Rattle.std.specs.Prelude.{neg_ℤ}
use Rattle.std.specs.Int.{w128}
use Rattle.thr_base.specs.Number.{Fits}
use Rattle.lin_rows.proofs.Lists.{AllByRecursion-at}
use Rattle.lin_rows.proofs.Numbers.{read_back}
use Rattle.tableau_elim.proofs.Multipliers.{with_goes_on, with_ends, get_default}
use Rattle.tableau_elim.proofs.refuting.set_for_places.Goals as goal

pub places-init : goal.places-init
places-init c = refl

pub opposite-requires : goal.opposite-requires
opposite-requires c =
    let fits = AllByRecursion-at Fits c.args.numbers.now c.places.place (pos 0) c.requires.fit (omega (arith, c.places-test.true, c.requires.width)) in
    rw (read_back (get_or c.args.numbers.now c.places.place (pos 0)) fits) fits

pub places-preserved : goal.places-preserved
places-preserved c =
    let ts = c.args.numbers.now in
    let k = c.places.place in
    let number : to_z w128 (of_z w128 c.opposite.result) ≡ neg_ℤ (get_or ts k (pos 0)) = search rules in
    with_goes_on c.args.places.now ts c.places.multipliers c.set_multiplier.new.multipliers _ k _ _ c.places-test.true c.requires.width
    (get_default c.args.places.now k _ _ c.places-test.true) number c.set_multiplier.ensures c.places.invariant

pub returns : goal.returns
returns c = with_ends c.args.places.now c.args.numbers.now c.places.multipliers _ c.places.place (omega arith) c.places.invariant
