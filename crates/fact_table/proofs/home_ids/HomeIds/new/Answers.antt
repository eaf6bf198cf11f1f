use Rattle.std.proofs.Common.{◌≡◌, replicate, arith}
use Rattle.fact_table.proofs.Parts.{fits-clear, seen-made}
use Rattle.fact_table.proofs.home_ids.HomeIds.new.Goals as goal

pub invariant_of-result : goal.invariant_of-result
invariant_of-result c =
    let ends : c.in_ok-ends.ends.items ≡ replicate c.args.homes 0 = c.in_ok-ends.ensures.items_if_clones_equal (λ y e. e) in
    let fits = fits-clear c.in_ok-ids.ids.items c.in_ok-ends.ends.items c.args.homes c.in_ok-ids.ensures.items ends in
    (c.in_ok-ids.ensures.capacity, omega arith, omega (arith, fits.0), fits.1)

pub returns : goal.returns
returns c =
    let ends : c.in_ok-ends.ends.items ≡ replicate c.args.homes 0 = c.in_ok-ends.ensures.items_if_clones_equal (λ y e. e) in
    seen-made c.args.room c.args.homes c.in_ok-ids.ids.items c.in_ok-ends.ends.items c.in_ok-ids.ensures.items ends
