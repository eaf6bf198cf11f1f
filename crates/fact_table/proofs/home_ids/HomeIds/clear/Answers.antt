use Rattle.std.proofs.Common.{arith}
use Rattle.fact_table.proofs.Parts.{fits-clear, seen-clear}
use Rattle.fact_table.proofs.home_ids.HomeIds.clear.Goals as goal

pub invariant_of-self : goal.invariant_of-self
invariant_of-self c =
    let fits = fits-clear c.clear.new.self.items c.set_to_zero.new.ends.items _ c.clear.ensures.items c.set_to_zero.ensures in
    (omega (arith, c.self.invariant.0, c.clear.ensures.capacity), c.self.invariant.1, omega (arith, fits.0), fits.1)

pub returns : goal.returns
returns c =
    seen-clear c.self.inside.room c.self.inside.ids.items c.clear.new.self.items c.self.inside.ends.items c.set_to_zero.new.ends.items c.args.self.now
    c.self.view_is c.clear.ensures.items c.set_to_zero.ensures
