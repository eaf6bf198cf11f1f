use Rattle.std.proofs.Common.{rules}
use Rattle.plain_elim.proofs.PointColumns.{OnTrue-set, fit_among}
use Rattle.plain_elim.proofs.rational_point.set_over.Goals as goal

pub returns-clause-fit : goal.returns-clause-fit
returns-clause-fit c =
    let fit = fit_among c.args.scale c.args.numbers.now c.args.column c.args.number c.requires.within c.requires.fits in
    search (rules, fit)

pub returns-clause-numbers : goal.returns-clause-numbers
returns-clause-numbers c = search (rules, OnTrue-set c.scale_all-fit.result c.args.scale c.args.numbers.now c.scale_all-fit.new.numbers c.args.column c.args.number)
