use Rattle.tableau_elim.specs.inside.Held.{tableau_of}
use Rattle.tableau_elim.specs.inside.Lines.{line_at}
use Rattle.tableau_elim.proofs.Multipliers.{weighed, set_fit, sign_fit, held_line, divisor_fit}
use Rattle.tableau_elim.proofs.refuting.weigh.Goals as goal

pub sign-requires : goal.sign-requires
sign-requires c =
    let line = line_at c.args.line (tableau_of c.args.tableau.now) in
    let sound = held_line c.args.tableau.now c.args.line c.requires.within in
    set_fit c.args.tableau.now.places.items line c.args.multipliers.now c.set_all.new.multipliers sound.0 (divisor_fit line sound.0) c.requires.zeros c.set_all.ensures

pub divide-requires : goal.divide-requires
divide-requires c =
    let line = line_at c.args.line (tableau_of c.args.tableau.now) in
    let sound = held_line c.args.tableau.now c.args.line c.requires.within in
    let fits = set_fit c.args.tableau.now.places.items line c.args.multipliers.now c.set_all.new.multipliers sound.0 (divisor_fit line sound.0) c.requires.zeros c.set_all.ensures in
    sign_fit c.args.side c.set_all.new.multipliers c.sign.new.multipliers fits c.sign.ensures

pub returns : goal.returns
returns c =
    weighed c.args.side c.args.tableau.now.places.items (line_at c.args.line (tableau_of c.args.tableau.now)) c.args.multipliers.now c.set_all.new.multipliers c.sign.new.multipliers c.divide.new.numbers
    c.requires.zeros c.set_all.ensures c.sign.ensures c.divide.ensures
