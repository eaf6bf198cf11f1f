use Rattle.std.proofs.Common.{◌≡◌, length, sym, subst}
use Rattle.horn_rules.specs.inside.Kinds.{homes_in}
use Rattle.horn_rules.proofs.Numbers.{count-locations, few-locations, edges-counted}
use Rattle.horn_rules.proofs.homes.count_in.Goals as goal

pub returns-in-Location-clause-count : goal.returns-in-Location-clause-count
returns-in-Location-clause-count c found at =
    subst (λ kind. c.locations.result ≡ length (homes_in kind c.args.thread.0 found)) (sym c.in-Location.is)
    (count-locations c.args.program.now c.args.thread.0 c.locations.result found c.locations.ensures at)

pub returns-in-Location-clause-few : goal.returns-in-Location-clause-few
returns-in-Location-clause-few c = few-locations c.args.program.now c.args.thread.0 c.locations.result c.requires.program c.locations.ensures

pub returns-in-Edge-clause-count : goal.returns-in-Edge-clause-count
returns-in-Edge-clause-count c found at =
    subst (λ kind. length c.edges.result.now ≡ length (homes_in kind c.args.thread.0 found)) (sym c.in-Edge.is)
    (edges-counted c.args.program.now c.args.thread.0 c.edges.result.now found c.edges.ensures at)
