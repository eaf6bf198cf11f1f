use Rattle.horn_rules.proofs.Derivations.{each-open-gives-its-home}
use Rattle.horn_rules.proofs.BareInstances.{bare-instances-open, each-gives-its-home}
use Rattle.horn_rules.proofs.laws.without_predicates_each_instance_gives_its_home.Goals as goal

pub returns-clause-open_ones : goal.returns-clause-open_ones
returns-clause-open_ones c = each-open-gives-its-home

pub returns-clause-points : goal.returns-clause-points
returns-clause-points c = bare-instances-open

pub returns-clause-each : goal.returns-clause-each
returns-clause-each c = each-gives-its-home
