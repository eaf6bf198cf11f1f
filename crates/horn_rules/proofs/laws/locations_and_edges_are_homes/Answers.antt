use Rattle.horn_rules.proofs.HomesThere.{edge-home, home-edge, location-home}
use Rattle.horn_rules.proofs.laws.locations_and_edges_are_homes.Goals as goal

pub returns : goal.returns
returns c = record { locations = location-home; edges = edge-home; told = home-edge }
