use Rattle.horn_rules.proofs.Covering.{closed-lists-cover, closed-least-covers}
use Rattle.horn_rules.proofs.laws.closed_sets_cover.Goals as goal

pub returns-clause-lists : goal.returns-clause-lists
returns-clause-lists c = closed-lists-cover

pub returns-clause-least : goal.returns-clause-least
returns-clause-least c = closed-least-covers
