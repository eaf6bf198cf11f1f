use Rattle.std.proofs.Common.{arith}
use Rattle.horn_rules.specs.Home.{homes}
use Rattle.horn_rules.specs.Stored.{home_of}
use Rattle.horn_rules.proofs.Numbers.{numbered-there, home-numbered}
use Rattle.horn_rules.proofs.tests.there_and_back.Goals as goal

pub named-home-requires : goal.named-home-requires
named-home-requires c = numbered-there (homes c.args.program.now) c.args.n (omega arith) (omega arith)

pub number-requires : goal.number-requires
number-requires c = home-numbered c.args.program.now c.args.n (home_of c.named-home.result) c.named-home.ensures
