use Rattle.lin_rows.proofs.Multiples.{lcm-positive, lcm-first, lcm-second, lcm-least}
use Rattle.lin_rows.proofs.laws.multiples_are_least.Goals as goal

pub returns : goal.returns
returns c = record { positive = lcm-positive; of_first = lcm-first; of_second = lcm-second; least = lcm-least }
