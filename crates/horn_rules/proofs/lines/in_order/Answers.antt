use Rattle.std.proofs.lemmas.List.Filters.{dedup_is}
use Rattle.horn_rules.proofs.Order.{lines-rise, lines-same}
use Rattle.horn_rules.specs.contracts.lines.LinePartialEq as equal
use Rattle.horn_rules.proofs.lines.in_order.Goals as goal

pub returns-clause-rising : goal.returns-clause-rising
returns-clause-rising c =
    lines-rise c.sort.new.self.items c.dedup.new.self.items c.in_ok-sort.ensures.sorted (dedup_is (equal.TheImpl.ghosts).eq c.sort.new.self.items c.dedup.new.self.items c.dedup.ensures.filtered)

pub returns-clause-same : goal.returns-clause-same
returns-clause-same c = λ fact.
    lines-same c.args.lines.items c.sort.new.self.items c.dedup.new.self.items fact c.in_ok-sort.ensures.permutation (dedup_is (equal.TheImpl.ghosts).eq c.sort.new.self.items c.dedup.new.self.items c.dedup.ensures.filtered)
