use Rattle.std.proofs.Common.{◌≡◌, ◌++◌, map, take, neg_ℤ}
use Rattle.lin_rows.proofs.atom.push_opposites.Given as goal

abbrev pub invariant-numbers : goal.invariant-numbers
invariant-numbers l = l.out.items ≡ l.initial.out.items ++ map neg_ℤ (take l.number-index l.numbers)
