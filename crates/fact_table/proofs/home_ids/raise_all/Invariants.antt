use Rattle.std.proofs.Common.{◌≡◌, ◌+◌, ◌++◌, take, drop, map}
use Rattle.fact_table.proofs.home_ids.raise_all.Given as goal

abbrev pub invariant-loop-end : goal.invariant-loop-end
invariant-loop-end l = l.ends ≡ map (λ end. end + 1) (take l.end-index l.fn.ends) ++ drop l.end-index l.fn.ends
