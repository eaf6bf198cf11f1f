use Rattle.std.proofs.Common.{take}
use Rattle.fact_table.specs.inside.Index.{IsAsLarge, IsIndexOf}
use Rattle.fact_table.proofs.index.fill.Given as goal

abbrev pub invariant-loop-fact : goal.invariant-loop-fact
invariant-loop-fact l = record { index : IsIndexOf (take l.fact-index l.facts) l.index; large : IsAsLarge l.index l.fn.index }
