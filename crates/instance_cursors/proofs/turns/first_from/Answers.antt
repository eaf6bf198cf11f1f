use Rattle.std.proofs.Common.{ltb, rules}
use Rattle.std.proofs.lemmas.List.Sorted.{IsPartitionPoint-from_clause, IsPartitionedBy-ltb}
use Rattle.fact_table.specs.declared.live_fact.LiveFact.{LiveFact}
use Rattle.instance_cursors.proofs.HeadSearch.{ids_rise}
use Rattle.instance_cursors.proofs.turns.first_from.Goals as goal

pub returns-clause-first : goal.returns-clause-first
returns-clause-first c =
    IsPartitionPoint-from_clause (λ (f : LiveFact). ltb f.id.0 c.args.id.0) c.args.facts.now _ c.partition_point.ensures.partitioned
    (IsPartitionedBy-ltb (λ (f : LiveFact). f.id.0) c.args.facts.now c.args.id.0 (ids_rise c.args.facts.now c.requires))
    (λ a r f q. search rules)
