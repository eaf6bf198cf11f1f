use Rattle.std.proofs.Common.{ltb, rules}
use Rattle.std.proofs.lemmas.List.Sorted.{IsPartitionPoint-from_clause, IsPartitionedBy-ltb}
use Rattle.thr_base.specs.declared.names.FactId.{FactId}
use Rattle.fact_table.proofs.Lookups.{ids_rise}
use Rattle.fact_table.proofs.lookup.first_from.Goals as goal

pub returns-clause-first : goal.returns-clause-first
returns-clause-first c =
    IsPartitionPoint-from_clause (λ (each : FactId). ltb each.0 c.args.id.0) c.args.ids.now _ c.partition_point.ensures.partitioned
    (IsPartitionedBy-ltb (λ (each : FactId). each.0) c.args.ids.now c.args.id.0 (ids_rise c.args.ids.now c.requires))
    (λ a r f q. search rules)
