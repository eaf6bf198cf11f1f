use Rattle.std.proofs.Common.{not, rules}
use Rattle.std.proofs.lemmas.List.Elements.{filter_from_retain}
use Rattle.fact_table.specs.declared.live_fact.LiveFact.{LiveFact}
use Rattle.fact_table.proofs.table.keep_unmarked.Goals as goal

pub returns-clause-facts : goal.returns-clause-facts
returns-clause-facts c = filter_from_retain _ (λ (f : LiveFact). not f.marked) (λ p x b q r. search rules) _ _ _ c.retain.ensures.filtered
