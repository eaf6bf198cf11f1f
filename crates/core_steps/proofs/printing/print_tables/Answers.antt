use Rattle.std.proofs.Common.{◌≡◌, List, map, sym, ap, subst, ◌∙◌}
use Rattle.std.specs.List.{AllByRecursion, Contains}
use Rattle.thr_base.specs.declared.names.Fact.{Fact as StoredFact}
use Rattle.transition_formula.specs.Program.{Program}
use Rattle.fact_table.specs.declared.live_fact.LiveFact.{LiveFact}
use Rattle.horn_rules.specs.Stored.{HasItsHome, facts_of}
use Rattle.horn_rules.specs.Table.{IsTableOf}
use Rattle.core_steps.specs.Allowed.{IsLiveFact}
use Rattle.core_steps.specs.Course.{state_of}
use Rattle.core_steps.proofs.PrintedTables.{facts-at-homes, table-of-live}
use Rattle.core_steps.proofs.printing.print_tables.Goals as goal

pub table-requires-2 : goal.table-requires-2
table-requires-2 c =
    let core = c.args.core.now in
    let told : c.deref.result.now ≡ map (λ (f : LiveFact). f.fact) c.table.result.now.live =
    c.deref.ensures.value ∙ c.in_ok-facts.ensures ∙ ap (map (λ (f : LiveFact). f.fact)) c.facts.ensures.facts in
    subst (λ (program : Program). AllByRecursion (HasItsHome program) c.deref.result.now) (sym c.program.ensures.program)
    (subst (AllByRecursion (HasItsHome core.program)) (sym told) (facts-at-homes core.program (state_of core) c.table.result.now c.table.ensures))

pub returns : goal.returns
returns c =
    let core = c.args.core.now in
    let told : c.deref.result.now ≡ map (λ (f : LiveFact). f.fact) c.table.result.now.live =
    c.deref.ensures.value ∙ c.in_ok-facts.ensures ∙ ap (map (λ (f : LiveFact). f.fact)) c.facts.ensures.facts in
    table-of-live core.program (state_of core) c.table.result.now c.program.result.now c.deref.result.now c.table-2.result c.table.ensures c.program.ensures.program told c.table-2.ensures.text
