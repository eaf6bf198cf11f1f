use Rattle.std.proofs.Common.{◌++◌, map, codes, ap, ◌∙◌}
use Rattle.std.specs.List.{flat_map}
use Rattle.horn_rules.specs.Stored.{facts_of}
use Rattle.horn_rules.specs.Table.{fact_line}
use Rattle.horn_rules.specs.inside.Lines.{fact_of_line}
use Rattle.horn_rules.proofs.Tables.{table-is, table-of-least}
use Rattle.horn_rules.proofs.lines.table.Goals as goal

pub returns-clause-text : goal.returns-clause-text
returns-clause-text c =
    table-is (facts_of c.args.program.now c.args.facts.now) _ (map fact_of_line c.in_ok-lines-2.lines.items) c.extend_from_slice.new.self.items
    c.in_ok-lines.ensures c.in_ok-lines-2.ensures.rising c.in_ok-lines-2.ensures.same
    (c.in_ok-extend_from_slice.ensures.items ∙ ap (λ l. l ++ codes "end\n") (
    c.in_ok-push_lines.ensures
    ∙ ap (λ l. l ++ flat_map fact_line (map fact_of_line c.deref.result.now)) c.new-text.ensures.items
    ∙ ap (λ ls. flat_map fact_line (map fact_of_line ls)) c.deref.ensures.value
    ))

pub returns-clause-least : goal.returns-clause-least
returns-clause-least c = λ rule sets are.
    table-of-least c.args.program.now rule sets (facts_of c.args.program.now c.args.facts.now) c.extend_from_slice.new.self.items are
    (table-is (facts_of c.args.program.now c.args.facts.now) _ (map fact_of_line c.in_ok-lines-2.lines.items) c.extend_from_slice.new.self.items
    c.in_ok-lines.ensures c.in_ok-lines-2.ensures.rising c.in_ok-lines-2.ensures.same
    (c.in_ok-extend_from_slice.ensures.items ∙ ap (λ l. l ++ codes "end\n") (
    c.in_ok-push_lines.ensures
    ∙ ap (λ l. l ++ flat_map fact_line (map fact_of_line c.deref.result.now)) c.new-text.ensures.items
    ∙ ap (λ ls. flat_map fact_line (map fact_of_line ls)) c.deref.ensures.value
    )))
