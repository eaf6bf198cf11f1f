use Rattle.std.proofs.Common.{List, ℕ, ap, ◌∙◌}
use Rattle.std.specs.Prelude.{◌==◌}
use Rattle.std.specs.List.{list_any}
use Rattle.transition_formula.specs.declared.graph.Line.{Line}
use Rattle.transition_formula.proofs.Pieces.{is_kept-other}
use Rattle.transition_formula.proofs.edges.is_kept.Goals as goal

pub returns-then-column-counter : goal.returns-then-column-counter
returns-then-column-counter c =
    let found = c.sets_column.ensures ∙ ap (λ (sets : List (ℕ × Line)). list_any (λ set. set.0 == c.args.column) sets) c.as_slice.ensures.value in
    is_kept-other c.args.counter c.args.edge.now c.args.column c.sets_column.result c.if-column-counter.true found
