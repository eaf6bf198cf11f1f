use Rattle.std.proofs.Common.{◌≡◌, ◌∙◌, ap, sym, Some, option_map}
use Rattle.transition_formula.specs.Program.{Thread, Edge, at_number}
use Rattle.transition_formula.specs.Rows.{is_kept}
use Rattle.transition_formula.specs.Stored.{edge_of}
use Rattle.transition_formula.proofs.program.Program.keeps.Goals as goal

pub returns : goal.returns
returns c thread at =
    let counts : Some thread.counter ≡ Some c.counter.result = sym (ap (option_map (λ (found : Thread). found.counter)) at) ∙ c.counter.ensures.counter in
    let counter : thread.counter ≡ c.counter.result = cc in
    ap (option_map (λ (edge : Edge). is_kept thread.counter edge c.args.column)) (c.edge.ensures thread at)
    ∙ ap (λ n. Some (is_kept n (edge_of c.edge.result.now) c.args.column)) counter
    ∙ ap Some (sym c.is_kept.ensures)
