use Rattle.std.proofs.Common.{rules, ◌≡◌, sym, ◌∙◌}
use Rattle.std.proofs.lemmas.Bool.{false≢true}
use Rattle.horn_rules.proofs.Targets.{no-edge-on, edge-thread, edge-some, edge-on}
use Rattle.horn_rules.proofs.leading.leads_to.Goals as goal

pub returns-then-not-has_edge : goal.returns-then-not-has_edge
returns-then-not-has_edge c =
    no-edge-on c.args.program.now c.args.i.0 c.args.l.0 c.args.e.0 (λ is. false≢true (sym c.if-not-has_edge.true ∙ c.has_edge.ensures.1 is))

pub edge-edge-requires-clause-thread : goal.edge-edge-requires-clause-thread
edge-edge-requires-clause-thread c = edge-thread c.args.program.now c.args.i.0 c.args.e.0 (c.has_edge.ensures.0 c.if-not-has_edge.false)

pub edge-edge-requires-clause-edge : goal.edge-edge-requires-clause-edge
edge-edge-requires-clause-edge c = edge-some c.args.program.now c.args.i.0 c.args.e.0 (c.has_edge.ensures.0 c.if-not-has_edge.false)

pub returns : goal.returns
returns c =
    let from : c.edge-edge.result.now.from.0 ≡ c.args.l.0 = search rules in
    edge-on c.args.program.now c.args.i.0 c.args.l.0 c.args.e.0 _ (c.has_edge.ensures.0 c.if-not-has_edge.false) c.edge-edge.ensures from
