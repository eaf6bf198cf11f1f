use Rattle.std.proofs.lemmas.Result.{err_from_is_err_and}
use Rattle.cex_tree.proofs.PushAnswers.{whole-nodes, whole-answer, stop-answer}
use Rattle.cex_tree.proofs.growing.grow.Goals as goal

pub returns-in_err-push_tree : goal.returns-in_err-push_tree
returns-in_err-push_tree c =
    let p = err_from_is_err_and c.from_residual.result c.from_residual.ensures.1 in
    rw (p.1, p.2) (stop-answer c.args.program.now c.args.kept.now c.facts.result.now c.root.result.0 c.args.limit c.new-nodes.result.items c.push_tree.new.nodes.items c.in_err-push_tree.field-0.0
    c.requires c.facts.ensures.facts c.root.ensures c.facts.ensures.kept c.new-nodes.ensures.items c.in_err-push_tree.ensures)

pub invariant_of-result : goal.invariant_of-result
invariant_of-result c =
    whole-nodes c.args.program.now c.args.kept.now c.facts.result.now c.root.result.0 c.args.limit c.new-nodes.result.items c.push_tree.new.nodes.items c.in_ok-push_tree.field-0
    c.requires c.facts.ensures.facts c.root.ensures c.facts.ensures.kept c.ranges.limit.fits c.new-nodes.ensures.items c.in_ok-push_tree.ensures

pub returns : goal.returns
returns c =
    whole-answer c.args.program.now c.args.kept.now c.facts.result.now c.root.result.0 c.args.limit c.new-nodes.result.items c.push_tree.new.nodes.items c.in_ok-push_tree.field-0
    c.requires c.facts.ensures.facts c.root.ensures c.facts.ensures.kept c.new-nodes.ensures.items c.in_ok-push_tree.ensures
