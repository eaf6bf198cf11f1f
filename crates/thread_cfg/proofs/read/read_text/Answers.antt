-- Each pass answers for the bytes.
use Rattle.std.proofs.lemmas.Result.{err_from_is_err_and}
use Rattle.thread_cfg.specs.Read.{IsPlanOfText}
use Rattle.thread_cfg.proofs.StopLemmas.{reads-built, stops-plan, stops-tokens, stops-tree}
use Rattle.thread_cfg.proofs.read.read_text.Goals as goal

pub returns-in_err-tokens : goal.returns-in_err-tokens
returns-in_err-tokens c =
    let p = err_from_is_err_and c.from_residual.result c.from_residual.ensures.1 in
    rw (p.1, p.2) (stops-tokens _ c.in_err-tokens.field-0.0 c.args.text.now c.requires.utf8 c.in_err-tokens.ensures.exact)

pub returns-in_err-tree : goal.returns-in_err-tree
returns-in_err-tree c =
    let p = err_from_is_err_and c.from_residual-in_err-tree.result c.from_residual-in_err-tree.ensures.1 in
    rw (p.1, p.2) (stops-tree c.in_err-tree.field-0.0 c.args.text.now c.requires.utf8 c.in_err-tree.ensures.refused)

pub returns-in_err-plan : goal.returns-in_err-plan
returns-in_err-plan c =
    let p = err_from_is_err_and c.from_residual-in_err-plan.result c.from_residual-in_err-plan.ensures.1 in
    rw (p.1, p.2) (stops-plan c.in_err-plan.field-0.0 c.args.text.now c.in_ok-tree.tree c.requires.utf8 c.in_ok-tree.ensures.tree c.in_err-plan.ensures)

pub returns : goal.returns
returns c =
    let is : IsPlanOfText c.args.text.now c.in_ok-tree.tree c.in_ok-plan.plan =
    record { is_tree = c.in_ok-tree.ensures.tree; accepted = c.in_ok-plan.ensures.0; plan_is = c.in_ok-plan.ensures.1 } in
    reads-built c.build.result c.args.text.now c.in_ok-tree.tree c.in_ok-plan.plan c.requires.utf8 is (c.build.ensures c.args.text.now c.in_ok-tree.tree is)
