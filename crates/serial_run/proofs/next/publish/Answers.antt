use Rattle.std.proofs.Common.{◌≡◌, true, false, subst}
use Rattle.core_steps.specs.declared.answers.Published.{Published}
use Rattle.core_steps.specs.declared.answers.Published.TheVariants as told
use Rattle.core_steps.specs.Publishes.{Publishes}
use Rattle.core_steps.proofs.Tests.{true-false}
use Rattle.serial_run.proofs.Steps.{published-on, published-stop}
use Rattle.serial_run.proofs.next.publish.Goals as goal

pub returns-then-is_stop : goal.returns-then-is_stop
returns-then-is_stop c =
    let old = c.args.core.now in
    let new = c.publish-published.new.self in
    published-stop old new c.args.posted c.requires (subst (λ (p : Published). Publishes old c.args.posted p new) (c.is_stop.ensures.0 c.if-is_stop.true) c.publish-published.ensures)

pub returns : goal.returns
returns c =
    published-on c.args.core.now c.publish-published.new.self c.args.posted c.publish-published.result c.requires c.publish-published.ensures
    (λ e. true-false c.is_stop.result (c.is_stop.ensures.1 e) c.if-is_stop.false)
