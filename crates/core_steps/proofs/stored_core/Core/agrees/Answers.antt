use Rattle.std.proofs.Common.{false, refl, sym, ◌∙◌}
use Rattle.core_steps.proofs.Tests.{true-false}
use Rattle.core_steps.proofs.Agreements.{job-home, job-premises}
use Rattle.core_steps.proofs.stored_core.Core.agrees.Goals as goal

pub premise_agrees-requires : goal.premise_agrees-requires
premise_agrees-requires c = (job-premises c.args.self.now.program c.args.job.now c.requires).0

pub premise_agrees-requires-2 : goal.premise_agrees-requires-2
premise_agrees-requires-2 c = (job-premises c.args.self.now.program c.args.job.now c.requires).1

pub is_list_of-requires : goal.is_list_of-requires
is_list_of-requires c = job-home c.args.self.now.program c.args.job.now c.requires

pub returns-then-not-premise_agrees : goal.returns-then-not-premise_agrees
returns-then-not-premise_agrees c = (λ t. true-false false t refl, λ agrees. true-false c.premise_agrees.result (c.premise_agrees.ensures.1 agrees.first) c.if-not-premise_agrees.true)

pub returns-then-not-premise_agrees-2 : goal.returns-then-not-premise_agrees-2
returns-then-not-premise_agrees-2 c = (λ t. true-false false t refl, λ agrees. true-false c.premise_agrees-2.result (c.premise_agrees-2.ensures.1 agrees.second) c.if-not-premise_agrees-2.true)

pub returns : goal.returns
returns c = (
  λ t. record {
    first = c.premise_agrees.ensures.0 c.if-not-premise_agrees.false;
    second = c.premise_agrees-2.ensures.0 c.if-not-premise_agrees-2.false;
    target = sym c.deref.ensures ∙ c.is_list_of.ensures.0 t;
  },
  λ agrees. c.is_list_of.ensures.1 (c.deref.ensures ∙ agrees.target),
)
