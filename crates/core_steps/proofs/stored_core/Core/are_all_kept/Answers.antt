use Rattle.std.proofs.Common.{false, refl}
use Rattle.std.specs.List.{Contains}
use Rattle.derivation_tree.specs.Kept.{kept_fact_of}
use Rattle.core_steps.specs.Course.{state_of}
use Rattle.core_steps.proofs.Tests.{true-false}
use Rattle.core_steps.proofs.ClaimTests.{StoredKept, all-taken, all-one}
use Rattle.core_steps.proofs.stored_core.Core.are_all_kept.Goals as goal

pub returns-then-not-is_kept : goal.returns-then-not-is_kept
returns-then-not-is_kept c = (
  λ t. true-false false t refl,
  λ all. true-false c.is_kept.result
      (c.is_kept.ensures.1 (all-one (λ (f : StoredKept). Contains (state_of c.args.self.now).live (kept_fact_of c.args.self.now.program f)) c.args.facts.now c.loop-fact.fact-index _ c.loop-fact-test.true all))
      c.if-not-is_kept.true,
)

pub loop-fact-preserved : goal.loop-fact-preserved
loop-fact-preserved c =
    all-taken (λ (f : StoredKept). Contains (state_of c.args.self.now).live (kept_fact_of c.args.self.now.program f)) c.args.facts.now c.loop-fact.fact-index _ c.loop-fact-test.true c.loop-fact.invariant
    (c.is_kept.ensures.0 c.if-not-is_kept.false)
