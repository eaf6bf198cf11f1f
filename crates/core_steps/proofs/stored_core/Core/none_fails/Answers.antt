use Rattle.std.proofs.Common.{sym, subst}
use Rattle.std.specs.Prelude.{IsTrue}
use Rattle.core_steps.specs.Course.{Course, opening_of, state_of}
use Rattle.core_steps.specs.inside.Kept.{seen}
use Rattle.core_steps.specs.inside.Quiet.{NoneFails, NoneIn}
use Rattle.core_steps.proofs.Refines.{keeps-legal}
use Rattle.core_steps.proofs.QuietFacts.{homes-there, none-fails, fails-none}
use Rattle.core_steps.proofs.stored_core.Core.none_fails.Goals as goal

pub none_in-requires : goal.none_in-requires
none_in-requires c =
    let o = opening_of (seen c.self.inside) in
    homes-there o.program o.limits.facts (state_of (seen c.self.inside)) c.self.inside.table c.facts.result.now c.self.invariant.holds.table c.facts.ensures.facts

pub returns : goal.returns
returns c =
    let o = opening_of (seen c.self.inside) in
    let s = state_of (seen c.self.inside) in
    let full = c.self.invariant.holds.table in
    let keeps = keeps-legal o (seen c.self.inside).history c.self.invariant.legal in
    let Told : Course → Type 0 = λ x. (IsTrue c.none_in.result → NoneFails (state_of x)) × (NoneFails (state_of x) → IsTrue c.none_in.result) in
    subst Told c.self.view_is (
      λ t. none-fails o.program o.limits.facts s c.self.inside.table full (subst (NoneIn o.program) c.facts.ensures.facts (c.none_in.ensures.0 t)),
      λ none. c.none_in.ensures.1 (subst (NoneIn o.program) (sym c.facts.ensures.facts) (fails-none o.program o.limits.facts s c.self.inside.table full keeps.falls none)),
    )
