use Rattle.std.proofs.Common.{◌≡◌, Some, false, refl, sym, ap, subst, ◌∙◌}
use Rattle.std.specs.Prelude.{IsTrue}
use Rattle.horn_rules.specs.Job.{IsPremise}
use Rattle.horn_rules.specs.Stored.{fact_of}
use Rattle.predicate_sets.specs.HomeSet.{IsHomeSet}
use Rattle.derivation_tree.specs.Facts.{fact_at}
use Rattle.core_steps.specs.Course.{Course, opening_of, state_of}
use Rattle.core_steps.specs.Jobs.{PremiseAgrees}
use Rattle.core_steps.specs.inside.Kept.{seen}
use Rattle.core_steps.proofs.Tests.{true-false}
use Rattle.core_steps.proofs.PremiseFacts.{known-there, unknown-live, live_at-found}
use Rattle.core_steps.proofs.Agreements.{known-fact, not-known, told-apart}
use Rattle.core_steps.proofs.stored_core.Core.is_premise.Goals as goal

pub returns-in-None : goal.returns-in-None
returns-in-None c =
    let o = opening_of (seen c.self.inside) in
    let s = state_of (seen c.self.inside) in
    let full = c.self.invariant.holds.table in
    let premise = c.args.premise.now in
    let miss = unknown-live o.program o.limits.facts s c.self.inside.table premise.id.0 full (sym c.kept.ensures ∙ c.in-None.is) in
    let Told : Course → Type 0 = λ x. (IsTrue false → PremiseAgrees (opening_of x) (state_of x) (Some premise)) × (PremiseAgrees (opening_of x) (state_of x) (Some premise) → IsTrue false) in
    subst Told c.self.view_is (λ t. true-false false t refl, λ agrees. absurd (not-known s premise.id.0 (fact_of o.program premise.fact) miss agrees.0))

pub returns-then-same_fact : goal.returns-then-same_fact
returns-then-same_fact c =
    let o = opening_of (seen c.self.inside) in
    let s = state_of (seen c.self.inside) in
    let full = c.self.invariant.holds.table in
    let premise = c.args.premise.now in
    let (f, at, is) = known-there c.self.inside.table.live premise.id.0 c.in-Some.fact c.in-Some.field-0-1 (sym c.kept.ensures ∙ c.in-Some.is) in
    let known = known-fact o.program o.limits.facts s c.self.inside.table premise.id.0 f full at in
    let told : f.fact ≡ premise.fact = is ∙ c.same_fact.ensures.0 c.if-same_fact.true in
    let found : fact_at s.live premise.id.0 ≡ Some (fact_of o.program premise.fact) = known ∙ ap (λ x. Some (fact_of o.program x)) told in
    let Found : Course → Type 0 = λ x. fact_at (state_of x).live premise.id.0 ≡ Some (fact_of x.program premise.fact) in
    (λ t. (subst Found c.self.view_is found, sym c.deref-then-same_fact.ensures ∙ c.is_list_of.ensures.0 t), λ agrees. c.is_list_of.ensures.1 (c.deref-then-same_fact.ensures ∙ agrees.1))

pub returns-else-same_fact : goal.returns-else-same_fact
returns-else-same_fact c =
    let o = opening_of (seen c.self.inside) in
    let s = state_of (seen c.self.inside) in
    let full = c.self.invariant.holds.table in
    let premise = c.args.premise.now in
    let (f, at, is) = known-there c.self.inside.table.live premise.id.0 c.in-Some.fact c.in-Some.field-0-1 (sym c.kept.ensures ∙ c.in-Some.is) in
    let known = known-fact o.program o.limits.facts s c.self.inside.table premise.id.0 f full at in
    let Fits : Course → Type 0 = λ x. IsPremise x.program premise in
    let fits = subst Fits (sym c.self.view_is) c.requires in
    let few : IsHomeSet premise.set.value = subst IsHomeSet c.deref.ensures c.atoms-atoms.ensures.home_set in
    let Told : Course → Type 0 = λ x. (IsTrue c.same_fact.result → PremiseAgrees (opening_of x) (state_of x) (Some premise)) × (PremiseAgrees (opening_of x) (state_of x) (Some premise) → IsTrue c.same_fact.result) in
    subst Told c.self.view_is (
      λ t. true-false c.same_fact.result t c.if-same_fact.false,
      λ agrees.
          let both : Some (fact_of o.program f.fact) ≡ Some (fact_of o.program premise.fact) = sym known ∙ agrees.0 in
          let one : fact_of o.program f.fact ≡ fact_of o.program premise.fact = cc in
          let told = told-apart o.program o.limits.facts s c.self.inside.table f premise full (live_at-found c.self.inside.table.live premise.id.0 f at).0 fits few one in
          c.same_fact.ensures.1 (sym is ∙ told),
    )
