use Rattle.std.proofs.Common.{◌≤◌, ◌<◌, [], ◌∷◌, sym, ap, subst, ◌∙◌, arith}
use Rattle.std.specs.Prelude.{unwrap_or}
use Rattle.horn_rules.specs.Home.{State as AtLocation}
use Rattle.horn_rules.specs.Stored.{home_of, home_numbered}
use Rattle.derivation_tree.specs.declared.scope.Scope.{Scope}
use Rattle.derivation_tree.specs.Kept.{KeptTree, IsKept, predicates_of_stored}
use Rattle.core_steps.specs.declared.growing.Growth.{Growth}
use Rattle.core_steps.specs.State.{Refinements, Predicates}
use Rattle.core_steps.specs.Event.{Refine, Stop}
use Rattle.core_steps.specs.Predicates.{AreNew, Overfills}
use Rattle.core_steps.specs.Allowed.{Allows}
use Rattle.core_steps.specs.Course.{Course, opening_of, state_of, with_events}
use Rattle.core_steps.specs.inside.Kept.{seen}
use Rattle.core_steps.specs.inside.Changing.{IsGrowth}
use Rattle.core_steps.proofs.Live.{Falls}
use Rattle.core_steps.proofs.Refines.{keeps-legal}
use Rattle.core_steps.proofs.Counts.{Counts, counts-legal}
use Rattle.core_steps.proofs.RefineAnswers.{lesson-numbers, stands-refutes, spent-allowed, overfills-allowed, new-allowed, refine-spent, refine-overfills, refine-done}
use Rattle.core_steps.proofs.stored_core.Core.refine_held.Goals as goal

pub record_stop-requires : goal.record_stop-requires
record_stop-requires c =
    let old = c.args.self.now in
    let O = opening_of old in
    let S = state_of old in
    let lesson = c.args.refutation.now in
    let Count : Course → Type 0 = λ s. Counts (opening_of s) (state_of s) in
    let counts = subst Count c.self.view_is (counts-legal (opening_of (seen c.self.inside)) (seen c.self.inside).history c.self.invariant.legal) in
    let Fall : Course → Type 0 = λ s. Falls (state_of s).live in
    let falls = subst Fall c.self.view_is (keeps-legal (opening_of (seen c.self.inside)) (seen c.self.inside).history c.self.invariant.legal).falls in
    let kept_is = c.kept-kept.ensures.kept in
    let refutes = stands-refutes O S lesson falls (subst IsKept kept_is c.facts-facts.ensures.kept) c.kept-kept.ensures.lesson c.requires in
    let worker_is = c.worker-w.ensures ∙ ap (λ (k : KeptTree). k.worker) kept_is in
    let limit = ap (λ (s : Course). s.limits.refinements) c.self.view_is in
    let Full : Course → Type 0 = λ s. s.limits.refinements ≤ (state_of s).refined in
    let full = subst Full c.self.view_is (let r = c.self.invariant.holds.refined in let t = c.if-self-limit.true in omega (arith, r, t)) in
    let allowed = spent-allowed O S lesson counts c.requires refutes full in
    subst (λ v. Allows O S (Stop v (Refinements c.self.inside.limits.refinements))) (sym worker_is)
    (subst (λ n. Allows O S (Stop lesson.kept.worker (Refinements n))) (sym limit) allowed)

pub returns-then-self-limit-clause-answer : goal.returns-then-self-limit-clause-answer
returns-then-self-limit-clause-answer c =
    let old = c.args.self.now in
    let O = opening_of old in
    let S = state_of old in
    let lesson = c.args.refutation.now in
    let Count : Course → Type 0 = λ s. Counts (opening_of s) (state_of s) in
    let counts = subst Count c.self.view_is (counts-legal (opening_of (seen c.self.inside)) (seen c.self.inside).history c.self.invariant.legal) in
    let Fall : Course → Type 0 = λ s. Falls (state_of s).live in
    let falls = subst Fall c.self.view_is (keeps-legal (opening_of (seen c.self.inside)) (seen c.self.inside).history c.self.invariant.legal).falls in
    let kept_is = c.kept-kept.ensures.kept in
    let refutes = stands-refutes O S lesson falls (subst IsKept kept_is c.facts-facts.ensures.kept) c.kept-kept.ensures.lesson c.requires in
    let worker_is = c.worker-w.ensures ∙ ap (λ (k : KeptTree). k.worker) kept_is in
    let limit = ap (λ (s : Course). s.limits.refinements) c.self.view_is in
    let Full : Course → Type 0 = λ s. s.limits.refinements ≤ (state_of s).refined in
    let full = subst Full c.self.view_is (let r = c.self.invariant.holds.refined in let t = c.if-self-limit.true in omega (arith, r, t)) in
    let allowed = spent-allowed O S lesson counts c.requires refutes full in
    refine-spent old lesson c.record_stop.new.self c.requires allowed
    (c.record_stop.ensures ∙ ap (λ v. with_events old (Stop v (Refinements c.self.inside.limits.refinements) ∷ [])) worker_is
    ∙ ap (λ n. with_events old (Stop lesson.kept.worker (Refinements n) ∷ [])) limit)

pub growth_by-requires : goal.growth_by-requires
growth_by-requires c =
    lesson-numbers c.args.self.now.program c.args.refutation.now c.predicates-predicates.result.now c.kept-kept.ensures.lesson c.requires.program_is c.predicates-predicates.ensures.predicates

pub record_stop-requires-in-Full : goal.record_stop-requires-in-Full
record_stop-requires-in-Full c =
    let old = c.args.self.now in
    let O = opening_of old in
    let S = state_of old in
    let lesson = c.args.refutation.now in
    let Count : Course → Type 0 = λ s. Counts (opening_of s) (state_of s) in
    let counts = subst Count c.self.view_is (counts-legal (opening_of (seen c.self.inside)) (seen c.self.inside).history c.self.invariant.legal) in
    let Fall : Course → Type 0 = λ s. Falls (state_of s).live in
    let falls = subst Fall c.self.view_is (keeps-legal (opening_of (seen c.self.inside)) (seen c.self.inside).history c.self.invariant.legal).falls in
    let kept_is = c.kept-kept.ensures.kept in
    let refutes = stands-refutes O S lesson falls (subst IsKept kept_is c.facts-facts.ensures.kept) c.kept-kept.ensures.lesson c.requires in
    let worker_is = c.worker-w.ensures ∙ ap (λ (k : KeptTree). k.worker) kept_is in
    let Left : Course → Type 0 = λ s. (state_of s).refined < s.limits.refinements in
    let left = subst Left c.self.view_is (let r = c.self.invariant.holds.refined in let t = c.if-self-limit.false in omega (arith, r, t)) in
    let stored = c.predicates-predicates.result.now in
    let said = ap (λ p. predicates_of_stored p stored) (sym c.requires.program_is) ∙ c.predicates-predicates.ensures.predicates in
    let grows = subst (λ (g : Growth). IsGrowth old.program S (predicates_of_stored old.program stored) g) c.in-Full.is c.in_ok-growth.ensures in
    let named_is = ap (λ o. unwrap_or o (AtLocation 0 0)) c.named.ensures in
    let overfilled = subst (λ h. Overfills S.sets lesson.predicates h) (ap (λ (s : Course). home_numbered s.program c.in-Full.home.0) (sym c.self.view_is) ∙ named_is) (subst (λ l. Overfills S.sets l (home_numbered old.program c.in-Full.home.0)) said grows.1) in
    let allowed = overfills-allowed O S lesson (home_of c.named.result) counts c.requires refutes left overfilled in
    subst (λ v. Allows O S (Stop v (Predicates (home_of c.named.result)))) (sym worker_is) allowed

pub returns-in-Full-clause-answer : goal.returns-in-Full-clause-answer
returns-in-Full-clause-answer c =
    let old = c.args.self.now in
    let O = opening_of old in
    let S = state_of old in
    let lesson = c.args.refutation.now in
    let Count : Course → Type 0 = λ s. Counts (opening_of s) (state_of s) in
    let counts = subst Count c.self.view_is (counts-legal (opening_of (seen c.self.inside)) (seen c.self.inside).history c.self.invariant.legal) in
    let Fall : Course → Type 0 = λ s. Falls (state_of s).live in
    let falls = subst Fall c.self.view_is (keeps-legal (opening_of (seen c.self.inside)) (seen c.self.inside).history c.self.invariant.legal).falls in
    let kept_is = c.kept-kept.ensures.kept in
    let refutes = stands-refutes O S lesson falls (subst IsKept kept_is c.facts-facts.ensures.kept) c.kept-kept.ensures.lesson c.requires in
    let worker_is = c.worker-w.ensures ∙ ap (λ (k : KeptTree). k.worker) kept_is in
    let Left : Course → Type 0 = λ s. (state_of s).refined < s.limits.refinements in
    let left = subst Left c.self.view_is (let r = c.self.invariant.holds.refined in let t = c.if-self-limit.false in omega (arith, r, t)) in
    let stored = c.predicates-predicates.result.now in
    let said = ap (λ p. predicates_of_stored p stored) (sym c.requires.program_is) ∙ c.predicates-predicates.ensures.predicates in
    let grows = subst (λ (g : Growth). IsGrowth old.program S (predicates_of_stored old.program stored) g) c.in-Full.is c.in_ok-growth.ensures in
    let named_is = ap (λ o. unwrap_or o (AtLocation 0 0)) c.named.ensures in
    let overfilled = subst (λ h. Overfills S.sets lesson.predicates h) (ap (λ (s : Course). home_numbered s.program c.in-Full.home.0) (sym c.self.view_is) ∙ named_is) (subst (λ l. Overfills S.sets l (home_numbered old.program c.in-Full.home.0)) said grows.1) in
    let allowed = overfills-allowed O S lesson (home_of c.named.result) counts c.requires refutes left overfilled in
    refine-overfills old lesson (home_of c.named.result) c.record_stop-in-Full.new.self c.requires allowed
    (c.record_stop-in-Full.ensures ∙ ap (λ v. with_events old (Stop v (Predicates (home_of c.named.result)) ∷ [])) worker_is)

pub add_new-requires-clause-allowed : goal.add_new-requires-clause-allowed
add_new-requires-clause-allowed c =
    let old = c.args.self.now in
    let O = opening_of old in
    let S = state_of old in
    let lesson = c.args.refutation.now in
    let Count : Course → Type 0 = λ s. Counts (opening_of s) (state_of s) in
    let counts = subst Count c.self.view_is (counts-legal (opening_of (seen c.self.inside)) (seen c.self.inside).history c.self.invariant.legal) in
    let Fall : Course → Type 0 = λ s. Falls (state_of s).live in
    let falls = subst Fall c.self.view_is (keeps-legal (opening_of (seen c.self.inside)) (seen c.self.inside).history c.self.invariant.legal).falls in
    let kept_is = c.kept-kept.ensures.kept in
    let refutes = stands-refutes O S lesson falls (subst IsKept kept_is c.facts-facts.ensures.kept) c.kept-kept.ensures.lesson c.requires in
    let worker_is = c.worker-w.ensures ∙ ap (λ (k : KeptTree). k.worker) kept_is in
    let Left : Course → Type 0 = λ s. (state_of s).refined < s.limits.refinements in
    let left = subst Left c.self.view_is (let r = c.self.invariant.holds.refined in let t = c.if-self-limit.false in omega (arith, r, t)) in
    let stored = c.predicates-predicates.result.now in
    let said = ap (λ p. predicates_of_stored p stored) (sym c.requires.program_is) ∙ c.predicates-predicates.ensures.predicates in
    let new = predicates_of_stored old.program c.in-New.new.items in
    let grows = subst (λ (g : Growth). IsGrowth old.program S (predicates_of_stored old.program stored) g) c.in-New.is c.in_ok-growth.ensures in
    let are_new = subst (λ l. AreNew S.sets l new) said grows.0 in
    let allowed = new-allowed O S lesson new counts c.requires refutes left are_new in
    subst (λ v. Allows O S (Refine v c.scope.result new)) (sym worker_is) (subst (λ (x : Scope). Allows O S (Refine lesson.kept.worker x new)) (sym c.scope.ensures) allowed)

pub returns-in_ok-gone-in-New-clause-answer : goal.returns-in_ok-gone-in-New-clause-answer
returns-in_ok-gone-in-New-clause-answer c =
    let old = c.args.self.now in
    let O = opening_of old in
    let S = state_of old in
    let lesson = c.args.refutation.now in
    let Count : Course → Type 0 = λ s. Counts (opening_of s) (state_of s) in
    let counts = subst Count c.self.view_is (counts-legal (opening_of (seen c.self.inside)) (seen c.self.inside).history c.self.invariant.legal) in
    let Fall : Course → Type 0 = λ s. Falls (state_of s).live in
    let falls = subst Fall c.self.view_is (keeps-legal (opening_of (seen c.self.inside)) (seen c.self.inside).history c.self.invariant.legal).falls in
    let kept_is = c.kept-kept.ensures.kept in
    let refutes = stands-refutes O S lesson falls (subst IsKept kept_is c.facts-facts.ensures.kept) c.kept-kept.ensures.lesson c.requires in
    let worker_is = c.worker-w.ensures ∙ ap (λ (k : KeptTree). k.worker) kept_is in
    let Left : Course → Type 0 = λ s. (state_of s).refined < s.limits.refinements in
    let left = subst Left c.self.view_is (let r = c.self.invariant.holds.refined in let t = c.if-self-limit.false in omega (arith, r, t)) in
    let stored = c.predicates-predicates.result.now in
    let said = ap (λ p. predicates_of_stored p stored) (sym c.requires.program_is) ∙ c.predicates-predicates.ensures.predicates in
    let new = predicates_of_stored old.program c.in-New.new.items in
    let grows = subst (λ (g : Growth). IsGrowth old.program S (predicates_of_stored old.program stored) g) c.in-New.is c.in_ok-growth.ensures in
    let are_new = subst (λ l. AreNew S.sets l new) said grows.0 in
    let allowed = new-allowed O S lesson new counts c.requires refutes left are_new in
    refine-done old lesson new c.in_ok-gone-in-New.gone c.add_new.new.self c.requires allowed are_new c.in_ok-gone-in-New.ensures.gone
    (c.in_ok-gone-in-New.ensures.course ∙ ap (λ v. with_events old (Refine v c.scope.result new ∷ [])) worker_is
    ∙ ap (λ (x : Scope). with_events old (Refine lesson.kept.worker x new ∷ [])) c.scope.ensures)
