use Rattle.std.proofs.Common.{refl, sym, subst}
use Rattle.std.specs.List.{AllByRecursion}
use Rattle.horn_rules.specs.Stored.{HasItsHome}
use Rattle.annotation_form.proofs.WholeLaws.{whole-of-program}
use Rattle.annotation_check.proofs.Checked.{rejected-instance, rejected-facts, none-places, passing, not-passing, not-accepted}
use Rattle.annotation_check.proofs.checking.check.Goals as goal

pub returns-in-Some-clause-answer : goal.returns-in-Some-clause-answer
returns-in-Some-clause-answer c =
    rejected-instance c.args.program.now c.args.annotation.now c.in_ok-instances.instances.items c.in-Some.place c.index.result.now c.instance_rule.result c.in_ok-first.first c.in_ok-first.ensures c.in-Some.is
    c.in_ok-instances.ensures c.index.ensures c.instance_rule.ensures

pub returns-in-Some-clause-accepted : goal.returns-in-Some-clause-accepted
returns-in-Some-clause-accepted c =
    let first = rejected-instance c.args.program.now c.args.annotation.now c.in_ok-instances.instances.items c.in-Some.place c.index.result.now c.instance_rule.result c.in_ok-first.first c.in_ok-first.ensures c.in-Some.is
    c.in_ok-instances.ensures c.index.ensures c.instance_rule.ensures in
    ((λ e. absurd (not-accepted _ _ e)), (λ passes. absurd (not-passing c.args.program.now c.args.annotation.now _ _ first passes)))

pub none_fails-requires : goal.none_fails-requires
none_fails-requires c = subst (AllByRecursion (HasItsHome c.args.program.now)) (sym c.facts.ensures.facts) (whole-of-program c.args.program.now c.args.annotation.now c.requires).facts_are

pub returns-then-none_fails-clause-answer : goal.returns-then-none_fails-clause-answer
returns-then-none_fails-clause-answer c =
    passing c.args.program.now c.args.annotation.now c.facts.result.now c.none_fails.result
    (none-places c.args.program.now c.args.annotation.now c.in_ok-first.first c.in_ok-first.ensures c.in_default.is) c.facts.ensures.facts c.if-none_fails.true c.none_fails.ensures

pub returns-then-none_fails-clause-accepted : goal.returns-then-none_fails-clause-accepted
returns-then-none_fails-clause-accepted c =
    let passes = passing c.args.program.now c.args.annotation.now c.facts.result.now c.none_fails.result
    (none-places c.args.program.now c.args.annotation.now c.in_ok-first.first c.in_ok-first.ensures c.in_default.is) c.facts.ensures.facts c.if-none_fails.true c.none_fails.ensures in
    ((λ e. passes), (λ p. refl))

pub returns-then-none_fails-clause-safe : goal.returns-then-none_fails-clause-safe
returns-then-none_fails-clause-safe c e =
    c.passing_annotations_are_safe.ensures c.args.program.now c.args.annotation.now c.threads.ensures.program (whole-of-program c.args.program.now c.args.annotation.now c.requires)
    (passing c.args.program.now c.args.annotation.now c.facts.result.now c.none_fails.result
    (none-places c.args.program.now c.args.annotation.now c.in_ok-first.first c.in_ok-first.ensures c.in_default.is) c.facts.ensures.facts c.if-none_fails.true c.none_fails.ensures)

pub returns-clause-answer : goal.returns-clause-answer
returns-clause-answer c =
    rejected-facts c.args.program.now c.args.annotation.now c.facts.result.now c.groups-count.result.now c.none_fails.result
    (none-places c.args.program.now c.args.annotation.now c.in_ok-first.first c.in_ok-first.ensures c.in_default.is) c.facts.ensures.facts c.groups-count.ensures.groups c.if-none_fails.false c.none_fails.ensures

pub returns-clause-accepted : goal.returns-clause-accepted
returns-clause-accepted c =
    let first = rejected-facts c.args.program.now c.args.annotation.now c.facts.result.now c.groups-count.result.now c.none_fails.result
    (none-places c.args.program.now c.args.annotation.now c.in_ok-first.first c.in_ok-first.ensures c.in_default.is) c.facts.ensures.facts c.groups-count.ensures.groups c.if-none_fails.false c.none_fails.ensures in
    ((λ e. absurd (not-accepted _ _ e)), (λ passes. absurd (not-passing c.args.program.now c.args.annotation.now _ _ first passes)))
