use Rattle.std.proofs.Common.{◌≡◌, length, subst, sym, ap, ◌∙◌, IsTrue, arith}
use Rattle.horn_rules.specs.Stored.{instance_of}
use Rattle.annotation_form.specs.Annotation.{Group, Gives, group_of, statements_of}
use Rattle.annotation_form.specs.Passes.{ProvesCheck}
use Rattle.annotation_form.specs.Whole.{IsGroupOver}
use Rattle.annotation_check.proofs.Lists.{iff-made, number-within}
use Rattle.annotation_check.proofs.Cases.{listed-has-case}
use Rattle.annotation_check.proofs.Groups.{named-fact, fact-read, named-home, fact-allowed, atoms-within, gives-proves, proves-gives, refuted-proves, proves-refuted}
use Rattle.annotation_check.proofs.proving.proves.Goals as goal

pub returns-in-Refuted : goal.returns-in-Refuted
returns-in-Refuted c =
    let (given, comes) = listed-has-case c.args.program.now c.args.annotation.now (instance_of c.args.instance) c.requires.whole c.requires.instance in
    let is = c.in_ok-stored.ensures given comes in
    subst (λ g. (IsTrue c.refutes.result → ProvesCheck c.args.program.now c.args.annotation.now (instance_of c.args.instance) (group_of g)) × (ProvesCheck c.args.program.now c.args.annotation.now (instance_of c.args.instance) (group_of g) → IsTrue c.refutes.result))
    (sym c.in-Refuted.is) (
      (λ t. refuted-proves c.args.program.now c.args.annotation.now (instance_of c.args.instance) given c.in_ok-stored.stored c.in-Refuted.c comes is (c.refutes.ensures.0 t)),
      (λ check. c.refutes.ensures.1 (proves-refuted c.args.program.now c.args.annotation.now (instance_of c.args.instance) given c.in_ok-stored.stored c.in-Refuted.c comes is check)),
    )

pub bounds-facts-n : goal.bounds-facts-n
bounds-facts-n c =
    let over = subst (λ g. IsGroupOver (statements_of c.args.program.now c.args.annotation.now) (group_of g)) c.in-Fact.is c.requires.ready.is_over in
    let named = named-fact c.args.program.now c.args.annotation.now c.in-Fact.n c.in-Fact.certificates.items c.requires.whole over in
    let number = number-within c.args.annotation.now.facts c.in-Fact.n named.there in
    omega (arith, number.0, number.1, ap length c.facts.ensures.facts)

pub gives-requires-clause-home : goal.gives-requires-clause-home
gives-requires-clause-home c =
    let over = subst (λ g. IsGroupOver (statements_of c.args.program.now c.args.annotation.now) (group_of g)) c.in-Fact.is c.requires.ready.is_over in
    let named = named-fact c.args.program.now c.args.annotation.now c.in-Fact.n c.in-Fact.certificates.items c.requires.whole over in
    named-home c.args.program.now c.args.annotation.now c.in-Fact.n _ c.requires.whole (fact-read c.args.annotation.now.facts c.facts.result.now c.in-Fact.n _ c.facts.ensures.facts named.there)

pub gives-requires-clause-held : goal.gives-requires-clause-held
gives-requires-clause-held c =
    let over = subst (λ g. IsGroupOver (statements_of c.args.program.now c.args.annotation.now) (group_of g)) c.in-Fact.is c.requires.ready.is_over in
    let named = named-fact c.args.program.now c.args.annotation.now c.in-Fact.n c.in-Fact.certificates.items c.requires.whole over in
    (fact-allowed c.args.program.now c.args.annotation.now c.in-Fact.n _ c.requires.whole (fact-read c.args.annotation.now.facts c.facts.result.now c.in-Fact.n (record { home = record { 0 = 0 }; held = 0 }) c.facts.ensures.facts named.there)).held_within

pub gives-requires-clause-one_each : goal.gives-requires-clause-one_each
gives-requires-clause-one_each c =
    let over = subst (λ g. IsGroupOver (statements_of c.args.program.now c.args.annotation.now) (group_of g)) c.in-Fact.is c.requires.ready.is_over in
    let named = named-fact c.args.program.now c.args.annotation.now c.in-Fact.n c.in-Fact.certificates.items c.requires.whole over in
    ap length c.as_slice.ensures.value ∙ named.one_each _ (fact-read c.args.annotation.now.facts c.facts.result.now c.in-Fact.n _ c.facts.ensures.facts named.there)

pub gives-requires-clause-within : goal.gives-requires-clause-within
gives-requires-clause-within c same =
    let (given, comes) = listed-has-case c.args.program.now c.args.annotation.now (instance_of c.args.instance) c.requires.whole c.requires.instance in
    atoms-within c.args.program.now c.args.annotation.now given c.in_ok-stored.stored _ c.requires.whole (c.in_ok-stored.ensures given comes) same

pub returns : goal.returns
returns c =
    let over = subst (λ g. IsGroupOver (statements_of c.args.program.now c.args.annotation.now) (group_of g)) c.in-Fact.is c.requires.ready.is_over in
    let named = named-fact c.args.program.now c.args.annotation.now c.in-Fact.n c.in-Fact.certificates.items c.requires.whole over in
    let (given, comes) = listed-has-case c.args.program.now c.args.annotation.now (instance_of c.args.instance) c.requires.whole c.requires.instance in
    let is = c.in_ok-stored.ensures given comes in
    let at = fact-read c.args.annotation.now.facts c.facts.result.now c.in-Fact.n (record { home = record { 0 = 0 }; held = 0 }) c.facts.ensures.facts named.there in
    let e : Gives c.in-Fact.n c.as_slice.result.now ≡ group_of c.args.group.now = ap (Gives c.in-Fact.n) c.as_slice.ensures.value ∙ sym (ap group_of c.in-Fact.is) in
    iff-made _ _ c.gives.result
    (λ gives. subst (λ (g : Group). ProvesCheck c.args.program.now c.args.annotation.now (instance_of c.args.instance) g) e (gives-proves c.args.program.now c.args.annotation.now (instance_of c.args.instance) given c.in_ok-stored.stored c.in-Fact.n c.as_slice.result.now _ c.requires.whole comes is at gives))
    (λ check. proves-gives c.args.program.now c.args.annotation.now (instance_of c.args.instance) given c.in_ok-stored.stored c.in-Fact.n c.as_slice.result.now _ c.requires.whole comes is at (subst (λ (g : Group). ProvesCheck c.args.program.now c.args.annotation.now (instance_of c.args.instance) g) (sym e) check))
    c.gives.ensures
