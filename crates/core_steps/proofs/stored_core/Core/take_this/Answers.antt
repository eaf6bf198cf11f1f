use Rattle.std.proofs.Common.{◌≡◌, Some, true, false, ap, ◌∙◌}
use Rattle.horn_rules.specs.Stored.{instance_of}
use Rattle.core_steps.specs.declared.answers.Taken.{Taken}
use Rattle.core_steps.specs.Course.{state_of}
use Rattle.core_steps.specs.Jobs.{Takes}
use Rattle.core_steps.specs.inside.Taking.{HandsOut}
use Rattle.core_steps.proofs.WhatLooksTell.{no-stop, not-free}
use Rattle.core_steps.proofs.TakeAnswers.{map-ok, take-stopped, take-holds, take-nothing, take-handed}
use Rattle.core_steps.proofs.stored_core.Core.take_this.Goals as goal

pub returns-then-is_stopped-clause-answer : goal.returns-then-is_stopped-clause-answer
returns-then-is_stopped-clause-answer c = take-stopped c.args.self.now c.args.w (Some c.args.instance) (c.is_stopped.ensures.0 c.if-is_stopped.true)

pub returns-then-not-is_free-clause-answer : goal.returns-then-not-is_free-clause-answer
returns-then-not-is_free-clause-answer c =
    let fails : c.is_free.result ≡ false = c.if-not-is_free.true in
    take-holds c.args.self.now c.args.w (Some c.args.instance) (no-stop (state_of c.args.self.now) c.is_stopped.result c.if-is_stopped.false c.is_stopped.ensures.1)
    (not-free (state_of c.args.self.now) c.args.w c.is_free.result fails c.is_free.ensures.1)

pub returns-in-None-clause-answer : goal.returns-in-None-clause-answer
returns-in-None-clause-answer c =
    let passes : c.is_free.result ≡ true = c.if-not-is_free.false in
    take-nothing c.args.self.now c.args.w (Some c.args.instance) (no-stop (state_of c.args.self.now) c.is_stopped.result c.if-is_stopped.false c.is_stopped.ensures.1)
    (c.is_free.ensures.0 passes) (λ task asked pending. c.in-None.ensures (task, asked, pending))

pub returns-in-Some-clause-answer : goal.returns-in-Some-clause-answer
returns-in-Some-clause-answer c =
    let passes : c.is_free.result ≡ true = c.if-not-is_free.false in
    let old = c.args.self.now in
    let some = c.in-Some.ensures.1 in
    map-ok c.hand_out.result (λ (told : Taken). HandsOut old c.args.w c.in-Some.next told c.hand_out.new.self) (λ (told : Taken). Takes old c.args.w (Some c.args.instance) told c.hand_out.new.self)
    (λ told hands. take-handed old c.args.w (Some c.args.instance) c.in-Some.next told c.hand_out.new.self (no-stop (state_of old) c.is_stopped.result c.if-is_stopped.false c.is_stopped.ensures.1) (c.is_free.ensures.0 passes) some
    (λ task of. (of.instance_is ∙ ap instance_of c.in-Some.ensures.0, tt)) hands)
    c.hand_out.ensures.answer
