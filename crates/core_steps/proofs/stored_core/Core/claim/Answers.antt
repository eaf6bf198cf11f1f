use Rattle.core_steps.specs.Course.{opening_of, state_of}
use Rattle.core_steps.proofs.WhatLooksTell.{no-stop, not-free}
use Rattle.core_steps.proofs.ClaimAnswers.{claim-allowed, claim-stopped, claim-holds, claim-nothing, claim-made}
use Rattle.core_steps.proofs.stored_core.Core.claim.Goals as goal

pub returns-then-is_stopped-clause-answer : goal.returns-then-is_stopped-clause-answer
returns-then-is_stopped-clause-answer c = claim-stopped c.args.self.now c.args.w (c.is_stopped.ensures.0 c.if-is_stopped.true)

pub returns-then-not-is_free-clause-answer : goal.returns-then-not-is_free-clause-answer
returns-then-not-is_free-clause-answer c =
    claim-holds c.args.self.now c.args.w (no-stop (state_of c.args.self.now) c.is_stopped.result c.if-is_stopped.false c.is_stopped.ensures.1)
    (not-free (state_of c.args.self.now) c.args.w c.is_free.result c.if-not-is_free.true c.is_free.ensures.1)

pub returns-in-None-clause-answer : goal.returns-in-None-clause-answer
returns-in-None-clause-answer c =
    claim-nothing c.args.self.now c.args.w (no-stop (state_of c.args.self.now) c.is_stopped.result c.if-is_stopped.false c.is_stopped.ensures.1)
    (c.is_free.ensures.0 c.if-not-is_free.false) c.in-None.ensures

pub add_claim-requires : goal.add_claim-requires
add_claim-requires c =
    let old = c.args.self.now in
    claim-allowed (opening_of old) (state_of old) c.args.w c.in-Some.root.0 c.requires (no-stop (state_of old) c.is_stopped.result c.if-is_stopped.false c.is_stopped.ensures.1)
    (c.is_free.ensures.0 c.if-not-is_free.false) c.in-Some.ensures

pub returns-in_ok-kept-in-Some-clause-answer : goal.returns-in_ok-kept-in-Some-clause-answer
returns-in_ok-kept-in-Some-clause-answer c =
    let old = c.args.self.now in
    claim-made old c.args.w c.in-Some.root c.in_ok-kept-in-Some.kept c.add_claim.new.self (no-stop (state_of old) c.is_stopped.result c.if-is_stopped.false c.is_stopped.ensures.1)
    (c.is_free.ensures.0 c.if-not-is_free.false) c.in-Some.ensures c.in_ok-kept-in-Some.ensures c.add_claim.ensures
