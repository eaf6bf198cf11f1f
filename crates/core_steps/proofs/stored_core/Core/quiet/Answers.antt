use Rattle.std.proofs.Common.{false, refl}
use Rattle.core_steps.specs.Course.{state_of}
use Rattle.core_steps.proofs.Tests.{true-false}
use Rattle.core_steps.proofs.WhatLooksTell.{no-stop}
use Rattle.core_steps.proofs.QuietFacts.{not-some}
use Rattle.core_steps.proofs.stored_core.Core.quiet.Goals as goal

pub returns-then-is_stopped : goal.returns-then-is_stopped
returns-then-is_stopped c = (λ t. true-false false t refl, λ quiet. absurd (c.is_stopped.ensures.0 c.if-is_stopped.true quiet.no_stop))

pub returns-then-some_held : goal.returns-then-some_held
returns-then-some_held c = (λ t. true-false false t refl, λ quiet. absurd (c.some_held.ensures.0 c.if-some_held.true quiet.none_held))

pub returns : goal.returns
returns c =
    let s = state_of c.args.self.now in
    let none = no-stop s c.is_stopped.result c.if-is_stopped.false c.is_stopped.ensures.1 in
    let empty = not-some s c.some_held.result c.if-some_held.false c.some_held.ensures.1 in (
      λ t. record { none_pending = c.none_pending.ensures.0 t; none_held = empty; no_stop = none },
      λ quiet. c.none_pending.ensures.1 quiet.none_pending,
    )
