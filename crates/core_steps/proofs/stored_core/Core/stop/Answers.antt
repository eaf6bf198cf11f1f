use Rattle.core_steps.specs.Course.{state_of}
use Rattle.core_steps.proofs.WhatLooksTell.{no-stop}
use Rattle.core_steps.proofs.StopAnswers.{stop-dropped, stop-foreign, stop-stale, stop-records}
use Rattle.core_steps.proofs.stored_core.Core.stop.Goals as goal

pub returns-then-is_stopped : goal.returns-then-is_stopped
returns-then-is_stopped c = stop-dropped c.args.self.now c.args.w c.args.reason c.drop_any.new.self (c.is_stopped.ensures.0 c.if-is_stopped.true) c.drop_any.ensures

pub returns-in-Foreign : goal.returns-in-Foreign
returns-in-Foreign c =
    stop-foreign c.args.self.now c.args.w c.args.reason (no-stop (state_of c.args.self.now) c.is_stopped.result c.if-is_stopped.false c.is_stopped.ensures.1) c.in-Foreign.ensures.so

pub returns-in-Stale : goal.returns-in-Stale
returns-in-Stale c =
    stop-stale c.args.self.now c.args.w c.args.reason c.drop_held.new.self (no-stop (state_of c.args.self.now) c.is_stopped.result c.if-is_stopped.false c.is_stopped.ensures.1) c.in-Stale.ensures.so
    c.drop_held.ensures

pub returns-in-Holds : goal.returns-in-Holds
returns-in-Holds c =
    stop-records c.args.self.now c.args.w c.args.reason c.record_stop.new.self (no-stop (state_of c.args.self.now) c.is_stopped.result c.if-is_stopped.false c.is_stopped.ensures.1) c.in-Holds.ensures.so
    c.in-Holds.ensures.is_reason c.record_stop.ensures
