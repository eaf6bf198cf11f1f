use Rattle.std.proofs.Common.{◌≡◌, ◌<◌, length, get_or, sym, ◌∙◌, arith}
use Rattle.std.proofs.lemmas.List.{get_or_read}
use Rattle.c_check.specs.declared.instruction.Instruction.TheVariants as instruction
use Rattle.thread_cfg.proofs.PassSteps.{inside-atomic, inside-end_atomic, inside-other, on_ok-then}
use Rattle.thread_cfg.proofs.pass.Pass.enter_inside.Goals as goal

pub returns-in-Atomic-clause-passed : goal.returns-in-Atomic-clause-passed
returns-in-Atomic-clause-passed c d more deep =
    let code = c.args.code.now in
    let within : c.args.index < length code = omega (arith, c.requires.within, c.requires.end) in
    let is : get_or code c.args.index d ≡ instruction.Atomic c.in-Atomic.from =
    sym (get_or_read code c.args.index c.index-code-index.result within c.index-code-index.is d) ∙ c.in-Atomic.is in
    on_ok-then
    (inside-atomic c.enter_atomic.new.self c.args.self.now code c.args.index d c.in-Atomic.from more c.requires.within within is deep
    (omega (arith, c.enter_atomic.ensures.depth)) c.enter_atomic.ensures.end)
    c.enter_atomic.result (c.enter_atomic.ensures.passed more deep)

pub returns-in-EndAtomic-clause-passed : goal.returns-in-EndAtomic-clause-passed
returns-in-EndAtomic-clause-passed c d more deep =
    let code = c.args.code.now in
    let within : c.args.index < length code = omega (arith, c.requires.within, c.requires.end) in
    let is : get_or code c.args.index d ≡ instruction.EndAtomic =
    sym (get_or_read code c.args.index c.index-code-index.result within c.index-code-index.is d) ∙ c.in-EndAtomic.is in
    inside-end_atomic c.args.self.now code c.args.index d more c.requires.within within is deep

pub returns-in_default-clause-passed : goal.returns-in_default-clause-passed
returns-in_default-clause-passed c d more deep =
    let code = c.args.code.now in
    let within : c.args.index < length code = omega (arith, c.requires.within, c.requires.end) in
    let same = get_or_read code c.args.index c.index-code-index.result within c.index-code-index.is d in
    inside-other c.args.self.now code c.args.index d more c.requires.within within
    (λ from e. c.in_default.not-Atomic from (same ∙ e)) (λ e. c.in_default.not-EndAtomic (same ∙ e)) deep
