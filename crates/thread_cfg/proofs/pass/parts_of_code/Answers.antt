use Rattle.std.proofs.Common.{◌≡◌, ◌+◌, ◌-◌, get_or, sym, ap, ◌∙◌, arith}
use Rattle.c_check.specs.declared.instruction.Instruction.TheVariants as instruction
use Rattle.thread_cfg.specs.inside.Pass.{pass_start, passed}
use Rattle.thread_cfg.specs.inside.Passing.{locations_held, passed_at}
use Rattle.thread_cfg.proofs.PassSteps.{passed_all-next}
use Rattle.thread_cfg.proofs.pass.parts_of_code.Goals as goal

pub code-preserved : goal.code-preserved
code-preserved c =
    let code = c.args.code.now in
    let k = c.code.index - 1 in
    let exit = c.args.exit.0 in
    let last = instruction.Else in
    let one : k + 1 ≡ c.code.index = omega arith in
    record {
      within = c.in_ok-enter.ensures.end.0;
      end = c.in_ok-enter.ensures.end.1;
      shallow = omega (arith, c.in_ok-enter.ensures.depth, c.code.invariant.shallow);
      far = c.in_ok-enter.ensures.passed last
          ∙ ap (λ n. passed exit (get_or code k last) (passed_at c.code.pass code n)) one
          ∙ ap (passed exit (get_or code k last)) c.code.invariant.far
          ∙ sym (passed_all-next exit code c.code.index k last (pass_start exit (locations_held c.args.loops.items)) (sym one) (omega arith));
    }
