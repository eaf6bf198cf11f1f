use Rattle.std.proofs.Common.{option_map, sym, ap, ap₂, ◌∙◌}
use Rattle.std.proofs.lemmas.Result.{on_ok_weaker}
use Rattle.c_tree.specs.Seen.{plain_assign, plain_cond}
use Rattle.c_check.specs.declared.instruction.Instruction.TheVariants as instruction
use Rattle.c_check.specs.declared.uses.Use.TheVariants as use_as
use Rattle.c_check.specs.Broken as broken
use Rattle.c_check.specs.Resolve as resolve
use Rattle.c_check.specs.First.{earlier}
use Rattle.c_check.specs.inside.Found.{refused, tested, together}
use Rattle.c_check.proofs.FirstOf.{first_of-append}
use Rattle.c_check.proofs.body.Body.begin_for.Goals as goal

pub returns : goal.returns
returns c =
    let k = resolve.condition_if c.args.scopes.now c.args.from (option_map plain_cond c.args.c.now) in
    let both = c.earlier.ensures ∙ ap₂ earlier c.cond_if.ensures c.assign_if.ensures ∙ sym (first_of-append (broken.value_if_broken c.args.scopes.now use_as.Condition (option_map plain_cond c.args.c.now)) (broken.assign_if_broken c.args.scopes.now (option_map plain_assign c.args.last.now))) in
    let noted = c.note.ensures ∙ ap (λ d. together c.args.self.now (refused d)) both in
    on_ok_weaker c.push_loop.result (λ e. e ∙ ap (λ b. together b (tested (instruction.Loop c.args.from) k)) noted) (c.push_loop.ensures k c.in_ok-condition.ensures)
