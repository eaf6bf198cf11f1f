use Rattle.std.proofs.Common.{[], ◌∷◌, sym, ap, ◌∙◌}
use Rattle.std.proofs.lemmas.Result.{on_ok_weaker}
use Rattle.c_check.specs.declared.instruction.Instruction.TheVariants as instruction
use Rattle.c_check.specs.Plan.{Stmt}
use Rattle.c_check.specs.Scope.{lock_of}
use Rattle.c_check.specs.inside.Found.{together, written}
use Rattle.c_check.proofs.Found.{together-none, wrote}
use Rattle.c_check.proofs.body.Body.call.Goals as goal

pub returns-in-Exit : goal.returns-in-Exit
returns-in-Exit c = rw c.in-Exit.is (on_ok_weaker c.push.result (wrote c.args.self.now (Stmt.Exit c.in-Exit.from)) c.push.ensures)

pub returns-in-Lock : goal.returns-in-Lock
returns-in-Lock c =
    rw c.in-Lock.is (on_ok_weaker c.push-in-Lock.result (λ r. wrote c.args.self.now (Stmt.Lock c.in-Lock.from (lock_of c.args.scopes.now c.in-Lock.x))
    (r ∙ ap (λ n. together c.args.self.now (written 0 (instruction.Lock c.in-Lock.from n ∷ []))) c.lock.ensures)) c.push-in-Lock.ensures)

pub returns-in-Unlock : goal.returns-in-Unlock
returns-in-Unlock c =
    rw c.in-Unlock.is (on_ok_weaker c.push-in-Unlock.result (λ r. wrote c.args.self.now (Stmt.Unlock c.in-Unlock.from (lock_of c.args.scopes.now c.in-Unlock.x))
    (r ∙ ap (λ n. together c.args.self.now (written 0 (instruction.Unlock c.in-Unlock.from n ∷ []))) c.lock-in-Unlock.ensures)) c.push-in-Unlock.ensures)

pub returns-in-Destroy : goal.returns-in-Destroy
returns-in-Destroy c = rw c.in-Destroy.is (sym (together-none c.args.self.now))

pub returns-in-Init : goal.returns-in-Init
returns-in-Init c = rw c.in-Init.is (sym (together-none c.args.self.now))

pub returns-in-Create : goal.returns-in-Create
returns-in-Create c = rw c.in-Create.is (sym (together-none c.args.self.now))

pub returns-in-Join : goal.returns-in-Join
returns-in-Join c = rw c.in-Join.is (sym (together-none c.args.self.now))
