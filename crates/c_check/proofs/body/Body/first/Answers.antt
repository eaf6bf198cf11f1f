use Rattle.std.proofs.Common.{sym}
use Rattle.std.proofs.lemmas.Result.{on_ok_weaker}
use Rattle.c_tree.specs.Seen.{plain_assign}
use Rattle.c_check.specs.Broken as broken
use Rattle.c_check.specs.Resolve as resolve
use Rattle.c_check.specs.inside.Found.{first_found, locals_found}
use Rattle.c_check.proofs.Found.{together-none}
use Rattle.c_check.proofs.Compound.{simple_done}
use Rattle.c_check.proofs.body.Body.first.Goals as goal

pub returns-in-Local-clause-body : goal.returns-in-Local-clause-body
unfolding first_found locals_found
returns-in-Local-clause-body c = rw c.in-Local.is c.locals.ensures.body

pub returns-in-Assign-clause-body : goal.returns-in-Assign-clause-body
unfolding first_found
returns-in-Assign-clause-body c =
    let a = plain_assign c.in-Assign.a in
    let ss = c.args.scopes.now in
    rw c.in-Assign.is (on_ok_weaker c.assign-in-Assign.result (simple_done c.args.self.now (resolve.assign ss a) (broken.assign_broken ss a) c.note.ensures c.assign.ensures) c.assign-in-Assign.ensures)

pub returns-in-Empty-clause-body : goal.returns-in-Empty-clause-body
unfolding first_found
returns-in-Empty-clause-body c = rw c.in-Empty.is (sym (together-none c.args.self.now))
