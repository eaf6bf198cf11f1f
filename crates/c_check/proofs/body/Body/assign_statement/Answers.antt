use Rattle.std.proofs.Common.{rules, ◌≡◌}
use Rattle.std.proofs.lemmas.Result.{on_ok_weaker}
use Rattle.c_tree.specs.Seen.{plain_assign}
use Rattle.c_check.specs.Resolve as resolve
use Rattle.c_check.specs.Broken as broken
use Rattle.c_check.specs.First.{first_of}
use Rattle.c_check.proofs.Compound.{simple_done}
use Rattle.c_check.proofs.body.Body.assign_statement.Goals as goal

pub returns : goal.returns
returns c =
    let part = plain_assign c.args.a.now in
    let ss = c.args.scopes.now in
    let first_is : c.assign.result ≡ first_of (broken.assign_broken ss part) = search rules in
    on_ok_weaker c.assign-2.result (λ e. simple_done c.args.self.now (resolve.assign ss part) (broken.assign_broken ss part) c.note.ensures first_is e) c.assign-2.ensures
