use Rattle.std.proofs.Common.{rules, ◌≡◌}
use Rattle.std.proofs.lemmas.Result.{on_ok_weaker}
use Rattle.c_tree.specs.Seen.{plain_call}
use Rattle.c_check.specs.Resolve as resolve
use Rattle.c_check.specs.Broken as broken
use Rattle.c_check.specs.First.{first_of}
use Rattle.c_check.proofs.Compound.{simple_done}
use Rattle.c_check.proofs.body.Body.call_statement.Goals as goal

pub returns : goal.returns
returns c =
    let part = plain_call c.args.c.now in
    let ss = c.args.scopes.now in
    let first_is : c.call.result ≡ first_of (broken.call_broken c.args.place ss part) = search rules in
    on_ok_weaker c.call-2.result (λ e. simple_done c.args.self.now (resolve.call ss part) (broken.call_broken c.args.place ss part) c.note.ensures first_is e) c.call-2.ensures
