use Rattle.std.proofs.Common.{◌≡◌, length, rules}
use Rattle.std.proofs.lemmas.Result.{on_ok_weaker}
use Rattle.c_tree.specs.Seen.{plain_lname}
use Rattle.c_check.specs.declared.meaning.Variable.TheVariants as variable
use Rattle.c_check.specs.declared.meaning.Meaning.TheVariants as meaning
use Rattle.c_check.specs.declared.uses.Use.TheVariants as use_as
use Rattle.c_check.specs.Scope.{Scopes, declare}
use Rattle.c_check.specs.Broken as broken
use Rattle.c_check.specs.Resolve as resolve
use Rattle.c_check.specs.inside.Found.{local_found}
use Rattle.c_check.proofs.Declarations.{local_done}
use Rattle.c_check.proofs.body.Body.local.Goals as goal

pub returns-clause-body : goal.returns-clause-body
unfolding local_found
returns-clause-body c =
    let l = plain_lname c.args.l.now in
    let ss : Scopes = declare l.name (meaning.Integer (variable.Own (length c.args.self.now.locals))) c.args.scopes.now in
    let visible : c.declare.new.self ≡ ss = search rules in
    rw (← visible)
    (on_ok_weaker c.set_if.result (local_done c.args.self.now l (resolve.set_if c.declare.new.self l.name l.start) (broken.twice c.args.scopes.now l.name) (broken.value_if_broken c.declare.new.self use_as.Number l.start)
    c.note.ensures c.twice.ensures c.in_ok-push_name.ensures c.note-2.ensures c.start.ensures) c.set_if.ensures)
