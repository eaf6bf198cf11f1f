use Rattle.std.proofs.Common.{Option, Some, subst, sym}
use Rattle.instance_cursors.specs.declared.key.Head.{Head}
use Rattle.instance_cursors.specs.inside.Follows.{HeadFollows}
use Rattle.instance_cursors.proofs.Follow.{follows_none, follows_some}
use Rattle.instance_cursors.proofs.heads.head_with.Goals as goal

pub returns-in-Some : goal.returns-in-Some
returns-in-Some c =
    let From : Option Head → Type 0 = λ h. HeadFollows c.args.layout.now c.args.early.now c.args.facts.now c.args.fact c.args.cursor h (Some c.in-Some.found) in
    subst From (sym c.in-Some.is) (follows_some c.args.layout.now c.args.early.now c.args.facts.now c.args.fact c.args.cursor c.in-Some.found)

pub returns-in-None : goal.returns-in-None
returns-in-None c =
    let From : Option Head → Type 0 = λ h. HeadFollows c.args.layout.now c.args.early.now c.args.facts.now c.args.fact c.args.cursor h c.head_at.result in
    subst From (sym c.in-None.is) (follows_none c.args.layout.now c.args.early.now c.args.facts.now c.args.fact c.args.cursor c.head_at.result c.head_at.ensures)
