use Rattle.std.proofs.Common.{refl, subst}
use Rattle.thr_base.specs.declared.names.Instance.TheVariants.{Init}
use Rattle.instance_cursors.specs.declared.cursors.Cursors.TheInside.{Inside}
use Rattle.instance_cursors.specs.Waiting.{Closes, Waiting}
use Rattle.instance_cursors.specs.inside.Stored.{seen}
use Rattle.instance_cursors.proofs.StoredTaken.{started_closes}
use Rattle.instance_cursors.proofs.cursors.Cursors.start.Goals as goal

pub returns : goal.returns
returns c =
    let new : Inside = (record { layout = c.self.inside.layout; room = c.self.inside.room; given = c.self.inside.given; facts = c.self.inside.facts; starts = c.take_thread.new.starts; cursors = c.self.inside.cursors; heads = c.self.inside.heads; early = c.self.inside.early }) in
    let closes : Closes (seen c.self.inside) (Init c.args.thread) (seen new) = started_closes c.self.inside new c.args.thread refl refl refl refl refl refl c.take_thread.ensures in
    let From : Waiting → Type 0 = λ w. Closes w (Init c.args.thread) (seen new) in
    subst From c.self.view_is closes
