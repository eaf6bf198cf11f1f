use Rattle.std.proofs.Common.{[], ◌∷◌, refl}
use Rattle.thread_cfg.specs.Path.{Event}
use Rattle.thread_cfg.proofs.thread.Found.add_relation.Goals as goal

pub returns : goal.returns
returns c a b means =
    c.add_way.ensures (Event.Requires c.args.compared.now.from c.args.relation a b ∷ []) ((refl, refl, means.0, means.1), tt)
