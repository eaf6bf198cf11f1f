use Rattle.std.proofs.Common.{[], ◌∷◌, pos, refl}
use Rattle.c_check.specs.Plan.{Arithmetic}
use Rattle.thread_cfg.specs.declared.relation.Relation.TheVariants as related
use Rattle.thread_cfg.specs.Path.{Event}
use Rattle.thread_cfg.proofs.thread.Found.add_exchange.Goals as goal

pub returns : goal.returns
returns c =
    let first = Event.Requires c.args.from related.Equal (Arithmetic.Value c.args.variable) (Arithmetic.Number (pos c.args.was)) in
    let second = Event.Sets c.args.from c.args.variable (Arithmetic.Number (pos c.args.becomes)) in
    c.add_way.ensures (first ∷ (second ∷ [])) ((refl, refl, refl, c.number.ensures), ((refl, refl, c.number-2.ensures), tt))
