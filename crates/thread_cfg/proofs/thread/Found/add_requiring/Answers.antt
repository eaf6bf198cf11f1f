use Rattle.std.proofs.Common.{[], ◌∷◌}
use Rattle.thread_cfg.specs.declared.relation.Relation.{Relation}
use Rattle.thread_cfg.specs.Path.{Event}
use Rattle.thread_cfg.specs.Action.{Alternative}
use Rattle.thread_cfg.proofs.AddLemmas.{AddsWays-then}
use Rattle.thread_cfg.proofs.PassSteps.{on_ok-then}
use Rattle.thread_cfg.proofs.thread.Found.add_requiring.Goals as goal

pub returns-in-Some-second : goal.returns-in-Some-second
returns-in-Some-second c a b means =
    let way = λ (r : Relation). let w : Alternative = record { events = Event.Requires c.args.compared.now.from r a b ∷ []; to = c.in-Some.to.0 } in w in
    rw (c.in-Some.is, c.in-Some-second.is) (
    on_ok-then
    (AddsWays-then c.args.running.now c.args.at.0 c.args.self.now c.add_relation.new.self c.add_relation-in-Some-second.new.self
    (way c.args.relations.first ∷ []) (way c.in-Some-second.second ∷ []) (c.in_ok-add_relation.ensures a b means))
    c.add_relation-in-Some-second.result (c.add_relation-in-Some-second.ensures a b means))
