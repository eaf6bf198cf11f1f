use Rattle.std.proofs.Common.{◌∙◌, ap, sym}
use Rattle.thread_cfg.specs.inside.Made.{edge_made_by}
use Rattle.thread_cfg.proofs.AddLemmas.{AddsWays-unfit}
use Rattle.thread_cfg.proofs.thread.Found.add_way.Goals as goal

pub returns-in-Unfit : goal.returns-in-Unfit
returns-in-Unfit c es stand =
    AddsWays-unfit c.args.running.now c.args.at.0 c.in-Unfit.place c.args.self.now _ (record { events = es; to = c.args.to.0 })
    (sym (ap edge_made_by c.in-Unfit.is) ∙ c.in_ok-made.ensures es stand) c.earlier-self.ensures

pub alternative_edge-requires-clause-within : goal.alternative_edge-requires-clause-within
alternative_edge-requires-clause-within c = record { meant = c.requires.within.0; stand = c.requires.within.1; within = c.requires.within.2.0 }
