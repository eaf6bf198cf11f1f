use Rattle.std.proofs.Common.{reverse, map, ap, ◌∙◌}
use Rattle.thread_cfg.specs.inside.Gone.{event_of}
use Rattle.thread_cfg.proofs.BlockLemmas.{map-reverse}
use Rattle.thread_cfg.proofs.paths.Path.in_order.Goals as goal

pub returns : goal.returns
returns c =
    ap (map event_of) (c.reverse.ensures.items ∙ ap reverse (c.in_ok-events.ensures.items ∙ c.as_slice.ensures.value))
    ∙ map-reverse event_of c.args.self.now.events.items
