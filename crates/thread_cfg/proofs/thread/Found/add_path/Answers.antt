use Rattle.std.proofs.Common.{◌≡◌, ℕ, OnOk, ◌∷◌, [], map, ap, subst, ◌∙◌}
use Rattle.thread_cfg.specs.Action.{Alternative, path_target}
use Rattle.thread_cfg.specs.inside.Adds.{AddsWays}
use Rattle.thread_cfg.specs.inside.Few.{WrittenPath, event_written}
use Rattle.thread_cfg.specs.inside.Gone.{event_of}
use Rattle.thread_cfg.proofs.BlockLemmas.{stand-for}
use Rattle.thread_cfg.proofs.thread.Found.add_path.Goals as goal

pub add_way-requires-clause-within : goal.add_way-requires-clause-within
add_way-requires-clause-within c =
    let p = c.requires.within.0 in
    let same : map event_of c.as_slice.result.now ≡ map event_written p.events =
    ap (map event_of) c.as_slice.ensures.value ∙ c.in_ok-events.ensures ∙ ap (λ (w : WrittenPath). w.events) c.requires.within.1 in
    (p.events, stand-for c.as_slice.result.now p.events same, c.requires.within.2)

pub returns : goal.returns
returns c p is =
    let same : map event_of c.as_slice.result.now ≡ map event_written p.events =
    ap (map event_of) c.as_slice.ensures.value ∙ c.in_ok-events.ensures ∙ ap (λ (w : WrittenPath). w.events) is in
    let to : c.target-to.result.0 ≡ path_target c.args.next.0 p.fails =
    c.target-to.ensures ∙ ap (path_target c.args.next.0) (ap (λ (w : WrittenPath). w.fails) is) in
    subst (λ (n : ℕ). let a : Alternative = record { events = p.events; to = n } in
    OnOk c.add_way.result (AddsWays c.args.running.now c.args.at.0 c.args.self.now c.add_way.new.self (a ∷ []))) to
    (c.add_way.ensures p.events (stand-for c.as_slice.result.now p.events same))
