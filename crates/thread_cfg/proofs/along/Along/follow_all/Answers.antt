use Rattle.std.proofs.Common.{◌≡◌, ◌+◌, ◌∷◌, [], ◌≤◌, pos, Ok, length, drop, get_or, drop-cons, add-one, ap, subst, sym, ◌∙◌, arith}
use Rattle.std.specs.List.{AllByRecursion}
use Rattle.thread_cfg.specs.declared.event.Event.{Event}
use Rattle.thread_cfg.specs.declared.event.Event.TheVariants as stored
use Rattle.thread_cfg.specs.declared.event.Expression.TheVariants as expression
use Rattle.thread_cfg.specs.declared.relation.Relation.TheVariants as related
use Rattle.thread_cfg.specs.inside.Meant.{frame_of}
use Rattle.thread_cfg.specs.inside.Seen.{HeldEventWithin, held_in, inputs_in, seen_after, unless_unfit}
use Rattle.thread_cfg.proofs.SeenLemmas.{inputs_in-first, seen_after-next, seen_behind-next}
use Rattle.thread_cfg.proofs.along.Along.follow_all.Goals as goal

pub events-preserved : goal.events-preserved
events-preserved c =
    let n = c.args.setting.columns in
    let width = c.args.setting.width in
    let frame = frame_of c.args.setting.frame in
    let events = c.args.events.now in
    let i = c.events.event-index in
    let any : Event = stored.Requires 0 related.Equal (expression.Number (pos 0)) (expression.Number (pos 0)) in
    let event = get_or events i any in
    let rest = drop (i + 1) events in
    let front : drop i events ≡ event ∷ rest = drop-cons events i any c.events-test.true ∙ ap (λ k. event ∷ drop k events) (sym (add-one i)) in
    let seen = held_in c.events.self in
    let more = held_in c.follow.new.self in
    let made : Ok more ≡ seen_after width n frame seen event = ap (λ unfit. unless_unfit unfit more) (sym c.in-None.is) ∙ c.in_ok-unfit.ensures in
    let next = seen_after-next n width frame seen more event (sym made) c.events.invariant.over in
    let within : AllByRecursion (HeldEventWithin n frame) (event ∷ rest) = subst (λ l. AllByRecursion (HeldEventWithin n frame) l) front c.events.invariant.within in
    let taken : inputs_in (drop i events) ≡ inputs_in (event ∷ []) + inputs_in rest = ap inputs_in front ∙ inputs_in-first event rest in
    let count : length (drop i events) ≡ length (event ∷ rest) = ap (λ l. length l) front in
    let inputs : c.follow.new.self.inputs ≡ c.events.self.inputs + inputs_in (event ∷ []) = next.inputs in
    let rows : length c.follow.new.self.tests.rows ≤ length c.events.self.tests.rows + 1 = next.rows in
    record {
      within = within.1;
      over = next.over;
      inputs = omega (arith, taken, inputs, c.events.invariant.inputs);
      room = omega (arith, count, rows, c.events.invariant.room);
      left = seen_behind-next n width frame (drop i events) rest event seen more _ front made c.events.invariant.left;
    }
