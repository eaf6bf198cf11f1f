use Rattle.std.proofs.Common.{◌≡◌, ◌+◌, ℕ, Ok, Err, IfOk, length, ap, subst, sym, ◌∙◌, rules, arith}
use Rattle.std.proofs.lemmas.List.{length-map}
use Rattle.transition_formula.specs.Stored.{form_of}
use Rattle.thread_cfg.specs.inside.Made.{edge_made_by, seen_first}
use Rattle.thread_cfg.specs.inside.Meant.{frame_of}
use Rattle.thread_cfg.specs.inside.Seen.{IsSeenOver, held_in, seen_behind, unless_unfit}
use Rattle.thread_cfg.proofs.EdgeLemmas.{edge_held-behind, edge_held-meant, inputs_in-few, seen_first-over}
use Rattle.thread_cfg.proofs.MeantLemmas.{events-within}
use Rattle.thread_cfg.proofs.SeenLemmas.{seen_behind-over}
use Rattle.thread_cfg.proofs.edge.alternative_edge.Goals as goal
use Rattle.thread_cfg.proofs.edge.alternative_edge.Goals.{In_ok-unfit}

pub overflow_add-setting : goal.overflow_add-setting
overflow_add-setting c = omega (arith, inputs_in-few c.args.events.now, c.inputs_in.ensures)

pub follow_all-requires-clause-within : goal.follow_all-requires-clause-within
follow_all-requires-clause-within c =
    events-within c.args.columns (frame_of c.args.frame.now) c.args.events.now c.requires.within.meant c.requires.within.stand c.requires.within.within

pub follow_all-requires-clause-over : goal.follow_all-requires-clause-over
follow_all-requires-clause-over c =
    let width = c.args.columns + c.inputs_in.result in
    let first : held_in c.in_ok-along.along ≡ seen_first width c.args.columns = search rules in
    subst (λ s. IsSeenOver c.args.columns width s) (sym first) (seen_first-over width c.args.columns)

pub edge_behind-requires : goal.edge_behind-requires
edge_behind-requires c =
    let n = c.args.columns in
    let width = n + c.inputs_in.result in
    let frame = frame_of c.args.frame.now in
    let more = held_in c.follow_all.new.self in
    let first : held_in c.in_ok-along.along ≡ seen_first width n = search rules in
    let over = subst (λ s. IsSeenOver n width s) (sym first) (seen_first-over width n) in
    let made : Ok more ≡ seen_behind width n frame c.args.events.now (held_in c.in_ok-along.along) =
    ap (λ unfit. unless_unfit unfit more) (sym c.in-None.is) ∙ c.in_ok-unfit.ensures in
    let last = seen_behind-over n width frame c.args.events.now (held_in c.in_ok-along.along) more (sym made) over in
    let size : length c.follow_all.new.self.lines.items ≡ n = sym (length-map c.follow_all.new.self.lines.items form_of) ∙ last.one_each in
    omega (arith, size, c.requires.width)

pub returns-in-Some : goal.returns-in-Some
returns-in-Some c = λ es stand.
    let n = c.args.columns in
    let width = n + c.inputs_in.result in
    let frame = frame_of c.args.frame.now in
    let events = c.args.events.now in
    let place : ℕ = c.in-Some.place in
    let first : held_in c.in_ok-along.along ≡ seen_first width n = search rules in
    let made : Err place ≡ seen_behind width n frame events (held_in c.in_ok-along.along) =
    ap (λ unfit. unless_unfit unfit (held_in c.follow_all.new.self)) (sym c.in-Some.is) ∙ c.in_ok-unfit.ensures in
    edge_held-behind n width c.args.from.0 c.args.to.0 frame events (held_in c.in_ok-along.along) (Err place) (ap (λ k. n + k) c.inputs_in.ensures) first made
    ∙ edge_held-meant n c.args.from.0 c.args.to.0 frame events es stand

pub returns-in-None : goal.returns-in-None
returns-in-None c = λ es stand.
    let n = c.args.columns in
    let width = n + c.inputs_in.result in
    let frame = frame_of c.args.frame.now in
    let events = c.args.events.now in
    let more = held_in c.follow_all.new.self in
    let first : held_in c.in_ok-along.along ≡ seen_first width n = search rules in
    let made : Ok more ≡ seen_behind width n frame events (held_in c.in_ok-along.along) =
    ap (λ unfit. unless_unfit unfit more) (sym c.in-None.is) ∙ c.in_ok-unfit.ensures in
    let whole =
    edge_held-behind n width c.args.from.0 c.args.to.0 frame events (held_in c.in_ok-along.along) (Ok more) (ap (λ k. n + k) c.inputs_in.ensures) first made
    ∙ edge_held-meant n c.args.from.0 c.args.to.0 frame events es stand in
    subst (λ v. IfOk c.edge_behind.result (λ made. edge_made_by made ≡ v)) whole c.edge_behind.ensures
