use Rattle.std.proofs.Common.{sym, ◌∙◌, ap, [], ◌+◌, ◌*◌, arith}
use Rattle.thr_base.specs.Limits.{most_predicates}
use Rattle.lin_rows.specs.System.{with_rows}
use Rattle.horn_rules.specs.Job.{premise_says}
use Rattle.horn_rules.proofs.Premises.{same_edge, wide, room, inter_is}
use Rattle.horn_rules.proofs.job.inter_rows.Goals as goal

pub push_state-requires-clause-within : goal.push_state-requires-clause-within
push_state-requires-clause-within c =
    let r = c.requires.second in
    let at = same_edge c.args.program.now _ _ _ _ c.args.e.0 r.thread r.edge (sym c.location_of.ensures ∙ r.premise_is.home_is) r.edge_is in
    wide c.args.program.now r.thread r.edge _ _ _ _ (c.in_ok-edge.ensures r.thread r.edge at) c.view.ensures c.columns.ensures.columns c.new-rows.ensures

pub push_state-requires-2-clause-within : goal.push_state-requires-2-clause-within
push_state-requires-2-clause-within c =
    let r = c.requires.second in
    let at = same_edge c.args.program.now _ _ _ _ c.args.e.0 r.thread r.edge (sym c.location_of.ensures ∙ r.premise_is.home_is) r.edge_is in
    omega (arith, wide c.args.program.now r.thread r.edge _ _ c.new-rows.result _ (c.in_ok-edge.ensures r.thread r.edge at) c.view.ensures c.columns.ensures.columns c.new-rows.ensures, c.in_ok-push_state.ensures.columns)

pub push_rows-requires-clause-room : goal.push_rows-requires-clause-room
push_rows-requires-clause-room c =
    let r = c.requires.second in
    let at = same_edge c.args.program.now _ _ _ _ c.args.e.0 r.thread r.edge (sym c.location_of.ensures ∙ r.premise_is.home_is) r.edge_is in
    room c.args.program.now _ _ (2 * (most_predicates + 1)) r.thread r.edge _ _ c.new-rows.result c.push_state-2.new.rows _ c.in_ok-push_state.ensures.program at (c.in_ok-edge.ensures r.thread r.edge at) c.view-2.ensures c.new-rows.ensures
    (omega (arith, c.in_ok-push_state.ensures.few, c.in_ok-push_state-2.ensures.few)) (omega arith)

pub returns : goal.returns
returns c k l i other thread edge other_is at home_f home_g =
    let program = c.args.program.now in
    let here = same_edge program _ _ _ _ c.args.e.0 thread edge (sym c.location_of.ensures ∙ home_g) at in
    inter_is program (premise_says program c.args.first.now) (premise_says program c.args.second.now) l other thread edge _ _ _ _ _ (c.in_ok-edge.ensures thread edge here)
    (c.new-rows.ensures ∙ ap (λ w. record { columns = w; rows = [] }) (c.columns.ensures.columns ∙ ap (λ system. system.columns) c.view.ensures))
    (c.in_ok-push_state.ensures.rows k l other home_f other_is)
    (c.in_ok-push_state-2.ensures.rows i edge.from thread home_g at.thread_is)
    (c.in_ok-push_rows.ensures.ok ∙ ap (λ system. with_rows c.push_state-2.new.rows system.rows) c.view-2.ensures)
