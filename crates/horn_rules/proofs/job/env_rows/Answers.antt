use Rattle.std.proofs.Common.{sym, ◌∙◌, ap, [], arith, length}
use Rattle.lin_rows.specs.System.{with_rows}
use Rattle.thr_base.specs.Held.{positions}
use Rattle.horn_rules.specs.Fact.{atoms_at}
use Rattle.horn_rules.specs.Job.{premise_says}
use Rattle.horn_rules.proofs.Premises.{same_seen, seen_wide, few_seen, few_after, atoms-over, env_is}
use Rattle.horn_rules.proofs.job.env_rows.Goals as goal

pub push_state-requires-clause-within : goal.push_state-requires-clause-within
push_state-requires-clause-within c =
    let r = c.requires.second in
    let at = same_seen c.args.program.now _ _ _ _ r.thread r.edge (sym c.edge_of.ensures ∙ r.premise_is.home_is) r.edge_is in
    seen_wide c.args.program.now r.thread r.edge _ _ _ _ (c.in_ok-seen.ensures r.thread r.edge at) c.view.ensures c.columns-columns.ensures.columns c.new-rows.ensures

pub push_rows-requires-clause-room : goal.push_rows-requires-clause-room
push_rows-requires-clause-room c =
    let r = c.requires.second in
    let at = same_seen c.args.program.now _ _ _ _ r.thread r.edge (sym c.edge_of.ensures ∙ r.premise_is.home_is) r.edge_is in
    let few = few_seen c.args.program.now r.thread r.edge _ c.in_ok-push_state.ensures.program (c.in_ok-seen.ensures r.thread r.edge at) in
    omega (arith, few, ap (λ system. length system.rows) c.view-2.ensures, c.in_ok-push_state.ensures.few, ap (λ system. length system.rows) c.new-rows.ensures)

pub push_held-requires-clause-one_each : goal.push_held-requires-clause-one_each
push_held-requires-clause-one_each c =
    let r = c.requires.second in
    let at = same_seen c.args.program.now _ _ _ _ r.thread r.edge (sym c.edge_of.ensures ∙ r.premise_is.home_is) r.edge_is in
    atoms-over c.args.program.now _ _ _ _ r.premise_is.set_is (c.atoms.ensures.atoms ∙ c.deref.ensures)
    (c.columns-columns.ensures.columns ∙ ap (λ system. system.columns) c.view.ensures ∙ ap (λ system. system.columns) (c.in_ok-seen.ensures r.thread r.edge at))

pub push_held-requires-clause-room : goal.push_held-requires-clause-room
push_held-requires-clause-room c =
    let r = c.requires.second in
    let at = same_seen c.args.program.now _ _ _ _ r.thread r.edge (sym c.edge_of.ensures ∙ r.premise_is.home_is) r.edge_is in
    let few = few_seen c.args.program.now r.thread r.edge _ c.in_ok-push_state.ensures.program (c.in_ok-seen.ensures r.thread r.edge at) in
    few_after _ _ _ _ _ _ few c.view-2.ensures c.in_ok-push_state.ensures.few c.new-rows.ensures c.in_ok-push_rows.ensures.ok

pub returns : goal.returns
returns c k l i e other thread edge other_is at home_f home_t =
    let program = c.args.program.now in
    let here = same_seen program _ _ _ _ thread edge (sym c.edge_of.ensures ∙ home_t) at in
    let width = c.columns-columns.ensures.columns ∙ ap (λ system. system.columns) c.view.ensures in
    env_is program (premise_says program c.args.first.now) (premise_says program c.args.second.now) l _ other thread edge _ _ _ _ _ _ (c.in_ok-seen.ensures thread edge here)
    (c.new-rows.ensures ∙ ap (λ w. record { columns = w; rows = [] }) width) width
    (c.in_ok-push_state.ensures.rows k l other home_f other_is)
    (c.in_ok-push_rows.ensures.ok ∙ ap (λ system. with_rows c.push_state.new.rows system.rows) c.view-2.ensures)
    (ap (λ set. atoms_at set (positions c.args.second.now.fact.held)) (c.atoms.ensures.atoms ∙ c.deref.ensures))
    c.in_ok-push_held.ensures.rows
