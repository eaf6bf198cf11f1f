use Rattle.std.proofs.Common.{◌≡◌, ◌-◌, ◌+◌, ◌<◌, length, map, IfOk, sym, ◌∙◌, ap, subst, arith}
use Rattle.std.proofs.lemmas.Bool.Decides.{nat_tests}
use Rattle.std.proofs.lemmas.List.{length-reverse, length-map}
use Rattle.farkas_cert.specs.Elimination as specs
use Rattle.farkas_cert.specs.Decision.{outcome_in}
use Rattle.plain_elim.specs.inside.Held.{kept_of, work_of, next_of, IsReadyNext}
use Rattle.plain_elim.proofs.Stages.{all-unreversed, stages-closed, stages-end, leads-on, stage-keeps}
use Rattle.plain_elim.proofs.elimination.stages.Goals as goal

pub point_of-requires-clause-bounds : goal.point_of-requires-clause-bounds
point_of-requires-clause-bounds c = rw c.requires.columns (all-unreversed _ _ c.stages.invariant.0.kept)

pub point_of-requires-2-clause-bounds : goal.point_of-requires-2-clause-bounds
point_of-requires-2-clause-bounds c = rw c.requires.columns (all-unreversed _ _ c.stages.invariant.0.kept)

pub returns-then-is_empty : goal.returns-then-is_empty
returns-then-is_empty c =
    let rows = c.args.rows.now in
    let work = work_of c.stages.work in
    let none : length c.stages.work.lines.items ≡ 0 = let test = sym c.is_empty.ensures ∙ c.if-is_empty.true in let same = c.stages.work.lines.ok.0 in grind (arith, nat_tests) in
    let is_point = c.stages.invariant.2 ∙ stages-closed (rows.columns - c.stages.taken) rows work none
    ∙ ap (λ n. specs.point_of n work.kept) (sym c.requires.columns) in
    subst (λ o. IfOk c.point_of.result (λ d. outcome_in d ≡ o)) (sym is_point) c.point_of.ensures

pub refutation_outcome-requires-clause-leads : goal.refutation_outcome-requires-clause-leads
refutation_outcome-requires-clause-leads c =
    let rows = c.args.rows.now in
    let some : 0 < length c.stages.work.lines.items = let test = sym c.is_empty.ensures ∙ c.if-is_empty.false in let same = c.stages.work.lines.ok.0 in grind (arith, nat_tests) in
    let within : c.stages.taken < rows.columns = omega (arith, c.stages-test.true, c.requires.columns) in
    leads-on rows.columns c.stages.taken rows (work_of c.stages.work) (next_of rows c.in_ok-next.next) (specs.outcome_of rows) within some c.stages.invariant.2 c.in_ok-next.ensures.next
    ∙ ap (λ next. specs.or_ends (specs.stages (rows.columns - (c.stages.taken + 1)) rows) (next_of rows next)) c.in-Refutes.is

pub returns-in-Leaves : goal.returns-in-Leaves
returns-in-Leaves c =
    let rows = c.args.rows.now in
    let some : 0 < length c.stages.work.lines.items = let test = sym c.is_empty.ensures ∙ c.if-is_empty.false in let same = c.stages.work.lines.ok.0 in grind (arith, nat_tests) in
    let within : c.stages.taken < rows.columns = omega (arith, c.stages-test.true, c.requires.columns) in
    sym (leads-on rows.columns c.stages.taken rows (work_of c.stages.work) (next_of rows c.in_ok-next.next) (specs.outcome_of rows) within some c.stages.invariant.2 c.in_ok-next.ensures.next
    ∙ ap (λ next. specs.or_ends (specs.stages (rows.columns - (c.stages.taken + 1)) rows) (next_of rows next)) c.in-Leaves.is)

pub stages-preserved : goal.stages-preserved
stages-preserved c =
    let rows = c.args.rows.now in
    let work = work_of c.stages.work in
    let more = work_of c.in-Goes.more in
    let some : 0 < length c.stages.work.lines.items = let test = sym c.is_empty.ensures ∙ c.if-is_empty.false in let same = c.stages.work.lines.ok.0 in grind (arith, nat_tests) in
    let within : c.stages.taken < rows.columns = omega (arith, c.stages-test.true, c.requires.columns) in
    let goes = ap (next_of rows) c.in-Goes.is in
    let ready = subst (IsReadyNext rows) goes c.in_ok-next.ensures.ready in
    let kept = stage-keeps rows work more (sym c.in_ok-next.ensures.next ∙ goes) in
    let leads = leads-on rows.columns c.stages.taken rows work (next_of rows c.in_ok-next.next) (specs.outcome_of rows) within some c.stages.invariant.2 c.in_ok-next.ensures.next
    ∙ ap (specs.or_ends (specs.stages (rows.columns - (c.stages.taken + 1)) rows)) goes in
    let before = length-reverse (map kept_of c.stages.work.kept.items) ∙ length-map c.stages.work.kept.items kept_of in
    let after = length-reverse (map kept_of c.in-Goes.more.kept.items) ∙ length-map c.in-Goes.more.kept.items kept_of in
    (ready, omega (arith, before, after, kept, c.stages.invariant.1), leads)

pub returns : goal.returns
returns c =
    let rows = c.args.rows.now in
    let work = work_of c.stages.work in
    let is_point = c.stages.invariant.2 ∙ stages-end rows.columns c.stages.taken rows work (omega (arith, c.stages-test.false, c.stages.auto.taken-end, c.requires.columns))
    ∙ ap (λ n. specs.point_of n work.kept) (sym c.requires.columns) in
    subst (λ o. IfOk c.point_of-2.result (λ d. outcome_in d ≡ o)) (sym is_point) c.point_of-2.ensures
