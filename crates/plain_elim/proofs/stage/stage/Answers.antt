use Rattle.std.proofs.Common.{◌≡◌, ◌∙◌, ap, sym, subst, length, ◌<◌, arith}
use Rattle.lin_rows.specs.System.{System}
use Rattle.farkas_cert.specs.Elimination as specs
use Rattle.plain_elim.specs.declared.work.Work.{Work as HeldWork}
use Rattle.plain_elim.specs.declared.work.Next.{Next as HeldNext}
use Rattle.plain_elim.specs.declared.work.Next.TheVariants as next
use Rattle.plain_elim.specs.inside.Held.{work_of, next_of, IsReady, IsReadyNext}
use Rattle.plain_elim.specs.inside.Stages.{IsWideWork, IsWideNext, KeepsOneMore}
use Rattle.plain_elim.proofs.Ready.{take_column_out-wide, take_column_out-keeps, constant_test-ready}
use Rattle.plain_elim.proofs.StageLemmas.{if_ok, kept_count, stage_goes, stage_ends}
use Rattle.plain_elim.proofs.stage.stage.Goals as goal

-- what the stage goes on with
goes : (system : System) (work : specs.Work) (held : HeldNext) (after : HeldWork) → next_of system held ≡ specs.take_column_out system work → held ≡ next.Goes after
    → specs.Goes (work_of after) ≡ specs.take_column_out system work
goes system work held after e is = ap (next_of system) (sym is) ∙ e

wide : (system : System) (work : specs.Work) (after : HeldWork) → IsReady system work → 0 < length work.lines → specs.Goes (work_of after) ≡ specs.take_column_out system work
    → IsWideWork system (work_of after)
wide system work after r s e = subst (λ (n : specs.Next). IsWideNext system n) (sym e) (take_column_out-wide system work r s)

pub constant_test-requires-clause-wide : goal.constant_test-requires-clause-wide
constant_test-requires-clause-wide c =
    let system = c.args.rows.now in
    let work = work_of c.args.work in
    let e = goes system work c.in_ok-next.next c.in-Goes.work c.in_ok-next.ensures c.in-Goes.is in
    (wide system work c.in-Goes.work c.requires.ready c.requires.some e).lines

pub constant_test-requires-clause-few : goal.constant_test-requires-clause-few
constant_test-requires-clause-few c =
    let system = c.args.rows.now in
    let work = work_of c.args.work in
    let e = goes system work c.in_ok-next.next c.in-Goes.work c.in_ok-next.ensures c.in-Goes.is in
    let more = subst (λ (n : specs.Next). KeepsOneMore (length work.kept) n) (sym e) (take_column_out-keeps system work) in
    omega (arith, more, kept_count c.args.work.kept.items, kept_count c.in-Goes.work.kept.items, c.requires.few)

pub returns-in-Goes-clause-next : goal.returns-in-Goes-clause-next
returns-in-Goes-clause-next c =
    let system = c.args.rows.now in
    let work = work_of c.args.work in
    let after = c.in-Goes.work in
    let e = goes system work c.in_ok-next.next after c.in_ok-next.ensures c.in-Goes.is in
    let same = stage_goes system work (work_of after) (length after.kept.items) e (sym (kept_count after.kept.items)) in
    if_ok _ (λ (n : HeldNext). next_of system n ≡ specs.stage system work) c.constant_test.result (λ n h. h ∙ same) c.constant_test.ensures

pub returns-in-Goes-clause-ready : goal.returns-in-Goes-clause-ready
returns-in-Goes-clause-ready c =
    let system = c.args.rows.now in
    let work = work_of c.args.work in
    let after = c.in-Goes.work in
    let e = goes system work c.in_ok-next.next after c.in_ok-next.ensures c.in-Goes.is in
    let ready = constant_test-ready system (length after.kept.items) (work_of after) (wide system work after c.requires.ready c.requires.some e) in
    if_ok _ (λ (n : HeldNext). IsReadyNext system (next_of system n)) c.constant_test.result (λ n h. subst (λ (m : specs.Next). IsReadyNext system m) (sym h) ready) c.constant_test.ensures

pub returns-in-Refutes : goal.returns-in-Refutes
returns-in-Refutes c =
    let system = c.args.rows.now in
    record { next = stage_ends system (work_of c.args.work) _ (ap (next_of system) (sym c.in-Refutes.is) ∙ c.in_ok-next.ensures); ready = tt }

pub returns-in-Leaves : goal.returns-in-Leaves
returns-in-Leaves c =
    let system = c.args.rows.now in
    record { next = stage_ends system (work_of c.args.work) _ (ap (next_of system) (sym c.in-Leaves.is) ∙ c.in_ok-next.ensures); ready = tt }
