use Rattle.std.proofs.Common.{◌≡◌, ◌∙◌, ap, sym, subst, map, length, List}
use Rattle.std.specs.Prelude.{reverse}
use Rattle.farkas_cert.specs.Elimination.{constant_test, beginning}
use Rattle.farkas_cert.specs.Elimination as specs
use Rattle.plain_elim.specs.declared.work.Next.{Next as HeldNext}
use Rattle.plain_elim.specs.declared.kept.Kept.{Kept as HeldKept}
use Rattle.std.specs.List.{AllByRecursion}
use Rattle.plain_elim.specs.inside.Held.{next_of, kept_of, BoundsItsColumn, IsReadyNext}
use Rattle.plain_elim.proofs.Ready.{constant_test-ready}
use Rattle.plain_elim.proofs.StageLemmas.{if_ok, begun_is}
use Rattle.plain_elim.proofs.stage.beginning.Goals as goal

-- nothing was kept yet
pub returns-clause-next : goal.returns-clause-next
returns-clause-next c =
    let system = c.args.rows.now in
    let empty = c.new.ensures.items in
    let start = ap (λ (ks : List HeldKept). constant_test system (length ks) (record { lines = c.in_ok-lines.lines.items; kept = reverse (map kept_of ks); made = 0 })) empty in
    let same = start ∙ begun_is system c.in_ok-lines.lines.items c.in_ok-lines.ensures.lines in
    if_ok _ (λ (next : HeldNext). next_of system next ≡ beginning system) c.constant_test.result (λ next h. h ∙ same) c.constant_test.ensures

pub returns-clause-ready : goal.returns-clause-ready
returns-clause-ready c =
    let system = c.args.rows.now in
    let lines = c.in_ok-lines.lines.items in
    let work : specs.Work = record { lines = lines; kept = reverse (map kept_of c.new.result.items); made = 0 } in
    let none = subst (λ (ks : List HeldKept). AllByRecursion (BoundsItsColumn system.columns) (reverse (map kept_of ks))) (sym c.new.ensures.items) tt in
    let ready = constant_test-ready system (length c.new.result.items) work (record { lines = c.in_ok-lines.ensures.wide; kept = none }) in
    if_ok _ (λ (next : HeldNext). IsReadyNext system (next_of system next)) c.constant_test.result (λ next h. subst (λ (m : specs.Next). IsReadyNext system m) (sym h) ready) c.constant_test.ensures
