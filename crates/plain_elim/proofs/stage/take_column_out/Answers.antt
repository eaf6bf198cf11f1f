use Rattle.std.proofs.Common.{◌≡◌, ◌∙◌, ap, sym}
use Rattle.std.specs.List.{position}
use Rattle.farkas_cert.specs.Line.{Line}
use Rattle.farkas_cert.specs.Elimination.{take_column_out}
use Rattle.plain_elim.specs.declared.work.Next.{Next as HeldNext}
use Rattle.plain_elim.specs.inside.Held.{work_of, next_of}
use Rattle.plain_elim.proofs.StageLemmas.{if_ok, pairs_taken}
use Rattle.plain_elim.proofs.stage.take_column_out.Goals as goal

pub equality_stage-requires-clause-few : goal.equality_stage-requires-clause-few
equality_stage-requires-clause-few c = c.requires

pub equality_stage-requires-clause-first : goal.equality_stage-requires-clause-first
equality_stage-requires-clause-first c = ap (position (λ (line : Line). line.equal)) (sym c.as_slice.ensures.value) ∙ sym c.first_equality.ensures ∙ c.in-Some.is

pub pair_stage-requires : goal.pair_stage-requires
pair_stage-requires c = c.requires

pub returns-in-None : goal.returns-in-None
returns-in-None c =
    let system = c.args.rows.now in
    let work = work_of c.args.work in
    let none = ap (position (λ (line : Line). line.equal)) (sym c.as_slice.ensures.value) ∙ sym c.first_equality.ensures ∙ c.in-None.is in
    if_ok _ (λ (next : HeldNext). next_of system next ≡ take_column_out system work) c.pair_stage.result (λ next h. h ∙ pairs_taken system work none) c.pair_stage.ensures
