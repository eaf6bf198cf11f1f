use Rattle.std.proofs.Common.{◌≡◌, ◌∙◌, ap, refl, map}
use Rattle.farkas_cert.specs.Line.{lowest_column}
use Rattle.farkas_cert.specs.Elimination.{take_column_out, every, substituted_line}
use Rattle.plain_elim.specs.declared.work.Next.{Next}
use Rattle.plain_elim.specs.inside.Held.{work_of, next_of}
use Rattle.plain_elim.specs.inside.Stages.{after_stages}
use Rattle.plain_elim.proofs.StageLemmas.{if_ok, equality_taken}
use Rattle.plain_elim.proofs.substitution.equality_stage.Goals as goal

pub returns : goal.returns
returns c =
    let system = c.args.rows.now in
    let work = work_of c.args.work in
    let equality = c.remove-equality.result in
    let column = c.lowest_column-column.result in
    let lowest = c.lowest_column-column.ensures ∙ ap (λ n. lowest_column n equality) c.columns.ensures.columns in
    let made = c.in_ok-made.ensures ∙ ap (λ ls. every (map (substituted_line column equality) ls)) c.remove-equality.ensures.items in
    let same = equality_taken system work (after_stages c.args.work.kept.items) c.args.place column equality _ refl c.requires.first c.remove-equality.ensures.value lowest made in
    if_ok _ (λ (next : Next). next_of system next ≡ take_column_out system work) c.follows.result (λ next h. h system ∙ same) c.follows.ensures
