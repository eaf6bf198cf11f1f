use Rattle.std.proofs.Common.{◌≡◌, ◌+◌, suc, length, ◌∙◌, ap, ap₂, sym, refl, arith}
use Rattle.farkas_cert.specs.Line.{lowest_of}
use Rattle.farkas_cert.specs.Elimination.{Ends, Leaves, pair_stage, positives, negatives}
use Rattle.farkas_cert.specs.declared.answers.LeaveKind.TheVariants.{Rows}
use Rattle.plain_elim.specs.declared.work.Next.{Next as HeldNext}
use Rattle.plain_elim.specs.inside.Held.{work_of, next_of}
use Rattle.plain_elim.specs.inside.Stages.{after_stages}
use Rattle.plain_elim.proofs.StageLemmas.{if_ok, kept_count, pairs_followed, pair_stage_goes, pair_stage_leaves, positives_with_column, negatives_with_column}
use Rattle.plain_elim.proofs.pair_stage.pair_stage.Goals as goal

pub returns-in-Some : goal.returns-in-Some
returns-in-Some c =
    let system = c.args.rows.now in
    let work = work_of c.args.work in
    let at = c.lowest_of-column.result in
    let parts = c.in_ok-parts.parts in
    let column = c.lowest_of-column.ensures ∙ ap₂ lowest_of c.columns.ensures.columns c.as_slice.ensures.value in
    let p = c.count_positives-positives.ensures ∙ ap (λ ls. length (positives at ls)) (c.as_slice-2.ensures.value ∙ c.in_ok-parts.ensures.with) ∙ ap length (positives_with_column at work.lines) in
    let q = c.count_negatives-negatives.ensures ∙ ap (λ ls. length (negatives at ls)) (c.as_slice-3.ensures.value ∙ c.in_ok-parts.ensures.with) ∙ ap length (negatives_with_column at work.lines) in
    let followed = pairs_followed work (after_stages c.args.work.kept.items) at c.in-Some.made parts.with.items parts.without.items _ refl c.in_ok-parts.ensures.with c.in_ok-parts.ensures.without refl in
    let same = pair_stage_goes system work at c.count_positives-positives.result c.count_negatives-negatives.result c.in-Some.made column p q (sym c.made_with-made.ensures ∙ c.in-Some.is) in
    if_ok _ (λ (next : HeldNext). next_of system next ≡ pair_stage system work) c.pairs_follow.result (λ next h. h system ∙ followed ∙ same) c.pairs_follow.ensures

pub returns-in-None : goal.returns-in-None
returns-in-None c =
    let system = c.args.rows.now in
    let work = work_of c.args.work in
    let at = c.lowest_of-column.result in
    let column = c.lowest_of-column.ensures ∙ ap₂ lowest_of c.columns.ensures.columns c.as_slice.ensures.value in
    let p = c.count_positives-positives.ensures ∙ ap (λ ls. length (positives at ls)) (c.as_slice-2.ensures.value ∙ c.in_ok-parts.ensures.with) ∙ ap length (positives_with_column at work.lines) in
    let q = c.count_negatives-negatives.ensures ∙ ap (λ ls. length (negatives at ls)) (c.as_slice-3.ensures.value ∙ c.in_ok-parts.ensures.with) ∙ ap length (negatives_with_column at work.lines) in
    let number : c.len.result + 1 ≡ suc (length work.kept) = omega (arith, c.len.ensures, c.args.work.kept.ok, kept_count c.args.work.kept.items) in
    ap (λ n. Ends (Leaves n Rows)) number
    ∙ pair_stage_leaves system work at c.count_positives-positives.result c.count_negatives-negatives.result column p q (sym c.made_with-made.ensures ∙ c.in-None.is)
