use Rattle.std.proofs.Common.{◌≡◌, ◌∙◌, ap, ◌++◌}
use Rattle.std.specs.Option.{option_map}
use Rattle.lin_rows.specs.System.{System}
use Rattle.farkas_cert.specs.BackSubstitution.{Bounded}
use Rattle.farkas_cert.specs.Elimination.{follows, pairs_at}
use Rattle.plain_elim.specs.declared.work.Next.{Next}
use Rattle.plain_elim.specs.inside.Held.{next_of}
use Rattle.plain_elim.specs.inside.Stages.{after_stages}
use Rattle.plain_elim.proofs.StageLemmas.{if_ok}
use Rattle.plain_elim.proofs.pair_stage.pairs_follow.Goals as goal

pub returns : goal.returns
returns c =
    let column = c.args.column in
    let with = c.args.parts.with.items in
    let without = c.args.parts.without.items in
    let before = after_stages c.args.kept.items in
    let made = c.in_ok-lines.ensures ∙ ap (λ ls. option_map (λ pairs. without ++ pairs) (pairs_at column ls)) c.as_slice.ensures.value in
    if_ok _ (λ (next : Next). (system : System) → next_of system next ≡ follows before (Bounded column with) c.args.made (option_map (λ pairs. without ++ pairs) (pairs_at column with)))
    c.follows.result (λ next h system. h system ∙ ap (follows before (Bounded column with) c.args.made) made) c.follows.ensures
