use Rattle.std.proofs.Common.{Some, None, refl, sym, ap, subst, length, ◌∙◌, arith}
use Rattle.horn_rules.specs.Job.{IsOutcome}
use Rattle.abstract_post.specs.declared.deciding.Found.TheVariants as found
use Rattle.abstract_post.proofs.Solved.{within-rows, found-of_case, held-outcome}
use Rattle.abstract_post.proofs.posting.post.Goals as goal

pub solve-requires-clause-within : goal.solve-requires-clause-within
solve-requires-clause-within c =
    let (given, comes) = c.requires.fits in
    within-rows c.atoms_are_placed.ensures c.args.program.now c.args.job given _ _ _ _ _ comes (c.in_ok-rows.ensures given comes) c.view.ensures c.columns.ensures.columns c.in_front-before.ensures (c.atoms.ensures.atoms ∙ c.deref.ensures)

pub new-requires : goal.new-requires
new-requires c =
    let (given, comes) = c.requires.fits in
    let what = rw c.in-Refuted.is at c.in_ok-found.ensures in
    let there = found-of_case c.atoms_are_placed.ensures c.args.program.now c.args.job given _ _ _ _ _ found.Refuted comes (c.in_ok-rows.ensures given comes) c.view.ensures c.columns.ensures.columns c.in_front-before.ensures (c.atoms.ensures.atoms ∙ c.deref.ensures) what in
    subst (λ p. IsOutcome p c.args.job None) (sym c.requires.same) (given, comes, there)

pub new-requires-in-Held : goal.new-requires-in-Held
new-requires-in-Held c =
    let (given, comes) = c.requires.fits in
    let what = rw c.in-Held.is at c.in_ok-found.ensures in
    let there = found-of_case c.atoms_are_placed.ensures c.args.program.now c.args.job given _ _ _ _ _ (found.Held c.in-Held.held) comes (c.in_ok-rows.ensures given comes) c.view.ensures c.columns.ensures.columns c.in_front-before.ensures (c.atoms.ensures.atoms ∙ c.deref.ensures) what in
    let posted = held-outcome c.positions_are_those_held.ensures.exact c.positions_are_those_held.ensures.below given c.args.job.target.value c.in-Held.held
    (omega (arith, c.atoms.ensures.home_set.few, ap length c.deref.ensures)) there in
    subst (λ p. IsOutcome p c.args.job (Some c.in-Held.held)) (sym c.requires.same) (given, comes, posted)

pub returns : goal.returns
returns c =
    let (given, comes) = c.requires.fits in
    let what = rw c.in-Left.is at c.in_ok-found.ensures in
    (refl, (given, comes, found-of_case c.atoms_are_placed.ensures c.args.program.now c.args.job given _ _ _ _ _ (found.Left c.in-Left.kind) comes (c.in_ok-rows.ensures given comes) c.view.ensures c.columns.ensures.columns c.in_front-before.ensures (c.atoms.ensures.atoms ∙ c.deref.ensures) what))
