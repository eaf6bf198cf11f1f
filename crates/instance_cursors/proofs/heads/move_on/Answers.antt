use Rattle.std.proofs.Common.{◌≡◌, ◌∙◌, List, get_or, set, ap, subst, sym}
use Rattle.instance_cursors.specs.declared.turns.Cursor.{Cursor}
use Rattle.instance_cursors.specs.Cursors.{AreHeads, IsHeadOf, passed_at}
use Rattle.instance_cursors.proofs.StoredCursors.{heads_moved}
use Rattle.instance_cursors.proofs.heads.move_on.Goals as goal

pub returns-clause-heads : goal.returns-clause-heads
returns-clause-heads c = λ old.
    let d : Cursor = c.index-cursor.result.now in
    let there : d ≡ get_or (passed_at c.args.cursors.now.items c.args.at.place c.args.at.turn) c.args.at.place d =
    c.index-cursor.ensures ∙ ap (λ (xs : List Cursor). get_or xs c.args.at.place d) c.pass_at.ensures.cursors in
    let Of : Cursor → Type 0 = λ x. IsHeadOf c.args.layout.now c.args.early.now c.args.facts.now x c.head_of.result in
    let moved = heads_moved c.args.layout.now c.args.early.now c.args.facts.now c.args.cursors.now.items c.args.heads.now.items c.args.at.place c.args.at.turn c.head_of.result d
    c.requires.place (subst Of there c.head_of.ensures) old in
    let Are : List Cursor → Type 0 = λ xs. AreHeads c.args.layout.now c.args.early.now c.args.facts.now xs (set c.args.heads.now.items c.args.at.place c.head_of.result) in
    subst Are (sym c.pass_at.ensures.cursors) moved
