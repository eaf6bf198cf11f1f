use Rattle.std.proofs.Common.{◌≡◌, Some, map, sym, subst, ℕ, rules}
use Rattle.lin_rows.specs.System.{IsRowOver}
use Rattle.transition_formula.specs.Stored.{form_of}
use Rattle.thread_cfg.specs.inside.Meant.{frame_of}
use Rattle.thread_cfg.specs.inside.Seen.{made_row_of, row_seen}
use Rattle.thread_cfg.proofs.RowLemmas.{row_seen-over}
use Rattle.thread_cfg.proofs.along.Along.require.Goals as goal

pub hold_row-requires-clause-over : goal.hold_row-requires-clause-over
hold_row-requires-clause-over c =
    let setting = c.args.setting in
    let forms = map form_of c.args.self.now.lines.items in
    let row = made_row_of c.in-Some.row in
    let given : row_seen setting.width setting.columns (frame_of setting.frame) forms c.args.relation c.args.left.now c.args.right.now ≡ Some row = search rules in
    subst (λ (width : ℕ). IsRowOver width row) (sym c.requires.over.tests_over)
    (row_seen-over setting.width setting.columns (frame_of setting.frame) forms c.args.relation c.args.left.now c.args.right.now row given c.requires.over.forms_over)
