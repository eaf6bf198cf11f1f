use Rattle.std.proofs.Common.{◌≡◌, Some, map, rules}
use Rattle.transition_formula.specs.Stored.{form_of}
use Rattle.thread_cfg.specs.inside.Meant.{frame_of}
use Rattle.thread_cfg.specs.inside.Seen.{form_seen}
use Rattle.thread_cfg.proofs.RowLemmas.{form_seen-over}
use Rattle.thread_cfg.proofs.row.row_along.Goals as goal

pub row_by-requires-clause-left : goal.row_by-requires-clause-left
row_by-requires-clause-left c =
    let setting = c.args.setting in
    let forms = map form_of c.args.lines.now in
    let given : form_seen setting.width setting.columns (frame_of setting.frame) forms c.args.left.now ≡ Some (form_of c.in-Some-Some.one) = search rules in
    form_seen-over setting.width setting.columns (frame_of setting.frame) forms c.args.left.now (form_of c.in-Some-Some.one) given c.requires.over

pub row_by-requires-clause-right : goal.row_by-requires-clause-right
row_by-requires-clause-right c =
    let setting = c.args.setting in
    let forms = map form_of c.args.lines.now in
    let given : form_seen setting.width setting.columns (frame_of setting.frame) forms c.args.right.now ≡ Some (form_of c.in-Some-Some.other) = search rules in
    form_seen-over setting.width setting.columns (frame_of setting.frame) forms c.args.right.now (form_of c.in-Some-Some.other) given c.requires.over
