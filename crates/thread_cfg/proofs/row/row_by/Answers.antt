use Rattle.std.proofs.Common.{◌≡◌, ◌∙◌, Some, negsuc, pos, sym, rules}
use Rattle.transition_formula.specs.Stored.{form_of}
use Rattle.thread_cfg.specs.Edge.{raised}
use Rattle.thread_cfg.proofs.Relations.{raised-over}
use Rattle.thread_cfg.proofs.row.row_by.Goals as goal

pub row_between-requires-in-Some : goal.row_between-requires-in-Some
row_between-requires-in-Some c =
    let given : raised (negsuc 0) c.args.width (form_of c.args.right.now) ≡ Some (form_of c.in-Some.less) = search rules in
    c.requires.left.one_each ∙ sym (raised-over (negsuc 0) c.args.width (form_of c.args.right.now) (form_of c.in-Some.less) given c.requires.right).one_each

pub row_between-requires-in-Some-more : goal.row_between-requires-in-Some-more
row_between-requires-in-Some-more c =
    let given : raised (pos 1) c.args.width (form_of c.args.right.now) ≡ Some (form_of c.in-Some-more.more) = search rules in
    (raised-over (pos 1) c.args.width (form_of c.args.right.now) (form_of c.in-Some-more.more) given c.requires.right).one_each ∙ sym c.requires.left.one_each
