use Rattle.std.proofs.Common.{◌∙◌}
use Rattle.lin_rows.proofs.Numbers.{read_back}
use Rattle.transition_formula.proofs.Numbers.{set_among}
use Rattle.transition_formula.proofs.blocks.push_unit.Goals as goal

pub returns : goal.returns
returns c = set_among _ _ c.args.count c.len-start.result c.args.place c.args.number _ c.in_ok-push_zeros.ensures (c.len-start.ensures ∙ c.args.row.now.ok.0) (read_back c.args.number c.requires.fits)
