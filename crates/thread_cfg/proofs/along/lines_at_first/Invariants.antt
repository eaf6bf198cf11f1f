use Rattle.std.proofs.Common.{◌≡◌, map}
use Rattle.std.specs.List.{range_with_len}
use Rattle.transition_formula.specs.Forms.{column_form}
use Rattle.transition_formula.specs.Stored.{form_of}
use Rattle.thread_cfg.proofs.along.lines_at_first.Given as goal

abbrev pub invariant-columns : goal.invariant-columns
invariant-columns l = map form_of l.lines.items ≡ map (column_form l.setting.width) (range_with_len 0 l.column)
