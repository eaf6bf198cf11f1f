use Rattle.std.proofs.Common.{◌∙◌, sym}
use Rattle.tableau_elim.proofs.Pivots.{changed_same}
use Rattle.tableau_elim.proofs.pivot.Pivot.change.Goals as goal

pub returns-then-is_same : goal.returns-then-is_same
returns-then-is_same c = changed_same _ (record { basic = c.args.basic.now; numbers = c.args.numbers.now }) c.solve.new.numbers (sym c.is_same.ensures ∙ c.if-is_same.true) c.solve.ensures
