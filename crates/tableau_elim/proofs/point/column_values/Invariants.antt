use Rattle.std.proofs.Common.{map}
use Rattle.std.specs.List.{AllByRecursion, range_with_len}
use Rattle.tableau_elim.specs.Rounds.{column_value}
use Rattle.tableau_elim.specs.inside.Held.{tableau_of, fraction_in, IsValue}
use Rattle.tableau_elim.proofs.Every.{IsMaking}
use Rattle.tableau_elim.proofs.point.column_values.Given as goal

abbrev pub invariant-columns : goal.invariant-columns
invariant-columns l = record {
  made : IsMaking (column_value (tableau_of l.tableau)) (range_with_len 0 l.columns) (map fraction_in l.all.items) l.column;
  known : AllByRecursion IsValue l.all.items;
}
