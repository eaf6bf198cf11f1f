use Rattle.std.proofs.Common.{◌≡◌, map}
use Rattle.std.specs.List.{range_with_len}
use Rattle.tableau_elim.specs.declared.variable.Variable.TheVariants.{Column}
use Rattle.tableau_elim.proofs.given.columns_at_places.Given as goal

abbrev pub invariant-columns : goal.invariant-columns
invariant-columns l = l.places.items ≡ map Column (range_with_len 0 l.column)
