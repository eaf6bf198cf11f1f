use Rattle.std.proofs.Common.{◌≡◌, ◌+◌, ◌-◌, ◌≤◌, ◌++◌, length, map, filter}
use Rattle.std.specs.Prelude.{filter_map}
use Rattle.std.specs.List.{range_with_len}
use Rattle.transition_formula.specs.Program.{at_number}
use Rattle.horn_rules.specs.Case.{wider_row}
use Rattle.thr_base.specs.Held.{holds, positions}
use Rattle.thr_base.specs.Limits.{most_predicates}
use Rattle.horn_rules.specs.Fact.{atoms_at}
use Rattle.horn_rules.proofs.premise.push_held.Given as goal

abbrev pub invariant-positions : goal.invariant-positions
invariant-positions l =
    let row = wider_row (l.initial.rows.columns - l.columns) in
    record {
      made : l.rows.rows ++ map row (filter_map (at_number l.atoms) (filter (holds l.held) (range_with_len l.position (most_predicates + 1 - l.position)))) ≡ l.initial.rows.rows ++ map row (atoms_at l.atoms (positions l.held));
      width : l.rows.columns ≡ l.initial.rows.columns;
      room : length l.rows.rows + 1 ≤ length l.initial.rows.rows + l.position;
      from_1 : 1 ≤ l.position;
    }
