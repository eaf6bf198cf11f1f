use Rattle.std.proofs.Common.{◌≡◌, drop}
use Rattle.lin_rows.specs.Row.{multiple_of}
use Rattle.farkas_cert.specs.Line.{all_fit}
use Rattle.plain_elim.proofs.PointColumns.{scaled_to}
use Rattle.plain_elim.proofs.rational_point.scale_all.Given as goal

abbrev pub invariant-numbers : goal.invariant-numbers
invariant-numbers l = record {
  made : l.numbers ≡ scaled_to l.scale l.number-index l.initial.numbers;
  fit : all_fit (multiple_of l.scale l.initial.numbers) ≡ all_fit (multiple_of l.scale (drop l.number-index l.initial.numbers));
}
