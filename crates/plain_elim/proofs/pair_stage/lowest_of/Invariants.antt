use Rattle.std.proofs.Common.{◌≡◌, min, drop}
use Rattle.std.specs.Prelude.{fold}
use Rattle.farkas_cert.specs.Line.{lowest_column, lowest_of}
use Rattle.plain_elim.proofs.pair_stage.lowest_of.Given as goal

abbrev pub invariant-loop-line : goal.invariant-loop-line
invariant-loop-line l = fold (λ c line. min c (lowest_column l.columns line)) l.lowest (drop l.line-index l.lines) ≡ lowest_of l.columns l.lines
