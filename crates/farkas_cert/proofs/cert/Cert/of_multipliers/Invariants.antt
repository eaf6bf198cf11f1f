use Rattle.std.proofs.Common.{◌≡◌, ◌++◌, suc, drop}
use Rattle.farkas_cert.specs.Line as specs
use Rattle.farkas_cert.proofs.cert.Cert.of_multipliers.Given as goal

abbrev pub invariant-loop-place : goal.invariant-loop-place
invariant-loop-place l = l.pairs.items ++ specs.nonzero_pairs (suc l.place) (drop l.place l.multipliers) ≡ specs.nonzero_pairs 1 l.multipliers
