use Rattle.std.proofs.Common.{◌↔◌, drop}
use Rattle.farkas_cert.specs.Cert.{InOrder}
use Rattle.farkas_cert.proofs.cert.is_in_order.Given as goal

abbrev pub invariant-pairs : goal.invariant-pairs
invariant-pairs l = InOrder l.rows.rows l.last (drop l.pair-index l.cert) ↔ InOrder l.rows.rows 0 l.cert
