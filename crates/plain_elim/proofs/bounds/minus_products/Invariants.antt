use Rattle.std.proofs.Common.{◌≡◌, drop, length}
use Rattle.thr_base.specs.Number.{Fits}
use Rattle.farkas_cert.specs.BackSubstitution.{minus_products}
use Rattle.plain_elim.proofs.PointBounds.{others}
use Rattle.plain_elim.proofs.bounds.minus_products.Given as goal

abbrev pub invariant-places : goal.invariant-places
invariant-places l = record {
  fits : Fits l.left;
  rest : minus_products l.left (drop l.place (others (length l.numerators) l.column l.numbers)) (drop l.place l.numerators)
      ≡ minus_products l.total (others (length l.numerators) l.column l.numbers) l.numerators;
}
