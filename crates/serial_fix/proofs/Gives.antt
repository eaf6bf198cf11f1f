-- What an instance that a point allows gives.
use Rattle.std.proofs.Common.{List, ℤ, pos, arith}
use Rattle.std.proofs.lemmas.Int.{ints}
use Rattle.lin_rows.specs.Row.{Meets, MeetsOver}
use Rattle.lin_rows.specs.System.{System, IsPoint}
use Rattle.lin_rows.proofs.Lists.{AllByRecursion-weaken}
use Rattle.farkas_cert.specs.Cert.{IsRefuted}
use Rattle.farkas_cert.proofs.Refutations.{refuted-has-no-point}
use Rattle.lin_rows.proofs.Points.{MeetsOver-one}

pub not-refuted : (system : System) (z : List ℤ) → IsPoint system z → ¬ IsRefuted system
not-refuted system z point refuted = refuted-has-no-point system z (pos 1) refuted record {
  whole = point.whole;
  positive = omega (arith, ints);
  meets = AllByRecursion-weaken (λ row. Meets row z) (λ row. MeetsOver row z (pos 1)) (λ row h. MeetsOver-one row z h) system.rows point.meets;
}
