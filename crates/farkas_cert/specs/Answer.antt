-- When each answer of a check comes.
use Rattle.std.specs.Prelude.{◌≡◌, ◌⊎◌, ℤ, List, Some, None}
use Rattle.std.specs.List.{AllByRecursion}
use Rattle.lin_rows.specs.System.{System}
use Rattle.farkas_cert.specs.Cert.{Pairs, InOrder, IsContradiction, weighted_sum}
use Rattle.farkas_cert.specs.Proof.{Proves, overflow_of}
use Rattle.farkas_cert.specs.Point.{Passes, Breaks, IsFirstRow, row_overflow}
use Rattle.farkas_cert.specs.declared.answers.CertAnswer.{CertAnswer}
use Rattle.farkas_cert.specs.declared.answers.CertAnswer.TheVariants as certificate
use Rattle.farkas_cert.specs.declared.answers.PointAnswer.{PointAnswer}
use Rattle.farkas_cert.specs.declared.answers.PointAnswer.TheVariants as point

-- First the order of the pairs is looked at, then what fits, then whether the sum is a contradiction.
abbrev pub IsCertAnswer : System → Pairs → CertAnswer → Type 0
IsCertAnswer system pairs certificate.Proves = Proves system pairs
IsCertAnswer system pairs certificate.Fails =
    (¬ InOrder system.rows 0 pairs) ⊎ ((overflow_of system.rows pairs ≡ None) × (¬ IsContradiction (weighted_sum system.rows pairs)))
IsCertAnswer system pairs (certificate.Overflow row column) =
    InOrder system.rows 0 pairs × (overflow_of system.rows pairs ≡ Some (row, column))

-- Row by row; the first that fails or does not fit is named.
abbrev pub IsPointAnswer : System → List ℤ → ℤ → PointAnswer → Type 0
IsPointAnswer system x d point.Meets = AllByRecursion (Passes x d) system.rows
IsPointAnswer system x d (point.Fails row) = IsFirstRow (Breaks x d) x d system.rows row
IsPointAnswer system x d (point.Overflow row column) = IsFirstRow (λ r. row_overflow x d r ≡ Some column) x d system.rows row
