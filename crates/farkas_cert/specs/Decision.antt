-- What an answer of a solver says, and what stands behind it.
use Rattle.std.specs.Prelude.{⊤}
use Rattle.lin_rows.specs.System.{System, IsRationalPoint}
use Rattle.farkas_cert.specs.Cert.{Pairs}
use Rattle.farkas_cert.specs.Proof.{Proves}
use Rattle.farkas_cert.specs.Reduced.{IsReduced}
use Rattle.farkas_cert.specs.Elimination.{Outcome}
use Rattle.farkas_cert.specs.Elimination as outcome
use Rattle.farkas_cert.specs.declared.answers.Decided.{Decided}
use Rattle.farkas_cert.specs.declared.answers.Decided.TheVariants as decided

-- the outcome that an answer tells
abbrev pub outcome_in : Decided → Outcome
outcome_in (decided.Refuted cert) = outcome.Refuted cert
outcome_in (decided.Point x d) = outcome.Point x d
outcome_in (decided.Leaves stage kind) = outcome.Leaves stage kind

-- The certificate proves, and has no common divisor.
pub record IsCertificate (system : System) (pairs : Pairs) : Type 0 where
  pub proves : Proves system pairs
  pub reduced : IsReduced pairs

-- The evidence in an answer holds of the system; one that leaves has none.
abbrev pub IsEvidence : System → Decided → Type 0
IsEvidence system (decided.Refuted cert) = IsCertificate system cert
IsEvidence system (decided.Point x d) = IsRationalPoint system x d
IsEvidence system (decided.Leaves stage kind) = ⊤
