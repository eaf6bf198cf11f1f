-- What an answer says, and what stands behind it.
use Rattle.std.specs.Prelude.{⊤}
use Rattle.lin_rows.specs.System.{System, IsRationalPoint}
use Rattle.farkas_cert.specs.Decision.{IsCertificate}
use Rattle.tableau_elim.specs.Rounds.{Outcome}
use Rattle.tableau_elim.specs.Rounds as outcome
use Rattle.tableau_elim.specs.declared.tried.Tried.{Tried}
use Rattle.tableau_elim.specs.declared.tried.Tried.TheVariants as tried

-- the outcome that an answer tells
abbrev pub outcome_in : Tried → Outcome
outcome_in (tried.Refuted cert) = outcome.Refuted cert
outcome_in (tried.Point x d) = outcome.Point x d
outcome_in tried.GaveUp = outcome.GaveUp

-- The evidence in an answer holds of the system; one that gave up has none.
abbrev pub IsEvidence : System → Tried → Type 0
IsEvidence system (tried.Refuted cert) = IsCertificate system cert
IsEvidence system (tried.Point x d) = IsRationalPoint system x d
IsEvidence system tried.GaveUp = ⊤
