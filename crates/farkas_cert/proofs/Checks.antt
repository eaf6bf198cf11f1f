-- What the answers of a check leave out.
use Rattle.std.proofs.Common.{◌≡◌, ◌⊎◌, ℕ, inl, inr, sym, ◌∙◌, subst}
use Rattle.std.specs.Bool.{⊤}
use Rattle.farkas_cert.specs.declared.answers.CertAnswer.{CertAnswer}
use Rattle.farkas_cert.specs.declared.answers.CertAnswer.TheVariants as answers

-- the answer is that the certificate proves
abbrev IsProof : CertAnswer → Type 0
IsProof answers.Proves = ⊤
IsProof _ = ⊥

-- A failure and an overflow are no proofs.
pub no_proof : (answer : CertAnswer) → (answer ≡ answers.Fails) ⊎ ((row : ℕ) × (column : ℕ) × (answer ≡ answers.Overflow row column)) → answer ≡ answers.Proves → ⊥
no_proof answer (inl is) e = subst IsProof (sym e ∙ is) tt
no_proof answer (inr is) e = subst IsProof (sym e ∙ is.2) tt
