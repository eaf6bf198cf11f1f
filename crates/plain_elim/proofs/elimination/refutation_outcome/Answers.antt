use Rattle.std.proofs.Common.{◌≡◌, ◌⊎◌, ℕ, inl, inr, sym, ◌∙◌, subst}
use Rattle.std.specs.Bool.{⊤}
use Rattle.farkas_cert.specs.Proof.{Proves}
use Rattle.farkas_cert.specs.declared.answers.CertAnswer.{CertAnswer}
use Rattle.farkas_cert.specs.declared.answers.CertAnswer.TheVariants as answers
use Rattle.plain_elim.proofs.Stages.{unproved-leaves}
use Rattle.plain_elim.proofs.elimination.refutation_outcome.Goals as goal

abbrev IsProof : CertAnswer → Type 0
IsProof answers.Proves = ⊤
IsProof _ = ⊥

no_proof : (answer : CertAnswer) → (answer ≡ answers.Fails) ⊎ ((row : ℕ) × (column : ℕ) × (answer ≡ answers.Overflow row column)) → answer ≡ answers.Proves → ⊥
no_proof answer (inl is) e = subst IsProof (sym e ∙ is) tt
no_proof answer (inr is) e = subst IsProof (sym e ∙ is.2) tt

pub returns-in-Fails : goal.returns-in-Fails
returns-in-Fails c =
    unproved-leaves c.args.rows.now c.args.cert c.args.number c.requires.widths c.requires.leads
    (λ proves. no_proof c.check_named.result c.in-Fails.is (c.check_named.ensures.proves.1 (subst (Proves c.args.rows.now) (sym c.pairs.ensures) proves)))
