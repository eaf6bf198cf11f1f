use Rattle.std.proofs.Common.{◌≡◌, ◌⊎◌, ℕ, inl, inr, sym, ◌∙◌, ap, subst}
use Rattle.std.specs.Bool.{⊤}
use Rattle.farkas_cert.specs.Line.{nonzero_pairs}
use Rattle.farkas_cert.specs.Divided.{divided_numbers}
use Rattle.farkas_cert.specs.Proof.{Proves}
use Rattle.farkas_cert.specs.declared.answers.CertAnswer.{CertAnswer}
use Rattle.farkas_cert.specs.declared.answers.CertAnswer.TheVariants as answers
use Rattle.tableau_elim.specs.Rounds.{multipliers}
use Rattle.tableau_elim.specs.inside.Held.{tableau_of}
use Rattle.tableau_elim.specs.inside.Lines.{line_at}
use Rattle.tableau_elim.proofs.Multipliers.{proved_is, unproved_is}
use Rattle.tableau_elim.proofs.refuting.refutation.Goals as goal

abbrev IsProof : CertAnswer → Type 0
IsProof answers.Proves = ⊤
IsProof _ = ⊥

no_proof : (answer : CertAnswer) → (answer ≡ answers.Fails) ⊎ ((row : ℕ) × (column : ℕ) × (answer ≡ answers.Overflow row column)) → answer ≡ answers.Proves → ⊥
no_proof answer (inl is) e = subst IsProof (sym e ∙ is) tt
no_proof answer (inr is) e = subst IsProof (sym e ∙ is.2) tt

pub returns-in-Proves : goal.returns-in-Proves
returns-in-Proves c =
    let rows = c.args.rows.now in
    let places = c.args.tableau.now.places.items in
    let line = line_at c.args.line (tableau_of c.args.tableau.now) in
    let cert = c.in_ok-cert.ensures ∙ ap (λ n. nonzero_pairs 1 (divided_numbers (multipliers c.args.side n places line))) c.count.ensures.count in
    proved_is rows c.args.side places line c.in_ok-cert.cert cert (subst (Proves rows) c.pairs.ensures c.in-Proves.ensures.answer) ∙ sym c.requires.leads

pub returns-in-Fails : goal.returns-in-Fails
returns-in-Fails c =
    let rows = c.args.rows.now in
    let places = c.args.tableau.now.places.items in
    let line = line_at c.args.line (tableau_of c.args.tableau.now) in
    let cert = c.in_ok-cert.ensures ∙ ap (λ n. nonzero_pairs 1 (divided_numbers (multipliers c.args.side n places line))) c.count.ensures.count in
    unproved_is rows c.args.side places line c.in_ok-cert.cert c.requires.widths cert c.requires.leads
    (λ proves. no_proof c.check_named.result c.in-Fails.is (c.check_named.ensures.proves.1 (subst (Proves rows) (sym c.pairs.ensures) proves)))
