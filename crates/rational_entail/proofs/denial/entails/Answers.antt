use Rattle.std.proofs.Common.{sym, subst}
use Rattle.lin_rows.specs.View.{system_of}
use Rattle.farkas_cert.specs.Decision.{IsEvidence}
use Rattle.rational_entail.specs.Entailment.{decided_in}
use Rattle.rational_entail.proofs.Denials.{evidence-says}
use Rattle.rational_entail.proofs.denial.entails.Goals as goal

pub returns-clause-says : goal.returns-clause-says
returns-clause-says c =
    let of_decided = subst (IsEvidence c.with_denial.result) (sym c.entailed_by.ensures) c.in_ok-decided.ensures.evidence in
    evidence-says (system_of c.args.rows.now) c.args.atom.now c.entailed_by.result (subst (λ of. IsEvidence of (decided_in c.entailed_by.result)) c.with_denial.ensures of_decided)
