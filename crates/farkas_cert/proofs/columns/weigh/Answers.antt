use Rattle.std.proofs.Common.{sym, ◌∙◌, subst}
use Rattle.farkas_cert.specs.Proof.{products}
use Rattle.farkas_cert.specs.Answer.{IsCertAnswer}
use Rattle.farkas_cert.proofs.NamedRowsLemmas.{HasWidths-named}
use Rattle.farkas_cert.proofs.Totals.{IsCertAnswer-answer_of_weights, answer_of_weights-same}
use Rattle.farkas_cert.proofs.columns.weigh.Goals as goal

pub returns : goal.returns
returns c =
    let system = c.args.rows.now in
    let pairs = c.args.cert.now in
    let same = answer_of_weights-same (products system.rows pairs) _ _ _ _ _ c.coefficients_weighed-seen.ensures c.columns-columns.ensures.columns c.column_sum.ensures in
    subst (IsCertAnswer system pairs) (sym (c.answer_by.ensures ∙ same)) (IsCertAnswer-answer_of_weights system pairs (HasWidths-named system c.columns-columns.ensures.named) c.requires)
