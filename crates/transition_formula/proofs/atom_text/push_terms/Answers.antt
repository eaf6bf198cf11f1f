use Rattle.std.proofs.Common.{◌<◌, [], pos, length, arith}
use Rattle.std.proofs.lemmas.Option.{slice_get-get_or}
use Rattle.lin_rows.proofs.Lists.{AllByRecursion-at}
use Rattle.lin_rows.proofs.Numbers.{read_back}
use Rattle.thr_base.specs.Number.{Fits}
use Rattle.transition_formula.specs.AtomText.{column_texts}
use Rattle.transition_formula.proofs.AtomTexts.{length-column_texts, term-next}
use Rattle.transition_formula.proofs.atom_text.push_terms.Goals as goal

pub terms-preserved : goal.terms-preserved
terms-preserved c =
    let ks = c.args.coefficients.now in
    let texts = column_texts c.args.program.now.columns in
    let i = c.terms.column in
    let within : i < length ks = omega arith in
    let has_text : i < length texts = omega (arith, length-column_texts c.args.program.now.columns) in
    term-next _ _ _ _ _ ks texts i _ within has_text
    (read_back _ (AllByRecursion-at Fits ks i (pos 0) c.requires.fit within))
    (c.in_ok-push_term.ensures _ (slice_get-get_or texts i [] has_text))
    c.stays_first-first.ensures
    c.terms.invariant
