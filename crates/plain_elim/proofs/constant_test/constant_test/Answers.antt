use Rattle.std.proofs.Common.{◌≡◌, ◌∙◌, ap, sym, length, arith}
use Rattle.std.specs.Prelude.{filter}
use Rattle.farkas_cert.specs.Line.{has_variable}
use Rattle.farkas_cert.specs.Elimination.{Ends}
use Rattle.plain_elim.specs.inside.Held.{work_of, refuted_by}
use Rattle.plain_elim.specs.inside.Stages.{refutation_of}
use Rattle.plain_elim.proofs.ConstantTests.{constant_test-refutes, constant_test-goes}
use Rattle.plain_elim.proofs.constant_test.constant_test.Goals as goal

pub returns-in-Some : goal.returns-in-Some
returns-in-Some c =
    let number : c.len.result ≡ length c.args.work.kept.items = omega (arith, c.len.ensures, c.args.work.kept.ok) in
    ap (λ n. Ends (refuted_by c.args.rows.now c.in-Some.cert n)) number
    ∙ constant_test-refutes c.args.rows.now (length c.args.work.kept.items) (work_of c.args.work) c.in-Some.cert
    (sym c.in-Some.is ∙ c.in_ok-refuted.ensures ∙ ap (refutation_of c.args.rows.now) c.as_slice.ensures.value)

pub returns-in_ok-lines-in-None : goal.returns-in_ok-lines-in-None
returns-in_ok-lines-in-None c =
    constant_test-goes c.args.rows.now (length c.args.work.kept.items) (work_of c.args.work) c.in_ok-lines-in-None.lines.items
    (sym c.in-None.is ∙ c.in_ok-refuted.ensures ∙ ap (refutation_of c.args.rows.now) c.as_slice.ensures.value)
    (c.in_ok-lines-in-None.ensures ∙ ap (λ n. filter (has_variable n) c.args.work.lines.items) c.columns-columns.ensures.columns)
