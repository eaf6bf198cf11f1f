use Rattle.std.proofs.Common.{◌∙◌, ap, sym, ◌++◌, ◌∷◌, [], ◌+◌, get_or}
use Rattle.std.specs.Prelude.{pos}
use Rattle.thr_base.specs.Number.{Fits}
use Rattle.lin_rows.proofs.Lists.{AllByRecursion-at}
use Rattle.lin_rows.proofs.Numbers.{read_back}
use Rattle.farkas_cert.specs.Line.{is_nonzero}
use Rattle.farkas_cert.proofs.ListedPairs.{nonzero_pairs-more, nonzero_pairs-skips, nonzero_pairs-ends}
use Rattle.farkas_cert.proofs.cert.Cert.of_multipliers.Goals as goal
use Rattle.farkas_cert.proofs.cert.Cert.of_multipliers.Goals.{then-is_nonzero+in_ok-push, else-is_nonzero}

pub loop-place-preserved : goal.loop-place-preserved
loop-place-preserved c =
    let ms = c.args.multipliers.now in
    let i = c.loop-place.place in
    let front = c.loop-place.pairs.items in
    let read = read_back (get_or ms i (pos 0)) (AllByRecursion-at Fits ms i (pos 0) c.requires.fit c.loop-place-test.true) in
    let test = ap is_nonzero (sym read) ∙ sym c.is_nonzero.ensures in
    elim c.if-is_nonzero.branch [
      | then-is_nonzero+in_ok-push w ↦ nonzero_pairs-more ms i front c.if-is_nonzero.pairs.items _ c.loop-place-test.true (test ∙ w.if-is_nonzero.true)
          (ap (λ v. v.items) w.pairs-is ∙ w.in_ok-push.ensures.items ∙ ap (λ m. front ++ (i + 1, m) ∷ []) read) c.loop-place.invariant
      | else-is_nonzero w ↦ nonzero_pairs-skips ms i front c.if-is_nonzero.pairs.items _ c.loop-place-test.true (test ∙ w.if-is_nonzero.false) (ap (λ v. v.items) w.pairs-is) c.loop-place.invariant
    ]

pub returns : goal.returns
returns c = c.of.ensures ∙ nonzero_pairs-ends c.args.multipliers.now c.loop-place.place c.loop-place.pairs.items _ c.loop-place-test.false c.loop-place.invariant
