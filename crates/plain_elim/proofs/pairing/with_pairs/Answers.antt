use Rattle.std.proofs.Common.{◌∙◌, ap, sym}
use Rattle.std.specs.Prelude.{pos, int_lt}
use Rattle.farkas_cert.specs.Line.{Line, coefficient_at}
use Rattle.farkas_cert.specs.Elimination.{paired_line}
use Rattle.plain_elim.proofs.Everyone.{mapped-more, mapped-skips, mapped-stops, mapped-ends}
use Rattle.plain_elim.proofs.pairing.with_pairs.Goals as goal
use Rattle.plain_elim.proofs.pairing.with_pairs.Goals.{then-is_negative_at+in_ok-made+in-Some+in_ok-push-in-Some, else-is_negative_at}

pub returns-in-None : goal.returns-in-None
returns-in-None c =
    mapped-stops (paired_line c.args.column c.args.positive.now) (λ (line : Line). int_lt (coefficient_at c.args.column line) (pos 0)) c.args.kept.now c.loop-negative.negative-index
    c.negative-item.result c.loop-negative.lines.items _ c.loop-negative-test.true c.negative-item.is (sym c.is_negative_at.ensures ∙ c.if-is_negative_at.true)
    (sym c.in-None.is ∙ c.in_ok-made.ensures) c.loop-negative.invariant

pub loop-negative-preserved : goal.loop-negative-preserved
loop-negative-preserved c =
    let f = paired_line c.args.column c.args.positive.now in
    let p = λ (line : Line). int_lt (coefficient_at c.args.column line) (pos 0) in
    elim c.if-is_negative_at.branch [
      | then-is_negative_at+in_ok-made+in-Some+in_ok-push-in-Some w ↦
          mapped-more f p c.args.kept.now c.loop-negative.negative-index c.negative-item.result w.in-Some.line c.loop-negative.lines.items c.if-is_negative_at.lines.items _
          c.loop-negative-test.true c.negative-item.is (sym c.is_negative_at.ensures ∙ w.if-is_negative_at.true) (sym w.in-Some.is ∙ w.in_ok-made.ensures)
          (ap (λ v. v.items) w.lines-is ∙ w.in_ok-push-in-Some.ensures.items) c.loop-negative.invariant
      | else-is_negative_at w ↦
          mapped-skips f p c.args.kept.now c.loop-negative.negative-index c.negative-item.result c.loop-negative.lines.items c.if-is_negative_at.lines.items _
          c.loop-negative-test.true c.negative-item.is (sym c.is_negative_at.ensures ∙ w.if-is_negative_at.false) (ap (λ v. v.items) w.lines-is) c.loop-negative.invariant
    ]

pub returns : goal.returns
returns c =
    mapped-ends (paired_line c.args.column c.args.positive.now) (λ (line : Line). int_lt (coefficient_at c.args.column line) (pos 0)) c.args.kept.now c.loop-negative.negative-index
    c.loop-negative.lines.items _ c.loop-negative-test.false c.loop-negative.invariant
