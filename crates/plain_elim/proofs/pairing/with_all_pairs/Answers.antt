use Rattle.std.proofs.Common.{◌∙◌, ap, sym, map, ◌++◌, List, Option, Some}
use Rattle.std.specs.Prelude.{pos, int_lt}
use Rattle.std.specs.Option.{option_map}
use Rattle.farkas_cert.specs.Line.{Line, coefficient_at}
use Rattle.farkas_cert.specs.Elimination.{paired_line, negatives}
use Rattle.plain_elim.specs.inside.Stages.{lines_in}
use Rattle.plain_elim.proofs.Everyone.{flat-more, flat-skips, flat-stops, flat-ends}
use Rattle.plain_elim.proofs.StageLemmas.{pairs_at-is}
use Rattle.plain_elim.proofs.pairing.with_all_pairs.Goals as goal
use Rattle.plain_elim.proofs.pairing.with_all_pairs.Goals.{then-is_positive_at+in_ok-more+in-Some, else-is_positive_at}

pub returns-in-None : goal.returns-in-None
returns-in-None c =
    flat-stops (λ (positive : Line). map (paired_line c.args.column positive) (negatives c.args.column c.args.kept.now)) (λ (line : Line). int_lt (pos 0) (coefficient_at c.args.column line))
    c.args.kept.now c.loop-positive.positive-index c.positive-item.result c.loop-positive.lines.items _ c.loop-positive-test.true c.positive-item.is
    (sym c.is_positive_at.ensures ∙ c.if-is_positive_at.true) (ap lines_in (sym c.in-None.is) ∙ c.in_ok-more.ensures) c.loop-positive.invariant
    ∙ sym (ap (λ (o : Option (List Line)). option_map (λ pairs. c.args.lines.items ++ pairs) o) (pairs_at-is c.args.column c.args.kept.now))

pub loop-positive-preserved : goal.loop-positive-preserved
loop-positive-preserved c =
    let f = λ (positive : Line). map (paired_line c.args.column positive) (negatives c.args.column c.args.kept.now) in
    let p = λ (line : Line). int_lt (pos 0) (coefficient_at c.args.column line) in
    elim c.if-is_positive_at.branch [
      | then-is_positive_at+in_ok-more+in-Some w ↦
          flat-more f p c.args.kept.now c.loop-positive.positive-index c.positive-item.result c.loop-positive.lines.items c.if-is_positive_at.lines.items _
          c.loop-positive-test.true c.positive-item.is (sym c.is_positive_at.ensures ∙ w.if-is_positive_at.true)
          (ap (λ v. lines_in v) (ap Some w.lines-is ∙ sym w.in-Some.is) ∙ w.in_ok-more.ensures) c.loop-positive.invariant
      | else-is_positive_at w ↦
          flat-skips f p c.args.kept.now c.loop-positive.positive-index c.positive-item.result c.loop-positive.lines.items c.if-is_positive_at.lines.items _
          c.loop-positive-test.true c.positive-item.is (sym c.is_positive_at.ensures ∙ w.if-is_positive_at.false) (ap (λ v. v.items) w.lines-is) c.loop-positive.invariant
    ]

pub returns : goal.returns
returns c =
    flat-ends (λ (positive : Line). map (paired_line c.args.column positive) (negatives c.args.column c.args.kept.now)) (λ (line : Line). int_lt (pos 0) (coefficient_at c.args.column line))
    c.args.kept.now c.loop-positive.positive-index c.loop-positive.lines.items _ c.loop-positive-test.false c.loop-positive.invariant
    ∙ sym (ap (λ (o : Option (List Line)). option_map (λ pairs. c.args.lines.items ++ pairs) o) (pairs_at-is c.args.column c.args.kept.now))
