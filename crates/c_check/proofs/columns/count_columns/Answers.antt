use Rattle.std.proofs.Common.{◌+◌, ◌-◌, ◌^◌, ◌<◌, min, length, drop, get_or, sym, ap, ◌∙◌, arith}
use Rattle.c_check.specs.Columns.{own_columns_from, own_count}
use Rattle.c_check.proofs.ColumnLemmas.{length-own_columns_from, saturates}
use Rattle.c_check.proofs.columns.count_columns.Goals as goal

pub loop-function-preserved : goal.loop-function-preserved
loop-function-preserved c =
    let owns = c.args.owns.now in
    let created = c.args.created.now in
    let at = c.loop-function.function-index in
    let count = c.loop-function.count in
    let rest = length (own_columns_from owns (at + 1 + 1) (drop (at + 1) created)) in
    let own = own_count owns (get_or created at 0) in
    let within : at < length created = omega arith in
    record {
      small = omega (arith, c.saturating_add-count-in-loop-function.ensures);
      counted =
          ap (λ n. min (n + rest) (2 ^ 64 - 1)) (c.saturating_add-count-in-loop-function.ensures ∙ ap (λ o. min (count + o) (2 ^ 64 - 1)) c.own_count.ensures)
          ∙ saturates count own rest (2 ^ 64 - 1) ∙ ap (λ n. min (count + n) (2 ^ 64 - 1)) (sym (length-own_columns_from owns (at + 1) at created within))
          ∙ c.loop-function.invariant.counted;
    }
