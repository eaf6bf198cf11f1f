use Rattle.std.proofs.Common.{◌≡◌, ◌+◌, ◌<◌, length, get_or, arith}
use Rattle.c_check.specs.Columns.{own_count, threads_from}
use Rattle.c_check.proofs.ColumnLemmas.{length-own_columns_from, threads-more}
use Rattle.c_check.proofs.columns.threads.Goals as goal

pub overflow_add-first : goal.overflow_add-first
overflow_add-first c =
    let at = c.loop-function.function-index in
    let within : at < length c.args.created.now = omega arith in
    let counted = length-own_columns_from c.args.owns.now (at + 1) at c.args.created.now within in
    omega (arith, counted, c.loop-function.invariant.few, c.own_count-first.ensures)

pub loop-function-preserved : goal.loop-function-preserved
loop-function-preserved c =
    let owns = c.args.owns.now in
    let created = c.args.created.now in
    let at = c.loop-function.function-index in
    let within : at < length created = omega arith in
    let counted = length-own_columns_from owns (at + 1) at created within in
    let own : c.own_count-first.result ≡ own_count owns (get_or created at 0) = omega (arith, counted, c.loop-function.invariant.few, c.own_count-first.ensures) in
    record {
      few = omega (arith, counted, c.loop-function.invariant.few, own);
      made = threads-more owns c.loop-function.first c.own_count-first.result at created c.loop-function.threads.items c.push.new.self.items
          (threads_from owns c.args.first created) within own c.in_ok-push.ensures.items c.loop-function.invariant.made;
    }
