use Rattle.std.proofs.Common.{◌++◌, ◌<◌, length, arith}
use Rattle.c_check.specs.Columns.{counters_from}
use Rattle.c_check.proofs.ColumnLemmas.{counters-more}
use Rattle.c_check.proofs.columns.push_counters.Goals as goal

pub loop-function-preserved : goal.loop-function-preserved
loop-function-preserved c =
    let created = c.args.created.now in
    let at = c.loop-function._function-index in
    let within : at < length created = omega arith in
    record {
      number = omega arith;
      made = counters-more c.loop-function.i at created c.loop-function.columns.items c.push_counter.new.columns.items (c.args.columns.now.items ++ counters_from 1 created) within
          c.in_ok-push_counter.ensures c.loop-function.invariant.made;
    }
