use Rattle.std.proofs.Common.{length, ap, arith}
use Rattle.c_check.proofs.CheckLemmas.{length-columns}
use Rattle.c_check.proofs.checking.plan.Goals as goal

pub push_threads-requires : goal.push_threads-requires
push_threads-requires c = omega (arith, length-columns c.args.found, ap length c.as_slice-created.ensures, c.requires)

pub push_counters-requires : goal.push_counters-requires
push_counters-requires c = omega (arith, length-columns c.args.found, ap length c.as_slice-created.ensures, c.requires)
