use Rattle.std.proofs.Common.{refl}
use Rattle.c_check.specs.declared.meaning.Variable.TheVariants as variable
use Rattle.c_check.specs.Plan.{Arithmetic}
use Rattle.thread_cfg.specs.Path.{Event}
use Rattle.thread_cfg.proofs.thread.Found.add_read.Goals as goal

pub add_simple-requires : goal.add_simple-requires
add_simple-requires c = record {
  within = (
    c.args.from,
    Event.Sets c.args.from (variable.Own c.args.reading.temporary) (Arithmetic.Value (variable.Shared c.args.number)),
    (refl, refl, refl),
    c.requires.within,
  );
}
