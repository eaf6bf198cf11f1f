use Rattle.transition_formula.specs.Stored.{thread_of}
use Rattle.transition_formula.proofs.Programs.{counter-within}
use Rattle.transition_formula.proofs.program.Program.counter.Goals as goal

pub returns-clause-within : goal.returns-clause-within
returns-clause-within c = (counter-within c.args.self.now c.args.i.0 (thread_of c.thread.result.now) c.thread.ensures.program c.thread.ensures.thread).1
