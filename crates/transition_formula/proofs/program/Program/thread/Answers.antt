use Rattle.std.proofs.Common.{◌≡◌, Some, subst, sym}
use Rattle.std.specs.Option.{IsSome}
use Rattle.transition_formula.specs.Program.{at_number}
use Rattle.transition_formula.specs.Stored.{thread_of}
use Rattle.transition_formula.proofs.Lookups.{numbered-mapped}
use Rattle.transition_formula.proofs.program.Program.thread.Goals as goal

pub returns-clause-thread : goal.returns-clause-thread
returns-clause-thread c =
    let there = subst (λ program. IsSome (at_number program.threads c.args.i.0)) (sym c.self.view_is) c.requires in
    let found = numbered-mapped thread_of c.self.inside.threads.items c.args.i.0 c.index.result.now there c.index.ensures in
    subst (λ program. at_number program.threads c.args.i.0 ≡ Some (thread_of c.index.result.now)) c.self.view_is found
