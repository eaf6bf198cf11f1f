use Rattle.std.proofs.Common.{◌≡◌, [], ◌∷◌, map, rules}
use Rattle.transition_formula.specs.Stored.{thread_of}
use Rattle.step_meaning.specs.inside.Adding.{adding_thread}
use Rattle.step_meaning.proofs.AddingProgram.{adding-is}
use Rattle.step_meaning.proofs.tests.adding.Goals as goal

pub new-requires : goal.new-requires
new-requires c =
    let threads_are : map thread_of c.in_ok-threads.threads.items ≡ adding_thread c.args.bound ∷ [] = search (rules, c.in_ok-threads.ensures) in
    rw (c.in_ok-columns.ensures, threads_are) (adding-is c.args.bound c.requires)
