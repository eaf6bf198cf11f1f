use Rattle.transition_formula.proofs.WorkedProgram.{worked-is}
use Rattle.transition_formula.proofs.worked.two_threads.Goals as goal

pub new-requires : goal.new-requires
new-requires c = rw (c.in_ok-columns.ensures, c.in_ok-threads.ensures) worked-is
