use Rattle.horn_rules.proofs.WorkedProgram.{worked-is}
use Rattle.horn_rules.proofs.worked.two_bare_threads.Goals as goal

pub new-requires : goal.new-requires
new-requires c = rw (c.in_ok-columns.ensures, c.in_ok-threads.ensures) worked-is
