use Rattle.lin_rows.specs.View.{system_of}
use Rattle.horn_rules.specs.Case.{placed_at}
use Rattle.abstract_post.specs.inside.Found.{AreDecided}
use Rattle.abstract_post.proofs.deciding.decide_atoms.Given as goal

abbrev pub invariant-atoms : goal.invariant-atoms
invariant-atoms l = AreDecided (system_of l.rows) (placed_at l.before (system_of l.rows).columns) l.atoms l.held l.place
