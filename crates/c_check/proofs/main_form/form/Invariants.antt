use Rattle.std.proofs.Common.{◌≡◌, drop}
use Rattle.c_tree.specs.Seen.{plain_stmts}
use Rattle.c_check.specs.declared.main_form.Phase.TheVariants as phase
use Rattle.c_check.specs.Program.{form_broken}
use Rattle.c_check.proofs.main_form.form.Given as goal

abbrev pub invariant-loop-s : goal.invariant-loop-s
invariant-loop-s l = form_broken l.phase (plain_stmts (drop l.s-index l.ss)) ≡ form_broken phase.Creating (plain_stmts l.ss)
