use Rattle.c_tree.proofs.Starts.{expr_starts, assign_starts, call_starts, stmt_starts}
use Rattle.c_tree.proofs.laws.places_are_those_of_first_tokens.Goals as goal

pub returns-clause-exprs : goal.returns-clause-exprs
returns-clause-exprs c = expr_starts

pub returns-clause-stmts : goal.returns-clause-stmts
returns-clause-stmts c = stmt_starts

pub returns-clause-assigns : goal.returns-clause-assigns
returns-clause-assigns c = assign_starts

pub returns-clause-calls : goal.returns-clause-calls
returns-clause-calls c = call_starts
