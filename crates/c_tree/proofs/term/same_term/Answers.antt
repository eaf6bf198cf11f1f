use Rattle.std.proofs.Common.{rules, sym, ◌∙◌}
use denote.Enum.Bare.{same_true}
use Rattle.c_tree.specs.contracts.term.Term.{the_type}
use Rattle.c_tree.specs.Term.{same_term}
use Rattle.c_tree.proofs.term.same_term.Goals as goal

pub returns-clause-value : goal.returns-clause-value
unfolding same_term
returns-clause-value c = search rules

pub returns-clause-same : goal.returns-clause-same
returns-clause-same c is = same_true the_type (search rules) _ _ (sym c.eq.ensures ∙ is)
