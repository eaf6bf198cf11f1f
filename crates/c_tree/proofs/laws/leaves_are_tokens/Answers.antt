use Rattle.std.proofs.Common.{◌≡◌, List, Ok, sym, subst, ◌∙◌}
use Rattle.c_lex.specs.Tokens.{Lexeme}
use Rattle.c_tree.specs.Leaves.{AreLeaves, tree_leaves}
use Rattle.c_tree.specs.Seen.{plain_tree}
use Rattle.c_tree.proofs.Naming.{names_of_text}
use Rattle.c_tree.proofs.SittingParts.{expr_leaves_are}
use Rattle.c_tree.proofs.SittingText.{tree_leaves_are}
use Rattle.c_tree.proofs.laws.leaves_are_tokens.Goals as goal

pub returns-clause-exprs : goal.returns-clause-exprs
returns-clause-exprs c = expr_leaves_are

pub returns-clause-trees : goal.returns-clause-trees
returns-clause-trees c = λ text tree tokens is lexes.
    let same : is.0 ≡ tokens = (let both : Ok is.0 ≡ Ok tokens = sym is.1 ∙ lexes in cc) in
    subst (AreLeaves (tree_leaves (plain_tree tree))) same (tree_leaves_are is.0 tree.items is.2)

pub returns-clause-names : goal.returns-clause-names
returns-clause-names c = names_of_text
