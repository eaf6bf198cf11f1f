use Rattle.c_lex.specs.Tokens.{views}
use Rattle.c_tree.proofs.Trees.{tree_given, tree_is_of}
use Rattle.c_tree.proofs.Refusals.{refusal_given}
use Rattle.c_tree.proofs.reader.parse_tokens.Goals as goal

pub returns-clause-tree : goal.returns-clause-tree
returns-clause-tree c = tree_is_of c.args.text.now c.tree_of.result (tree_given c.args.text.now (views c.args.tokens.now) c.tree_of.result c.requires.tokens c.tree_of.ensures)

pub returns-clause-refused : goal.returns-clause-refused
returns-clause-refused c = refusal_given c.args.text.now c.tree_of.result (tree_given c.args.text.now (views c.args.tokens.now) c.tree_of.result c.requires.tokens c.tree_of.ensures)
