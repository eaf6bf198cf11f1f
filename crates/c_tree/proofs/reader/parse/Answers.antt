use Rattle.std.proofs.Common.{ap, sym, ◌∙◌, List, Ok}
use Rattle.c_lex.specs.Tokens.{Lexeme, views}
use Rattle.c_tree.proofs.Refusals.{lexing_stopped}
use Rattle.c_tree.proofs.reader.parse.Goals as goal

pub returns-in-Err-clause-refused : goal.returns-in-Err-clause-refused
returns-in-Err-clause-refused c = lexing_stopped (λ v. views v.items) c.args.text.now c.in-Err.stop c.in-Err.ensures.exact
