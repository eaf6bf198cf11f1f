use Rattle.std.proofs.lemmas.List.{map-set}
use Rattle.transition_formula.specs.Stored.{form_of}
use Rattle.thread_cfg.proofs.along.put.Goals as goal

pub returns : goal.returns
returns c = map-set form_of c.args.lines.now.items c.args.column c.args.line
