use Rattle.std.proofs.Common.{◌≡◌, length, min, ap, arith}
use Rattle.plain_elim.proofs.Firsts.{has_variable-first}
use Rattle.plain_elim.proofs.line.Line.has_variable.Goals as goal

pub returns : goal.returns
returns c =
    let numbers = c.self.inside.numbers.items in
    let upto : c.min.result ≡ min (length numbers) c.args.columns = omega (arith, c.min.ensures, c.len.ensures, c.self.inside.numbers.ok.0) in
    has_variable-first c.args.columns c.self.inside.first c.min.result numbers c.args.self.now c.self.invariant.first_is upto (ap (λ line. line.numbers) c.self.view_is)
