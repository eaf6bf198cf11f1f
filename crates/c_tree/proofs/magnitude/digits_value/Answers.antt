use Rattle.std.proofs.Common.{sym, ◌∙◌, arith, false-eqb}
use Rattle.c_tree.proofs.Numbers.{value_parsed}
use Rattle.c_tree.proofs.magnitude.digits_value.Goals as goal

pub returns : goal.returns
returns c = c.ok.ensures.value ∙ value_parsed c.args.text.now c.parse.result c.parse.ensures.value.0 (sym c.if-not-are_digits.ensures) (omega (arith, false-eqb _ 0 c.if-is_empty.ensures))
