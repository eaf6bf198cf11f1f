use Rattle.std.proofs.Common.{◌∙◌}
use Rattle.lin_rows.proofs.Numbers.{read_back}
use Rattle.transition_formula.proofs.Words.{factor_at, factor-at_end, factor-within}
use Rattle.transition_formula.proofs.read_term.read_factor.Goals as goal

pub returns-then-star-word-clause-read : goal.returns-then-star-word-clause-read
returns-then-star-word-clause-read c n name some fits is word-is =
    factor-at_end n name c.args.word.now c.until-star.result c.if-star-word.true
    (factor_at n name c.args.word.now c.until-star.result fits is word-is c.until-star.ensures.unmarked c.until-star.ensures.marked)

pub returns-clause-read : goal.returns-clause-read
returns-clause-read c n name some fits is word-is =
    let parts = factor-within n name c.args.word.now c.until-star.result c.number_or_zero.result c.if-star-word.false fits c.number_or_zero.ensures.read
    (factor_at n name c.args.word.now c.until-star.result fits is word-is c.until-star.ensures.unmarked c.until-star.ensures.marked) in
    (read_back c.number_or_zero.result c.number_or_zero.ensures.fits ∙ parts.0, parts.1)
