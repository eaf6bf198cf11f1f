use Rattle.thr_base.proofs.Numbers.{IsTextOf-number_text, number_text-IsTextOf}
use Rattle.thr_base.proofs.number.number_text_is_decimal.Goals as goal

pub returns-clause-is : goal.returns-clause-is
returns-clause-is c = IsTextOf-number_text

pub returns-clause-only : goal.returns-clause-only
returns-clause-only c = number_text-IsTextOf
