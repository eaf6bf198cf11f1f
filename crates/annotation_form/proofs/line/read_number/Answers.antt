use Rattle.std.proofs.Common.{◌≡◌, ◌∙◌, ◌<◌, ◌^◌, ℕ, pos, arith, sym, subst}
use Rattle.std.specs.Int.{w32, FitsUnsigned}
use Rattle.std.proofs.lemmas.Int.{ints}
use Rattle.lin_rows.proofs.Numbers.{read_back}
use Rattle.annotation_form.proofs.HomeTexts.{small-fits}
use Rattle.annotation_form.proofs.line.read_number.Goals as goal

FitsUnsigned-small : (n : ℕ) → n < 2 ^ 32 → FitsUnsigned w32 (pos n)
FitsUnsigned-small n small = (omega (arith, ints), omega (arith, ints))

pub returns-in_err-number-clause-none : goal.returns-in_err-number-clause-none
returns-in_err-number-clause-none c = rw c.from_residual.ensures (λ n small is. c.in_err-number.ensures.none (pos n) (small-fits n small) is)

pub returns-in-Err-clause-none : goal.returns-in-Err-clause-none
returns-in-Err-clause-none c = λ n small is.
    let same = c.in_ok-number.ensures.printed (pos n) (small-fits n small) is in
    let number : c.in_ok-number.number ≡ pos n = cc in
    c.in-Err.ensures (subst (FitsUnsigned w32) (sym (read_back c.in_ok-number.number c.in_ok-number.ensures.value.0 ∙ number)) (FitsUnsigned-small n small))
