use Rattle.std.proofs.Common.{◌≡◌, ◌∙◌, ap, arith, ◌++◌, ◌∷◌, length}
use Rattle.std.specs.Prelude.{pos, replicate, slice_set}
use Rattle.lin_rows.specs.System.{IsRowOver}
use Rattle.lin_rows.proofs.Lists.{AllByRecursion-slice_get}
use Rattle.plain_elim.proofs.GivenLines.{given_as_written}
use Rattle.plain_elim.proofs.given.given_numbers.Goals as goal
use Rattle.farkas_cert.proofs.NumberedRows.{numbers_of-place}

pub returns : goal.returns
returns c = λ row is.
    let rows = c.args.rows.now in
    let place = c.args.place in
    let over = AllByRecursion-slice_get (IsRowOver rows.columns) rows.rows place row c.count-total.ensures.named.rows is in
    let width : length row.coefficients ≡ c.columns.result = omega (arith, over.width, c.columns.ensures.columns) in
    let pushed = c.in_ok-push_numbers.ensures.ok ∙ ap (λ more. c.in_ok-numbers.numbers.items ++ more) (numbers_of-place rows.rows place row is) in
    given_as_written row.coefficients row.bound c.columns.result c.count-total.result place c.push_numbers.new.out.len c.in_ok-numbers.numbers.items c.push_numbers.new.out.items
    c.resize.new.self.items width (omega arith) c.in_ok-numbers.ensures.items pushed c.push_numbers.new.out.ok.0 c.in_ok-resize.ensures.items
    ∙ ap (λ n. row.coefficients ++ (row.bound ∷ slice_set (replicate n (pos 0)) place (pos 1))) c.count-total.ensures.count
