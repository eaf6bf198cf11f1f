use Rattle.std.proofs.Common.{◌≡◌, ◌∷◌, ◌++◌, ◌==◌, ◌&&◌, unsigned_abs, ◌∙◌, sym, ◌<◌, ◌≤◌, ◌+◌, [], length, get_or, drop, arith}
use Rattle.std.proofs.lemmas.Option.{get_or_from_slice_get}
use Rattle.std.specs.List.{AllByRecursion}
use Rattle.lin_rows.proofs.Numbers.{read_back}
use Rattle.transition_formula.specs.AtomText.{column_texts}
use Rattle.transition_formula.proofs.AtomTexts.{length-column_texts}
use Rattle.transition_formula.proofs.ColumnTexts.{column_texts-words, column_texts-apart}
use Rattle.transition_formula.proofs.ReadTerms.{ReadsTerm, IsOther, so_far-next, others-of, all-read}
use Rattle.transition_formula.proofs.reading.read_terms.Goals as goal

pub columns-preserved : goal.columns-preserved
columns-preserved c =
    let program = c.args.program.now in
    let texts = column_texts program.columns in
    let i = c.columns.column in
    let name = c.as_slice.result.now in
    let within : i < length texts = omega (arith, length-column_texts program.columns, c.requires) in
    let name-is : get_or texts i [] ≡ name = get_or_from_slice_get texts i c.put_name.new.name.items [] c.in_ok-put_name.ensures.name ∙ sym c.as_slice.ensures.value in
    let others : AllByRecursion (IsOther name) (drop (i + 1) texts) = rw name-is at (others-of texts i (column_texts-words program c.put_name.ensures.program) within
    (λ j later there. column_texts-apart program c.put_name.ensures.program i j later (omega (arith, length-column_texts program.columns)))) in
    let k = c.read_term-coefficient.result.0 in
    let len = c.read_term-coefficient.result.1 in
    let ensured = c.read_term-coefficient.ensures in
    let reads-tail : ReadsTerm c.columns.first name c.behind.result.now k len = record { read = ensured.read; other = ensured.other; end = ensured.end } in
    let reads : ReadsTerm c.columns.first name (drop c.columns.place c.args.text.now) k len = rw c.behind.ensures at reads-tail in
    let short : len ≤ length (drop c.columns.place c.args.text.now) = rw c.behind.ensures at ensured.within in
    let next = so_far-next texts c.args.width c.args.text.now i c.columns.place c.columns.first c.columns.coefficients.items name k len c.columns.invariant c.columns-test.true (omega (arith, length-column_texts program.columns, c.requires)) name-is others reads ensured.fits short in
    let back = read_back k ensured.fits in
    let first_is : c.stays_first-first.result ≡ (c.columns.first && (unsigned_abs k == 0)) = rw back at c.stays_first-first.ensures in
    let read_is : c.push.new.self.items ≡ c.columns.coefficients.items ++ (k ∷ []) = rw back at c.in_ok-push.ensures.items in
    rw (first_is, read_is) next

pub returns-clause-read : goal.returns-clause-read
returns-clause-read c = all-read (column_texts c.args.program.now.columns) c.args.width c.args.text.now c.columns.column c.columns.place c.columns.first _ c.columns.invariant (omega arith)
