use Rattle.std.proofs.Common.{◌≡◌, ◌<◌, [], ℕ, List, Some, length, slice_get, Result, Ok, Err, OnOk, sym, subst, arith}
use Rattle.std.proofs.lemmas.Option.{slice_get-get_or}
use Rattle.transition_formula.specs.AtomText.{column_texts}
use Rattle.transition_formula.specs.inside.AtomReading.{IsWord}
use Rattle.transition_formula.proofs.AtomTexts.{length-column_texts}
use Rattle.transition_formula.proofs.ColumnTexts.{column_texts-words}
use Rattle.lin_rows.proofs.Lists.{AllByRecursion-slice_get}
use Rattle.transition_formula.proofs.reading.put_name.Goals as goal

-- what follows where a call succeeds
on_ok : {T E : Type 0} {P Q : Type 0} (r : Result T E) → (P → Q) → OnOk r P → OnOk r Q
on_ok (Ok x) f h = f h
on_ok (Err e) f h = tt

found : (texts : List (List ℕ)) (i : ℕ) (name : List ℕ) → i < length texts → ((text : List ℕ) → slice_get texts i ≡ Some text → name ≡ text) → slice_get texts i ≡ Some name
found texts i name within is =
    let at = slice_get-get_or texts i [] within in
    subst (λ text. slice_get texts i ≡ Some text) (sym (is _ at)) at

pub returns-clause-name : goal.returns-clause-name
returns-clause-name c =
    let columns = c.args.program.now.columns in
    let texts = column_texts columns in
    on_ok c.push_column.result (λ h. found texts c.args.column _ (omega (arith, length-column_texts columns, c.requires)) (λ text at. rw c.clear.ensures.items at (h text at))) c.push_column.ensures.text

pub returns-clause-word : goal.returns-clause-word
returns-clause-word c =
    let columns = c.args.program.now.columns in
    let texts = column_texts columns in
    on_ok c.push_column.result (λ h. AllByRecursion-slice_get IsWord texts c.args.column _ (column_texts-words c.args.program.now c.push_column.ensures.program) (found texts c.args.column _ (omega (arith, length-column_texts columns, c.requires)) (λ text at. rw c.clear.ensures.items at (h text at)))) c.push_column.ensures.text
