use Rattle.std.proofs.Common.{rules, ◌≡◌, ◌<◌, ◌≤◌, [], true, false, is_some, length, refl, sym, subst, arith}
use Rattle.thr_base.specs.Limits.{most_columns}
use Rattle.thr_base.specs.Refusals.{no_thread, too_many}
use Rattle.c_check.specs.Check.{IsRefused}
use Rattle.c_check.specs.inside.Walked.{plan_from}
use Rattle.c_check.proofs.CheckLemmas.{is_accepted, none-if, refused-if_some, refused-no_thread, refused-too_many}
use Rattle.c_check.proofs.checking.refusal.Goals as goal

pub returns-then-is_some-clause-answer : goal.returns-then-is_some-clause-answer
returns-then-is_some-clause-answer c = λ tree found.
    let w = c.args.found.now in
    let some : is_some w.refusal ≡ true = search rules in
    refused-if_some tree w w.refusal refl some found

pub returns-then-is_empty-clause-answer : goal.returns-then-is_empty-clause-answer
returns-then-is_empty-clause-answer c = λ tree found.
    let w = c.args.found.now in
    let none : is_some w.refusal ≡ false = search rules in
    subst (λ place. IsRefused tree (record { code = no_thread; place = place })) (sym c.unwrap_or-place.ensures)
    (refused-no_thread tree w found (none-if w.refusal none) (c.is_empty.ensures.0 c.if-is_empty.true))

pub returns-then-too_many-clause-answer : goal.returns-then-too_many-clause-answer
returns-then-too_many-clause-answer c = λ tree found.
    let w = c.args.found.now in
    let none : is_some w.refusal ≡ false = search rules in
    let some : ¬ (w.created ≡ []) = λ e. (let yes : c.is_empty.result ≡ true = c.is_empty.ensures.1 e in let no_ : c.is_empty.result ≡ false = c.if-is_empty.false in cc) in
    let many : most_columns < length (plan_from w).columns = grind (arith, c.column_count.ensures, c.if-too_many.true) in
    subst (λ place. IsRefused tree (record { code = too_many; place = place })) (sym c.unwrap_or-place.ensures)
    (refused-too_many tree w found (none-if w.refusal none) some many)

pub returns-clause-answer : goal.returns-clause-answer
returns-clause-answer c = λ tree found.
    let w = c.args.found.now in
    let none : is_some w.refusal ≡ false = search rules in
    let some : ¬ (w.created ≡ []) = λ e. (let yes : c.is_empty.result ≡ true = c.is_empty.ensures.1 e in let no_ : c.is_empty.result ≡ false = c.if-is_empty.false in cc) in
    let few : length (plan_from w).columns ≤ most_columns = grind (arith, c.column_count.ensures, c.if-too_many.false) in
    is_accepted tree w found (none-if w.refusal none) some few
