use Rattle.std.proofs.Common.{◌≡◌, ◌∙◌, ◌++◌, ◌-◌, ap, arith, pos, to_z, of_z, rules}
use Rattle.std.specs.Int.{w128}
use Rattle.tableau_elim.proofs.GivenLines.{line_pushed}
use Rattle.tableau_elim.proofs.Multipliers.{get_default}
use Rattle.tableau_elim.proofs.given.push_line.Goals as goal
use Rattle.farkas_cert.proofs.NumberedRows.{numbers_of-place, IsSome-place}

pub overflow_add-place : goal.overflow_add-place
overflow_add-place c = let few = c.requires.named.count in omega arith

pub push_numbers-requires : goal.push_numbers-requires
push_numbers-requires c = IsSome-place c.args.rows.now.rows c.args.place c.requires.within

pub returns-clause-numbers : goal.returns-clause-numbers
returns-clause-numbers c = λ row is.
    let p = c.push.new.self.items in
    let q = c.push_numbers.new.out in
    let pushed = c.in_ok-push_numbers.ensures.ok ∙ ap (λ xs. p ++ xs) (numbers_of-place c.args.rows.now.rows c.args.place row is) in
    let parts = line_pushed c.args.numbers.now.items row.coefficients p q.items row.bound c.len-last.result c.in_ok-push.ensures.items pushed (c.len-last.ensures ∙ q.ok.0) in
    c.truncate.ensures.items ∙ parts.0

pub returns-clause-bound : goal.returns-clause-bound
returns-clause-bound c = λ row is.
    let p = c.push.new.self.items in
    let q = c.push_numbers.new.out in
    let r = c.index-bound.result.now in
    let pushed = c.in_ok-push_numbers.ensures.ok ∙ ap (λ xs. p ++ xs) (numbers_of-place c.args.rows.now.rows c.args.place row is) in
    let parts = line_pushed c.args.numbers.now.items row.coefficients p q.items row.bound c.len-last.result c.in_ok-push.ensures.items pushed (c.len-last.ensures ∙ q.ok.0) in
    let read : to_z w128 (of_z w128 r) ≡ r = search rules in
    read ∙ c.index-bound.ensures ∙ get_default q.items (c.len-last.result - 1) r (pos 0) parts.2 ∙ parts.1
