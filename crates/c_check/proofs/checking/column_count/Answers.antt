use Rattle.std.proofs.Common.{◌≡◌, ◌+◌, ◌-◌, ◌^◌, min, length, sym, ap, ◌∙◌, arith}
use Rattle.c_check.specs.Columns.{own_columns_from}
use Rattle.c_check.proofs.CheckLemmas.{capped, length-columns}
use Rattle.c_check.proofs.checking.column_count.Goals as goal

pub returns : goal.returns
returns c =
    let w = c.args.found.now in
    let most = 2 ^ 64 - 1 in
    let shared : c.saturating_add-shared.result ≡ min (length w.variables + length w.locks) most = omega (arith, c.saturating_add-shared.ensures, c.len.ensures, c.len-2.ensures) in
    c.count_columns.ensures
    ∙ (λ i. min (shared i + (length (own_columns_from (c.as_slice.ensures i) 1 (c.as_slice-2.ensures i)) + length (c.as_slice-2.ensures i))) most)
    ∙ capped (length w.variables + length w.locks) (length (own_columns_from w.owns 1 w.created) + length w.created) most
    ∙ ap (λ n. min n most) (sym (length-columns w))
