use Rattle.std.proofs.Common.{◌≡◌, ◌∙◌, ◌++◌, ◌∷◌, [], sym, ap, map, zero-add, arith}
use Rattle.std.specs.List.{range_with_len}
use Rattle.std.proofs.lemmas.List.FromFn.{map-range_with_len_more}
use Rattle.tableau_elim.specs.declared.variable.Variable.TheVariants.{Column}
use Rattle.tableau_elim.proofs.given.columns_at_places.Goals as goal

pub columns-init : goal.columns-init
columns-init c = c.in_ok-places.ensures.items

pub columns-preserved : goal.columns-preserved
columns-preserved c =
    let k = c.columns.column in
    c.in_ok-push.ensures.items ∙ ap (λ xs. xs ++ Column k ∷ []) c.columns.invariant ∙ sym (map-range_with_len_more Column 0 k k (zero-add k))

pub returns : goal.returns
returns c =
    let all : c.columns.column ≡ c.args.columns = omega (arith, c.columns-test.false, c.columns.auto.column-end) in
    c.columns.invariant ∙ ap (λ n. map Column (range_with_len 0 n)) all
