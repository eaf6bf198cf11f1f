use Rattle.std.proofs.Common.{◌≡◌, ◌∷◌, ◌++◌, [], map, ap, sym, ◌∙◌, rules, arith}
use Rattle.std.specs.List.{range_with_len}
use Rattle.std.proofs.lemmas.List.{map-append}
use Rattle.std.proofs.lemmas.List.FromFn.{map-range_with_len_more}
use Rattle.transition_formula.specs.Forms.{column_form}
use Rattle.transition_formula.specs.Stored.{form_of}
use Rattle.thread_cfg.proofs.along.lines_at_first.Goals as goal

pub columns-preserved : goal.columns-preserved
columns-preserved c =
    let width = c.args.setting.width in
    let column = c.columns.column in
    let line = c.in_ok-column.field-0 in
    let pushed : c.push.new.self.items ≡ c.columns.lines.items ++ line ∷ [] = search rules in
    let made : form_of line ≡ column_form width column = search rules in
    let so_far : map form_of c.columns.lines.items ≡ map (column_form width) (range_with_len 0 column) = c.columns.invariant in
    ap (map form_of) pushed ∙ map-append form_of c.columns.lines.items (line ∷ [])
    ∙ ap (λ forms. forms ++ form_of line ∷ []) so_far ∙ ap (λ form. map (column_form width) (range_with_len 0 column) ++ form ∷ []) made
    ∙ sym (map-range_with_len_more (column_form width) 0 column column (omega arith))
