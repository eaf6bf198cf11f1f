use Rattle.std.proofs.Common.{ℕ, ◌++◌, ◌∷◌, [], None, List, ap, ◌∙◌}
use Rattle.c_check.specs.declared.plan.ColumnKind.TheVariants as kind
use Rattle.c_check.specs.declared.plan.Column.{Column}
use Rattle.c_check.specs.Columns.{own_column, temporary_columns}
use Rattle.c_check.proofs.ColumnLemmas.{temporaries-more}
use Rattle.c_check.proofs.columns.push_temporaries.Goals as goal

pub loop-earlier-preserved : goal.loop-earlier-preserved
loop-earlier-preserved c =
    let i = c.args.i in
    let old = c.loop-earlier.columns.items in
    let column = c.in_ok-own_column.ensures ∙ ap (λ (name : List ℕ). own_column i kind.Temporary name None) (c.deref.ensures.value ∙ c.in_ok-name.ensures) in
    temporaries-more i c.loop-earlier.earlier c.args.count old c.push.new.self.items (c.args.columns.now.items ++ temporary_columns i 0 c.args.count) c.loop-earlier-test.true
    (c.in_ok-push.ensures.items ∙ ap (λ (x : Column). old ++ x ∷ []) column) c.loop-earlier.invariant
