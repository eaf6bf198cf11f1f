use Rattle.std.proofs.Common.{◌≡◌, ◌∙◌, Some, Ok, Err, sym, ap, arith}
use Rattle.std.specs.List.{slice_get}
use Rattle.std.proofs.lemmas.Option.{slice_get-get_or}
use Rattle.lin_rows.specs.View.{system_of}
use Rattle.horn_rules.specs.Case.{placed_at}
use Rattle.abstract_post.specs.inside.Found.{Tells}
use Rattle.abstract_post.proofs.Decided.{none-decided, decided-next, left-at}
use Rattle.abstract_post.proofs.deciding.decide_atoms.Goals as goal

pub atoms-init : goal.atoms-init
atoms-init c = none-decided _ _ _

pub returns-in-Err : goal.returns-in-Err
returns-in-Err c =
    let rows = system_of c.args.rows.now in
    let atoms = c.args.atoms.now in
    let atom = c.index-atoms-place.result in
    let at : slice_get atoms c.atoms.place ≡ Some atom = slice_get-get_or atoms c.atoms.place atom (omega arith) ∙ ap (λ a. Some a) (sym c.index-atoms-place.is) in
    let tells : Tells rows (placed_at c.args.before rows.columns atom) (Err c.in-Err.kind) = rw c.in-Err.is at c.in_ok-entailed.ensures in
    left-at rows (placed_at c.args.before rows.columns) atoms c.atoms.held c.atoms.place atom c.in-Err.kind c.requires.decided c.requires.has_point c.atoms.invariant at tells

pub atoms-preserved : goal.atoms-preserved
atoms-preserved c =
    let rows = system_of c.args.rows.now in
    let atoms = c.args.atoms.now in
    let atom = c.index-atoms-place.result in
    let at : slice_get atoms c.atoms.place ≡ Some atom = slice_get-get_or atoms c.atoms.place atom (omega arith) ∙ ap (λ a. Some a) (sym c.index-atoms-place.is) in
    let tells : Tells rows (placed_at c.args.before rows.columns atom) (Ok c.in-Ok.entailed) = rw c.in-Ok.is at c.in_ok-entailed.ensures in
    decided-next rows (placed_at c.args.before rows.columns) atoms c.atoms.held c.with_next-held.result c.atoms.place _ atom c.in-Ok.entailed c.atoms.invariant at tells (omega arith)
    c.with_next-held.ensures.within c.with_next-held.ensures.there c.with_next-held.ensures.others
