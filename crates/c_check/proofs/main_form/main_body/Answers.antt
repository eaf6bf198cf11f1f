use Rattle.std.proofs.Common.{◌≡◌, ◌++◌, false, length, drop, map, sym, ap, ap₂, ◌∙◌}
use Rattle.thr_base.specs.Limits.{most_threads}
use Rattle.c_tree.specs.Seen.{plain_block, plain_stmts}
use Rattle.c_check.specs.declared.place.Place.{Place}
use Rattle.c_check.specs.declared.main_form.Phase.TheVariants as phase
use Rattle.c_check.specs.Scope.{Scopes, open_scope}
use Rattle.c_check.specs.Broken.{stmts_broken}
use Rattle.c_check.specs.Program.{created_from, form_broken, too_many_created}
use Rattle.c_check.specs.First.{earlier, first_of}
use Rattle.c_check.specs.inside.Found.{found, stmts_found}
use Rattle.c_check.specs.inside.Main.{stored_creation, too_many_of}
use Rattle.c_check.proofs.FirstOf.{first_of-append}
use Rattle.c_check.proofs.Arms.{whole_found}
use Rattle.c_check.proofs.Creations.{map-created, too_many_of-created}
use Rattle.c_check.proofs.Scoped.{drop-behind_all}
use Rattle.c_check.proofs.main_form.main_body.Goals as goal

pub returns-clause-scopes : goal.returns-clause-scopes
returns-clause-scopes c =
    c.close.ensures ∙ ap (drop 1) c.in_ok-main_statements.ensures.scopes
    ∙ drop-behind_all c.open.new.self (length c.new-body.result.locals) (plain_stmts c.as_slice-ss.result.now) ∙ ap (drop 1) c.in_ok-open.ensures

pub returns-clause-created : goal.returns-clause-created
returns-clause-created c =
    let cs = created_from (open_scope c.args.scopes.now) 0 (plain_block c.args.block.now) in
    let empty : c.new-created.result ++ map stored_creation (created_from c.open.new.self (length c.new-body.result.locals) (plain_stmts c.as_slice-ss.result.now)) ≡ map stored_creation cs =
    rw (c.new-created.ensures, c.new-body.ensures, c.in_ok-open.ensures, c.as_slice-ss.ensures) in
    c.in_ok-created.ensures ∙ ap (map (λ x. x.function)) (c.as_slice-2.ensures ∙ c.in_ok-main_statements.ensures.created ∙ empty) ∙ map-created cs

pub returns-clause-refusal : goal.returns-clause-refusal
unfolding stmts_found found
returns-clause-refusal c =
    let p : Place = record { is_in_thread = false; is_in_atomic = false } in
    let ss : Scopes = open_scope c.args.scopes.now in
    let body = plain_block c.args.block.now in
    let cs = created_from ss 0 body in
    let empty : c.new-created.result ++ map stored_creation (created_from c.open.new.self (length c.new-body.result.locals) (plain_stmts c.as_slice-ss.result.now)) ≡ map stored_creation cs =
    rw (c.new-created.ensures, c.new-body.ensures, c.in_ok-open.ensures, c.as_slice-ss.ensures) in
    let of_body = ap (λ b. b.refusal) (whole_found p ss body c.new-body.ensures c.in_ok-open.ensures (ap plain_stmts c.as_slice-ss.ensures) c.in_ok-main_statements.ensures.body) in
    let of_form = c.form.ensures ∙ ap (λ xs. first_of (form_broken phase.Creating (plain_stmts xs))) c.as_slice-ss.ensures in
    let of_created =
    c.too_many.ensures
    ∙ ap (λ xs. first_of (map too_many_of (drop most_threads xs))) (c.as_slice.ensures ∙ c.in_ok-main_statements.ensures.created ∙ empty) ∙ ap first_of (too_many_of-created cs) in
    c.earlier-refusal.ensures ∙ ap₂ earlier (c.earlier.ensures ∙ ap₂ earlier of_body of_form ∙ sym (first_of-append (stmts_broken p ss 0 body) (form_broken phase.Creating body))) of_created
    ∙ sym (first_of-append (stmts_broken p ss 0 body ++ form_broken phase.Creating body) (too_many_created cs))
