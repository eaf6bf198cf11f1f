use Rattle.std.proofs.Common.{◌≡◌, true, false, refl, ap}
use Rattle.c_tree.specs.Seen.{plain_block}
use Rattle.c_check.specs.declared.place.Place.{Place}
use Rattle.c_check.specs.Scope.{open_scope}
use Rattle.c_check.specs.inside.Found.{found, stmts_found}
use Rattle.c_check.proofs.Arms.{whole_found}
use Rattle.c_check.proofs.statements.function_body.Goals as goal

abbrev in_thread : Place
in_thread = record { is_in_thread = true; is_in_atomic = false }

-- what is found of the block
body_is : (c : goal.In_ok-block) → c.block.new.self ≡ stmts_found in_thread (open_scope c.args.scopes.now) 0 (plain_block c.args.block.now)
body_is c = whole_found in_thread (open_scope c.args.scopes.now) (plain_block c.args.block.now) c.new-body.ensures refl refl c.in_ok-block.ensures.body

pub returns-clause-locals : goal.returns-clause-locals
unfolding stmts_found found
returns-clause-locals c = ap (λ b. b.locals) (body_is c)

pub returns-clause-temporaries : goal.returns-clause-temporaries
unfolding stmts_found found
returns-clause-temporaries c = ap (λ b. b.temporaries) (body_is c)

pub returns-clause-code : goal.returns-clause-code
unfolding stmts_found found
returns-clause-code c = ap (λ b. b.code) (body_is c)

pub returns-clause-refusal : goal.returns-clause-refusal
unfolding stmts_found found
returns-clause-refusal c = ap (λ b. b.refusal) (body_is c)
