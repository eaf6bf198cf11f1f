-- The creations of `main`, one statement at a time.
use Rattle.std.specs.Prelude.{ℕ, List, [], ◌∷◌}
use Rattle.thr_base.specs.declared.stops.Refusal.{Refusal}
use Rattle.thr_base.specs.Refusals.{too_many}
use Rattle.c_tree.specs.declared.expr.Name.{Name}
use Rattle.c_tree.specs.Plain as plain
use Rattle.c_check.specs.declared.main_form.Creation.{Creation}
use Rattle.c_check.specs.Scope.{Scopes, function_of}

-- the creation that a statement is, if it is one
abbrev pub creation_in : Scopes → plain.Stmt → List (Name × ℕ)
creation_in ss (plain.Stmt.Calls (plain.Call.Create from handle function)) = (function, function_of ss function) ∷ []
creation_in ss _ = []

-- as the code has it
abbrev pub stored_creation : Name × ℕ → Creation
stored_creation c = record { from = c.0.from; function = c.1 }

-- a creation that is too many
abbrev pub too_many_of : Creation → Refusal
too_many_of c = record { code = too_many; place = c.from }
