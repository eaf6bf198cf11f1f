use Rattle.std.proofs.Common.{◌≡◌, ℕ, Option, Some, None, option_map, slice_get, ap, sym, ◌∙◌}
use Rattle.transition_formula.specs.Program.{Column}
use Rattle.horn_rules.specs.Home.{Home}
use Rattle.horn_rules.specs.Scope.{in_scope}
use Rattle.horn_rules.specs.Stored.{home_of}
use Rattle.horn_rules.proofs.scope.is_in_scope.Goals as goal

-- the owner of a column that is there tells whether it is in the scope
scope-of : (home : Home) (found : Option Column) (owner : Option ℕ) → option_map (λ column. column.owner) found ≡ Some owner
    → option_map (λ column. in_scope home column.owner) found ≡ Some (in_scope home owner)
scope-of home None owner e = absurd cc
scope-of home (Some column) owner e = ap (option_map (in_scope home)) e

pub returns : goal.returns
returns c =
    scope-of (home_of c.args.home) (slice_get c.args.program.now.columns c.args.column) _ c.owner.ensures ∙ ap Some (sym c.is_owner_in_scope.ensures)
