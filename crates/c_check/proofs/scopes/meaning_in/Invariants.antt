use Rattle.std.proofs.Common.{◌≡◌, take, reverse}
use Rattle.c_check.specs.Scope.{meaning_of}
use Rattle.c_check.proofs.scopes.meaning_in.Given as goal

abbrev pub invariant-loop-scope : goal.invariant-loop-scope
invariant-loop-scope l = l.found ≡ meaning_of l.name (reverse (take l.scope-index l.scopes))
