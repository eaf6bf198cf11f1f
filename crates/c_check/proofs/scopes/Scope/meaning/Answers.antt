use Rattle.std.proofs.Common.{ap, ◌∙◌}
use Rattle.c_check.specs.Scope.{in_scope}
use Rattle.c_check.proofs.ScopeLemmas.{lookup-bindings}
use Rattle.c_check.proofs.scopes.Scope.meaning.Goals as goal

pub returns : goal.returns
returns c = c.copied.ensures ∙ c.get.ensures.value ∙ lookup-bindings c.args.name.now c.self.inside.names.entries ∙ ap (in_scope c.args.name.now) c.self.view_is
