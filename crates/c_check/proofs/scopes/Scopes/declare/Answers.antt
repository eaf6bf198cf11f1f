use Rattle.std.proofs.Common.{reverse, refl, ap, ◌∙◌}
use Rattle.c_check.specs.Scope.{declare}
use Rattle.c_check.specs.declared.scopes.Scopes.TheInside.{Inside}
use Rattle.c_check.proofs.ScopeLemmas.{declare-last, declare-none}
use Rattle.c_check.proofs.scopes.Scopes.declare.Goals as goal
use Rattle.c_check.proofs.scopes.Scopes.declare.Goals.{in-Some+in_ok-declare, in_default}

pub returns : goal.returns
returns c =
    let scopes = c.self.inside.scopes in
    elim c.match-last_mut.branch [
      | in-Some+in_ok-declare w ↦
          ap (λ (s : Inside). reverse s.scopes.items) w.self-inside-is
          ∙ declare-last scopes.items scopes.len w.in-Some.scope.now w.declare.new.self c.args.name.now w.as_slice.result.now c.args.meaning c.args.self.now scopes.ok.0
          (w.in-Some.ensures.variant.0 refl) w.in-Some.ensures.value w.in_ok-declare.ensures w.as_slice.ensures c.self.view_is
      | in_default w ↦
          ap (λ (s : Inside). reverse s.scopes.items) w.self-inside-is
          ∙ declare-none scopes.items scopes.len c.args.name.now c.args.meaning scopes.ok.0 w.in_default.ensures.variant.1 ∙ ap (declare c.args.name.now c.args.meaning) c.self.view_is
    ]
