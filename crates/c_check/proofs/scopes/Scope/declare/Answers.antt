use Rattle.std.proofs.Common.{◌≡◌, true, false, is_some, sym, ap, ◌∙◌}
use Rattle.c_check.specs.Scope.{in_scope}
use Rattle.c_check.proofs.ScopeLemmas.{bindings, lookup-bindings, with_name-insert_entry, with_name-old}
use Rattle.c_check.proofs.scopes.Scope.declare.Goals as goal

pub returns-in_ok-insert : goal.returns-in_ok-insert
returns-in_ok-insert c =
    let name = c.args.name.now in
    let found : c.contains_key.result ≡ is_some (in_scope name c.args.self.now) =
    c.contains_key.ensures ∙ ap is_some (lookup-bindings name c.self.inside.names.entries ∙ ap (in_scope name) c.self.view_is) in
    let absent : is_some (in_scope name c.args.self.now) ≡ false = sym found ∙ c.if-not-contains_key.true in
    ap bindings c.in_ok-insert.ensures.entries
    ∙ with_name-insert_entry c.in_ok-from_slice.field-0 name c.args.meaning c.self.inside.names.entries c.args.self.now c.in_ok-from_slice.ensures.items c.self.view_is absent

pub returns-else-not-contains_key : goal.returns-else-not-contains_key
returns-else-not-contains_key c =
    let name = c.args.name.now in
    let found : c.contains_key.result ≡ is_some (in_scope name c.args.self.now) =
    c.contains_key.ensures ∙ ap is_some (lookup-bindings name c.self.inside.names.entries ∙ ap (in_scope name) c.self.view_is) in
    let here : is_some (in_scope name c.args.self.now) ≡ true = sym found ∙ c.if-not-contains_key.false in
    sym (with_name-old name c.args.meaning c.args.self.now here)
