use Rattle.std.proofs.Common.{◌≡◌, ◌+◌, ◌<◌, length, arith, subst}
use Rattle.std.proofs.lemmas.Result.{err_from_is_err_and}
use Rattle.derivation_tree.specs.Kept.{kept_facts_of}
use Rattle.cex_tree.specs.inside.Growing.{tree_at}
use Rattle.cex_tree.proofs.KeptTrees.{grows, stands}
use Rattle.cex_tree.proofs.Shapes.{size-positive, pushed-room}
use Rattle.cex_tree.proofs.PushAnswers.{init-target, init-answer, own-target, own-stop, own-answer, guar-target, guar-stop, guar-answer, env-target, env-room, env-stop, env-stop_beside, env-answer, inter-target, inter-room, inter-stop, inter-stop_beside, inter-answer}
use Rattle.cex_tree.proofs.growing.+push_tree.Goals as goal

pub returns-then-len-owed : goal.returns-then-len-owed
returns-then-len-owed t c = let some = size-positive (tree_at (kept_facts_of c.args.program.now c.args.facts.now) c.args.id.0) in omega arith

pub instance_at-instance-requires : goal.instance_at-instance-requires
instance_at-instance-requires t c = stands c.args.program.now c.args.facts.now c.args.id.0 c.requires.there

pub init_node-requires : goal.init_node-requires
init_node-requires t c = init-target c.args.program.now c.args.facts.now c.args.id.0 c.in-Init.i c.requires.kept c.requires.there c.in-Init.ensures

pub returns-in-Init : goal.returns-in-Init
returns-in-Init t c =
    let few : length c.args.nodes.now.items + c.args.owed < c.args.limit = omega arith in
    init-answer c.args.program.now c.args.facts.now c.args.id.0 c.in-Init.i c.args.owed c.args.limit c.args.nodes.now.items c.push_node.new.nodes.items c.init_node.result c.push_node.result c.requires.kept c.requires.there c.in-Init.ensures few c.init_node.ensures c.push_node.ensures

pub push_tree-requires : goal.push_tree-requires
push_tree-requires t c =
    let grown = grows c.args.program.now c.args.facts.now c.args.id.0 _ c.requires.kept c.in-Own.ensures in
    let same : c.args.id.0 ≡ t = c.decreases in
    (subst (λ n. c.in-Own.f.0 < n) same grown.0.less, (c.requires.kept, (grown.0.there, omega arith)))

pub returns-in_err-first-in-Own : goal.returns-in_err-first-in-Own
returns-in_err-first-in-Own t c =
    let p = err_from_is_err_and c.from_residual.result c.from_residual.ensures.1 in
    rw (p.1, p.2) (own-stop c.args.program.now c.args.facts.now c.args.id.0 c.in-Own.f c.in-Own.e c.args.owed c.args.limit c.args.nodes.now.items c.push_tree.new.nodes.items c.push_tree.new.nodes.items c.in_err-first-in-Own.field-0.0 c.requires.kept c.in-Own.ensures c.in_err-first-in-Own.ensures)

pub step_node-requires-clause-target : goal.step_node-requires-clause-target
step_node-requires-clause-target t c =
    own-target c.args.program.now c.args.facts.now c.args.id.0 c.in-Own.f c.in-Own.e (c.args.owed + 1) c.args.limit c.args.nodes.now.items c.push_tree.new.nodes.items c.in_ok-first-in-Own.first c.requires.kept c.requires.there c.in-Own.ensures c.in_ok-first-in-Own.ensures

pub returns-in_ok-first-in-Own : goal.returns-in_ok-first-in-Own
returns-in_ok-first-in-Own t c =
    own-answer c.args.program.now c.args.facts.now c.args.id.0 c.in-Own.f c.in-Own.e c.args.owed c.args.limit c.args.nodes.now.items c.push_tree.new.nodes.items c.push_node-in-Own.new.nodes.items c.in_ok-first-in-Own.first c.step_node.result c.push_node-in-Own.result
    c.requires.kept c.requires.there c.in-Own.ensures c.in_ok-first-in-Own.ensures c.step_node.ensures c.push_node-in-Own.ensures

pub push_tree-requires-in-Guar : goal.push_tree-requires-in-Guar
push_tree-requires-in-Guar t c =
    let grown = grows c.args.program.now c.args.facts.now c.args.id.0 _ c.requires.kept c.in-Guar.ensures in
    let same : c.args.id.0 ≡ t = c.decreases in
    (subst (λ n. c.in-Guar.f.0 < n) same grown.0.less, (c.requires.kept, (grown.0.there, omega arith)))

pub returns-in_err-first-in-Guar : goal.returns-in_err-first-in-Guar
returns-in_err-first-in-Guar t c =
    let p = err_from_is_err_and c.from_residual-in_err-first-in-Guar.result c.from_residual-in_err-first-in-Guar.ensures.1 in
    rw (p.1, p.2) (guar-stop c.args.program.now c.args.facts.now c.args.id.0 c.in-Guar.f c.in-Guar.e c.args.owed c.args.limit c.args.nodes.now.items c.push_tree-in-Guar.new.nodes.items c.push_tree-in-Guar.new.nodes.items c.in_err-first-in-Guar.field-0.0 c.requires.kept c.in-Guar.ensures c.in_err-first-in-Guar.ensures)

pub step_node-requires-in-Guar-clause-target : goal.step_node-requires-in-Guar-clause-target
step_node-requires-in-Guar-clause-target t c =
    guar-target c.args.program.now c.args.facts.now c.args.id.0 c.in-Guar.f c.in-Guar.e (c.args.owed + 1) c.args.limit c.args.nodes.now.items c.push_tree-in-Guar.new.nodes.items c.in_ok-first-in-Guar.first c.requires.kept c.requires.there c.in-Guar.ensures c.in_ok-first-in-Guar.ensures

pub returns-in_ok-first-in-Guar : goal.returns-in_ok-first-in-Guar
returns-in_ok-first-in-Guar t c =
    guar-answer c.args.program.now c.args.facts.now c.args.id.0 c.in-Guar.f c.in-Guar.e c.args.owed c.args.limit c.args.nodes.now.items c.push_tree-in-Guar.new.nodes.items c.push_node-in-Guar.new.nodes.items c.in_ok-first-in-Guar.first c.step_node-in-Guar.result c.push_node-in-Guar.result
    c.requires.kept c.requires.there c.in-Guar.ensures c.in_ok-first-in-Guar.ensures c.step_node-in-Guar.ensures c.push_node-in-Guar.ensures

pub push_tree-requires-in-Env : goal.push_tree-requires-in-Env
push_tree-requires-in-Env t c =
    let grown = grows c.args.program.now c.args.facts.now c.args.id.0 _ c.requires.kept c.in-Env.ensures in
    let same : c.args.id.0 ≡ t = c.decreases in
    (subst (λ n. c.in-Env.f.0 < n) same grown.0.less, (c.requires.kept, (grown.0.there, omega arith)))

pub push_tree-requires-in-Env-2 : goal.push_tree-requires-in-Env-2
push_tree-requires-in-Env-2 t c =
    let grown = grows c.args.program.now c.args.facts.now c.args.id.0 _ c.requires.kept c.in-Env.ensures in
    let same : c.args.id.0 ≡ t = c.decreases in
    (subst (λ n. c.in-Env.t.0 < n) same grown.1.less, (c.requires.kept, (grown.1.there, pushed-room c.args.program.now (tree_at (kept_facts_of c.args.program.now c.args.facts.now) c.in-Env.f.0) (c.args.owed + 1) c.args.limit c.args.nodes.now.items c.push_tree-in-Env.new.nodes.items c.in_ok-first-in-Env.first c.in_ok-first-in-Env.ensures)))

pub returns-in_err-first-in-Env : goal.returns-in_err-first-in-Env
returns-in_err-first-in-Env t c =
    let p = err_from_is_err_and c.from_residual-in_err-first-in-Env.result c.from_residual-in_err-first-in-Env.ensures.1 in
    rw (p.1, p.2) (env-stop c.args.program.now c.args.facts.now c.args.id.0 c.in-Env.f c.in-Env.t c.args.owed c.args.limit c.args.nodes.now.items c.push_tree-in-Env.new.nodes.items c.push_tree-in-Env.new.nodes.items c.in_err-first-in-Env.field-0.0 c.requires.kept c.in-Env.ensures c.in_err-first-in-Env.ensures)

pub returns-in_err-second-in-Env : goal.returns-in_err-second-in-Env
returns-in_err-second-in-Env t c =
    let p = err_from_is_err_and c.from_residual-in_err-second-in-Env.result c.from_residual-in_err-second-in-Env.ensures.1 in
    rw (p.1, p.2) (env-stop_beside c.args.program.now c.args.facts.now c.args.id.0 c.in-Env.f c.in-Env.t c.args.owed c.args.limit c.args.nodes.now.items c.push_tree-in-Env.new.nodes.items c.push_tree-in-Env-2.new.nodes.items c.push_tree-in-Env-2.new.nodes.items c.in_ok-first-in-Env.first c.in_err-second-in-Env.field-0.0
    c.requires.kept c.in-Env.ensures c.in_ok-first-in-Env.ensures c.in_err-second-in-Env.ensures)

pub beside_node-node-requires-clause-target : goal.beside_node-node-requires-clause-target
beside_node-node-requires-clause-target t c =
    env-target c.args.program.now c.args.facts.now c.args.id.0 c.in-Env.f c.in-Env.t (c.args.owed + 1) c.args.limit c.args.nodes.now.items c.push_tree-in-Env.new.nodes.items c.push_tree-in-Env-2.new.nodes.items c.in_ok-first-in-Env.first c.in_ok-second-in-Env.second
    c.requires.kept c.requires.there c.in-Env.ensures c.in_ok-first-in-Env.ensures c.in_ok-second-in-Env.ensures

pub beside_node-node-requires-clause-room : goal.beside_node-node-requires-clause-room
beside_node-node-requires-clause-room t c =
    let room = env-room c.args.program.now c.args.facts.now c.in-Env.f c.in-Env.t (c.args.owed + 1) c.args.limit c.args.nodes.now.items c.push_tree-in-Env.new.nodes.items c.push_tree-in-Env-2.new.nodes.items c.in_ok-first-in-Env.first c.in_ok-second-in-Env.second
    c.in_ok-first-in-Env.ensures c.in_ok-second-in-Env.ensures (omega arith) in
    omega arith

pub returns-in_ok-second-in-Env : goal.returns-in_ok-second-in-Env
returns-in_ok-second-in-Env t c =
    env-answer c.args.program.now c.args.facts.now c.args.id.0 c.in-Env.f c.in-Env.t c.args.owed c.args.limit c.args.nodes.now.items c.push_tree-in-Env.new.nodes.items c.push_tree-in-Env-2.new.nodes.items c.push_node-in-Env.new.nodes.items c.in_ok-first-in-Env.first c.in_ok-second-in-Env.second c.beside_node-node.result c.place_of.result c.push_node-in-Env.result c.place_of.ensures
    c.requires.kept c.requires.there c.in-Env.ensures c.in_ok-first-in-Env.ensures c.in_ok-second-in-Env.ensures c.beside_node-node.ensures c.push_node-in-Env.ensures

pub push_tree-requires-in-Inter : goal.push_tree-requires-in-Inter
push_tree-requires-in-Inter t c =
    let grown = grows c.args.program.now c.args.facts.now c.args.id.0 _ c.requires.kept c.in-Inter.ensures in
    let same : c.args.id.0 ≡ t = c.decreases in
    (subst (λ n. c.in-Inter.f.0 < n) same grown.0.less, (c.requires.kept, (grown.0.there, omega arith)))

pub push_tree-requires-in-Inter-2 : goal.push_tree-requires-in-Inter-2
push_tree-requires-in-Inter-2 t c =
    let grown = grows c.args.program.now c.args.facts.now c.args.id.0 _ c.requires.kept c.in-Inter.ensures in
    let same : c.args.id.0 ≡ t = c.decreases in
    (subst (λ n. c.in-Inter.g.0 < n) same grown.1.less, (c.requires.kept, (grown.1.there, pushed-room c.args.program.now (tree_at (kept_facts_of c.args.program.now c.args.facts.now) c.in-Inter.f.0) (c.args.owed + 1) c.args.limit c.args.nodes.now.items c.push_tree-in-Inter.new.nodes.items c.in_ok-first-in-Inter.first c.in_ok-first-in-Inter.ensures)))

pub returns-in_err-first-in-Inter : goal.returns-in_err-first-in-Inter
returns-in_err-first-in-Inter t c =
    let p = err_from_is_err_and c.from_residual-in_err-first-in-Inter.result c.from_residual-in_err-first-in-Inter.ensures.1 in
    rw (p.1, p.2) (inter-stop c.args.program.now c.args.facts.now c.args.id.0 c.in-Inter.f c.in-Inter.g c.in-Inter.e c.args.owed c.args.limit c.args.nodes.now.items c.push_tree-in-Inter.new.nodes.items c.push_tree-in-Inter.new.nodes.items c.in_err-first-in-Inter.field-0.0 c.requires.kept c.in-Inter.ensures c.in_err-first-in-Inter.ensures)

pub returns-in_err-second-in-Inter : goal.returns-in_err-second-in-Inter
returns-in_err-second-in-Inter t c =
    let p = err_from_is_err_and c.from_residual-in_err-second-in-Inter.result c.from_residual-in_err-second-in-Inter.ensures.1 in
    rw (p.1, p.2) (inter-stop_beside c.args.program.now c.args.facts.now c.args.id.0 c.in-Inter.f c.in-Inter.g c.in-Inter.e c.args.owed c.args.limit c.args.nodes.now.items c.push_tree-in-Inter.new.nodes.items c.push_tree-in-Inter-2.new.nodes.items c.push_tree-in-Inter-2.new.nodes.items c.in_ok-first-in-Inter.first c.in_err-second-in-Inter.field-0.0
    c.requires.kept c.in-Inter.ensures c.in_ok-first-in-Inter.ensures c.in_err-second-in-Inter.ensures)

pub beside_node-node-requires-in-Inter-clause-target : goal.beside_node-node-requires-in-Inter-clause-target
beside_node-node-requires-in-Inter-clause-target t c =
    inter-target c.args.program.now c.args.facts.now c.args.id.0 c.in-Inter.f c.in-Inter.g c.in-Inter.e (c.args.owed + 1) c.args.limit c.args.nodes.now.items c.push_tree-in-Inter.new.nodes.items c.push_tree-in-Inter-2.new.nodes.items c.in_ok-first-in-Inter.first c.in_ok-second-in-Inter.second
    c.requires.kept c.requires.there c.in-Inter.ensures c.in_ok-first-in-Inter.ensures c.in_ok-second-in-Inter.ensures

pub beside_node-node-requires-in-Inter-clause-room : goal.beside_node-node-requires-in-Inter-clause-room
beside_node-node-requires-in-Inter-clause-room t c =
    let room = inter-room c.args.program.now c.args.facts.now c.in-Inter.f c.in-Inter.g (c.args.owed + 1) c.args.limit c.args.nodes.now.items c.push_tree-in-Inter.new.nodes.items c.push_tree-in-Inter-2.new.nodes.items c.in_ok-first-in-Inter.first c.in_ok-second-in-Inter.second
    c.in_ok-first-in-Inter.ensures c.in_ok-second-in-Inter.ensures (omega arith) in
    omega arith

pub returns-in_ok-second-in-Inter : goal.returns-in_ok-second-in-Inter
returns-in_ok-second-in-Inter t c =
    inter-answer c.args.program.now c.args.facts.now c.args.id.0 c.in-Inter.f c.in-Inter.g c.in-Inter.e c.args.owed c.args.limit c.args.nodes.now.items c.push_tree-in-Inter.new.nodes.items c.push_tree-in-Inter-2.new.nodes.items c.push_node-in-Inter.new.nodes.items c.in_ok-first-in-Inter.first c.in_ok-second-in-Inter.second c.beside_node-node-in-Inter.result c.push_node-in-Inter.result
    c.requires.kept c.requires.there c.in-Inter.ensures c.in_ok-first-in-Inter.ensures c.in_ok-second-in-Inter.ensures c.beside_node-node-in-Inter.ensures c.push_node-in-Inter.ensures
