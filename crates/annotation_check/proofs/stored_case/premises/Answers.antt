use Rattle.std.proofs.Common.{Some, None, sym, subst}
use Rattle.horn_rules.specs.Stored.{instance_of}
use Rattle.annotation_check.specs.inside.Cases.{ArePremises}
use Rattle.annotation_check.proofs.Cases.{init-premises, own-premises, guar-premises, env-premises, inter-premises}
use Rattle.annotation_check.proofs.stored_case.premises.Goals as goal

pub returns-in-Init : goal.returns-in-Init
returns-in-Init c = subst (λ i. ArePremises c.args.annotation.now (instance_of i) None None) (sym c.in-Init.is) (init-premises c.args.annotation.now c.in-Init.field-0.0)

pub returns-in_ok-premise-in-Own : goal.returns-in_ok-premise-in-Own
returns-in_ok-premise-in-Own c =
    subst (λ i. ArePremises c.args.annotation.now (instance_of i) (Some c.in_ok-premise-in-Own.field-0) None) (sym c.in-Own.is)
    (own-premises c.args.annotation.now c.in_ok-premise-in-Own.field-0 c.in-Own.f c.in-Own.field-1.0 c.in_ok-premise-in-Own.ensures.id c.in_ok-premise-in-Own.ensures.premise)

pub returns-in_ok-premise-in-Guar : goal.returns-in_ok-premise-in-Guar
returns-in_ok-premise-in-Guar c =
    subst (λ i. ArePremises c.args.annotation.now (instance_of i) (Some c.in_ok-premise-in-Guar.field-0) None) (sym c.in-Guar.is)
    (guar-premises c.args.annotation.now c.in_ok-premise-in-Guar.field-0 c.in-Guar.f c.in-Guar.field-1.0 c.in_ok-premise-in-Guar.ensures.id c.in_ok-premise-in-Guar.ensures.premise)

pub returns-in_ok-second-in-Env : goal.returns-in_ok-second-in-Env
returns-in_ok-second-in-Env c =
    subst (λ i. ArePremises c.args.annotation.now (instance_of i) (Some c.in_ok-first-in-Env.first) (Some c.in_ok-second-in-Env.second)) (sym c.in-Env.is)
    (env-premises c.args.annotation.now c.in_ok-first-in-Env.first c.in_ok-second-in-Env.second c.in-Env.f c.in-Env.t c.in_ok-first-in-Env.ensures.id c.in_ok-second-in-Env.ensures.id
    c.in_ok-first-in-Env.ensures.premise c.in_ok-second-in-Env.ensures.premise)

pub returns-in_ok-second-in-Inter : goal.returns-in_ok-second-in-Inter
returns-in_ok-second-in-Inter c =
    subst (λ i. ArePremises c.args.annotation.now (instance_of i) (Some c.in_ok-first-in-Inter.first) (Some c.in_ok-second-in-Inter.second)) (sym c.in-Inter.is)
    (inter-premises c.args.annotation.now c.in_ok-first-in-Inter.first c.in_ok-second-in-Inter.second c.in-Inter.f c.in-Inter.g c.in-Inter.field-2.0 c.in_ok-first-in-Inter.ensures.id
    c.in_ok-second-in-Inter.ensures.id c.in_ok-first-in-Inter.ensures.premise c.in_ok-second-in-Inter.ensures.premise)
