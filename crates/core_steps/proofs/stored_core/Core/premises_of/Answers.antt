use Rattle.std.proofs.Common.{refl, sym, ap, ap₂, ◌∙◌}
use Rattle.thr_base.specs.declared.names.FactId.{FactId}
use Rattle.horn_rules.specs.Instance.{Init, Own, Guar, Env, Inter}
use Rattle.horn_rules.specs.Stored.{instance_of}
use Rattle.core_steps.specs.Course.{opening_of, state_of}
use Rattle.core_steps.proofs.PremiseFacts.{own-id}
use Rattle.core_steps.proofs.stored_core.Core.premises_of.Goals as goal

pub returns-in-Init : goal.returns-in-Init
returns-in-Init c = record { instance = Init c.in-Init.field-0.0; ids_are = ap instance_of (sym c.in-Init.is); first_is = refl; second_is = refl; fit = tt }

pub returns-in_ok-premise-in-Own : goal.returns-in_ok-premise-in-Own
returns-in_ok-premise-in-Own c =
    let o = opening_of c.args.self.now in
    let s = state_of c.args.self.now in
    record {
      instance = Own c.in_ok-premise-in-Own.field-0 c.in-Own.field-1.0;
      ids_are = ap (λ (id : FactId). Own id.0 c.in-Own.field-1.0) c.in_ok-premise-in-Own.ensures.id_is ∙ ap instance_of (sym c.in-Own.is);
      first_is = refl;
      second_is = refl;
      fit = (own-id o s _ c.in_ok-premise-in-Own.field-0 c.in_ok-premise-in-Own.ensures, tt);
    }

pub returns-in_ok-premise-in-Guar : goal.returns-in_ok-premise-in-Guar
returns-in_ok-premise-in-Guar c =
    let o = opening_of c.args.self.now in
    let s = state_of c.args.self.now in
    record {
      instance = Guar c.in_ok-premise-in-Guar.field-0 c.in-Guar.field-1.0;
      ids_are = ap (λ (id : FactId). Guar id.0 c.in-Guar.field-1.0) c.in_ok-premise-in-Guar.ensures.id_is ∙ ap instance_of (sym c.in-Guar.is);
      first_is = refl;
      second_is = refl;
      fit = (own-id o s _ c.in_ok-premise-in-Guar.field-0 c.in_ok-premise-in-Guar.ensures, tt);
    }

pub returns-in_ok-premise-in-Env-2 : goal.returns-in_ok-premise-in-Env-2
returns-in_ok-premise-in-Env-2 c =
    let o = opening_of c.args.self.now in
    let s = state_of c.args.self.now in
    record {
      instance = Env c.in_ok-premise-in-Env.field-0 c.in_ok-premise-in-Env-2.field-0;
      ids_are = ap₂ (λ (f t : FactId). Env f.0 t.0) c.in_ok-premise-in-Env.ensures.id_is c.in_ok-premise-in-Env-2.ensures.id_is ∙ ap instance_of (sym c.in-Env.is);
      first_is = refl;
      second_is = refl;
      fit = (own-id o s _ c.in_ok-premise-in-Env.field-0 c.in_ok-premise-in-Env.ensures, (own-id o s _ c.in_ok-premise-in-Env-2.field-0 c.in_ok-premise-in-Env-2.ensures, tt));
    }

pub returns-in_ok-premise-in-Inter-2 : goal.returns-in_ok-premise-in-Inter-2
returns-in_ok-premise-in-Inter-2 c =
    let o = opening_of c.args.self.now in
    let s = state_of c.args.self.now in
    record {
      instance = Inter c.in_ok-premise-in-Inter.field-0 c.in_ok-premise-in-Inter-2.field-0 c.in-Inter.field-2.0;
      ids_are = ap₂ (λ (f g : FactId). Inter f.0 g.0 c.in-Inter.field-2.0) c.in_ok-premise-in-Inter.ensures.id_is c.in_ok-premise-in-Inter-2.ensures.id_is ∙ ap instance_of (sym c.in-Inter.is);
      first_is = refl;
      second_is = refl;
      fit = (own-id o s _ c.in_ok-premise-in-Inter.field-0 c.in_ok-premise-in-Inter.ensures, (own-id o s _ c.in_ok-premise-in-Inter-2.field-0 c.in_ok-premise-in-Inter-2.ensures, tt));
    }
