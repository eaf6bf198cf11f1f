use Rattle.std.proofs.Common.{OnOk, ap, refl, subst, sym, ◌∙◌}
use Rattle.thread_cfg.specs.Path.{Event}
use Rattle.thread_cfg.specs.inside.Adds.{AddsActions, AreWithin, actions_of_part}
use Rattle.thread_cfg.specs.inside.Passing.{written_of}
use Rattle.thread_cfg.proofs.WrittenLemmas.{is-AssignAny, is-Choice, is-Compare, is-Jump, is-Unlock}
use Rattle.thread_cfg.proofs.thread.Found.add_part.Goals as goal

pub add_simple-requires : goal.add_simple-requires
add_simple-requires c =
    let p = c.requires.within.0 in
    let same = is-AssignAny _ _ _ p (sym (ap written_of c.in-AssignAny.is) ∙ c.requires.within.1) in
    record {
      within = (
        c.in-AssignAny.field-0,
        Event.SetsAny c.in-AssignAny.variable,
        refl,
        subst (λ x. AreWithin c.args.running.now (actions_of_part c.args.running.now c.args.at.0 x)) (sym same) c.requires.within.2,
      );
    }

pub returns-in-AssignAny : goal.returns-in-AssignAny
returns-in-AssignAny c p is =
    let same = is-AssignAny _ _ _ p (sym (ap written_of c.in-AssignAny.is) ∙ is) in
    subst (λ x. OnOk c.add_simple.result (AddsActions c.args.running.now c.args.at.0 c.args.self.now c.add_simple.new.self (actions_of_part c.args.running.now c.args.at.0 x))) same
    (c.add_simple.ensures c.in-AssignAny.field-0 (Event.SetsAny c.in-AssignAny.variable) refl)

pub returns-in-Choice : goal.returns-in-Choice
returns-in-Choice c p is =
    let same = is-Choice _ _ _ p (sym (ap written_of c.in-Choice.is) ∙ is) in
    subst (λ x. OnOk c.add_choice.result (AddsActions c.args.running.now c.args.at.0 c.args.self.now c.add_choice.new.self (actions_of_part c.args.running.now c.args.at.0 x))) same
    (c.add_choice.ensures c.in-Choice.field-0)

pub returns-in-Compare : goal.returns-in-Compare
returns-in-Compare c p is =
    let q = is-Compare _ _ _ p (sym (ap written_of c.in-Compare.is) ∙ is) in
    subst (λ x. OnOk c.add_comparison.result (AddsActions c.args.running.now c.args.at.0 c.args.self.now c.add_comparison.new.self (actions_of_part c.args.running.now c.args.at.0 x))) q.4
    (c.add_comparison.ensures q.0 q.1 q.2 q.3)

pub returns-in-Jump : goal.returns-in-Jump
returns-in-Jump c p is =
    let same = is-Jump _ _ p (sym (ap written_of c.in-Jump.is) ∙ is) in
    subst (λ x. OnOk c.add_jump.result (AddsActions c.args.running.now c.args.at.0 c.args.self.now c.add_jump.new.self (actions_of_part c.args.running.now c.args.at.0 x))) same
    (c.add_jump.ensures c.in-Jump.field-0)

pub returns-in-Unlock : goal.returns-in-Unlock
returns-in-Unlock c p is =
    let same = is-Unlock _ _ _ p (sym (ap written_of c.in-Unlock.is) ∙ is) in
    subst (λ x. OnOk c.add_unlock.result (AddsActions c.args.running.now c.args.at.0 c.args.self.now c.add_unlock.new.self (actions_of_part c.args.running.now c.args.at.0 x))) same
    c.add_unlock.ensures
