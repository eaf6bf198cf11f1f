use Rattle.std.proofs.Common.{◌≡◌, sym, subst, ◌∙◌, arith}
use Rattle.std.specs.Prelude.{IsTrue, IsSome}
use Rattle.transition_formula.specs.Program.{at_number}
use Rattle.predicate_sets.proofs.Homes.{set_at-map}
use Rattle.horn_rules.specs.Home.{homes}
use Rattle.horn_rules.specs.Stored.{home_numbered}
use Rattle.core_steps.specs.Course.{Course, state_of}
use Rattle.core_steps.proofs.PremiseFacts.{home-of, number-within}
use Rattle.core_steps.proofs.stored_core.Core.is_list_of.Goals as goal

pub returns : goal.returns
returns c =
    let program = c.self.inside.program.now in
    let holds = c.self.invariant.holds in
    let There : Course → Type 0 = λ s. IsSome (at_number (homes s.program) c.args.home.0) in
    let home = home-of program c.args.home.0 (subst There (sym c.self.view_is) c.requires) in
    let within = number-within (homes program) c.args.home.0 (home_numbered program c.args.home.0) home in
    let one = holds.lists.one_each in
    let list = set_at-map (λ list. list.value) c.self.inside.lists.items c.self.inside.sets c.args.home.0 c.index.result.now holds.shared (within.0, omega (arith, within.1, one)) c.index.ensures in
    let each = holds.lists.each c.args.home.0 (home_numbered program c.args.home.0) home in
    let stands = c.atoms-2.ensures.atoms ∙ c.deref.ensures ∙ sym list ∙ sym each in
    let Told : Course → Type 0 = λ s.
    (IsTrue c.same_atoms.result → c.args.set.now ≡ (state_of s).sets (home_numbered s.program c.args.home.0))
    × (c.args.set.now ≡ (state_of s).sets (home_numbered s.program c.args.home.0) → IsTrue c.same_atoms.result) in
    subst Told c.self.view_is (
      λ t. sym c.atoms.ensures.atoms ∙ c.same_atoms.ensures.0 t ∙ stands,
      λ e. c.same_atoms.ensures.1 (c.atoms.ensures.atoms ∙ e ∙ sym stands),
    )
