use Rattle.std.proofs.Common.{◌≡◌, None, sym, subst}
use Rattle.std.specs.Prelude.{MatchOption}
use Rattle.pending_instances.specs.Calls.{IsNext, NoneIsOpen}
use Rattle.core_steps.specs.Course.{Course, opening_of, state_of}
use Rattle.core_steps.specs.inside.Kept.{seen}
use Rattle.core_steps.specs.inside.Taking.{IsChosen, NonePending}
use Rattle.core_steps.proofs.Choices.{is-chosen, none-pending}
use Rattle.core_steps.proofs.TakeAnswers.{map-match}
use Rattle.core_steps.proofs.stored_core.Core.next_for.Goals as goal

pub returns : goal.returns
returns c =
    let o = opening_of (seen c.self.inside) in
    let s = state_of (seen c.self.inside) in
    let holds = c.self.invariant.holds in
    let Free : Course → Type 0 = λ course. (state_of course).stop ≡ None in
    let none = subst Free (sym c.self.view_is) c.requires in
    let Chosen : Course → Type 0 = λ course. MatchOption c.choose.result (NonePending (opening_of course) (state_of course)) (IsChosen (opening_of course) (state_of course) c.args.w) in
    subst Chosen c.self.view_is
    (map-match c.choose.result (NoneIsOpen c.self.inside.waiting) (NonePending o s) (IsNext c.args.w c.self.inside.waiting) (IsChosen o s c.args.w)
    (λ closed. none-pending o s c.self.inside.table c.self.inside.waiting holds.waiting none closed)
    (λ next is. is-chosen o s c.self.inside.table c.self.inside.waiting c.args.w next holds.table holds.waiting none is)
    c.choose.ensures)
